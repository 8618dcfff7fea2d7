use Rattle.std.proofs.Common.{arith, ap, sym, subst, ◌∙◌}
use Rattle.content_cbor.specs.Form.{CodesForm, depth, form}
use Rattle.content_cbor.specs.Item.{item}
use Rattle.content_cbor.proofs.Kept.{none_within}
use Rattle.content_uses.specs.Records.{records_of}
use Rattle.content_uses.specs.Saved.{array_of}
use Rattle.content_uses.proofs.Loaded.{no_memory}
use Rattle.content_uses.proofs.laws.save_twice.Goals as goal

pub returns-in_err-loaded-clause-memory : goal.returns-in_err-loaded-clause-memory
returns-in_err-loaded-clause-memory c = λ le.
    let rs = records_of c.args.store.now in
    let codes : CodesForm (array_of rs) c.deref.result.now = subst (CodesForm (array_of rs)) (sym c.deref.ensures.value) c.in-Ok.ensures.form in
    no_memory _ _ (c.in_err-loaded.ensures.saved rs le codes) c.from_residual.ensures.1

pub returns-in-Ok-second-clause-same : goal.returns-in-Ok-second-clause-same
returns-in-Ok-second-clause-same c = λ le.
    let rs = records_of c.args.store.now in
    let codes : CodesForm (array_of rs) c.deref.result.now = subst (CodesForm (array_of rs)) (sym c.deref.ensures.value) c.in-Ok.ensures.form in
    c.in-Ok-second.ensures.value ∙ ap (λ ts. item (array_of ts)) (c.in_ok-loaded.ensures.saved rs le codes) ∙ c.saved_again.ensures rs ∙ sym c.in-Ok.ensures.value

pub returns-in-Ok-second-clause-refused : goal.returns-in-Ok-second-clause-refused
returns-in-Ok-second-clause-refused c = λ past.
    let rs = records_of c.args.store.now in
    let codes : CodesForm (array_of rs) c.deref.result.now = subst (CodesForm (array_of rs)) (sym c.deref.ensures.value) c.in-Ok.ensures.form in
    absurd (none_within c.args.depth_limit c.deref.result.now _ (form (array_of rs)) past (codes (depth (form (array_of rs))) (omega arith)) c.in_ok-loaded.ensures.value)
