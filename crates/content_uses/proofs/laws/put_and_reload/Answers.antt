use Rattle.std.proofs.Common.{arith, inr, refl, sym, subst}
use Rattle.content_cbor.specs.Form.{CodesForm, depth, form}
use Rattle.content_cbor.proofs.Kept.{none_within}
use Rattle.content_uses.specs.Records.{records_of}
use Rattle.content_uses.specs.Saved.{array_of}
use Rattle.content_uses.proofs.Loaded.{loaded_last, no_memory, put_fits}
use Rattle.content_uses.proofs.laws.put_and_reload.Goals as goal

pub returns-in_err-loaded-clause-memory : goal.returns-in_err-loaded-clause-memory
returns-in_err-loaded-clause-memory g c = λ le.
    let rs = records_of c.put.new.self in
    let codes : CodesForm (array_of rs) c.deref.result.now = subst (CodesForm (array_of rs)) (sym c.deref.ensures.value) c.in-Ok-save.ensures.form in
    no_memory _ _ (c.in_err-loaded.ensures.saved rs le codes) c.from_residual.ensures.1

pub returns-in-Ok-loaded_is_got-clause-value : goal.returns-in-Ok-loaded_is_got-clause-value
returns-in-Ok-loaded_is_got-clause-value g c = λ le.
    let rs = records_of c.put.new.self in
    let put = c.in-Ok.ensures.put in
    let codes : CodesForm (array_of rs) c.deref.result.now = subst (CodesForm (array_of rs)) (sym c.deref.ensures.value) c.in-Ok-save.ensures.form in
    let at = loaded_last _ rs _ put.0 _ (c.in_ok-loaded.ensures.saved rs le codes) put.3 put.4 in
    c.in-Ok-loaded_is_got.ensures.value c.args.item.now _ c.known.ensures at (inr (put.0, put.2, put_fits rs _ put.0 put.3 c.in-Ok-save.ensures.fits, refl))

pub returns-in-Ok-loaded_is_got-clause-refused : goal.returns-in-Ok-loaded_is_got-clause-refused
returns-in-Ok-loaded_is_got-clause-refused g c = λ past.
    let rs = records_of c.put.new.self in
    let codes : CodesForm (array_of rs) c.deref.result.now = subst (CodesForm (array_of rs)) (sym c.deref.ensures.value) c.in-Ok-save.ensures.form in
    absurd (none_within c.args.depth_limit c.deref.result.now _ (form (array_of rs)) past (codes (depth (form (array_of rs))) (omega arith)) c.in_ok-loaded.ensures.value)
