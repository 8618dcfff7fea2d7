use Rattle.std.proofs.Common.{◌≡◌, ℕ, List, ap, sym, subst, ◌∙◌, arith}
use Rattle.content_tree.specs.Values.Tree.{owned}
use Rattle.content_tree.specs.Values.Value.{tree_of}
use Rattle.content_cbor.specs.Decoded.{IsPlaced, StopsAt}
use Rattle.content_cbor.specs.Form.{CodesForm, depth, form}
use Rattle.content_cbor.specs.Inner.Reading.{whole_at}
use Rattle.content_cbor.specs.Item.{item}
use Rattle.content_cbor.specs.declared.decode_error.DecodeError.{DecodeError}
use Rattle.content_cbor.proofs.HandedOn.{holds_on}
use Rattle.content_cbor.proofs.Kept.{none_within}
use Rattle.content_cbor.proofs.form.through_cbor.Goals as goal

pub returns-in-Ok-into_owned-clause-value : goal.returns-in-Ok-into_owned-clause-value
returns-in-Ok-into_owned-clause-value c = λ le.
    let t = tree_of c.args.value.now in
    let codes : CodesForm t c.deref.result.now = subst (CodesForm t) (sym c.deref.ensures.value) c.in-Ok.ensures.form in
    c.in-Ok-into_owned.ensures.value ∙ ap owned (c.in_ok-kept.ensures.only (form t) (codes c.args.depth_limit le))

pub returns-in-Ok-into_owned-clause-refused : goal.returns-in-Ok-into_owned-clause-refused
returns-in-Ok-into_owned-clause-refused c = λ past.
    let t = tree_of c.args.value.now in
    let codes : CodesForm t c.deref.result.now = subst (CodesForm t) (sym c.deref.ensures.value) c.in-Ok.ensures.form in
    absurd (none_within c.args.depth_limit c.deref.result.now (tree_of c.in_ok-kept.kept) (form t) past (codes (depth (form t)) (omega arith)) c.in_ok-kept.ensures.value)

pub returns-in_err-kept-clause-fault : goal.returns-in_err-kept-clause-fault
returns-in_err-kept-clause-fault c =
    let is : c.deref.result.now ≡ item (tree_of c.args.value.now) = c.deref.ensures.value ∙ c.in-Ok.ensures.value in
    let stops : List ℕ → DecodeError → Type 0 = λ bs e. StopsAt bs e (whole_at c.args.depth_limit bs) in
    let e = c.in_err-kept.field-0.0 in
    holds_on (stops (item (tree_of c.args.value.now))) e c.from_residual.result (subst (λ bs. stops bs e) is c.in_err-kept.ensures.fault) c.from_residual.ensures.1

pub returns-in_err-kept-clause-place : goal.returns-in_err-kept-clause-place
returns-in_err-kept-clause-place c =
    let is : c.deref.result.now ≡ item (tree_of c.args.value.now) = c.deref.ensures.value ∙ c.in-Ok.ensures.value in
    let e = c.in_err-kept.field-0.0 in
    holds_on (IsPlaced c.args.depth_limit (item (tree_of c.args.value.now))) e c.from_residual.result
    (subst (λ bs. IsPlaced c.args.depth_limit bs e) is c.in_err-kept.ensures.place) c.from_residual.ensures.1
