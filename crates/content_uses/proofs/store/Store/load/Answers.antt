use Rattle.std.proofs.Common.{map, sym, subst, ◌∙◌}
use Rattle.serde_content.specs.Names.Words.{tree_of, trees_view}
use Rattle.content_cbor.specs.Codes.{Codes}
use Rattle.content_cbor.specs.Form.{form}
use Rattle.content_uses.specs.Saved.{array_of, forms}
use Rattle.content_uses.proofs.Loaded.{array_form, seq_of, records_are, no_array, failed_as, stops_as}
use Rattle.content_uses.proofs.store.Store.load.Goals as goal

pub returns-in_err-value-clause-only : goal.returns-in_err-value-clause-only
returns-in_err-value-clause-only c = λ ts is. failed_as ts _ _ (c.in_err-value.ensures.only (array_of ts) is) c.from_residual.ensures.1

pub returns-in_err-value-clause-saved : goal.returns-in_err-value-clause-saved
returns-in_err-value-clause-saved c = λ ts le codes.
    failed_as (forms ts) _ _ (c.in_err-value.ensures.only (form (array_of ts)) (codes c.args.depth_limit le)) c.from_residual.ensures.1

pub returns-in_err-value-clause-refused : goal.returns-in_err-value-clause-refused
returns-in_err-value-clause-refused c = stops_as c.args.depth_limit c.args.bytes.now _ _ c.in_err-value.ensures.fault c.in_err-value.ensures.place
    c.from_residual.ensures.1

pub returns-in-Some-clause-value : goal.returns-in-Some-clause-value
returns-in-Some-clause-value c =
    subst (λ t. Codes c.args.depth_limit t c.args.bytes.now) (sym (seq_of (tree_of c.in_ok-value.value) (trees_view c.in-Some.records.items) c.in-Some.ensures)) c.in_ok-value.ensures.value

pub returns-in-Some-clause-only : goal.returns-in-Some-clause-only
returns-in-Some-clause-only c = λ ts is.
    records_are (map tree_of c.in-Some.records.items) ts (tree_of c.in_ok-value.value) c.in-Some.ensures (c.in_ok-value.ensures.only (array_of ts) is)

pub returns-in-Some-clause-saved : goal.returns-in-Some-clause-saved
returns-in-Some-clause-saved c = λ ts le codes.
    records_are (map tree_of c.in-Some.records.items) (forms ts) (tree_of c.in_ok-value.value) c.in-Some.ensures
    (c.in_ok-value.ensures.only (form (array_of ts)) (codes c.args.depth_limit le) ∙ array_form ts)

pub returns-in-None-clause-only : goal.returns-in-None-clause-only
returns-in-None-clause-only c = λ ts is.
    absurd (no_array (tree_of c.in_ok-value.value) ts (sym c.in-None.ensures) (c.in_ok-value.ensures.only (array_of ts) is))

pub returns-in-None-clause-saved : goal.returns-in-None-clause-saved
returns-in-None-clause-saved c = λ ts le codes.
    let is = c.in_ok-value.ensures.only (form (array_of ts)) (codes c.args.depth_limit le) ∙ array_form ts in
    absurd (no_array (tree_of c.in_ok-value.value) (forms ts) (sym c.in-None.ensures) is)

pub returns-in-None-clause-refused : goal.returns-in-None-clause-refused
returns-in-None-clause-refused c = (tree_of c.in_ok-value.value, c.in_ok-value.ensures.value, sym c.in-None.ensures)
