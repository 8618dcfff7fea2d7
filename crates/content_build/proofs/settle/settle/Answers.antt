use Rattle.std.proofs.Common.{◌≡◌, ◌-◌, suc, ap, sym, ◌∙◌, subst, arith, ◌∷◌, length, take}
use Rattle.content_ser.specs.Grammar.Token.{element, tuple_field}
use Rattle.content_build.specs.Partial.{fill}
use Rattle.content_build.specs.Inner.Cells as cells
use Rattle.content_build.specs.Inner.Frames.{cells_of, wait_view, opens_view}
use Rattle.content_build.proofs.Algebra.{arm-item, arm-field, arm-child, arm-key, arm-entry_key}
use Rattle.content_build.proofs.Algebra.{arm-entry_value, arm-none, at-below}
use Rattle.content_build.proofs.Memory.{at_wait, settled, length-cells, cells-push, at_end, nothing}
use Rattle.content_build.proofs.Memory.{take_set}
use Rattle.content_build.proofs.settle.settle.Goals as goal

pub returns-in-Element : goal.returns-in-Element
returns-in-Element c ps t w =
    let (qs, u, e, now) = c.loop-count.invariant.fills ps t w in
    let es = c.loop-count.frames.items in
    let hs = c.loop-count.openings.items in
    let n = c.loop-count.count - 1 in
    let h = c.index_mut-opening.result.now in
    let l : suc n ≡ length hs = omega (arith, c.loop-count.invariant.length, c.loop-count.openings.ok.0) in
    let it = at_wait es hs n h (cells.item element) qs u l c.index_mut-opening.ensures.value (ap wait_view c.in-Element.is) now in
    settled es hs n _ (fill ps t) (fill qs u) l e (arm-item qs u (cells_of es) _ _ element _ it)

pub returns-in-TupleField : goal.returns-in-TupleField
returns-in-TupleField c ps t w =
    let (qs, u, e, now) = c.loop-count.invariant.fills ps t w in
    let es = c.loop-count.frames.items in
    let hs = c.loop-count.openings.items in
    let n = c.loop-count.count - 1 in
    let h = c.index_mut-opening.result.now in
    let l : suc n ≡ length hs = omega (arith, c.loop-count.invariant.length, c.loop-count.openings.ok.0) in
    let it = at_wait es hs n h (cells.item tuple_field) qs u l c.index_mut-opening.ensures.value (ap wait_view c.in-TupleField.is) now in
    settled es hs n _ (fill ps t) (fill qs u) l e (arm-item qs u (cells_of es) _ _ tuple_field _ it)

pub returns-in-EntryValue : goal.returns-in-EntryValue
returns-in-EntryValue c ps t w =
    let (qs, u, e, now) = c.loop-count.invariant.fills ps t w in
    let es = c.loop-count.frames.items in
    let hs = c.loop-count.openings.items in
    let n = c.loop-count.count - 1 in
    let h = c.index_mut-opening.result.now in
    let l : suc n ≡ length hs = omega (arith, c.loop-count.invariant.length, c.loop-count.openings.ok.0) in
    let it = at_wait es hs n h cells.entry_value qs u l c.index_mut-opening.ensures.value (ap wait_view c.in-EntryValue.is) now in
    settled es hs n _ (fill ps t) (fill qs u) l e (arm-entry_value qs u (cells_of es) _ _ _ it)

pub returns-in-Field : goal.returns-in-Field
returns-in-Field c ps t w =
    let (qs, u, e, now) = c.loop-count.invariant.fills ps t w in
    let es = c.loop-count.frames.items in
    let hs = c.loop-count.openings.items in
    let n = c.loop-count.count - 1 in
    let h = c.index_mut-opening.result.now in
    let l : suc n ≡ length hs = omega (arith, c.loop-count.invariant.length, c.loop-count.openings.ok.0) in
    let it = at_wait es hs n h cells.field qs u l c.index_mut-opening.ensures.value (ap wait_view c.in-Field.is) now in
    settled es hs n _ (fill ps t) (fill qs u) l e (arm-field qs u (cells_of es) _ _ _ it)

pub returns-in-EntryKey : goal.returns-in-EntryKey
returns-in-EntryKey c ps t w =
    let (qs, u, e, now) = c.loop-count.invariant.fills ps t w in
    let es = c.loop-count.frames.items in
    let hs = c.loop-count.openings.items in
    let n = c.loop-count.count - 1 in
    let h = c.index_mut-opening.result.now in
    let l : suc n ≡ length hs = omega (arith, c.loop-count.invariant.length, c.loop-count.openings.ok.0) in
    let it = at_wait es hs n h cells.entry_key qs u l c.index_mut-opening.ensures.value (ap wait_view c.in-EntryKey.is) now in
    let m = c.len-opening-in-EntryKey.ensures ∙ (c.loop-count.frames.ok.0 ∙ sym (length-cells es)) in
    settled es hs n _ (fill ps t) (fill qs u) l e
    (subst (λ m. cells.Stood (cells_of es) (cells.opened h.at m cells.entry_value ∷ opens_view (take n hs)) (fill qs u)) (sym m) (arm-entry_key qs u (cells_of es) _ _ _ it))

pub returns-in-Value : goal.returns-in-Value
returns-in-Value c ps t w =
    let (qs, u, e, now) = c.loop-count.invariant.fills ps t w in
    let es = c.loop-count.frames.items in
    let hs = c.loop-count.openings.items in
    let n = c.loop-count.count - 1 in
    let h = c.index_mut-opening.result.now in
    let l : suc n ≡ length hs = omega (arith, c.loop-count.invariant.length, c.loop-count.openings.ok.0) in
    let it = at_wait es hs n h cells.a_value qs u l c.index_mut-opening.ensures.value (ap wait_view c.in-Value.is) now in
    settled c.replace.new.frames.items hs n _ (fill ps t) (fill qs u) l e (c.replace.ensures qs u _ it)

pub returns-in-Key : goal.returns-in-Key
returns-in-Key c ps t w =
    let (qs, u, e, now) = c.loop-count.invariant.fills ps t w in
    let es = c.loop-count.frames.items in
    let hs = c.loop-count.openings.items in
    let n = c.loop-count.count - 1 in
    let h = c.index_mut-opening.result.now in
    let l : suc n ≡ length hs = omega (arith, c.loop-count.invariant.length, c.loop-count.openings.ok.0) in
    let it = at_wait es hs n h cells.a_key qs u l c.index_mut-opening.ensures.value (ap wait_view c.in-Key.is) now in
    let m = c.len-opening.ensures ∙ (c.loop-count.frames.ok.0 ∙ sym (length-cells es)) in
    let k = arm-key qs u (cells_of es) _ _ _ it in
    settled c.push_one.new.items.items hs n _ (fill ps t) (fill qs u) l e
    (ap cells_of c.in_ok-push_one-in-Key.ensures ∙ (cells-push es _ ∙ k.0), ap (λ m. cells.opened h.at m cells.in_map ∷ opens_view (take n hs)) m ∙ k.1)

pub returns-in-InElements : goal.returns-in-InElements
returns-in-InElements c ps t w =
    let (qs, u, e, now) = c.loop-count.invariant.fills ps t w in
    let es = c.loop-count.frames.items in
    let hs = c.loop-count.openings.items in
    let n = c.loop-count.count - 1 in
    let h = c.index_mut-opening.result.now in
    let l : suc n ≡ length hs = omega (arith, c.loop-count.invariant.length, c.loop-count.openings.ok.0) in
    let it = at_wait es hs n h (cells.in_series element) qs u l c.index_mut-opening.ensures.value (ap wait_view c.in-InElements.is) now in
    absurd (arm-none qs u (cells_of es) _ _ (cells.in_series element) _ tt it)

pub returns-in-InTupleFields : goal.returns-in-InTupleFields
returns-in-InTupleFields c ps t w =
    let (qs, u, e, now) = c.loop-count.invariant.fills ps t w in
    let es = c.loop-count.frames.items in
    let hs = c.loop-count.openings.items in
    let n = c.loop-count.count - 1 in
    let h = c.index_mut-opening.result.now in
    let l : suc n ≡ length hs = omega (arith, c.loop-count.invariant.length, c.loop-count.openings.ok.0) in
    let it = at_wait es hs n h (cells.in_series tuple_field) qs u l c.index_mut-opening.ensures.value (ap wait_view c.in-InTupleFields.is) now in
    absurd (arm-none qs u (cells_of es) _ _ (cells.in_series tuple_field) _ tt it)

pub returns-in-InMap : goal.returns-in-InMap
returns-in-InMap c ps t w =
    let (qs, u, e, now) = c.loop-count.invariant.fills ps t w in
    let es = c.loop-count.frames.items in
    let hs = c.loop-count.openings.items in
    let n = c.loop-count.count - 1 in
    let h = c.index_mut-opening.result.now in
    let l : suc n ≡ length hs = omega (arith, c.loop-count.invariant.length, c.loop-count.openings.ok.0) in
    let it = at_wait es hs n h cells.in_map qs u l c.index_mut-opening.ensures.value (ap wait_view c.in-InMap.is) now in
    absurd (arm-none qs u (cells_of es) _ _ cells.in_map _ tt it)

pub returns-in-InRecord : goal.returns-in-InRecord
returns-in-InRecord c ps t w =
    let (qs, u, e, now) = c.loop-count.invariant.fills ps t w in
    let es = c.loop-count.frames.items in
    let hs = c.loop-count.openings.items in
    let n = c.loop-count.count - 1 in
    let h = c.index_mut-opening.result.now in
    let l : suc n ≡ length hs = omega (arith, c.loop-count.invariant.length, c.loop-count.openings.ok.0) in
    let it = at_wait es hs n h cells.in_record qs u l c.index_mut-opening.ensures.value (ap wait_view c.in-InRecord.is) now in
    absurd (arm-none qs u (cells_of es) _ _ cells.in_record _ tt it)

pub loop-count-preserved : goal.loop-count-preserved
loop-count-preserved c = record {
  length = omega (arith, c.loop-count.invariant.length, c.loop-count.openings.ok.0, c.truncate.ensures.len);
  fills = λ ps t w.
      let (qs, u, e, now) = c.loop-count.invariant.fills ps t w in
      let es = c.loop-count.frames.items in
      let hs = c.loop-count.openings.items in
      let n = c.loop-count.count - 1 in
      let h = c.index_mut-opening.result.now in
      let l : suc n ≡ length hs = omega (arith, c.loop-count.invariant.length, c.loop-count.openings.ok.0) in
      let it = at_wait es hs n h cells.child qs u l c.index_mut-opening.ensures.value (ap wait_view c.in-Child.is) now in
      let (rs, v, f, below, x) = arm-child qs u (cells_of es) _ _ _ it in
      (rs, v, e ∙ f, (c.close.ensures ∙ x.0, ap opens_view (c.truncate.ensures.items ∙ take_set hs n h) ∙ x.1));
  waiting = c.loop-count.invariant.waiting;
}

pub close-requires : goal.close-requires
close-requires c =
    let (ps, t, w) = c.loop-count.invariant.waiting in
    let (qs, u, e, now) = c.loop-count.invariant.fills ps t w in
    let es = c.loop-count.frames.items in
    let hs = c.loop-count.openings.items in
    let n = c.loop-count.count - 1 in
    let h = c.index_mut-opening.result.now in
    let l : suc n ≡ length hs = omega (arith, c.loop-count.invariant.length, c.loop-count.openings.ok.0) in
    let it = at_wait es hs n h cells.child qs u l c.index_mut-opening.ensures.value (ap wait_view c.in-Child.is) now in
    omega (arith, at-below qs u (cells_of es) _ _ cells.child _ it, length-cells es, c.loop-count.frames.ok.0)

pub replace-requires : goal.replace-requires
replace-requires c =
    let (ps, t, w) = c.loop-count.invariant.waiting in
    let (qs, u, e, now) = c.loop-count.invariant.fills ps t w in
    let es = c.loop-count.frames.items in
    let hs = c.loop-count.openings.items in
    let n = c.loop-count.count - 1 in
    let h = c.index_mut-opening.result.now in
    let l : suc n ≡ length hs = omega (arith, c.loop-count.invariant.length, c.loop-count.openings.ok.0) in
    let it = at_wait es hs n h cells.a_value qs u l c.index_mut-opening.ensures.value (ap wait_view c.in-Value.is) now in
    (qs, u, opens_view (take n hs), it)

pub returns : goal.returns
returns c ps t w =
    let (qs, u, e, now) = c.loop-count.invariant.fills ps t w in
    let empty = nothing c.loop-count.openings.items (omega (arith, c.loop-count.invariant.length, c.loop-count.openings.ok.0)) in
    at_end c.loop-count.frames.items c.loop-count.openings.items qs u (fill ps t) empty e now
