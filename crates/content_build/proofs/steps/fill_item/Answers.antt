use Rattle.std.proofs.Common.{◌≡◌, ◌+◌, ◌-◌, suc, ap, arith, length, subst, ◌∷◌, take}
use Rattle.content_ser.specs.Grammar.Token.{element, tuple_field}
use Rattle.content_build.specs.Inner.Cells as cells
use Rattle.content_build.specs.Inner.Frames.{wait_view, opens_view}
use Rattle.content_build.specs.Partial.{fill}
use Rattle.content_build.proofs.Algebra.{arm-item, arm-field, arm-entry_key, arm-entry_value}
use Rattle.content_build.proofs.Calling.{filled}
use Rattle.content_build.proofs.steps.fill_item.Goals as goal

pub returns-in-Element-clause-filled : goal.returns-in-Element-clause-filled
returns-in-Element-clause-filled c is =
    let es = c.args.frames.now.items in
    let hs = c.args.openings.now.items in
    let n = c.len-count.result - 1 in
    let h = c.index_mut-opening.result.now in
    let l : suc n ≡ length hs = omega (arith, c.args.openings.now.ok.0) in
    filled es hs n h _ (cells.item element) l c.index_mut-opening.ensures.value (ap wait_view c.in-Element.is) (λ i. i) c.requires
    (λ ps t cs z w. arm-item ps t cs _ _ element _ w)

pub returns-in-TupleField-clause-filled : goal.returns-in-TupleField-clause-filled
returns-in-TupleField-clause-filled c is =
    let es = c.args.frames.now.items in
    let hs = c.args.openings.now.items in
    let n = c.len-count.result - 1 in
    let h = c.index_mut-opening.result.now in
    let l : suc n ≡ length hs = omega (arith, c.args.openings.now.ok.0) in
    filled es hs n h _ (cells.item tuple_field) l c.index_mut-opening.ensures.value (ap wait_view c.in-TupleField.is) (λ i. i) c.requires
    (λ ps t cs z w. arm-item ps t cs _ _ tuple_field _ w)

pub returns-in-Field-clause-filled : goal.returns-in-Field-clause-filled
returns-in-Field-clause-filled c is =
    let es = c.args.frames.now.items in
    let hs = c.args.openings.now.items in
    let n = c.len-count.result - 1 in
    let h = c.index_mut-opening.result.now in
    let l : suc n ≡ length hs = omega (arith, c.args.openings.now.ok.0) in
    filled es hs n h _ cells.field l c.index_mut-opening.ensures.value (ap wait_view c.in-Field.is) (λ i. i) c.requires
    (λ ps t cs z w. arm-field ps t cs _ _ _ w)

pub returns-in-EntryKey-clause-filled : goal.returns-in-EntryKey-clause-filled
returns-in-EntryKey-clause-filled c is =
    let es = c.args.frames.now.items in
    let hs = c.args.openings.now.items in
    let n = c.len-count.result - 1 in
    let h = c.index_mut-opening.result.now in
    let l : suc n ≡ length hs = omega (arith, c.args.openings.now.ok.0) in
    filled es hs n h _ cells.entry_key l c.index_mut-opening.ensures.value (ap wait_view c.in-EntryKey.is) (λ i. i) c.requires
    (λ ps t cs z w.
    let m : length cs ≡ c.len.result + 1 = omega (arith, z, c.len.ensures, c.args.frames.now.ok.0) in
    subst (λ m. cells.Stood cs (cells.opened h.at m cells.entry_value ∷ opens_view (take n hs)) (fill ps t)) m (arm-entry_key ps t cs _ _ _ w))

pub returns-in-EntryValue-clause-filled : goal.returns-in-EntryValue-clause-filled
returns-in-EntryValue-clause-filled c is =
    let es = c.args.frames.now.items in
    let hs = c.args.openings.now.items in
    let n = c.len-count.result - 1 in
    let h = c.index_mut-opening.result.now in
    let l : suc n ≡ length hs = omega (arith, c.args.openings.now.ok.0) in
    filled es hs n h _ cells.entry_value l c.index_mut-opening.ensures.value (ap wait_view c.in-EntryValue.is) (λ i. i) c.requires
    (λ ps t cs z w. arm-entry_value ps t cs _ _ _ w)
