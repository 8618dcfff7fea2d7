use Rattle.std.proofs.Common.{◌≡◌, ◌-◌, suc, ap, refl, arith, length}
use Rattle.content_ser.specs.Grammar.Token as token
use Rattle.content_build.specs.Inner.Frames.{wait_view}
use Rattle.content_build.specs.Inner.Sound.{meaning}
use Rattle.content_build.proofs.Calling.{took, turn_item, turn_key, turn_value, turn_entry}
use Rattle.content_build.proofs.Calling.{turn_field}
use Rattle.content_build.proofs.steps.announce.Goals as goal

pub returns-in-InElements : goal.returns-in-InElements
returns-in-InElements c =
    let es = c.args.frames.now.items in
    let hs = c.args.openings.now.items in
    let n = c.len-count.result - 1 in
    let h = c.index_mut-opening.result.now in
    let l : suc n ≡ length hs = omega (arith, c.args.openings.now.ok.0) in
    rw c.in-Element.is (took (meaning es hs) (token.item token.element) es _ (turn_item es hs n h _ l c.index_mut-opening.ensures.value refl refl (meaning es hs) token.element c.requires (ap wait_view c.in-InElements.is) refl))

pub returns-in-InTupleFields : goal.returns-in-InTupleFields
returns-in-InTupleFields c =
    let es = c.args.frames.now.items in
    let hs = c.args.openings.now.items in
    let n = c.len-count.result - 1 in
    let h = c.index_mut-opening.result.now in
    let l : suc n ≡ length hs = omega (arith, c.args.openings.now.ok.0) in
    rw c.in-TupleField.is (took (meaning es hs) (token.item token.tuple_field) es _ (turn_item es hs n h _ l c.index_mut-opening.ensures.value refl refl (meaning es hs) token.tuple_field c.requires (ap wait_view c.in-InTupleFields.is) refl))

pub returns-in-InMap : goal.returns-in-InMap
returns-in-InMap c =
    let es = c.args.frames.now.items in
    let hs = c.args.openings.now.items in
    let n = c.len-count.result - 1 in
    let h = c.index_mut-opening.result.now in
    let l : suc n ≡ length hs = omega (arith, c.args.openings.now.ok.0) in
    rw c.in-Key.is (took (meaning es hs) token.key es _ (turn_key es hs n h _ l c.index_mut-opening.ensures.value refl refl (meaning es hs) c.requires (ap wait_view c.in-InMap.is) refl))

pub returns-in-InMap-waits : goal.returns-in-InMap-waits
returns-in-InMap-waits c =
    let es = c.args.frames.now.items in
    let hs = c.args.openings.now.items in
    let n = c.len-count.result - 1 in
    let h = c.index_mut-opening.result.now in
    let l : suc n ≡ length hs = omega (arith, c.args.openings.now.ok.0) in
    rw c.in-Value.is (took (meaning es hs) token.value es _ (turn_value es hs n h _ l c.index_mut-opening.ensures.value refl refl (meaning es hs) c.requires (ap wait_view c.in-InMap-waits.is) refl))

pub returns-in-InMap-waits-2 : goal.returns-in-InMap-waits-2
returns-in-InMap-waits-2 c =
    let es = c.args.frames.now.items in
    let hs = c.args.openings.now.items in
    let n = c.len-count.result - 1 in
    let h = c.index_mut-opening.result.now in
    let l : suc n ≡ length hs = omega (arith, c.args.openings.now.ok.0) in
    rw c.in-Entry.is (took (meaning es hs) token.entry es _ (turn_entry es hs n h _ l c.index_mut-opening.ensures.value refl refl (meaning es hs) c.requires (ap wait_view c.in-InMap-waits-2.is) refl))

pub returns-in_ok-push_one-in-InRecord : goal.returns-in_ok-push_one-in-InRecord
returns-in_ok-push_one-in-InRecord c =
    let es = c.args.frames.now.items in
    let hs = c.args.openings.now.items in
    let n = c.len-count.result - 1 in
    let h = c.index_mut-opening.result.now in
    let l : suc n ≡ length hs = omega (arith, c.args.openings.now.ok.0) in
    rw c.in-Field.is
    (took (meaning es hs) (token.field c.in-Field.key.now) _ _
    (turn_field es hs n h _ l c.index_mut-opening.ensures.value refl refl (meaning es hs) _ c.in-Field.key.now c.push_one.new.items.items c.requires (ap wait_view c.in-InRecord.is) refl refl c.in_ok-push_one-in-InRecord.ensures))
