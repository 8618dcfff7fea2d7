use Rattle.std.proofs.Common.{◌≡◌, ◌<◌, ◌≤◌, ◌∙◌, length, sym, ap, arith}
use Rattle.content_tree.proofs.Pieces.{byte_passed, byte_missing, text_ended, piece_spells}
use Rattle.content_tree.proofs.pointer.spells.Goals as goal

pub returns-in-None : goal.returns-in-None
returns-in-None c =
    let l = c.loop-byte in
    let text = c.args.text.now in
    let same : c.as_bytes-byte-items.result.now ≡ text = c.as_bytes-byte-items.ensures.value in
    let less : l.byte-index < length text = omega (arith, ap length same) in
    let none = rw same at c.in-None.ensures in
    sym (sym (piece_spells c.args.piece.now text) ∙ (l.invariant ∙ byte_missing l.left.now text l.byte-index less none))

pub returns : goal.returns
returns c =
    let l = c.loop-byte in
    let text = c.args.text.now in
    let same : c.as_bytes-byte-items.result.now ≡ text = c.as_bytes-byte-items.ensures.value in
    let past : length text ≤ l.byte-index = omega (arith, ap length same) in
    c.is_empty.ensures ∙ sym (sym (piece_spells c.args.piece.now text) ∙ (l.invariant ∙ text_ended l.left.now text l.byte-index past))

pub loop-byte-preserved : goal.loop-byte-preserved
loop-byte-preserved c =
    let l = c.loop-byte in
    let text = c.args.text.now in
    let same : c.as_bytes-byte-items.result.now ≡ text = c.as_bytes-byte-items.ensures.value in
    let less : l.byte-index < length text = omega (arith, ap length same) in
    let begins = rw same at c.in-Some.ensures in
    l.invariant ∙ byte_passed l.left.now c.in-Some.rest.now text l.byte-index less begins
