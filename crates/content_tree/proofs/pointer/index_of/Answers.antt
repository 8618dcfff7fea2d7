use Rattle.std.proofs.Common.{◌≡◌, ◌≢◌, ◌∙◌, ap, sym, arith, get_or, length, ⊎_elim}
use Rattle.std.proofs.lemmas.Bool.{eqb-false}
use Rattle.content_tree.proofs.Indexes.{parsed_index}
use Rattle.content_tree.proofs.pointer.index_of.Goals as goal

pub returns : goal.returns
returns c =
    let piece = c.args.piece.now in
    let bytes = c.as_bytes-bytes.result.now in
    let first : get_or bytes 0 0 ≡ get_or piece 0 0 = ap (λ l. get_or l 0 0) c.as_bytes-bytes.ensures.value in
    let many : length bytes ≡ length piece = ap length c.as_bytes-bytes.ensures.value in
    let some : length bytes ≢ 0 = eqb-false (length bytes) 0 (sym c.if-is_empty.ensures) in
    let plus : get_or piece 0 0 ≢ 43 = λ e. omega arith in
    let zero : get_or piece 0 0 ≡ 48 → length piece ≡ 1 = λ e.
    ⊎_elim (λ short. omega (arith, short.1)) (λ other. absurd (other (first ∙ e))) c.if-bytes-gt1.either in
    rw c.ok.ensures.value (parsed_index piece c.parse.result c.parse.ensures.value.0 plus zero)
