use Rattle.std.proofs.Common.{◌≡◌, ℕ, ◌-◌, List, ◌++◌, length, take, drop, sym, ap, ◌∙◌}
use Rattle.std.proofs.Common.{append_assoc, take-append-drop}
use Rattle.std.proofs.lemmas.List.{take_rest}
use Rattle.std.proofs.KnownBytes.{Appends-trans}
use Rattle.content_lines.proofs.answer.write_out.Goals as goal

moves_front : (all done rest : List ℕ) (n : ℕ) → all ≡ done ++ rest → all ≡ (done ++ take n rest) ++ take (length rest - n) (drop n rest)
moves_front all done rest n e =
    e ∙ ap (λ l. done ++ l) (sym (take-append-drop n rest)) ∙ sym (append_assoc done (take n rest) (drop n rest)) ∙ ap (λ l. (done ++ take n rest) ++ l) (sym (take_rest rest n))

pub writes-preserved : goal.writes-preserved
writes-preserved g c =
    let (done, split, appended) = c.writes.invariant.so_far in
    let rest = c.writes.rest.now in
    let n = c.in_ok-n.n in
    record {
      so_far = (done ++ take n rest, moves_front _ done rest n split, Appends-trans _ _ _ _ _ appended c.in_ok-n.ensures.moved);
      kept = c.in_ok-n.ensures.kept ∙ c.writes.invariant.kept;
    }
