use Rattle.std.proofs.Common.{◌≡◌, ℕ, List, length, Ok, Err}
use Rattle.content_cbor.specs.Inner.Texts.{tail, text_at}
use Rattle.content_cbor.specs.declared.stop.Refusal.{Refusal}
use Rattle.content_cbor.proofs.utf8.stop_in_text.Given as goal

abbrev pub invariant-loop-rest : goal.invariant-loop-rest
invariant-loop-rest l = record {
  none : (x : List ℕ × List ℕ) → text_at l.lack l.due l.rest ≡ Ok x → ⊥;
  same : (e : Refusal) → text_at l.lack l.due l.rest ≡ Err e → text_at (tail 0) l.length l.bytes ≡ Err e;
}

abbrev pub decreases-loop-rest : goal.decreases-loop-rest
decreases-loop-rest l = length l.rest
