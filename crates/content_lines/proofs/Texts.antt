-- Printable bytes are text.
use Rattle.std.proofs.Common.{◌≡◌, ℕ, true, List, [], ◌∷◌, Result, Ok, Err, MatchResult}
use Rattle.std.proofs.Common.{arith, rules}
use Rattle.std.proofs.lemmas.Str.{IsUtf8-from_ascii}
use Rattle.std.specs.Str.{IsAscii, IsUtf8}
use Rattle.std.specs.List.{list_all}
use Rattle.std.specs.Result.{result_ok}
use Rattle.std.specs.Prelude.{IsSomeAnd}
use denote.Ref.{Bor}
use Rattle.content_lines.specs.Forms.{is_printable}

printable_ascii : (bs : List ℕ) → list_all is_printable bs ≡ true → IsAscii bs
printable_ascii [] h = search rules
printable_ascii (b ∷ bs) h = let rest = printable_ascii bs (grind (arith, h)) in grind (arith, h, rest)

pub printable_text : {E : Type 0} (X : E → Type 0) (bs : List ℕ) (r : Result (Bor (List ℕ)) E) → MatchResult r (λ s. (s.now ≡ bs) × IsUtf8 bs) (λ e. (IsUtf8 bs → ⊥) × X e)
    → list_all is_printable bs ≡ true → IsSomeAnd (result_ok r) (λ t. t.now ≡ bs)
printable_text X bs (Ok t) m h = m.0
printable_text X bs (Err e) m h = absurd (m.0 (IsUtf8-from_ascii bs (printable_ascii bs h)))
