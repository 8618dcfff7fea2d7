-- Arrays come back from CBOR where their elements do.
use Rattle.std.specs.Prelude.{◌≡◌, ℕ, zero, suc, ◌+◌, Bool, true, false, List, [], ◌∷◌, length, refl}
use Rattle.std.specs.List.{AllByRecursion}
use Rattle.std.specs.Cmp.Lexicographic.{pointwise}
use Rattle.std.proofs.Common.{arith}
use Rattle.content_tree.specs.Values.Tree as tree
use Rattle.content_tree.specs.Values.Tree.{Tree, Trees}
use Rattle.content_ser.specs.Grammar.Token as token
use Rattle.content_ser.specs.Scripts.Standard.{ScriptOf, items_script}
use Rattle.content_ser.specs.Scripts.Arrays.{array_script}
use Rattle.content_de.specs.Outcomes.{refusal_then, IsTaken}
use Rattle.content_de.specs.Accesses.Seq.{tuple_at}
use Rattle.content_de.specs.Reads.Arrays.{parts_alike, PartsAlike, array_refusal}
use Rattle.content_de.specs.Reads.Read.{Refusal, Gives}
use Rattle.serde_content.specs.Laws.Arrays.{no_values, more_values}
use Rattle.serde_content.specs.Laws.Series.{nothing_left}
use Rattle.serde_content.specs.Laws.Spelled.{row_end, row_more}
use Rattle.content_cbor.specs.Decoded.{flags_in}
use Rattle.content_cbor.specs.Form.{form, each_form}
use Rattle.content_cbor.specs.Typed.Kept.{FormComesBack}
use Rattle.content_cbor.specs.Typed.Series.{PartsKept, tuple_kept}

-- the elements of a list, as so many parts
elements_kept : {A : Type 0} {exists : A → Type 0} {script : ScriptOf A} {refusal : Refusal} {gives : Gives A} {eq : A → A → Bool} → FormComesBack exists script refusal gives eq
    → (xs : List A) → AllByRecursion exists xs → (expected found left : ℕ) → length xs ≡ left
    → PartsKept {Y = List A} token.element (items_script script xs) (parts_alike expected found left refusal) (PartsAlike gives left) (λ ys. pointwise eq xs ys ≡ true)
unfolding parts_alike
elements_kept {gives = gives} {eq = eq} kept [] real expected found zero e =
    record { spelled = row_end (λ fits b. record { free = nothing_left expected (flags_in b); only = no_values gives eq (flags_in b) tree.no_trees }) }
elements_kept kept [] real expected found (suc left) e = absurd (omega arith)
elements_kept kept (x ∷ xs) real expected found zero e = absurd (omega arith)
elements_kept {refusal = refusal} {gives = gives} {eq = eq} kept (x ∷ xs) real expected found (suc left) e =
    let rest = elements_kept kept xs real.1 expected (found + 1) left (omega arith) in
    record {
      spelled = row_more refl
          (λ t ts one others fits b. more_values refusal gives eq x xs expected found left (flags_in b) (form t) (each_form ts) (one fits.0 b) (others fits.1 b))
          (kept.of_value x real.0) rest.spelled;
    }

-- an array of this length
pub array_kept : {A : Type 0} {exists : A → Type 0} {script : ScriptOf A} {refusal : Refusal} {gives : Gives A} {eq : A → A → Bool} (n : ℕ) → FormComesBack exists script refusal gives eq
    → FormComesBack (λ xs. (length xs ≡ n) × AllByRecursion exists xs) (array_script n script) (λ s. refusal_then (tuple_at n s) (array_refusal n refusal))
    (λ s xs. IsTaken (tuple_at n s) (PartsAlike gives n xs)) (pointwise eq)
array_kept n kept = record { of_value = λ xs real. tuple_kept {n = n} (elements_kept kept xs real.1 n 0 n real.0) (λ ys h. h) }
