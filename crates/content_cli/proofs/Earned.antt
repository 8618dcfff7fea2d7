-- What an answer's parts come to, and which inputs earn which status.
use Rattle.std.proofs.Common.{◌≡◌, ◌≢◌, inl, inr, ℕ, ◌+◌, ◌≤◌, List, ◌++◌, Option, Some, None}
use Rattle.std.proofs.Common.{Result, Ok, Err, IfOk, OnOk, refl, sym, ◌∙◌, subst, arith}
use Rattle.std.specs.Prelude.{codes}
use Rattle.std.specs.String.{string_bytes}
use Rattle.std.specs.Fmt.{decimal}
use Rattle.std.specs.Prelude.{take, drop}
use Rattle.std.proofs.lemmas.List.{take-append-drop}
use Rattle.std.proofs.lemmas.Option.{none-some}
use Rattle.serde_content.specs.Names.Words.{image, printed, kind_text, Tree, ErrorKind, Event}
use Rattle.serde_content.specs.Names.Words.{SpellsWithin, IsWholeWithin, IsViableWithin}
use Rattle.serde_content.specs.Names.Words.{IsRefusalWithin}
use Rattle.serde_content.specs.Names.ErrorKind.{Unexpected, Custom, OutOfMemory, Misplaced, Failed}
use Rattle.serde_content.specs.Names.ErrorKind.{Unfinished}
use Rattle.content_lines.specs.Lines.{limit_of, body_of, first_bad, calls_of}
use Rattle.content_cli.specs.Answers.{Earns, EarnsStatus}
use Rattle.content_lines.specs.declared.answer.Answer.{Answer}

-- the line of a bad line is earned by it
pub bad_earns : {E : Type 0} (input : List ℕ) (place : ℕ) (r : Result Answer E) → first_bad (body_of input) ≡ Some place
    → IfOk r (λ a. string_bytes a.text ≡ codes "bad line " ++ (decimal (place + 1) ++ codes "\n")) → IfOk r (λ a. a.status ≡ 2)
    → IfOk r (λ a. Earns input (string_bytes a.text) a.status)
bad_earns input place (Ok a) bad says code = inl (record { place = place; bad = bad; says = says; code = code })
bad_earns input place (Err e) bad says code = says

-- the line of a tree is earned by calls that spell it
pub taken_earns : {E : Type 0} (input : List ℕ) (calls : List Event) (t : Tree) (r : Result Answer E) → first_bad (body_of input) ≡ None → calls ≡ calls_of (body_of input) → SpellsWithin (limit_of input) calls t
    → IfOk r (λ a. string_bytes a.text ≡ codes "ok " ++ (printed (image t) ++ codes "\n")) → IfOk r (λ a. a.status ≡ 0)
    → IfOk r (λ a. Earns input (string_bytes a.text) a.status)
taken_earns input calls t (Ok a) good same spelled says code = inr (inl (record { good = good; tree = t; spelled = subst (λ l. SpellsWithin (limit_of input) l t) same spelled; says = says; code = code }))
taken_earns input calls t (Err e) good same spelled says code = says

-- the line of a refusal is earned by calls that are refused so, unless memory is the cause
pub refused_earns : {E : Type 0} (input : List ℕ) (calls : List Event) (at : ℕ) (cause : ErrorKind) (r : Result Answer E) → first_bad (body_of input) ≡ None → calls ≡ calls_of (body_of input) → (cause ≢ OutOfMemory → IsRefusalWithin (limit_of input) calls at cause)
    → OnOk r (cause ≢ OutOfMemory) → IfOk r (λ a. string_bytes a.text ≡ codes "refused at " ++ (decimal at ++ (codes ": " ++ (kind_text cause ++ codes "\n")))) → IfOk r (λ a. a.status ≡ 1)
    → IfOk r (λ a. Earns input (string_bytes a.text) a.status)
refused_earns input calls at cause (Ok a) good same refused caused says code =
    inr (inr (record { good = good; at = at; cause = cause; refused = subst (λ l. IsRefusalWithin (limit_of input) l at cause) same (refused caused); caused = caused; says = says; code = code }))
refused_earns input calls at cause (Err e) good same refused caused says code = says

-- each beginning of a whole list is viable
beginning_viable : (limit : Option ℕ) (calls : List Event) (n : ℕ) → IsWholeWithin limit calls → IsViableWithin limit (take n calls)
beginning_viable limit calls n whole = (drop n calls, subst (IsWholeWithin limit) (sym (take-append-drop n calls)) whole)

-- refused calls spell no tree
refused_spells_none : (limit : Option ℕ) (calls : List Event) (at : ℕ) (cause : ErrorKind) → IsRefusalWithin limit calls at cause → cause ≢ OutOfMemory → ¬ IsWholeWithin limit calls
refused_spells_none limit calls at Misplaced h caused whole = h.2 (beginning_viable limit calls (at + 1) whole)
refused_spells_none limit calls at Unfinished h caused whole = h.2 whole
refused_spells_none limit calls at OutOfMemory h caused whole = caused refl
refused_spells_none limit calls at Failed h caused whole = h
refused_spells_none limit calls at (Unexpected found expected) h caused whole = h
refused_spells_none limit calls at (Custom message) h caused whole = h

-- a bad line and none
bad_or_not : {o : Option ℕ} {place : ℕ} {A : Type 0} → o ≡ Some place → o ≡ None → A
bad_or_not bad good = absurd (none-some _ (sym good ∙ bad))

-- the status is that of the input
earns_status : (input line : List ℕ) (status : ℕ) → Earns input line status → EarnsStatus input status
earns_status input line status (inl h) = record { tree = λ good _. bad_or_not h.bad good; none = λ good _. bad_or_not h.bad good; bad = λ _ _. h.code }
earns_status input line status (inr (inl h)) = record { tree = λ _ _. h.code; none = λ _ no. absurd (no (h.tree, h.spelled)); bad = λ place e. bad_or_not e h.good }
earns_status input line status (inr (inr h)) =
    record { tree = λ _ whole. absurd (refused_spells_none (limit_of input) (calls_of (body_of input)) h.at h.cause h.refused h.caused whole); none = λ _ _. h.code; bad = λ place e. bad_or_not e h.good }

-- the status is at most 2
earns_low : (input line : List ℕ) (status : ℕ) → Earns input line status → status ≤ 2
earns_low input line status (inl h) = let e = h.code in omega arith
earns_low input line status (inr (inl h)) = let e = h.code in omega arith
earns_low input line status (inr (inr h)) = let e = h.code in omega arith

-- an answer's status is that of the input
pub answer_status : {E : Type 0} (input : List ℕ) (r : Result Answer E) → IfOk r (λ a. Earns input (string_bytes a.text) a.status) → IfOk r (λ a. EarnsStatus input a.status)
answer_status input (Ok a) h = earns_status input (string_bytes a.text) a.status h
answer_status input (Err e) h = h

-- an answer's status is at most 2
pub answer_low : {E : Type 0} (input : List ℕ) (r : Result Answer E) → IfOk r (λ a. Earns input (string_bytes a.text) a.status) → IfOk r (λ a. a.status ≤ 2)
answer_low input (Ok a) h = earns_low input (string_bytes a.text) a.status h
answer_low input (Err e) h = h
