-- What the lines of an input are answered, line by line.
use Rattle.std.proofs.Common.{◌≡◌, ℕ, List, [], ◌∷◌, ◌++◌, length, map, Some, None, refl, sym, ap}
use Rattle.std.proofs.Common.{subst, ◌∙◌, append-nil, append_assoc, arith}
use Rattle.std.proofs.lemmas.Grind.{flat_map-append}
use Rattle.std.proofs.lemmas.List.{flat_map_more, map-append}
use Rattle.serde_content.specs.Names.Words.{Event, Call, event_of, events_of}
use Rattle.content_lines.specs.Lines.{each_line}
use Rattle.content_lines.specs.Words.{event_in}
use Rattle.cbor_cli.specs.Answers.{Adds, AddsAll, Answers, calls_last, line_next, AnswersCalls}
use Rattle.cbor_cli.specs.Answers.{AnswersOther, Earns, SayCalls, ended, all_ended}
use Rattle.cbor_cli.specs.declared.form.Form.{Form}

-- what is answered of lines of which these are left, after these calls
abbrev pub HasAnswered : (form : Form) (lines left : List (List ℕ)) (calls : List Event) (out : List ℕ) → Type 0
HasAnswered form lines left calls out =
    (waiting : List (List ℕ)) × (told : List (List ℕ)) × SayCalls waiting calls × (out ≡ all_ended told)
    × ((more : List (List ℕ)) → Answers form (waiting ++ left) more → Answers form lines (told ++ more))

-- nothing is answered
pub none_answered : (form : Form) (lines : List (List ℕ)) (calls : List Call) (out : List ℕ) → calls ≡ [] → out ≡ [] → HasAnswered form lines lines (events_of calls) out
none_answered form lines calls out none empty = ([], [], sym (ap (λ l. map Some (events_of l)) none), empty, λ more h. h)

-- a call waits
pub call_waits : (form : Form) (lines all left : List (List ℕ)) (line : List ℕ) (calls new_calls : List Call) (c : Call) (out : List ℕ) → HasAnswered form lines all (events_of calls) out → all ≡ line ∷ left
    → event_in line ≡ Some (event_of c) → new_calls ≡ calls ++ c ∷ [] → HasAnswered form lines left (events_of new_calls) out
call_waits form lines all left line calls new_calls c out has cut said pushed =
    let (waiting, told, say, says, onward) = has in
    let events : events_of new_calls ≡ events_of calls ++ event_of c ∷ [] = ap events_of pushed ∙ map-append event_of calls (c ∷ []) in (
      waiting ++ line ∷ [],
      told,
      map-append event_in waiting (line ∷ []) ∙ ap (λ l. l ++ event_in line ∷ []) say ∙ ap (λ o. map Some (events_of calls) ++ o ∷ []) said
          ∙ sym (ap (λ l. map Some l) events ∙ map-append Some (events_of calls) (event_of c ∷ [])),
      says,
      λ more h. onward more (subst (λ l. Answers form l more) (append_assoc waiting (line ∷ []) left ∙ ap (λ l. waiting ++ l) (sym cut)) h),
    )

-- the calls that wait are answered, and a line that is no call
pub line_answered : (form : Form) (lines all left : List (List ℕ)) (line : List ℕ) (calls new_calls : List Call) (out mid new : List ℕ) → HasAnswered form lines all (events_of calls) out → all ≡ line ∷ left
    → event_in line ≡ None → AddsAll (AnswersCalls form (events_of calls)) out mid → Adds (AnswersOther form line) mid new → new_calls ≡ [] → HasAnswered form lines left (events_of new_calls) new
line_answered form lines all left line calls new_calls out mid new has cut none of_calls of_line cleared =
    let (waiting, told, say, says, onward) = has in
    let (answers, answered, added) = of_calls in
    let (answer, other, one_added) = of_line in
    let both = answers ++ answer ∷ [] in (
      [],
      told ++ both,
      sym (ap (λ l. map Some (events_of l)) cleared),
      one_added ∙ ap (λ l. l ++ ended answer) (added ∙ ap (λ l. l ++ all_ended answers) says) ∙ flat_map_more ended (all_ended told) answers answer ∙ sym (flat_map-append ended told both),
      λ more h. subst (Answers form lines) (sym (append_assoc told both more ∙ ap (λ l. told ++ l) (append_assoc answers (answer ∷ []) more)))
          (onward (answers ++ answer ∷ more)
          (subst (λ l. Answers form (waiting ++ l) (answers ++ answer ∷ more)) (sym cut) (line_next waiting left answers more line answer (events_of calls) say none answered other h))),
    )

-- an empty text has no line
no_lines : (text : List ℕ) → length text ≡ 0 → each_line text ≡ []
no_lines [] none = refl
no_lines (b ∷ text) none = absurd (omega (arith, none))

-- no line is left, and the calls that wait are answered
pub all_answered : (form : Form) (input text : List ℕ) (calls : List Event) (out new : List ℕ) → HasAnswered form (each_line input) (each_line text) calls out → length text ≡ 0 → AddsAll (AnswersCalls form calls) out new → Earns form input new
all_answered form input text calls out new has end of_calls =
    let (waiting, told, say, says, onward) = has in
    let (answers, answered, added) = of_calls in
    let left : waiting ++ each_line text ≡ waiting = ap (λ l. waiting ++ l) (no_lines text end) ∙ append-nil waiting in (
      told ++ answers,
      onward answers (calls_last calls (subst (λ l. SayCalls l calls) (sym left) say) answered),
      added ∙ ap (λ l. l ++ all_ended answers) says ∙ sym (flat_map-append ended told answers),
    )
