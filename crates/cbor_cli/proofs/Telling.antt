-- What calls that come together are answered, tree by tree.
use Rattle.std.proofs.Common.{◌≡◌, ◌≢◌, ℕ, ◌-◌, ◌<◌, ◌≤◌, Some, None, List, [], ◌∷◌, ◌++◌, length, drop}
use Rattle.std.proofs.Common.{refl, sym, ap, subst, ◌∙◌, append-nil, append_assoc, arith}
use Rattle.std.proofs.lemmas.List.{flat_map_more, length-map, length-drop}
use Rattle.serde_content.specs.Names.Words.{ErrorKind, Event, Call, event_of, events_of}
use Rattle.serde_content.specs.Names.ErrorKind.{Unexpected, Custom, OutOfMemory, Misplaced, Failed}
use Rattle.serde_content.specs.Names.ErrorKind.{Unfinished}
use Rattle.content_build.specs.Cuts.{IsCutRefusal}
use Rattle.cbor_cli.specs.Answers.{AddsAll, AddsFirst, AnswersCalls, no_call, tree, refusal, shown}
use Rattle.cbor_cli.specs.Answers.{IsRefusedFirst, ended, all_ended, refused_line}
use Rattle.cbor_cli.specs.declared.form.Form.{Form}

-- what is told of calls of which these are left
abbrev pub HasTold : (form : Form) (calls left : List Event) (old out : List ℕ) → Type 0
HasTold form calls left old out = (told : List (List ℕ)) × (out ≡ old ++ all_ended told) × ((more : List (List ℕ)) → AnswersCalls form left more → AnswersCalls form calls (told ++ more))

-- nothing is told
pub none_told : (form : Form) (calls : List Event) (old : List ℕ) → HasTold form calls calls old old
none_told form calls old = ([], sym (append-nil old), λ more h. h)

-- a tree is told
pub tree_told : (form : Form) (calls left : List Event) (old out new : List ℕ) (n : ℕ) → HasTold form calls left old out → AddsFirst form left (Some n) out new → HasTold form calls (drop n left) old new
tree_told form calls left old out new n has adds =
    let (told, says, onward) = has in
    let (t, spelled, added) = adds in (
      told ++ shown form t ∷ [],
      added ∙ ap (λ l. l ++ ended (shown form t)) says ∙ flat_map_more ended old told (shown form t),
      λ more h. subst (AnswersCalls form calls) (sym (append_assoc told (shown form t ∷ []) more)) (onward (shown form t ∷ more) (tree n t spelled h)),
    )

-- calls are as many events
left_size : (calls : List Call) (start : ℕ) → length (drop start (events_of calls)) ≡ length calls - start
left_size calls start = length-drop start (events_of calls) ∙ ap (λ n. n - start) (length-map calls event_of)

-- some are left before the end
pub left_events : (calls : List Call) (start : ℕ) → start < length calls → 0 < length (drop start (events_of calls))
left_events calls start less = let size = left_size calls start in omega (arith, size, less)

-- and none at the end
pub end_events : (calls : List Call) (start : ℕ) → length calls ≤ start → length (drop start (events_of calls)) ≡ 0
end_events calls start ends = let size = left_size calls start in omega (arith, size, ends)

-- a refusal that memory doesn't cause
pub refused_first : (calls : List Event) (at : ℕ) (cause : ErrorKind) → IsCutRefusal calls at cause → cause ≢ OutOfMemory → IsRefusedFirst calls at cause
refused_first calls at Misplaced h other = (h.0, h.1, other)
refused_first calls at Unfinished h other = (h.0, h.1, other)
refused_first calls at OutOfMemory h other = absurd (other refl)
refused_first calls at Failed h other = absurd h
refused_first calls at (Unexpected found expected) h other = absurd h
refused_first calls at (Custom message) h other = absurd h

-- it is the last that is told
pub refusal_told : (form : Form) (calls left : List Event) (old out new : List ℕ) → HasTold form calls left old out → 0 < length left → AddsFirst form left None out new → AddsAll (AnswersCalls form calls) old new
refusal_told form calls left old out new has some adds =
    let (told, says, onward) = has in
    let (at, cause, refused, added) = adds in
    let line = refused_line at cause in (
      told ++ line ∷ [],
      onward (line ∷ []) (refusal at cause some refused),
      added ∙ ap (λ l. l ++ ended line) says ∙ flat_map_more ended old told line,
    )

-- no calls are left
pub all_told : (form : Form) (calls left : List Event) (old out : List ℕ) → length left ≡ 0 → HasTold form calls left old out → AddsAll (AnswersCalls form calls) old out
all_told form calls [] old out none has = let (told, says, onward) = has in (told, subst (AnswersCalls form calls) (append-nil told) (onward [] no_call), says)
all_told form calls (c ∷ left) old out none has = absurd (omega (arith, none))
