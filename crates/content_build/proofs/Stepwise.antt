-- A list of calls that comes one call at a time.
use Rattle.std.proofs.Common.{◌≡◌, ℕ, ◌+◌, ◌<◌, List, [], ◌∷◌, ◌++◌, length, take, Option}
use Rattle.std.proofs.Common.{Result, Ok, Err, sym, subst, ◌∙◌, arith, ⊎_elim, inl}
use Rattle.std.proofs.lemmas.List.{length-append}
use Rattle.std.proofs.Math.Seq.{take-append_seam, take-append-add}
use Rattle.content_tree.specs.declared.error.Error.{Error}
use Rattle.content_tree.specs.declared.error.ErrorKind.TheVariants.{OutOfMemory, Misplaced}
use Rattle.content_tree.specs.declared.value.NamedValue.{NamedValue}
use Rattle.content_ser.specs.Calls.Event.{Event}
use Rattle.content_ser.specs.Grammar.Depth.{IsViableWithin}
use Rattle.content_ser.specs.Serializers.Step.{Seen}
use Rattle.content_build.specs.Answers.{IsRefusalWithin}
use Rattle.content_build.specs.Builder.{Finishes, HasTaken, AnswersEnd}
use Rattle.content_build.specs.Builder.{StepsAreExact}
use Rattle.content_build.specs.Limit.{Limited, fresh_within}
use Rattle.content_build.proofs.Headline.{finished, unfinished}
use Rattle.content_build.proofs.Limits.{one_more, viable_from_run, never_viable, still_viable}

module _ (calls : List Event) (c : Event) (rest : List Event) where
  inside : length calls < length (calls ++ c ∷ rest)
  inside = rw length-append (omega arith)

  up_to : take (length calls + 1) (calls ++ c ∷ rest) ≡ calls ++ c ∷ []
  up_to = take-append-add calls (c ∷ rest) 1

  -- the last call is out of place
  misplaced_at : (limit : Option ℕ) → IsViableWithin limit calls → ¬ IsViableWithin limit (calls ++ c ∷ []) → IsRefusalWithin limit (calls ++ c ∷ rest) (length calls) Misplaced
  misplaced_at limit before none = (
    inside,
    subst (IsViableWithin limit) (sym (take-append_seam calls (c ∷ rest))) before,
    λ v. none (subst (IsViableWithin limit) up_to v),
  )

  -- the last call needs memory that is not there
  no_memory_at : (limit : Option ℕ) → IsViableWithin limit (calls ++ c ∷ []) → IsRefusalWithin limit (calls ++ c ∷ rest) (length calls) OutOfMemory
  no_memory_at limit viable = inl (inside, subst (IsViableWithin limit) (sym up_to) viable)

-- what the step of the partial tree within its limit says of a call is exact
pub steps_are_exact : StepsAreExact
steps_are_exact old new c (Ok u) t limit calls h =
    let taken = t.otherwise h.standing in
    let reached = one_more calls c (fresh_within limit) old.state h.reached ∙ taken.1 in
    (record { allowed = h.allowed; standing = taken.0; reached = reached }, viable_from_run limit h.allowed (calls ++ c ∷ []) new.state reached)
steps_are_exact old new c (Err e) t limit calls h =
    λ rest. ⊎_elim
    (λ misplaced. subst (IsRefusalWithin limit (calls ++ c ∷ rest) (length calls)) (sym misplaced.1)
    (misplaced_at calls c rest limit (viable_from_run limit h.allowed calls old.state h.reached) (never_viable limit h.allowed calls c old.state h.reached misplaced.0)))
    (λ memory. subst (IsRefusalWithin limit (calls ++ c ∷ rest) (length calls)) (sym memory.1)
    (no_memory_at calls c rest limit (still_viable limit h.allowed calls c old.state h.reached memory.0)))
    (t.otherwise h.standing).1

-- what finishing answers after the calls that were taken
pub ends_exactly : (limit : Option ℕ) (calls : List Event) (b : Seen Limited) (r : Result NamedValue Error) → HasTaken limit calls b → Finishes b.failed b.state.tree r → AnswersEnd limit calls r
ends_exactly limit calls b (Ok v) h f = finished limit h.allowed calls b.state v h.reached (subst (λ x. Finishes x b.state.tree (Ok v)) h.standing f)
ends_exactly limit calls b (Err e) h f = unfinished limit h.allowed calls b.state e h.reached (subst (λ x. Finishes x b.state.tree (Err e)) h.standing f)
