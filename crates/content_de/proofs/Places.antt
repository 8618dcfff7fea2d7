-- The items of a sequence by their index, as its first ones are taken away.
use Rattle.std.proofs.Common.{◌≡◌, ◌≢◌, ◌∙◌, ℕ, suc, Some, Result, Ok, Err, IfErr, IsErrAnd, option_and_then, refl, sym, ap, inr}
use Rattle.content_tree.specs.Errors.Cause.{out_of_memory}
use Rattle.content_tree.specs.Errors.Where.{places, item, IsInside}
use Rattle.content_tree.specs.Values.Pointers.{item_of}
use Rattle.content_tree.specs.Values.Tree.{Trees, no_trees, tree_then}
use Rattle.content_de.specs.Sources.Origin.{Flags, Subject, tree_under}
use Rattle.content_tree.specs.declared.error.Error.{Error}
use Rattle.content_de.specs.Outcomes.{cause}
use Rattle.content_de.specs.Accesses.Seq.{SeqLeft, items_under, first_item, later}
use Rattle.content_de.specs.Reads.Paths.{IsItemRefusal}
use Rattle.content_de.specs.Reads.Read.{Refusal}

-- of those after the first each has an index less
pub later_item : (k : ℕ) (ts : Trees) → item_of k (later ts) ≡ item_of (suc k) ts
later_item k no_trees = refl
later_item k (tree_then t ts) = refl

-- the first is refused as what was given out
pub first_refused : (refusal : Refusal) (f : Flags) (ts : Trees) (s : Subject) → Some s ≡ first_item (items_under f ts) → option_and_then (λ t. refusal (tree_under f t)) (item_of 0 ts) ≡ refusal s
first_refused refusal f no_trees s e = absurd (cc)
first_refused refusal f (tree_then t ts) s e = cc e

-- where the item of an index is refused, after so many were read, the path begins with that index
pub item_refused : {A : Type 0} (refusal : Refusal) (all now : SeqLeft) (n : ℕ) (s : Subject) (error : Error) (r : Result A Error)
    → item_of n all.items ≡ item_of 0 now.items → now.flags ≡ all.flags → Some s ≡ first_item now
    → (cause error ≢ out_of_memory → refusal s ≡ Some (cause error))
    → IsErrAnd r (λ e. cause e ≡ cause error) → IsErrAnd r (λ e. IsInside (item n) (places error) (places e))
    → IfErr r (λ e. IsItemRefusal refusal all e)
item_refused refusal all now n s error (Ok a) items flags first is same at = absurd same
item_refused refusal all now n s error (Err e) items flags first is same at =
    inr (
      n,
      (places error, at),
      λ known.
          ap (option_and_then (λ t. refusal (tree_under all.flags t))) items
          ∙ (ap (λ f. option_and_then (λ t. refusal (tree_under f t)) (item_of 0 now.items)) (sym flags)
          ∙ (first_refused refusal now.flags now.items s first ∙ (is (λ h. known (same ∙ h)) ∙ ap Some (sym same)))),
    )
