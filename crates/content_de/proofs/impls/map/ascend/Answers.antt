use Rattle.std.proofs.Common.{subst}
use Rattle.std.proofs.lemmas.List.Sorted.{answers_always}
use Rattle.std.specs.List.Sorted.{IsStrictlySortedBy}
use Rattle.std.specs.Map.{keys_of}
use Rattle.std.specs.Ordering.{is_lt}
use Rattle.content_de.proofs.Ascending.{all_below}
use Rattle.content_de.proofs.impls.map.ascend.Goals as goal

pub returns : goal.returns
returns g c ok =
    let below = c.is_sorted_by.ensures.cases (λ x y. is_lt (g.K.Ord.cmp x.0 y.0)) (answers_always _ _ _ (λ f a r f' k. k.met)) in
    subst (λ es. IsStrictlySortedBy g.K.Ord.cmp (keys_of es)) c.deref.ensures.value (all_below g.met.K.Ord.total c.deref.result.now c.is_sorted_by.result ok below)
