-- Entries whose keys ascend, put into a map.
use Rattle.std.proofs.Common.{◌≡◌, ◌+◌, ◌<◌, Bool, true, List, [], ◌∷◌, ◌++◌, length, get_or, refl, sym, ap, ◌∙◌, subst, append_assoc, append-nil, arith, false, IsTrue}
use Rattle.std.specs.BTreeMap.{insert_entry}
use Rattle.std.specs.Cmp.{IsTotalOrder}
use Rattle.std.specs.List.{AllByRecursion, IsAllAdjacentAnswer}
use Rattle.std.specs.List.Sorted.{IsStrictlySortedBy}
use Rattle.std.specs.Map.{keys_of}
use Rattle.std.specs.Ordering.{is_lt, match_ordering, ordering_reverse}
use Rattle.std.specs.declared.cmp.Ordering.{Ordering}
use Rattle.std.specs.declared.cmp.Ordering.TheVariants.{Less, Equal, Greater}
use Rattle.std.proofs.lemmas.List.{get_or-map}
use Rattle.std.proofs.lemmas.Map.Entries.{length-keys_of}
use Rattle.std.proofs.lemmas.Map.Keys.{sorted_from_all_adjacent}
use Rattle.content_de.specs.Reads.Maps.{put_in}

less : (o : Ordering) → true ≡ is_lt o → o ≡ Less
less Less h = refl
less Equal h = absurd (let x : true ≡ false = h in cc)
less Greater h = absurd (let x : true ≡ false = h in cc)

-- where each key is below the next, each is below all after it
pub all_below : {K V : Type 0} {order : K → K → Ordering} → IsTotalOrder order → (es : List (K × V)) (r : Bool) → IsTrue r
    → IsAllAdjacentAnswer (λ x y b. b ≡ is_lt (order x.0 y.0)) es r → IsStrictlySortedBy order (keys_of es)
unfolding IsStrictlySortedBy
all_below o [] r t h = tt
all_below o (e ∷ es) false t h = absurd (let x : false ≡ true = t in cc)
all_below {order = order} o (e ∷ es) true t h =
    sorted_from_all_adjacent o (keys_of (e ∷ es)) e.0 (λ k b.
    let c : k + 1 < length (e ∷ es) = subst (λ n. k + 1 < n) (length-keys_of (e ∷ es)) b in
    ap (λ x. order x (get_or (keys_of (e ∷ es)) (k + 1) e.0)) (get_or-map (λ x. x.0) (e ∷ es) k e e.0 (omega (arith, c)))
    ∙ ap (order (get_or (e ∷ es) k e).0) (get_or-map (λ x. x.0) (e ∷ es) (k + 1) e e.0 c)
    ∙ less _ (h k e c))

-- an entry below the first comes before it
pub put_first : {K V : Type 0} (order : K → K → Ordering) (k : K) (v : V) (es : List (K × V)) → IsStrictlySortedBy order (keys_of ((k, v) ∷ es)) → insert_entry order es k v ≡ (k, v) ∷ es
unfolding IsStrictlySortedBy
put_first order k v [] s = refl
put_first order k v (e ∷ es) s = ap (λ o. match_ordering o ((k, v) ∷ e ∷ es) ((e.0, v) ∷ es) (e ∷ insert_entry order es k v)) s.0.0

-- the keys at the end ascend too
pub sorted_end : {K V : Type 0} (order : K → K → Ordering) (rest es : List (K × V)) → IsStrictlySortedBy order (keys_of (rest ++ es)) → IsStrictlySortedBy order (keys_of es)
unfolding IsStrictlySortedBy
sorted_end order [] es s = s
sorted_end order (e ∷ rest) es s = sorted_end order rest es s.1

-- the last entry that is left, put in before those that come after it
pub put_in_last : {K V : Type 0} (order : K → K → Ordering) (left rest : List (K × V)) (k : K) (v : V) (es more all : List (K × V)) → IsStrictlySortedBy order (keys_of all)
    → left ++ es ≡ all → left ≡ rest ++ (k, v) ∷ [] → more ≡ insert_entry order es k v → rest ++ more ≡ all
put_in_last order left rest k v es more all s whole last put =
    let parts : rest ++ (k, v) ∷ es ≡ all = sym (append_assoc rest ((k, v) ∷ []) es) ∙ ap (λ l. l ++ es) (sym last) ∙ whole in
    let behind = sorted_end order rest ((k, v) ∷ es) (subst (λ l. IsStrictlySortedBy order (keys_of l)) (sym parts) s) in
    ap (λ l. rest ++ l) (put ∙ put_first order k v es behind) ∙ parts

-- an entry above all comes last
put_end : {K V : Type 0} {order : K → K → Ordering} → IsTotalOrder order → (es : List (K × V)) (k : K) (v : V) (rest : List (K × V))
    → IsStrictlySortedBy order (keys_of (es ++ (k, v) ∷ rest)) → insert_entry order es k v ≡ es ++ (k, v) ∷ []
unfolding IsStrictlySortedBy
put_end o [] k v rest s = refl
put_end {K = K} {V = V} {order = order} o (e ∷ es) k v rest s =
    ap (λ r. match_ordering r ((k, v) ∷ e ∷ es) ((e.0, v) ∷ es) (e ∷ insert_entry order es k v)) (o.antisymm k e.0 ∙ ap ordering_reverse (before es s.0))
    ∙ ap (λ l. e ∷ l) (put_end o es k v rest s.1)
  where
    before : (fs : List (K × V)) → AllByRecursion (λ y. order e.0 y ≡ Less) (keys_of (fs ++ (k, v) ∷ rest)) → order e.0 k ≡ Less
    before [] a = a.0
    before (f ∷ fs) a = before fs a.1

put_all : {K V : Type 0} {order : K → K → Ordering} → IsTotalOrder order → (es more : List (K × V)) → IsStrictlySortedBy order (keys_of (es ++ more)) → put_in order es more ≡ es ++ more
put_all o es [] s = sym (append-nil es)
put_all {order = order} o es (e ∷ more) s =
    let whole = append_assoc es (e ∷ []) more in
    ap (λ l. put_in order l more) (put_end o es e.0 e.1 more s)
    ∙ put_all o (es ++ e ∷ []) more (subst (λ l. IsStrictlySortedBy order (keys_of l)) (sym whole) s) ∙ whole

-- entries whose keys ascend stay as they are
pub put_in_sorted : {K V : Type 0} {order : K → K → Ordering} → IsTotalOrder order → (es : List (K × V)) → IsStrictlySortedBy order (keys_of es) → put_in order [] es ≡ es
put_in_sorted o es s = put_all o [] es s
