-- Sets come back where their items do: keys that are put in as they ascend stay as they came.
use Rattle.std.specs.Prelude.{◌≡◌, Bool, true, List, [], ◌∷◌, ◌++◌, refl}
use Rattle.std.specs.BTreeSet.{insert_key}
use Rattle.std.specs.Cmp.{IsTotalOrder, Equal-is}
use Rattle.std.specs.Cmp.Lexicographic.{pointwise}
use Rattle.std.specs.List.{AllByRecursion}
use Rattle.std.specs.List.Sorted.{IsStrictlySortedBy}
use Rattle.std.specs.Ordering.{is_eq, match_ordering, ordering_reverse}
use Rattle.std.specs.declared.cmp.Ordering.{Ordering}
use Rattle.std.specs.declared.cmp.Ordering.TheVariants.{Less, Equal}
use Rattle.std.proofs.Common.{ap, subst, sym, ◌∙◌}
use Rattle.std.proofs.lemmas.Cmp.{alike_right}
use Rattle.std.proofs.lemmas.List.{append_assoc, append-nil}
use Rattle.content_ser.specs.Scripts.Standard.{ScriptOf, seq_script}
use Rattle.content_de.specs.Outcomes.{refusal_then}
use Rattle.content_de.specs.Accesses.Seq.{seq_at}
use Rattle.content_de.specs.Reads.Read.{Refusal, Gives}
use Rattle.content_de.specs.Reads.Sets.{put_keys, RowGives, SetGives}
use Rattle.content_de.specs.Reads.Standard.{seq_refusal}
use Rattle.serde_content.specs.RoundTrip.{ComesBack, CoercionKeeps}
use Rattle.serde_content.specs.Laws.Holders.{seq_back, seq_keeps}
use Rattle.serde_content.specs.Laws.Made.{first_holds, second_holds, made_back, made_keeps}

-- the keys of a set that exists: they ascend, and each exists
pub record KeysExist {K : Type 0} (key : K → Type 0) (order : K → K → Ordering) (ks : List K) : Type 0 where
  pub ascend : IsStrictlySortedBy order ks
  pub each : AllByRecursion key ks

module _ {K : Type 0} {order : K → K → Ordering} {eq : K → K → Bool} (total : IsTotalOrder order) (ties : (x y : K) → eq x y ≡ is_eq (order x y)) where
  -- equal keys are ties
  tied : (x y : K) → eq x y ≡ true → order x y ≡ Equal
  tied x y h = (Equal-is (order x y)).0 (sym (ties x y) ∙ h)

  -- what is below some keys is below those that equal them, and so is what equals it
  below_same : (k x : K) → eq k x ≡ true → (ks xs : List K) → pointwise eq ks xs ≡ true → AllByRecursion (λ q. order k q ≡ Less) ks → AllByRecursion (λ q. order x q ≡ Less) xs
  below_same k x e [] [] same below = tt
  below_same k x e [] (y ∷ ys) same below = absurd (cc same)
  below_same k x e (q ∷ qs) [] same below = absurd (cc same)
  below_same k x e (q ∷ qs) (y ∷ ys) same below = (
    sym (total.congr k x y (tied k x e)) ∙ sym (alike_right total q y k (tied q y (first_holds _ _ same))) ∙ below.0,
    below_same k x e qs ys (second_holds (eq q y) _ same) below.1,
  )

  -- keys that equal ascending ones ascend
  pub same_ascend : (ks xs : List K) → pointwise eq ks xs ≡ true → IsStrictlySortedBy order ks → IsStrictlySortedBy order xs
  unfolding IsStrictlySortedBy
  same_ascend [] [] same ascend = tt
  same_ascend [] (y ∷ ys) same ascend = absurd (cc same)
  same_ascend (k ∷ ks) [] same ascend = absurd (cc same)
  same_ascend (k ∷ ks) (x ∷ xs) same ascend = (
    below_same k x (first_holds _ _ same) ks xs (second_holds (eq k x) _ same) ascend.0,
    same_ascend ks xs (second_holds (eq k x) _ same) ascend.1,
  )

module _ {K : Type 0} {order : K → K → Ordering} (total : IsTotalOrder order) where
  -- a key below the later ones is put in last
  put_last : (ks : List K) (k : K) (rest : List K) → IsStrictlySortedBy order (ks ++ k ∷ rest) → insert_key order ks k ≡ ks ++ k ∷ []
  unfolding IsStrictlySortedBy
  put_last [] k rest s = refl
  put_last (x ∷ xs) k rest s =
      ap (λ r. match_ordering r (k ∷ x ∷ xs) (x ∷ xs) (x ∷ insert_key order xs k)) (total.antisymm k x ∙ ap ordering_reverse (before xs s.0))
      ∙ ap (λ l. x ∷ l) (put_last xs k rest s.1)
    where
      before : (ys : List K) → AllByRecursion (λ y. order x y ≡ Less) (ys ++ k ∷ rest) → order x k ≡ Less
      before [] a = a.0
      before (y ∷ ys) a = before ys a.1

  -- keys that ascend stay as they came
  pub put_ascending : (old more : List K) → IsStrictlySortedBy order (old ++ more) → put_keys order old more ≡ old ++ more
  put_ascending old [] s = sym (append-nil old)
  put_ascending old (k ∷ more) s =
      let whole = append_assoc old (k ∷ []) more in
      ap (λ l. put_keys order l more) (put_last old k more s)
      ∙ put_ascending (old ++ k ∷ []) more (subst (λ l. IsStrictlySortedBy order l) (sym whole) s) ∙ whole

-- what a set of keys is made of: items that give them
abbrev pub MadeKeys : {K : Type 0} → (K → K → Ordering) → (items keys : List K) → Type 0
MadeKeys order items keys = keys ≡ put_keys order [] items

-- items that equal the keys of a set give equal keys
pub set_of_equal : {K : Type 0} {order : K → K → Ordering} {eq : K → K → Bool} → IsTotalOrder order → ((x y : K) → eq x y ≡ is_eq (order x y))
    → (ks new items : List K) → IsStrictlySortedBy order ks → pointwise eq ks items ≡ true → MadeKeys order items new → pointwise eq ks new ≡ true
set_of_equal {order} {eq} total ties ks new items ascend same made =
    subst (λ l. pointwise eq ks l ≡ true) (sym (made ∙ put_ascending total [] items (same_ascend total ties ks items same ascend))) same

-- a set
pub set_back : {K : Type 0} {exists : K → Type 0} {script : ScriptOf K} {refusal : Refusal} {gives : Gives K} {order : K → K → Ordering} {eq : K → K → Bool}
    → IsTotalOrder order → ((x y : K) → eq x y ≡ is_eq (order x y)) → ComesBack exists script refusal gives eq
    → ComesBack (KeysExist exists order) (seq_script script) (λ s. refusal_then (seq_at s) (seq_refusal refusal)) (SetGives gives order) (pointwise eq)
set_back {exists} {order} {eq} total ties back =
    made_back (KeysExist exists order) (MadeKeys order) (pointwise eq) (λ ks. ks) (seq_back back) (λ ks real. real.each)
    (λ ks new items real same made. set_of_equal total ties ks new items real.ascend same made)

-- a set
pub set_keeps : {K : Type 0} {refusal : Refusal} {gives : Gives K} (order : K → K → Ordering) → CoercionKeeps refusal gives
    → CoercionKeeps (λ s. refusal_then (seq_at s) (seq_refusal refusal)) (SetGives gives order)
set_keeps order keeps = made_keeps (MadeKeys order) (seq_keeps keeps)
