-- Hashed sets and maps come back where what they hold does, in whatever order it is.
use Rattle.std.specs.Prelude.{◌≡◌, Bool, true, false, ◌&&◌, List, [], ◌∷◌, None, Some, refl, cond}
use Rattle.std.specs.Cmp.{IsEquivalence}
use Rattle.std.specs.Cmp.Lexicographic.{pointwise}
use Rattle.std.specs.HashMap as table
use Rattle.std.specs.HashMap.{HashMap, hash_map_eq, entries_eq}
use Rattle.std.specs.HashMap.Eq.{hash_map_eq_from_get}
use Rattle.std.specs.HashSet as bag
use Rattle.std.specs.HashSet.{HashSet, hash_set_eq}
use Rattle.std.specs.HashSet.Eq.{hash_set_eq_decides}
use Rattle.std.specs.List.{AllByRecursion, IsDistinct, list_all}
use Rattle.std.specs.Map.{keys_of, lookup}
use Rattle.std.specs.Option.{option_eq}
use Rattle.std.specs.Set.{is_member}
use Rattle.std.proofs.Common.{subst, sym, ◌∙◌}
use Rattle.std.proofs.lemmas.Map.Made.{update_all_none}
use Rattle.content_tree.specs.Values.Tree as tree
use Rattle.content_tree.specs.Values.Tree.{Tree, Pairs}
use Rattle.content_ser.specs.Grammar.Spells.{pairs, spells_map}
use Rattle.content_ser.specs.Scripts.Standard.{ScriptOf, seq_script, entries_script, map_script}
use Rattle.content_de.specs.Sources.Origin.{Origin, of_tree, Flags, tree_under, under}
use Rattle.content_de.specs.Outcomes.{refusal_then}
use Rattle.content_de.specs.Requests.Compounds.{entries_of_pairs}
use Rattle.content_de.specs.Accesses.Map.{map_at}
use Rattle.content_de.specs.Accesses.Seq.{seq_at}
use Rattle.content_de.specs.Reads.Hashed.{HashSetGives, HashMapGives}
use Rattle.content_de.specs.Reads.Maps.{entries_refusal, map_refusal}
use Rattle.content_de.specs.Reads.Pairs.{PairsGive, EachGives}
use Rattle.content_de.specs.Reads.Read.{Refusal, Gives}
use Rattle.content_de.specs.Reads.Standard.{seq_refusal}
use Rattle.serde_content.specs.RoundTrip.{ComesBack, CoercionKeeps, GivesOnly, MayGive, flags}
use Rattle.serde_content.specs.Skips.{has_none}
use Rattle.serde_content.specs.Laws.Holders.{seq_back, seq_keeps, both_free, first_free, second_free}
use Rattle.serde_content.specs.Laws.Made.{first_holds, second_holds, made_back, made_keeps}
use Rattle.serde_content.specs.Laws.Maps.{EntriesSuch, entries_end, entries_more, same_entry}
use Rattle.serde_content.specs.Laws.Series.{both_hold}
use Rattle.serde_content.specs.Laws.Spelled.{Spelled, spelled_call, such_spelled}

module _ {K : Type 0} {eq : K → K → Bool} (laws : IsEquivalence eq) where
  -- a key is equal to both of two equal keys, or to neither
  alike : (q k x : K) → eq k x ≡ true → eq q k ≡ eq q x
  alike q k x e = laws.symm q k ∙ laws.congr k x q e ∙ laws.symm x q

  -- keys that equal others are as many keys of a set
  same_members : (ks xs : List K) → pointwise eq ks xs ≡ true → (q : K) → is_member eq ks q ≡ is_member eq xs q
  same_members [] [] same q = refl
  same_members [] (x ∷ xs) same q = absurd (cc same)
  same_members (k ∷ ks) [] same q = absurd (cc same)
  same_members (k ∷ ks) (x ∷ xs) same q = rw (alike q k x (first_holds _ _ same), same_members ks xs (second_holds (eq k x) _ same) q) refl

  -- a set of equal keys is equal
  pub set_of_same : {S : Type 0} (s n : HashSet K S) (xs : List K) → pointwise eq s.keys xs ≡ true → bag.IsFromIterResult eq xs n → hash_set_eq eq s n ≡ true
  set_of_same s n xs same made = (hash_set_eq_decides laws s n).1 (λ q. same_members s.keys xs same q ∙ sym (made.0 q))

  module _ {V : Type 0} (eq_value : V → V → Bool) where
    -- keys apart from one are apart from those that equal it
    apart_same : (k x : K) → eq k x ≡ true → (es ps : List (K × V)) → pointwise (same_entry eq eq_value) es ps ≡ true → AllByRecursion (λ q. eq k q ≡ false) (keys_of es) → AllByRecursion (λ q. eq x q ≡ false) (keys_of ps)
    apart_same k x e [] [] same apart = tt
    apart_same k x e [] (p ∷ ps) same apart = absurd (cc same)
    apart_same k x e (f ∷ es) [] same apart = absurd (cc same)
    apart_same k x e (f ∷ es) (p ∷ ps) same apart = (
      sym (laws.congr k x p.0 e) ∙ sym (alike k f.0 p.0 (first_holds _ _ (first_holds _ _ same))) ∙ apart.0,
      apart_same k x e es ps (second_holds (same_entry eq eq_value f p) _ same) apart.1,
    )

    -- entries that equal others have keys apart where those have
    same_distinct : (es ps : List (K × V)) → pointwise (same_entry eq eq_value) es ps ≡ true → IsDistinct eq (keys_of es) → IsDistinct eq (keys_of ps)
    unfolding IsDistinct
    same_distinct [] [] same apart = tt
    same_distinct [] (p ∷ ps) same apart = absurd (cc same)
    same_distinct (e ∷ es) [] same apart = absurd (cc same)
    same_distinct (e ∷ es) (p ∷ ps) same apart = (
      apart_same e.0 p.0 (first_holds _ _ (first_holds _ _ same)) es ps (second_holds (same_entry eq eq_value e p) _ same) apart.0,
      same_distinct es ps (second_holds (same_entry eq eq_value e p) _ same) apart.1,
    )

    -- what is at a key equals what is there among equal entries
    same_lookups : (es ps : List (K × V)) → pointwise (same_entry eq eq_value) es ps ≡ true → (q : K) → option_eq eq_value (lookup (eq q) es) (lookup (eq q) ps) ≡ true
    same_lookups [] [] same q = refl
    same_lookups [] (p ∷ ps) same q = absurd (cc same)
    same_lookups (e ∷ es) [] same q = absurd (cc same)
    same_lookups (e ∷ es) (p ∷ ps) same q =
        by (same_lookups es ps (second_holds (same_entry eq eq_value e p) _ same) q) (eq q e.0) (eq q p.0) (alike q e.0 p.0 (first_holds _ _ (first_holds _ _ same)))
      where
        by : option_eq eq_value (lookup (eq q) es) (lookup (eq q) ps) ≡ true → (a b : Bool) → a ≡ b
            → option_eq eq_value (cond a (Some e.1) (lookup (eq q) es)) (cond b (Some p.1) (lookup (eq q) ps)) ≡ true
        by later true true h = second_holds (eq e.0 p.0) _ (first_holds _ _ same)
        by later true false h = absurd (cc h)
        by later false true h = absurd (cc h)
        by later false false h = later

    -- a map of equal entries is equal
    pub map_of_same : {S : Type 0} (m n : HashMap K V S) (ps : List (K × V)) → IsDistinct eq (keys_of m.entries) → pointwise (same_entry eq eq_value) m.entries ps ≡ true → table.IsFromIterResult eq ps n → hash_map_eq eq eq_value m n ≡ true
    map_of_same m n ps distinct same made = hash_map_eq_from_get eq eq_value m n (λ q.
        subst (λ o. option_eq eq_value (lookup (eq q) m.entries) o ≡ true)
        (sym (made.0 q ∙ update_all_none laws eq (λ x y. refl) ps q (same_distinct m.entries ps same distinct)))
        (same_lookups m.entries ps same q))

-- ---- sets

-- a set
pub hash_set_back : {K S : Type 0} {exists : K → Type 0} {script : ScriptOf K} {refusal : Refusal} {gives : Gives K} {eq : K → K → Bool} → IsEquivalence eq → ComesBack exists script refusal gives eq
    → ComesBack (λ (s : HashSet K S). AllByRecursion exists s.keys) (λ s. seq_script script s.keys) (λ s. refusal_then (seq_at s) (seq_refusal refusal)) (HashSetGives gives eq) (hash_set_eq eq)
hash_set_back {exists} {eq} laws back =
    made_back (λ s. AllByRecursion exists s.keys) (bag.IsFromIterResult eq) (hash_set_eq eq) (λ s. s.keys) (seq_back back) (λ s real. real)
    (λ s new items real same made. set_of_same laws s new items same made)

-- a set
pub hash_set_keeps : {K S : Type 0} {refusal : Refusal} {gives : Gives K} (eq : K → K → Bool) → CoercionKeeps refusal gives
    → CoercionKeeps (λ s. refusal_then (seq_at s) (seq_refusal refusal)) (HashSetGives {S = S} gives eq)
hash_set_keeps eq keeps = made_keeps (bag.IsFromIterResult eq) (seq_keeps keeps)

-- ---- maps

-- pairs are read as entries that equal these
abbrev pub PairsBack : {K V : Type 0} → (key value : Refusal) → Gives K → Gives V → (K × V → K × V → Bool) → Flags → List (K × V) → Pairs → Type 0
PairsBack key value gives_key gives_value same f es ps =
    GivesOnly (entries_refusal key value f (entries_of_pairs ps)) (PairsGive gives_key gives_value f (entries_of_pairs ps)) (λ new. pointwise same es new ≡ true)

-- no pair
pub no_pairs_back : {K V : Type 0} (key value : Refusal) (gives_key : Gives K) (gives_value : Gives V) (same : K × V → K × V → Bool) (f : Flags)
    → PairsBack key value gives_key gives_value same f [] tree.no_pairs
no_pairs_back {K} {V} key value gives_key gives_value same f = record { free = refl; only = none }
  where
    none : (new : List (K × V)) → PairsGive gives_key gives_value f [] new → pointwise same [] new ≡ true
    none [] h = refl
    none (p ∷ ps) h = absurd h

-- a pair, and then others
pub pair_first_back : {K V : Type 0} (key value : Refusal) (gives_key : Gives K) (gives_value : Gives V) (eq_key : K → K → Bool) (eq_value : V → V → Bool) (f : Flags)
    (e : K × V) (es : List (K × V)) (k t : Tree) (ps : Pairs)
    → GivesOnly (key (tree_under f k)) (gives_key (tree_under f k)) (λ y. eq_key e.0 y ≡ true)
    → GivesOnly (value (tree_under f t)) (gives_value (tree_under f t)) (λ y. eq_value e.1 y ≡ true)
    → PairsBack key value gives_key gives_value (same_entry eq_key eq_value) f es ps
    → PairsBack key value gives_key gives_value (same_entry eq_key eq_value) f (e ∷ es) (tree.pair_then k t ps)
pair_first_back {K} {V} key value gives_key gives_value eq_key eq_value f e es k t ps one two others =
    record { free = both_free one.free (both_free two.free others.free); only = first }
  where
    first : (new : List (K × V)) → PairsGive gives_key gives_value f (entries_of_pairs (tree.pair_then k t ps)) new → pointwise (same_entry eq_key eq_value) (e ∷ es) new ≡ true
    first [] h = absurd h
    first (p ∷ new) h = both_hold (both_hold (one.only p.0 h.0) (two.only p.1 h.1)) (others.only new h.2)

-- entries that exist
pairs_back : {K V : Type 0} {key_exists : K → Type 0} {value_exists : V → Type 0} {key_script : ScriptOf K} {value_script : ScriptOf V} {key value : Refusal} {gives_key : Gives K} {gives_value : Gives V}
    {eq_key : K → K → Bool} {eq_value : V → V → Bool} → ComesBack key_exists key_script key gives_key eq_key → ComesBack value_exists value_script value gives_value eq_value
    → (es : List (K × V)) → AllByRecursion (λ e. key_exists e.0 × value_exists e.1) es → (f : Flags)
    → Spelled (EntriesSuch (PairsBack key value gives_key gives_value (same_entry eq_key eq_value) f es)) (entries_script key_script value_script es f.human_readable)
pairs_back {key} {value} {gives_key} {gives_value} {eq_key} {eq_value} keys values [] each f =
    entries_end (PairsBack key value gives_key gives_value (same_entry eq_key eq_value) f []) (no_pairs_back key value gives_key gives_value (same_entry eq_key eq_value) f)
pairs_back {key} {value} {gives_key} {gives_value} {eq_key} {eq_value} keys values (e ∷ es) each f =
    entries_more
    (λ t. GivesOnly (key (tree_under f t)) (gives_key (tree_under f t)) (λ y. eq_key e.0 y ≡ true))
    (λ t. GivesOnly (value (tree_under f t)) (gives_value (tree_under f t)) (λ y. eq_value e.1 y ≡ true))
    (PairsBack key value gives_key gives_value (same_entry eq_key eq_value) f es)
    (PairsBack key value gives_key gives_value (same_entry eq_key eq_value) f (e ∷ es))
    (pair_first_back key value gives_key gives_value eq_key eq_value f e es)
    (keys.of_value e.0 each.0.0 f) (values.of_value e.1 each.0.1 f) (pairs_back keys values es each.1 f)

-- each entry of a map, in order
entries_each_back : {K V : Type 0} {key_exists : K → Type 0} {value_exists : V → Type 0} {key_script : ScriptOf K} {value_script : ScriptOf V} {key value : Refusal} {gives_key : Gives K} {gives_value : Gives V}
    {eq_key : K → K → Bool} {eq_value : V → V → Bool} → ComesBack key_exists key_script key gives_key eq_key → ComesBack value_exists value_script value gives_value eq_value
    → ComesBack (AllByRecursion (λ e. key_exists e.0 × value_exists e.1)) (map_script key_script value_script) (λ s. refusal_then (map_at s) (map_refusal key value))
    (EachGives gives_key gives_value) (pointwise (same_entry eq_key eq_value))
entries_each_back keys values = record {
  of_value = λ es real f. such_spelled (spelled_call (λ calls rest e. (
    tree.map (pairs e.0),
    spells_map e.1,
    record { free = e.3.free; only = e.3.only },
  )) (pairs_back keys values es real f));
}

-- what contracts see of a map that exists: no two keys are equal, and each key and value exists
pub record TableExists {K V S : Type 0} (key : K → Type 0) (value : V → Type 0) (eq : K → K → Bool) (m : HashMap K V S) : Type 0 where
  pub apart : IsDistinct eq (keys_of m.entries)
  pub each : AllByRecursion (λ e. key e.0 × value e.1) m.entries

-- a map
pub hash_map_back : {K V S : Type 0} {key_exists : K → Type 0} {value_exists : V → Type 0} {key_script : ScriptOf K} {value_script : ScriptOf V} {key value : Refusal} {gives_key : Gives K} {gives_value : Gives V}
    {eq_key : K → K → Bool} {eq_value : V → V → Bool} → IsEquivalence eq_key
    → ComesBack key_exists key_script key gives_key eq_key → ComesBack value_exists value_script value gives_value eq_value
    → ComesBack (TableExists {S = S} key_exists value_exists eq_key) (λ m. map_script key_script value_script m.entries) (λ s. refusal_then (map_at s) (map_refusal key value))
    (HashMapGives gives_key gives_value eq_key) (hash_map_eq eq_key eq_value)
hash_map_back {key_exists} {value_exists} {eq_key} {eq_value} laws keys values =
    made_back (TableExists key_exists value_exists eq_key) (table.IsFromIterResult eq_key) (hash_map_eq eq_key eq_value) (λ m. m.entries) (entries_each_back keys values) (λ m real. real.each)
    (λ m new ps real same made. map_of_same laws eq_value m new ps real.apart same made)

-- the pairs that entries may give
pairs_keep : {K V : Type 0} {key value : Refusal} {gives_key : Gives K} {gives_value : Gives V} → CoercionKeeps key gives_key → CoercionKeeps value gives_value
    → (ps : Pairs) (h : Bool) (new : List (K × V)) → entries_refusal key value (flags h false) (entries_of_pairs ps) ≡ None → PairsGive gives_key gives_value (flags h false) (entries_of_pairs ps) new
    → MayGive (entries_refusal key value (flags h true) (entries_of_pairs ps)) (PairsGive gives_key gives_value (flags h true) (entries_of_pairs ps)) new
pairs_keep keys values tree.no_pairs h [] free given = record { free = refl; given = tt }
pairs_keep keys values tree.no_pairs h (p ∷ new) free given = absurd given
pairs_keep keys values (tree.pair_then k t ps) h [] free given = absurd given
pairs_keep keys values (tree.pair_then k t ps) h (p ∷ new) free given =
    let later = second_free _ _ free in
    let one = keys.of_origin (of_tree k) h p.0 (record { free = first_free _ _ free; given = given.0 }) in
    let two = values.of_origin (of_tree t) h p.1 (record { free = first_free _ _ later; given = given.1 }) in
    let others = pairs_keep keys values ps h new (second_free _ _ later) given.2 in
    record { free = both_free one.free (both_free two.free others.free); given = (one.given, two.given, others.given) }

-- the same, whatever is read
each_kept : {K V : Type 0} {key value : Refusal} {gives_key : Gives K} {gives_value : Gives V} → CoercionKeeps key gives_key → CoercionKeeps value gives_value
    → (o : Origin) (h : Bool) (new : List (K × V))
    → MayGive (refusal_then (map_at (under (flags h false) o)) (map_refusal key value)) (EachGives gives_key gives_value (under (flags h false) o)) new
    → MayGive (refusal_then (map_at (under (flags h true) o)) (map_refusal key value)) (EachGives gives_key gives_value (under (flags h true) o)) new
each_kept keys values (of_tree (tree.map ps)) h new p = let there = pairs_keep keys values ps h new p.free p.given in record { free = there.free; given = there.given }
each_kept keys values o h new p = absurd p.given

-- a map
pub hash_map_keeps : {K V S : Type 0} {key value : Refusal} {gives_key : Gives K} {gives_value : Gives V} (eq : K → K → Bool) → CoercionKeeps key gives_key → CoercionKeeps value gives_value
    → CoercionKeeps (λ s. refusal_then (map_at s) (map_refusal key value)) (HashMapGives {S = S} gives_key gives_value eq)
hash_map_keeps eq keys values = made_keeps (table.IsFromIterResult eq) (record { of_origin = λ o h new p. each_kept keys values o h new p })

-- ---- fields that are left out

-- no entries equal none
no_entries : {K V : Type 0} (eq : K → K → Bool) (eq_value : V → V → Bool) (es : List (K × V)) → has_none es ≡ true → (fs : List (K × V)) → fs ≡ [] → entries_eq eq (λ p q. eq_value p.1 q.1) es fs ≡ true
unfolding entries_eq
no_entries eq eq_value [] empty fs absent = rw absent refl
no_entries eq eq_value (e ∷ es) empty fs absent = absurd (cc empty)

-- no keys equal none
no_keys : {K : Type 0} (eq : K → K → Bool) (ks : List K) → has_none ks ≡ true → (js : List K) → js ≡ [] → (list_all (is_member eq js) ks && list_all (is_member eq ks) js) ≡ true
no_keys eq [] empty js absent = rw absent refl
no_keys eq (k ∷ ks) empty js absent = absurd (cc empty)

-- what is read in place of a map that is left out equals it
pub no_entries_alike : {K V S : Type 0} (eq : K → K → Bool) (eq_value : V → V → Bool) (m : HashMap K V S) → has_none m.entries ≡ true → (n : HashMap K V S) → n.entries ≡ [] → hash_map_eq eq eq_value m n ≡ true
no_entries_alike eq eq_value m empty n absent = no_entries eq eq_value m.entries empty n.entries absent

-- and in place of a set
pub no_keys_alike : {K S : Type 0} (eq : K → K → Bool) (s : HashSet K S) → has_none s.keys ≡ true → (n : HashSet K S) → n.keys ≡ [] → hash_set_eq eq s n ≡ true
no_keys_alike eq s empty n absent = no_keys eq s.keys empty n.keys absent
