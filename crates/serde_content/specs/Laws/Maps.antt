-- Maps come back where their keys and values do: entries that are put in as they ascend stay as they came.
use Rattle.std.specs.Prelude.{◌≡◌, Bool, true, false, ◌&&◌, List, [], ◌∷◌, ◌++◌, None, refl}
use Rattle.std.specs.BTreeMap.{insert_entry}
use Rattle.std.specs.Cmp.{IsTotalOrder, Equal-is}
use Rattle.std.specs.Cmp.Lexicographic.{pointwise}
use Rattle.std.specs.List.{AllByRecursion}
use Rattle.std.specs.List.Sorted.{IsStrictlySortedBy}
use Rattle.std.specs.Map.{keys_of}
use Rattle.std.specs.Ordering.{is_eq, ordering_reverse}
use Rattle.std.specs.declared.cmp.Ordering.{Ordering}
use Rattle.std.specs.declared.cmp.Ordering.TheVariants.{Less, Equal}
use Rattle.std.proofs.Common.{ap, subst, sym, ◌∙◌}
use Rattle.std.proofs.lemmas.Cmp.{alike_right}
use Rattle.std.proofs.lemmas.List.{append_assoc, append-nil}
use Rattle.content_tree.specs.Values.Tree as tree
use Rattle.content_tree.specs.Values.Tree.{Tree, Pairs}
use Rattle.content_ser.specs.Calls.Event as event
use Rattle.content_ser.specs.Grammar.Token as token
use Rattle.content_ser.specs.Grammar.Token.{Token}
use Rattle.content_ser.specs.Grammar.Spells.{MapItem, entry, value_among, pairs, SpellsMapItems}
use Rattle.content_ser.specs.Grammar.Spells.{spells_map, items_end, items_entry}
use Rattle.content_ser.specs.Scripts.Script.{Script, done, call_then, and_then}
use Rattle.content_ser.specs.Scripts.Standard.{ScriptOf, entries_script, map_script}
use Rattle.content_de.specs.Sources.Origin.{Origin, of_tree, Flags, tree_under, under}
use Rattle.content_de.specs.Outcomes.{refusal_then, IsTaken}
use Rattle.content_de.specs.Requests.Compounds.{entries_of_pairs}
use Rattle.content_de.specs.Accesses.Map.{map_at}
use Rattle.content_de.specs.Reads.Read.{Refusal, Gives}
use Rattle.content_de.specs.Reads.Maps.{entries_refusal, EntriesGive, map_refusal, MapGives}
use Rattle.serde_content.specs.RoundTrip.{SpellsSuch, GivesOnly, ComesBack, MayGive, CoercionKeeps}
use Rattle.serde_content.specs.RoundTrip.{EntriesExist, flags}
use Rattle.serde_content.specs.Laws.Spelled.{TreeSuch, Spelled, spelled_only, spelled_call}
use Rattle.serde_content.specs.Laws.Spelled.{spelled_then, spelled_such, such_spelled}
use Rattle.serde_content.specs.Laws.Holders.{both_free, first_free, second_free}
use Rattle.serde_content.specs.Laws.Series.{both_hold}

-- such pairs, spelled as entries, and the end, before the rest; nothing takes the place of a value before them
abbrev pub EntriesSuch : (Pairs → Type 0) → List Token → List Token → Type 0
EntriesSuch p calls rest = (items : List MapItem) × SpellsMapItems calls items rest × ((t : Tree) → value_among t items ≡ t) × p (pairs items)

-- such a value, and then such pairs
abbrev ValueSuch : (Tree → Type 0) → (Pairs → Type 0) → List Token → List Token → Type 0
ValueSuch q p calls rest = (mid : List Token) × TreeSuch q calls mid × EntriesSuch p mid rest

-- the end of entries
pub entries_end : (p : Pairs → Type 0) → p tree.no_pairs → Spelled (EntriesSuch p) (call_then event.end done)
entries_end p such = spelled_only (λ rest. ([], items_end, λ t. refl, such))

-- an entry before others
entry_before : (p q : Tree → Type 0) (s r : Pairs → Type 0) (calls mid rest : List Token)
    → ((k t : Tree) (ps : Pairs) → p k → q t → s ps → r (tree.pair_then k t ps)) → TreeSuch p calls mid → ValueSuch q s mid rest → EntriesSuch r (token.entry ∷ calls) rest
entry_before p q s r calls mid rest such a b =
    let v = b.1 in
    let es = b.2 in (
      entry a.0 v.0 ∷ es.0,
      items_entry a.1 v.1 es.1,
      λ t. refl,
      subst (λ t. r (tree.pair_then a.0 t (pairs es.0))) (sym (es.2 v.0)) (such a.0 v.0 (pairs es.0) a.2 v.2 es.3),
    )

-- an entry, and then the others
pub entries_more : (p q : Tree → Type 0) (s r : Pairs → Type 0) {a b c : Script}
    → ((k t : Tree) (ps : Pairs) → p k → q t → s ps → r (tree.pair_then k t ps)) → SpellsSuch p a → SpellsSuch q b → Spelled (EntriesSuch s) c
    → Spelled (EntriesSuch r) (call_then event.entry (and_then a (and_then b c)))
entries_more p q s r such a b c =
    spelled_call {Q = λ calls rest. EntriesSuch r (token.entry ∷ calls) rest} (λ calls rest e. e)
    (spelled_then {P = TreeSuch p} {Q = ValueSuch q s} (λ calls mid rest x y. entry_before p q s r calls mid rest such x y) (spelled_such a)
    (spelled_then {P = TreeSuch q} {Q = EntriesSuch s} (λ calls mid rest x y. (mid, x, y)) (spelled_such b) c))

-- each has a property that follows from another
all_follow : {X : Type 0} {P Q : X → Type 0} → ((x : X) → P x → Q x) → (xs : List X) → AllByRecursion P xs → AllByRecursion Q xs
all_follow f [] h = tt
all_follow f (x ∷ xs) h = (f x h.0, all_follow f xs h.1)

-- of each entry the key is below this one
abbrev BelowKey : {K V : Type 0} → (K → K → Ordering) → List (K × V) → K → Type 0
BelowKey order old k = AllByRecursion (λ o. order o.0 k ≡ Less) old

-- of each entry the key is below all of these
abbrev pub Below : {K V : Type 0} → (K → K → Ordering) → (old : List (K × V)) → List K → Type 0
Below order old ks = AllByRecursion (λ o. AllByRecursion (λ k. order o.0 k ≡ Less) ks) old

-- an entry above all that are there comes last
inserted_last : {K V : Type 0} {order : K → K → Ordering} → IsTotalOrder order → (old : List (K × V)) (k : K) (v : V) → BelowKey order old k → insert_entry order old k v ≡ old ++ ((k, v) ∷ [])
inserted_last total [] k v h = refl
inserted_last total (o ∷ os) k v h =
    let above = total.antisymm k o.0 ∙ ap ordering_reverse h.0 in
    rw (above, inserted_last total os k v h.1) refl

-- what is below the first key is below an equal one
below_equal : {K V : Type 0} {order : K → K → Ordering} → IsTotalOrder order → (x k : K) (ks : List K) → order x k ≡ Equal → (old : List (K × V)) → Below order old (x ∷ ks) → BelowKey order old k
below_equal total x k ks e old h = all_follow (λ o below. sym (alike_right total x k o.0 e) ∙ below.0) old h

-- what is below all keys is below the later ones, and so is an entry whose key equals the first
below_later : {K V : Type 0} {order : K → K → Ordering} → IsTotalOrder order → (x k : K) (v : V) (ks : List K) → order x k ≡ Equal → AllByRecursion (λ q. order x q ≡ Less) ks
    → (old : List (K × V)) → Below order old (x ∷ ks) → Below order (old ++ ((k, v) ∷ [])) ks
below_later total x k v ks e first [] h = (all_follow (λ q below. sym (total.congr x k q e) ∙ below) ks first, tt)
below_later total x k v ks e first (o ∷ os) h = (h.0.1, below_later total x k v ks e first os h.1)

-- entries that are read aren't refused, and put in after smaller ones they come after these, each equal to one of these
pub record EntriesBack {K V : Type 0} (key value : Refusal) (gives_key : Gives K) (gives_value : Gives V) (order : K → K → Ordering) (same : K × V → K × V → Bool) (f : Flags) (es : List (K × V)) (ps : Pairs) : Type 0 where
  pub free : entries_refusal key value f (entries_of_pairs ps) ≡ None
  pub only : (old new : List (K × V)) → Below order old (keys_of es) → EntriesGive gives_key gives_value order f (entries_of_pairs ps) old new
      → (ys : List (K × V)) × (new ≡ old ++ ys) × (pointwise same es ys ≡ true)

-- one entry equals another where the keys and the values do
abbrev pub same_entry : {K V : Type 0} → (K → K → Bool) → (V → V → Bool) → K × V → K × V → Bool
same_entry key value p q = key p.0 q.0 && value p.1 q.1

-- no entry
pub no_entries : {K V : Type 0} {key value : Refusal} {gives_key : Gives K} {gives_value : Gives V} {order : K → K → Ordering} {same : K × V → K × V → Bool} {f : Flags}
    → EntriesBack key value gives_key gives_value order same f [] tree.no_pairs
no_entries = record { free = refl; only = λ old new below h. ([], h ∙ sym (append-nil old), refl) }

-- an entry whose key is below those of the others
pub entry_first : {K V : Type 0} {key value : Refusal} {gives_key : Gives K} {gives_value : Gives V} {order : K → K → Ordering} {f : Flags} (eq_key : K → K → Bool) (eq_value : V → V → Bool)
    → IsTotalOrder order → ((x y : K) → eq_key x y ≡ is_eq (order x y)) → (e : K × V) (es : List (K × V)) → AllByRecursion (λ q. order e.0 q ≡ Less) (keys_of es) → (k t : Tree) (ps : Pairs)
    → GivesOnly (key (tree_under f k)) (gives_key (tree_under f k)) (λ y. eq_key e.0 y ≡ true)
    → GivesOnly (value (tree_under f t)) (gives_value (tree_under f t)) (λ y. eq_value e.1 y ≡ true)
    → EntriesBack key value gives_key gives_value order (same_entry eq_key eq_value) f es ps
    → EntriesBack key value gives_key gives_value order (same_entry eq_key eq_value) f (e ∷ es) (tree.pair_then k t ps)
entry_first {gives_key} {gives_value} {order} {f} eq_key eq_value total ties e es first k t ps one two others = record {
  free = both_free one.free (both_free two.free others.free);
  only = λ old new below h.
      let equal = one.only h.0 h.2 in
      let tied = (Equal-is (order e.0 h.0)).0 (sym (ties e.0 h.0) ∙ equal) in
      let last = inserted_last total old h.0 h.1 (below_equal total e.0 h.0 (keys_of es) tied old below) in
      let later = others.only (old ++ ((h.0, h.1) ∷ [])) new (below_later total e.0 h.0 h.1 (keys_of es) tied first old below)
      (subst (λ m. EntriesGive gives_key gives_value order f (entries_of_pairs ps) m new) last h.4) in
      ((h.0, h.1) ∷ later.0, later.1 ∙ append_assoc old ((h.0, h.1) ∷ []) later.0, both_hold (both_hold equal (two.only h.1 h.3)) later.2);
}

-- the first key of those that ascend is below the others
pub first_below : {K : Type 0} (order : K → K → Ordering) (k : K) (ks : List K) → IsStrictlySortedBy order (k ∷ ks) → AllByRecursion (λ q. order k q ≡ Less) ks
unfolding IsStrictlySortedBy
first_below order k ks h = h.0

-- and the others ascend
pub others_ascend : {K : Type 0} (order : K → K → Ordering) (k : K) (ks : List K) → IsStrictlySortedBy order (k ∷ ks) → IsStrictlySortedBy order ks
unfolding IsStrictlySortedBy
others_ascend order k ks h = h.1

-- entries that exist
entries_back : {K V : Type 0} {key_exists : K → Type 0} {value_exists : V → Type 0} {key_script : ScriptOf K} {value_script : ScriptOf V} {key value : Refusal} {gives_key : Gives K} {gives_value : Gives V}
    {order : K → K → Ordering} {eq_key : K → K → Bool} {eq_value : V → V → Bool} → IsTotalOrder order → ((x y : K) → eq_key x y ≡ is_eq (order x y))
    → ComesBack key_exists key_script key gives_key eq_key → ComesBack value_exists value_script value gives_value eq_value
    → (es : List (K × V)) → IsStrictlySortedBy order (keys_of es) → AllByRecursion (λ e. key_exists e.0 × value_exists e.1) es → (f : Flags)
    → Spelled (EntriesSuch (EntriesBack key value gives_key gives_value order (same_entry eq_key eq_value) f es)) (entries_script key_script value_script es f.human_readable)
entries_back {key} {value} {gives_key} {gives_value} {order} {eq_key} {eq_value} total ties keys values [] ascend each f =
    entries_end (EntriesBack key value gives_key gives_value order (same_entry eq_key eq_value) f []) no_entries
entries_back {key} {value} {gives_key} {gives_value} {order} {eq_key} {eq_value} total ties keys values (e ∷ es) ascend each f =
    entries_more
    (λ t. GivesOnly (key (tree_under f t)) (gives_key (tree_under f t)) (λ y. eq_key e.0 y ≡ true))
    (λ t. GivesOnly (value (tree_under f t)) (gives_value (tree_under f t)) (λ y. eq_value e.1 y ≡ true))
    (EntriesBack key value gives_key gives_value order (same_entry eq_key eq_value) f es)
    (EntriesBack key value gives_key gives_value order (same_entry eq_key eq_value) f (e ∷ es))
    (entry_first {key = key} {value = value} {gives_key = gives_key} {gives_value = gives_value} {order = order} {f = f} eq_key eq_value total ties e es (first_below order e.0 (keys_of es) ascend))
    (keys.of_value e.0 each.0.0 f) (values.of_value e.1 each.0.1 f) (entries_back total ties keys values es (others_ascend order e.0 (keys_of es) ascend) each.1 f)

-- a map
pub map_back : {K V : Type 0} {key_exists : K → Type 0} {value_exists : V → Type 0} {key_script : ScriptOf K} {value_script : ScriptOf V} {key value : Refusal} {gives_key : Gives K} {gives_value : Gives V}
    {order : K → K → Ordering} {eq_key : K → K → Bool} {eq_value : V → V → Bool} → IsTotalOrder order → ((x y : K) → eq_key x y ≡ is_eq (order x y))
    → ComesBack key_exists key_script key gives_key eq_key → ComesBack value_exists value_script value gives_value eq_value
    → ComesBack (EntriesExist key_exists value_exists order) (map_script key_script value_script) (λ s. refusal_then (map_at s) (map_refusal key value))
    (λ s es. IsTaken (map_at s) (λ l. MapGives gives_key gives_value order l [] es)) (pointwise (λ p q. eq_key p.0 q.0 && eq_value p.1 q.1))
map_back {eq_key} {eq_value} total ties keys values = record {
  of_value = λ es real f. such_spelled (spelled_call (λ calls rest e. (
    tree.map (pairs e.0),
    spells_map e.1,
    record {
      free = e.3.free;
      only = λ new h.
          let back = e.3.only [] new tt h in
          subst (λ ys. pointwise (same_entry eq_key eq_value) es ys ≡ true) (sym back.1) back.2;
    },
  )) (entries_back total ties keys values es real.ascend real.each f));
}

-- the entries that pairs may give
entries_keep : {K V : Type 0} {key value : Refusal} {gives_key : Gives K} {gives_value : Gives V} (order : K → K → Ordering) → CoercionKeeps key gives_key → CoercionKeeps value gives_value
    → (ps : Pairs) (h : Bool) (old new : List (K × V)) → entries_refusal key value (flags h false) (entries_of_pairs ps) ≡ None → EntriesGive gives_key gives_value order (flags h false) (entries_of_pairs ps) old new
    → MayGive (entries_refusal key value (flags h true) (entries_of_pairs ps)) (EntriesGive gives_key gives_value order (flags h true) (entries_of_pairs ps) old) new
entries_keep order keys values tree.no_pairs h old new free given = record { free = refl; given = given }
entries_keep order keys values (tree.pair_then k t ps) h old new free given =
    let later = second_free _ _ free in
    let one = keys.of_origin (of_tree k) h given.0 (record { free = first_free _ _ free; given = given.2 }) in
    let two = values.of_origin (of_tree t) h given.1 (record { free = first_free _ _ later; given = given.3 }) in
    let others = entries_keep order keys values ps h (insert_entry order old given.0 given.1) new (second_free _ _ later) given.4 in
    record { free = both_free one.free (both_free two.free others.free); given = (given.0, given.1, one.given, two.given, others.given) }

-- a map, whatever is read
map_kept : {K V : Type 0} {key value : Refusal} {gives_key : Gives K} {gives_value : Gives V} (order : K → K → Ordering) → CoercionKeeps key gives_key → CoercionKeeps value gives_value
    → (o : Origin) (h : Bool) (es : List (K × V))
    → MayGive (refusal_then (map_at (under (flags h false) o)) (map_refusal key value)) (λ new. IsTaken (map_at (under (flags h false) o)) (λ l. MapGives gives_key gives_value order l [] new)) es
    → MayGive (refusal_then (map_at (under (flags h true) o)) (map_refusal key value)) (λ new. IsTaken (map_at (under (flags h true) o)) (λ l. MapGives gives_key gives_value order l [] new)) es
map_kept order keys values (of_tree (tree.map ps)) h es p = let there = entries_keep order keys values ps h [] es p.free p.given in record { free = there.free; given = there.given }
map_kept order keys values o h es p = absurd p.given

-- a map
pub map_keeps : {K V : Type 0} {key value : Refusal} {gives_key : Gives K} {gives_value : Gives V} (order : K → K → Ordering) → CoercionKeeps key gives_key → CoercionKeeps value gives_value
    → CoercionKeeps (λ s. refusal_then (map_at s) (map_refusal key value)) (λ s es. IsTaken (map_at s) (λ l. MapGives gives_key gives_value order l [] es))
map_keeps order keys values = record { of_origin = λ o h es p. map_kept order keys values o h es p }
