-- What an edit at a place sees and leaves: either there is nothing, or one value is edited and the rest stays.
use Rattle.std.proofs.Common.{◌≡◌, ◌∙◌, ap, sym, refl, ℕ, zero, suc, Bool, true, false, List, [], ◌∷◌, ◌⊎◌, inl, inr}
use Rattle.std.proofs.Common.{Option, Some, None, option_map, option_and_then, if◌then◌else◌}
use Rattle.std.specs.Option.{is_some}
use Rattle.std.specs.Str.{bytes_eq}
use Rattle.std.proofs.lemmas.Option.{some_pair_parts, same_Some}
use Rattle.content_tree.specs.Values.Lookups.{is_text, last_field, last_value, or_else}
use Rattle.content_tree.specs.Values.PathEdits.{Edited, around, at_item, at_part_of, at_value, at_field, at_part}
use Rattle.content_tree.specs.Values.PathEdits.{Edits, at_entered, at_step, at_parts, replaced}
use Rattle.content_tree.specs.Values.Paths.{index_of}
use Rattle.content_tree.specs.Values.Pointers.{Place, at, entered, item_of, part_of, part_in, follow, value_at}
use Rattle.content_tree.specs.Values.Text.{Text}
use Rattle.content_tree.specs.Values.Tree as tree
use Rattle.content_tree.specs.Values.Tree.{Tree, TreeData, Trees, no_trees, tree_then}
use Rattle.content_tree.specs.Values.Tree.{Pairs, no_pairs, pair_then, Fields, no_fields, field_then}

-- an edit of a value in a whole
abbrev pub Way : Type 0 → Type 0
Way A = (Tree → Edited Tree) → A → Edited A

-- the value u is edited, and k puts another in its place
pub record Seen {A : Type 0} (way : Way A) (get : A → Option Tree) (whole : A) (u : Tree) (k : Tree → A) : Type 0 where
  pub found : get whole ≡ Some u
  pub same : k u ≡ whole
  pub made : (edit : Tree → Edited Tree) → way edit whole ≡ around k (edit u)
  pub put : (v : Tree) → get (k v) ≡ Some v
  pub again : (v : Tree) (edit : Tree → Edited Tree) → way edit (k v) ≡ around k (edit v)

-- there is nothing to edit
pub record Unseen {A : Type 0} (way : Way A) (get : A → Option Tree) (whole : A) : Type 0 where
  pub missing : get whole ≡ None
  pub unmade : (edit : Tree → Edited Tree) → way edit whole ≡ None

-- one or the other
abbrev pub Sight : {A : Type 0} → Way A → (A → Option Tree) → A → Type 0
Sight way get whole = ((u : Tree) × (k : Tree → _) × Seen way get whole u k) ⊎ Unseen way get whole

pub around_twice : {A B C : Type 0} (f : B → C) (g : A → B) (e : Edited A) → around f (around g e) ≡ around (λ x. f (g x)) e
around_twice f g None = refl
around_twice f g (Some e) = refl

around_same : {A : Type 0} (e : Edited A) → around (λ x. x) e ≡ e
around_same None = refl
around_same (Some e) = refl

-- what is seen in a part is seen in what is around it
pub sight_around : {A B : Type 0} (f : A → B) (way : Way A) (get : A → Option Tree) (way' : Way B) (get' : B → Option Tree)
    → ((edit : Tree → Edited Tree) (x : A) → way' edit (f x) ≡ around f (way edit x)) → ((x : A) → get' (f x) ≡ get x)
    → (x : A) → Sight way get x → Sight way' get' (f x)
sight_around f way get way' get' ways gets x (inl (u, k, s)) = inl (
  u,
  (λ v. f (k v)),
  record {
    found = gets x ∙ s.found;
    same = ap f s.same;
    made = λ edit. ways edit x ∙ (ap (around f) (s.made edit) ∙ around_twice f k (edit u));
    put = λ v. gets (k v) ∙ s.put v;
    again = λ v edit. ways edit (k v) ∙ (ap (around f) (s.again v edit) ∙ around_twice f k (edit v));
  },
)
sight_around f way get way' get' ways gets x (inr s) = inr (record {
  missing = gets x ∙ s.missing;
  unmade = λ edit. ways edit x ∙ ap (around f) (s.unmade edit);
})

-- what is seen in a value is seen through what finds that
through_seen : {A : Type 0} (way : Way A) (get : A → Option Tree) (inner : Way Tree) (next : Tree → Option Tree) (x : A) (u : Tree) (k : Tree → A)
    → Seen way get x u k → Sight inner next u → Sight (λ edit. way (inner edit)) (λ y. option_and_then next (get y)) x
through_seen way get inner next x u k s (inl (w, j, t)) = inl (
  w,
  (λ v. k (j v)),
  record {
    found = ap (option_and_then next) s.found ∙ t.found;
    same = ap k t.same ∙ s.same;
    made = λ edit. s.made (inner edit) ∙ (ap (around k) (t.made edit) ∙ around_twice k j (edit w));
    put = λ v. ap (option_and_then next) (s.put (j v)) ∙ t.put v;
    again = λ v edit. s.again (j v) (inner edit) ∙ (ap (around k) (t.again v edit) ∙ around_twice k j (edit v));
  },
)
through_seen way get inner next x u k s (inr t) = inr (record {
  missing = ap (option_and_then next) s.found ∙ t.missing;
  unmade = λ edit. s.made (inner edit) ∙ ap (around k) (t.unmade edit);
})

pub sight_through : {A : Type 0} (way : Way A) (get : A → Option Tree) (inner : Way Tree) (next : Tree → Option Tree) (x : A)
    → Sight way get x → ((u : Tree) → Sight inner next u) → Sight (λ edit. way (inner edit)) (λ y. option_and_then next (get y)) x
sight_through way get inner next x (inl (u, k, s)) deeper = through_seen way get inner next x u k s (deeper u)
sight_through way get inner next x (inr s) deeper = inr (record {
  missing = ap (option_and_then next) s.missing;
  unmade = λ edit. s.unmade (inner edit);
})

-- the same by another description of what is found
sight_same : {A : Type 0} (way : Way A) (get get' : A → Option Tree) → ((x : A) → get' x ≡ get x) → (x : A) → Sight way get x → Sight way get' x
sight_same way get get' gets x (inl (u, k, s)) = inl (
  u,
  k,
  record {
    found = gets x ∙ s.found;
    same = s.same;
    made = s.made;
    put = λ v. gets (k v) ∙ s.put v;
    again = s.again;
  },
)
sight_same way get get' gets x (inr s) = inr (record { missing = gets x ∙ s.missing; unmade = s.unmade })

-- ---- what a part sees

nothing : {A : Type 0} (way : Way A) (get : A → Option Tree) (x : A) → get x ≡ None → ((edit : Tree → Edited Tree) → way edit x ≡ None) → Sight way get x
nothing way get x missing unmade = inr (record { missing = missing; unmade = unmade })

item_sight : (n : ℕ) (ts : Trees) → Sight (λ edit. at_item edit n) (item_of n) ts
item_sight n no_trees = nothing (λ edit. at_item edit n) (item_of n) no_trees refl (λ edit. refl)
item_sight zero (tree_then t ts) = inl (
  t,
  (λ v. tree_then v ts),
  record {
    found = refl;
    same = refl;
    made = λ edit. refl;
    put = λ v. refl;
    again = λ v edit. refl;
  },
)
item_sight (suc n) (tree_then t ts) =
    sight_around (tree_then t) (λ edit. at_item edit n) (item_of n) (λ edit. at_item edit (suc n)) (item_of (suc n)) (λ edit x. refl) (λ x. refl) ts (item_sight n ts)

index_sight : (o : Option ℕ) (ts : Trees) → Sight (λ edit us. option_and_then (λ n. at_item edit n us) o) (λ us. option_and_then (λ n. item_of n us) o) ts
index_sight None ts = inr (record { missing = refl; unmade = λ edit. refl })
index_sight (Some n) ts = item_sight n ts

part_of_sight : (part : List ℕ) (ts : Trees) → Sight (λ edit. at_part_of edit part) (part_of part) ts
part_of_sight part ts = index_sight (index_of part) ts

-- a test that is taken
taken : {A : Type 0} (b : Bool) (x y : A) → b ≡ true → (if b then x else y) ≡ x
taken b x y is = ap (λ c. if c then x else y) is

passed : {A : Type 0} (b : Bool) (x y : A) → b ≡ false → (if b then x else y) ≡ y
passed b x y is = ap (λ c. if c then x else y) is

module _ (test : Tree → Bool) where
  entry_later : (edit : Tree → Edited Tree) (k t : Tree) (ps : Pairs) (u : Tree) → last_value test ps ≡ Some u
      → at_value edit test (pair_then k t ps) ≡ around (pair_then k t) (at_value edit test ps)
  entry_later edit k t ps u some = taken (is_some (last_value test ps)) _ _ (ap is_some some)

  entry_here : (edit : Tree → Edited Tree) (k t : Tree) (ps : Pairs) → last_value test ps ≡ None
      → at_value edit test (pair_then k t ps) ≡ (if test k then around (λ u. pair_then k u ps) (edit t) else None)
  entry_here edit k t ps none = passed (is_some (last_value test ps)) _ _ (ap is_some none)

  last_here : (k t : Tree) (ps : Pairs) → last_value test ps ≡ None → last_value test (pair_then k t ps) ≡ (if test k then Some t else None)
  last_here k t ps none = ap (λ o. or_else o (if test k then Some t else None)) none

  last_later : (k t u : Tree) (ps : Pairs) → last_value test ps ≡ Some u → last_value test (pair_then k t ps) ≡ Some u
  last_later k t u ps some = ap (λ o. or_else o (if test k then Some t else None)) some

  entry_step : (k t : Tree) (ps : Pairs) (b : Bool) → test k ≡ b → Sight (λ edit. at_value edit test) (last_value test) ps
      → Sight (λ edit. at_value edit test) (last_value test) (pair_then k t ps)
  entry_step k t ps b is (inl (u, j, s)) = inl (
    u,
    (λ v. pair_then k t (j v)),
    record {
      found = last_later k t u ps s.found;
      same = ap (pair_then k t) s.same;
      made = λ edit. entry_later edit k t ps u s.found ∙ (ap (around (pair_then k t)) (s.made edit) ∙ around_twice (pair_then k t) j (edit u));
      put = λ v. last_later k t v (j v) (s.put v);
      again = λ v edit. entry_later edit k t (j v) v (s.put v) ∙ (ap (around (pair_then k t)) (s.again v edit) ∙ around_twice (pair_then k t) j (edit v));
    },
  )
  entry_step k t ps true is (inr s) = inl (
    t,
    (λ v. pair_then k v ps),
    record {
      found = last_here k t ps s.missing ∙ taken (test k) _ _ is;
      same = refl;
      made = λ edit. entry_here edit k t ps s.missing ∙ taken (test k) _ _ is;
      put = λ v. last_here k v ps s.missing ∙ taken (test k) _ _ is;
      again = λ v edit. entry_here edit k v ps s.missing ∙ taken (test k) _ _ is;
    },
  )
  entry_step k t ps false is (inr s) = inr (record {
    missing = last_here k t ps s.missing ∙ passed (test k) _ _ is;
    unmade = λ edit. entry_here edit k t ps s.missing ∙ passed (test k) _ _ is;
  })

  entry_sight : (ps : Pairs) → Sight (λ edit. at_value edit test) (last_value test) ps
  entry_sight no_pairs = inr (record { missing = refl; unmade = λ edit. refl })
  entry_sight (pair_then k t ps) = entry_step k t ps (test k) refl (entry_sight ps)

module _ (key : List ℕ) where
  field_later : (edit : Tree → Edited Tree) (k : Text) (t : Tree) (fs : Fields) (u : Tree) → last_field key fs ≡ Some u
      → at_field edit key (field_then k t fs) ≡ around (field_then k t) (at_field edit key fs)
  field_later edit k t fs u some = taken (is_some (last_field key fs)) _ _ (ap is_some some)

  field_here : (edit : Tree → Edited Tree) (k : Text) (t : Tree) (fs : Fields) → last_field key fs ≡ None
      → at_field edit key (field_then k t fs) ≡ (if bytes_eq k.content key then around (λ u. field_then k u fs) (edit t) else None)
  field_here edit k t fs none = passed (is_some (last_field key fs)) _ _ (ap is_some none)

  named_here : (k : Text) (t : Tree) (fs : Fields) → last_field key fs ≡ None → last_field key (field_then k t fs) ≡ (if bytes_eq k.content key then Some t else None)
  named_here k t fs none = ap (λ o. or_else o (if bytes_eq k.content key then Some t else None)) none

  named_later : (k : Text) (t u : Tree) (fs : Fields) → last_field key fs ≡ Some u → last_field key (field_then k t fs) ≡ Some u
  named_later k t u fs some = ap (λ o. or_else o (if bytes_eq k.content key then Some t else None)) some

  field_step : (k : Text) (t : Tree) (fs : Fields) (b : Bool) → bytes_eq k.content key ≡ b → Sight (λ edit. at_field edit key) (last_field key) fs
      → Sight (λ edit. at_field edit key) (last_field key) (field_then k t fs)
  field_step k t fs b is (inl (u, j, s)) = inl (
    u,
    (λ v. field_then k t (j v)),
    record {
      found = named_later k t u fs s.found;
      same = ap (field_then k t) s.same;
      made = λ edit. field_later edit k t fs u s.found ∙ (ap (around (field_then k t)) (s.made edit) ∙ around_twice (field_then k t) j (edit u));
      put = λ v. named_later k t v (j v) (s.put v);
      again = λ v edit. field_later edit k t (j v) v (s.put v) ∙ (ap (around (field_then k t)) (s.again v edit) ∙ around_twice (field_then k t) j (edit v));
    },
  )
  field_step k t fs true is (inr s) = inl (
    t,
    (λ v. field_then k v fs),
    record {
      found = named_here k t fs s.missing ∙ taken (bytes_eq k.content key) _ _ is;
      same = refl;
      made = λ edit. field_here edit k t fs s.missing ∙ taken (bytes_eq k.content key) _ _ is;
      put = λ v. named_here k v fs s.missing ∙ taken (bytes_eq k.content key) _ _ is;
      again = λ v edit. field_here edit k v fs s.missing ∙ taken (bytes_eq k.content key) _ _ is;
    },
  )
  field_step k t fs false is (inr s) = inr (record {
    missing = named_here k t fs s.missing ∙ passed (bytes_eq k.content key) _ _ is;
    unmade = λ edit. field_here edit k t fs s.missing ∙ passed (bytes_eq k.content key) _ _ is;
  })

  field_sight : (fs : Fields) → Sight (λ edit. at_field edit key) (last_field key) fs
  field_sight no_fields = inr (record { missing = refl; unmade = λ edit. refl })
  field_sight (field_then k t fs) = field_step k t fs (bytes_eq k.content key) refl (field_sight fs)

part_sight : (part : List ℕ) (d : TreeData) → Sight (λ edit. at_part edit part) (part_in part) d
part_sight part (tree.many ts) =
    sight_around tree.many (λ edit. at_part_of edit part) (part_of part) (λ edit. at_part edit part) (part_in part) (λ edit x. refl) (λ x. refl) ts (part_of_sight part ts)
part_sight part (tree.named fs) =
    sight_around tree.named (λ edit. at_field edit part) (last_field part) (λ edit. at_part edit part) (part_in part) (λ edit x. refl) (λ x. refl) fs (field_sight part fs)
part_sight part d = inr (record { missing = refl; unmade = λ edit. refl })

-- ---- what parts see

-- the value that parts lead to
abbrev pub found : List (List ℕ) → Place → Option Tree
found parts place = option_and_then value_at (follow parts place)

-- from where a part leads
pub led : (parts : List (List ℕ)) (o : Option Tree) → option_and_then value_at (option_and_then (follow parts) (option_map at o)) ≡ option_and_then (λ u. found parts (at u)) o
led parts None = refl
led parts (Some u) = refl

-- what is seen in what a part finds is seen through it
sight_of : {A B : Type 0} (f : A → B) (way : Way A) (get : A → Option Tree) (parts : List (List ℕ)) (way' : Way B) (get' : B → Option Tree)
    → ((edit : Tree → Edited Tree) (x : A) → way' edit (f x) ≡ around f (way (at_parts edit parts).0 x))
    → ((x : A) → get' (f x) ≡ option_and_then value_at (option_and_then (follow parts) (option_map at (get x))))
    → (x : A) → Sight way get x → ((u : Tree) → Sight (λ edit. (at_parts edit parts).0) (λ t. found parts (at t)) u) → Sight way' get' (f x)
sight_of f way get parts way' get' ways gets x s deeper =
    sight_around f (λ edit. way (at_parts edit parts).0) (λ y. option_and_then (λ u. found parts (at u)) (get y)) way' get' ways
    (λ y. gets y ∙ led parts (get y)) x
    (sight_through way get (λ edit. (at_parts edit parts).0) (λ u. found parts (at u)) x s deeper)

-- what parts see in a value, and in a variant that is entered
pub record Sights (parts : List (List ℕ)) : Type 0 where
  pub value : (t : Tree) → Sight (λ edit. (at_parts edit parts).0) (λ u. found parts (at u)) t
  pub variant : (d : TreeData) → Sight (λ edit. at_entered (at_parts edit parts)) (λ e. found parts (entered e)) d

first_value : (t : Tree) → Sight (λ edit. (at_parts edit []).0) (λ u. found [] (at u)) t
first_value t = inl (
  t,
  (λ v. v),
  record {
    found = refl;
    same = refl;
    made = λ edit. sym (around_same (edit t));
    put = λ v. refl;
    again = λ v edit. sym (around_same (edit v));
  },
)

one_sight : (parts : List (List ℕ)) → ((t : Tree) → Sight (λ edit. (at_parts edit parts).0) (λ u. found parts (at u)) t) → (t : Tree)
    → Sight (λ edit. at_entered (at_parts edit parts)) (λ e. found parts (entered e)) (tree.one t)
one_sight parts values t =
    sight_around tree.one (λ edit. (at_parts edit parts).0) (λ u. found parts (at u)) (λ edit. at_entered (at_parts edit parts))
    (λ e. found parts (entered e)) (λ edit x. refl) (λ x. refl) t (values t)

first_variant : (d : TreeData) → Sight (λ edit. at_entered (at_parts edit [])) (λ e. found [] (entered e)) d
first_variant (tree.one t) = one_sight [] first_value t
first_variant d = inr (record { missing = refl; unmade = λ edit. refl })

module _ (part : List ℕ) (parts : List (List ℕ)) (deeper : Sights parts) where
  by_name : (n : Text) (i : ℕ) (v : Text) (d : TreeData) (b : Bool) → bytes_eq v.content part ≡ b
      → Sight (λ edit. (at_parts edit (part ∷ parts)).0) (λ u. found (part ∷ parts) (at u)) (tree.enumeration n i v d)
  by_name n i v d true is =
      sight_around (tree.enumeration n i v) (λ edit. at_entered (at_parts edit parts)) (λ e. found parts (entered e)) (λ edit. (at_parts edit (part ∷ parts)).0)
      (λ u. found (part ∷ parts) (at u)) (λ edit x. taken (bytes_eq v.content part) _ _ is)
      (λ x. ap (λ o. option_and_then value_at (option_and_then (follow parts) o)) (taken (bytes_eq v.content part) (Some (entered x)) None is)) d (deeper.variant d)
  by_name n i v d false is = inr (record {
    missing = ap (λ o. option_and_then value_at (option_and_then (follow parts) o)) (passed (bytes_eq v.content part) (Some (entered d)) None is);
    unmade = λ edit. passed (bytes_eq v.content part) _ _ is;
  })

  next_value : (t : Tree) → Sight (λ edit. (at_parts edit (part ∷ parts)).0) (λ u. found (part ∷ parts) (at u)) t
  next_value (tree.seq ts) =
      sight_of tree.seq (λ edit. at_part_of edit part) (part_of part) parts (λ edit. (at_parts edit (part ∷ parts)).0) (λ u. found (part ∷ parts) (at u))
      (λ edit x. refl) (λ x. refl) ts (part_of_sight part ts) deeper.value
  next_value (tree.tuple ts) =
      sight_of tree.tuple (λ edit. at_part_of edit part) (part_of part) parts (λ edit. (at_parts edit (part ∷ parts)).0) (λ u. found (part ∷ parts) (at u))
      (λ edit x. refl) (λ x. refl) ts (part_of_sight part ts) deeper.value
  next_value (tree.map ps) =
      sight_of tree.map (λ edit. at_value edit (is_text part)) (last_value (is_text part)) parts (λ edit. (at_parts edit (part ∷ parts)).0) (λ u. found (part ∷ parts) (at u))
      (λ edit x. refl) (λ x. refl) ps (entry_sight (is_text part) ps) deeper.value
  next_value (tree.structure n d) =
      sight_of (tree.structure n) (λ edit. at_part edit part) (part_in part) parts (λ edit. (at_parts edit (part ∷ parts)).0) (λ u. found (part ∷ parts) (at u))
      (λ edit x. refl) (λ x. refl) d (part_sight part d) deeper.value
  next_value (tree.enumeration n i v d) = by_name n i v d (bytes_eq v.content part) refl
  next_value t = inr (record { missing = refl; unmade = λ edit. refl })

  next_variant : (d : TreeData) → Sight (λ edit. at_entered (at_parts edit (part ∷ parts))) (λ e. found (part ∷ parts) (entered e)) d
  next_variant (tree.one t) = one_sight (part ∷ parts) next_value t
  next_variant (tree.many ts) =
      sight_of tree.many (λ edit. at_part_of edit part) (part_of part) parts (λ edit. at_entered (at_parts edit (part ∷ parts))) (λ e. found (part ∷ parts) (entered e))
      (λ edit x. refl) (λ x. refl) ts (part_of_sight part ts) deeper.value
  next_variant (tree.named fs) =
      sight_of tree.named (λ edit. at_field edit part) (last_field part) parts (λ edit. at_entered (at_parts edit (part ∷ parts))) (λ e. found (part ∷ parts) (entered e))
      (λ edit x. refl) (λ x. refl) fs (field_sight part fs) deeper.value
  next_variant d = inr (record { missing = refl; unmade = λ edit. refl })

pub sights : (parts : List (List ℕ)) → Sights parts
sights [] = record { value = first_value; variant = first_variant }
sights (part ∷ parts) = record { value = next_value part parts (sights parts); variant = next_variant part parts (sights parts) }

-- ---- what trades see

-- a value that was traded was found, and what another edit makes of it is known
pub record Traded (parts : List (List ℕ)) (t before x u : Tree) : Type 0 where
  pub seen : found parts (at t) ≡ Some u
  pub rest : Tree → Tree
  pub same : rest u ≡ t
  pub again : (v : Tree) → (at_parts (replaced v) parts).0 before ≡ Some (Some x, rest v)
  pub edited : (edit : Tree → Edited Tree) → (at_parts edit parts).0 t ≡ around rest (edit u)
  pub put : (v : Tree) → found parts (at (rest v)) ≡ Some v

traded_in_sight : (parts : List (List ℕ)) (t before x u : Tree) → Sight (λ edit. (at_parts edit parts).0) (λ y. found parts (at y)) t
    → (at_parts (replaced x) parts).0 t ≡ Some (Some u, before) → Traded parts t before x u
traded_in_sight parts t before x u (inl (w, k, s)) h =
    let ends = some_pair_parts (Some w) (Some u) (k x) before (sym (s.made (replaced x)) ∙ h) in
    let is : w ≡ u = same_Some w u ends.0 in
    record {
      seen = s.found ∙ ap Some is;
      rest = k;
      same = ap k (sym is) ∙ s.same;
      again = λ v. ap (at_parts (replaced v) parts).0 (sym ends.1) ∙ s.again x (replaced v);
      edited = λ edit. s.made edit ∙ ap (λ y. around k (edit y)) is;
      put = s.put;
    }
traded_in_sight parts t before x u (inr s) h = let none = s.unmade (replaced x) in absurd (cc (none, h))

pub traded_seen : (parts : List (List ℕ)) (t before x u : Tree) → (at_parts (replaced x) parts).0 t ≡ Some (Some u, before) → Traded parts t before x u
traded_seen parts t before x u h = traded_in_sight parts t before x u ((sights parts).value t) h

-- where nothing can be traded, nothing is found or edited
pub record Untraded (parts : List (List ℕ)) (t : Tree) : Type 0 where
  pub missing : found parts (at t) ≡ None
  pub unmade : (edit : Tree → Edited Tree) → (at_parts edit parts).0 t ≡ None

untraded_in_sight : (parts : List (List ℕ)) (t x : Tree) → Sight (λ edit. (at_parts edit parts).0) (λ y. found parts (at y)) t
    → (at_parts (replaced x) parts).0 t ≡ None → Untraded parts t
untraded_in_sight parts t x (inl (w, k, s)) h = let some = s.made (replaced x) in absurd (cc (some, h))
untraded_in_sight parts t x (inr s) h = record { missing = s.missing; unmade = s.unmade }

pub untraded_seen : (parts : List (List ℕ)) (t x : Tree) → (at_parts (replaced x) parts).0 t ≡ None → Untraded parts t
untraded_seen parts t x h = untraded_in_sight parts t x ((sights parts).value t) h
