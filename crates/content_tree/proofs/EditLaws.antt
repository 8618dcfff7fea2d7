-- Laws of edits.
use Rattle.std.proofs.Common.{◌≡◌, ◌∙◌, ◌+◌, ap, sym, refl, ℕ, arith, Bool, true, false}
use Rattle.std.proofs.Common.{Option, Some, None, option_map, unwrap_or, if◌then◌else◌}
use Rattle.content_tree.proofs.Editing.{or_none, if_none, none_replaced, none_removed}
use Rattle.content_tree.specs.Laws.Edits.{InsertedIsGot, OthersStay, equal_keys, RemovedIsGone}
use Rattle.content_tree.specs.Laws.Edits.{LastIsRemoved, OthersRemain, InsertedThenRemoved}
use Rattle.content_tree.specs.Laws.RankedTree.{tree_equiv}
use Rattle.content_tree.specs.Orders.Trees.{same_tree}
use Rattle.content_tree.specs.Values.Edits.{inserted, removed, pair_added, value_replaced, pair_removed, value_put}
use Rattle.content_tree.specs.Values.Lookups.{lookup, last_value, or_else}
use Rattle.content_tree.specs.Values.Tree.{Tree, map, Pairs, no_pairs, pair_then}

unmapped : {A B : Type 0} (f : A → B) (o : Option A) → option_map f o ≡ None → o ≡ None
unmapped f None h = refl
unmapped f (Some x) h = absurd (cc h)

or_nothing : {A : Type 0} (o : Option A) → or_else o None ≡ o
or_nothing None = refl
or_nothing (Some x) = refl

-- no key gets another value only where none passes
unreplaced : (test : Tree → Bool) (v : Tree) (ps : Pairs) → value_replaced test v ps ≡ None → last_value test ps ≡ None
unreplaced test v no_pairs h = refl
unreplaced test v (pair_then k t ps) h =
    let parts = or_none (option_map (pair_then k t) (value_replaced test v ps)) (if test k then Some (pair_then k v ps) else None) h in
    ap (λ o. or_else o (if test k then Some t else None)) (unreplaced test v ps (unmapped (pair_then k t) (value_replaced test v ps) parts.0))
    ∙ ap (λ b. if b then Some t else None) (if_none (test k) (pair_then k v ps) parts.1)

-- the value that was put is found
got_here : (test : Tree → Bool) (v k : Tree) (ps qs : Pairs) (b : Bool) → test k ≡ b → last_value test ps ≡ None
    → (if b then Some (pair_then k v ps) else None) ≡ Some qs → last_value test qs ≡ Some v
got_here test v k ps qs true is none h =
    let e : pair_then k v ps ≡ qs = cc h in
    ap (last_value test) (sym e) ∙ (ap (λ o. or_else o (if test k then Some v else None)) none ∙ ap (λ b. if b then Some v else None) is)
got_here test v k ps qs false is none h = absurd (cc h)

got_step : (test : Tree → Bool) (v k t : Tree) (ps qs : Pairs) (o : Option Pairs) → value_replaced test v ps ≡ o
    → ((rs : Pairs) → o ≡ Some rs → last_value test rs ≡ Some v)
    → or_else (option_map (pair_then k t) o) (if test k then Some (pair_then k v ps) else None) ≡ Some qs → last_value test qs ≡ Some v
got_step test v k t ps qs (Some rs) is ih h =
    let e : pair_then k t rs ≡ qs = cc h in
    ap (last_value test) (sym e) ∙ ap (λ o. or_else o (if test k then Some t else None)) (ih rs refl)
got_step test v k t ps qs None is ih h = got_here test v k ps qs (test k) refl (unreplaced test v ps is) h

got_put : (test : Tree → Bool) (v : Tree) (ps qs : Pairs) → value_replaced test v ps ≡ Some qs → last_value test qs ≡ Some v
got_put test v no_pairs qs h = absurd (cc h)
got_put test v (pair_then k t ps) qs h =
    got_step test v k t ps qs (value_replaced test v ps) refl (λ rs e. got_put test v ps rs e) h

-- a pair after the last is found
pub got_added : (test : Tree → Bool) (key v : Tree) (ps : Pairs) → test key ≡ true → last_value test (pair_added key v ps) ≡ Some v
got_added test key v no_pairs is = ap (λ b. if b then Some v else None) is
got_added test key v (pair_then k t ps) is = ap (λ o. or_else o (if test k then Some t else None)) (got_added test key v ps is)

put_is_got : (test : Tree → Bool) (key v : Tree) (ps : Pairs) (o : Option Pairs) → test key ≡ true → value_replaced test v ps ≡ o
    → last_value test (unwrap_or o (pair_added key v ps)) ≡ Some v
put_is_got test key v ps None is none = got_added test key v ps is
put_is_got test key v ps (Some qs) is some = got_put test v ps qs some

pub inserted_is_got : InsertedIsGot
inserted_is_got key v (map ps) u h =
    let test : Tree → Bool = λ k. same_tree k key in
    let e : map (value_put key v ps) ≡ u = cc h in
    ap (lookup key) (sym e) ∙ put_is_got test key v ps (value_replaced test v ps) (tree_equiv.refl key) refl
inserted_is_got key v t u h = absurd (cc h)

-- what a key finds that isn't the changed one
module _ (test other : Tree → Bool) (apart : (k : Tree) → test k ≡ true → other k ≡ false) where
  other_here : (v k t : Tree) (ps qs : Pairs) (b : Bool) → test k ≡ b
      → (if b then Some (pair_then k v ps) else None) ≡ Some qs → last_value other qs ≡ last_value other (pair_then k t ps)
  other_here v k t ps qs true is h =
      let e : pair_then k v ps ≡ qs = cc h in
      let differs = apart k is in
      ap (last_value other) (sym e) ∙ (ap (λ b. or_else (last_value other ps) (if b then Some v else None)) differs
      ∙ sym (ap (λ b. or_else (last_value other ps) (if b then Some t else None)) differs))
  other_here v k t ps qs false is h = absurd (cc h)

  other_step : (v k t : Tree) (ps qs : Pairs) (o : Option Pairs) → ((rs : Pairs) → o ≡ Some rs → last_value other rs ≡ last_value other ps)
      → or_else (option_map (pair_then k t) o) (if test k then Some (pair_then k v ps) else None) ≡ Some qs
      → last_value other qs ≡ last_value other (pair_then k t ps)
  other_step v k t ps qs (Some rs) ih h =
      let e : pair_then k t rs ≡ qs = cc h in
      ap (last_value other) (sym e) ∙ ap (λ o. or_else o (if other k then Some t else None)) (ih rs refl)
  other_step v k t ps qs None ih h = other_here v k t ps qs (test k) refl h

  other_put : (v : Tree) (ps qs : Pairs) → value_replaced test v ps ≡ Some qs → last_value other qs ≡ last_value other ps
  other_put v no_pairs qs h = absurd (cc h)
  other_put v (pair_then k t ps) qs h = other_step v k t ps qs (value_replaced test v ps) (λ rs e. other_put v ps rs e) h

  other_added : (key v : Tree) (ps : Pairs) → other key ≡ false → last_value other (pair_added key v ps) ≡ last_value other ps
  other_added key v no_pairs differs = ap (λ b. if b then Some v else None) differs
  other_added key v (pair_then k t ps) differs = ap (λ o. or_else o (if other k then Some t else None)) (other_added key v ps differs)

  others_stay_by : (key v : Tree) (ps : Pairs) (o : Option Pairs) → other key ≡ false → value_replaced test v ps ≡ o
      → last_value other (unwrap_or o (pair_added key v ps)) ≡ last_value other ps
  others_stay_by key v ps None differs none = other_added key v ps differs
  others_stay_by key v ps (Some qs) differs some = other_put v ps qs some

  left_here : (k t : Tree) (ps qs : Pairs) (b : Bool) → test k ≡ b
      → (if b then Some ps else None) ≡ Some qs → last_value other qs ≡ last_value other (pair_then k t ps)
  left_here k t ps qs true is h =
      let e : ps ≡ qs = cc h in
      ap (last_value other) (sym e) ∙ (sym (or_nothing (last_value other ps))
      ∙ sym (ap (λ b. or_else (last_value other ps) (if b then Some t else None)) (apart k is)))
  left_here k t ps qs false is h = absurd (cc h)

  left_step : (k t : Tree) (ps qs : Pairs) (o : Option Pairs) → ((rs : Pairs) → o ≡ Some rs → last_value other rs ≡ last_value other ps)
      → or_else (option_map (pair_then k t) o) (if test k then Some ps else None) ≡ Some qs
      → last_value other qs ≡ last_value other (pair_then k t ps)
  left_step k t ps qs (Some rs) ih h =
      let e : pair_then k t rs ≡ qs = cc h in
      ap (last_value other) (sym e) ∙ ap (λ o. or_else o (if other k then Some t else None)) (ih rs refl)
  left_step k t ps qs None ih h = left_here k t ps qs (test k) refl h

  other_left : (ps qs : Pairs) → pair_removed test ps ≡ Some qs → last_value other qs ≡ last_value other ps
  other_left no_pairs qs h = absurd (cc h)
  other_left (pair_then k t ps) qs h = left_step k t ps qs (pair_removed test ps) (λ rs e. other_left ps rs e) h

  others_remain_by : (ps : Pairs) (o : Option Pairs) → pair_removed test ps ≡ o → last_value other (unwrap_or o ps) ≡ last_value other ps
  others_remain_by ps None none = refl
  others_remain_by ps (Some qs) some = other_left ps qs some

-- a key that equals this one equals no key that doesn't
apart_from : (key other : Tree) → same_tree key other ≡ false → (k : Tree) → same_tree k key ≡ true → same_tree k other ≡ false
apart_from key other differs k is = tree_equiv.congr k key other is ∙ differs

pub others_stay : OthersStay
others_stay key v (map ps) u other h differs =
    let test : Tree → Bool = λ k. same_tree k key in
    let e : map (value_put key v ps) ≡ u = cc h in
    ap (lookup other) (sym e)
    ∙ others_stay_by test (λ k. same_tree k other) (apart_from key other differs) key v ps (value_replaced test v ps) differs refl
others_stay key v t u other h differs = absurd (cc h)

pub others_remain : OthersRemain
others_remain key (map ps) other differs =
    let test : Tree → Bool = λ k. same_tree k key in
    others_remain_by test (λ k. same_tree k other) (apart_from key other differs) ps (pair_removed test ps) refl
others_remain key t other differs = refl

-- a pair after the last, whose key passes, is the one that is removed
removed_last : (test : Tree → Bool) (k v : Tree) (ps : Pairs) → test k ≡ true → pair_removed test (pair_added k v ps) ≡ Some ps
removed_last test k v no_pairs is = ap (λ b. if b then Some no_pairs else None) is
removed_last test k v (pair_then j t ps) is =
    ap (λ o. or_else (option_map (pair_then j t) o) (if test j then Some (pair_added k v ps) else None)) (removed_last test k v ps is)

pub last_is_removed : LastIsRemoved
last_is_removed key k v ps is =
    let test : Tree → Bool = λ j. same_tree j key in
    ap (λ o. map (unwrap_or o (pair_added k v ps))) (removed_last test k v ps is)

pub inserted_then_removed : InsertedThenRemoved
inserted_then_removed key v (map ps) u none h =
    let test : Tree → Bool = λ k. same_tree k key in
    let e : map (value_put key v ps) ≡ u = cc h in
    let added : value_put key v ps ≡ pair_added key v ps = ap (λ o. unwrap_or o (pair_added key v ps)) (none_replaced test v ps none) in
    ap (removed test) (sym e) ∙ (ap (λ qs. removed test (map qs)) added ∙ last_is_removed key key v ps (tree_equiv.refl key))
inserted_then_removed key v t u none h = absurd (cc h)

-- where no key equals this one, it finds nothing
none_here : (key k t : Tree) (ps : Pairs) (b : Bool) → same_tree k key ≡ b → (equal_keys key ps ≡ 0 → last_value (λ j. same_tree j key) ps ≡ None)
    → equal_keys key (pair_then k t ps) ≡ 0 → last_value (λ j. same_tree j key) (pair_then k t ps) ≡ None
none_here key k t ps true is ih h =
    let some : 1 + equal_keys key ps ≡ 0 = sym (ap (λ b. (if b then 1 else 0) + equal_keys key ps) is) ∙ h in
    absurd (omega arith)
none_here key k t ps false is ih h =
    let rest : 0 + equal_keys key ps ≡ 0 = sym (ap (λ b. (if b then 1 else 0) + equal_keys key ps) is) ∙ h in
    ap (λ o. or_else o (if same_tree k key then Some t else None)) (ih (omega arith)) ∙ ap (λ b. if b then Some t else None) is

none_equal : (key : Tree) (ps : Pairs) → equal_keys key ps ≡ 0 → last_value (λ k. same_tree k key) ps ≡ None
none_equal key no_pairs h = refl
none_equal key (pair_then k t ps) h = none_here key k t ps (same_tree k key) refl (none_equal key ps) h

-- where one does, it finds nothing after the removal
gone_else : (test : Tree → Bool) (k t : Tree) (ps : Pairs) (o : Option Pairs) → test k ≡ false → last_value test (unwrap_or o ps) ≡ None
    → last_value test (unwrap_or (or_else (option_map (pair_then k t) o) (if test k then Some ps else None)) (pair_then k t ps)) ≡ None
gone_else test k t ps None is ih =
    ap (λ b. last_value test (unwrap_or (if b then Some ps else None) (pair_then k t ps))) is
    ∙ (ap (λ o. or_else o (if test k then Some t else None)) ih ∙ ap (λ b. if b then Some t else None) is)
gone_else test k t ps (Some rs) is ih =
    ap (λ o. or_else o (if test k then Some t else None)) ih ∙ ap (λ b. if b then Some t else None) is

gone_here : (key k t : Tree) (ps : Pairs) (b : Bool) → same_tree k key ≡ b
    → (equal_keys key ps ≡ 1 → last_value (λ j. same_tree j key) (unwrap_or (pair_removed (λ j. same_tree j key) ps) ps) ≡ None)
    → equal_keys key (pair_then k t ps) ≡ 1
    → last_value (λ j. same_tree j key) (unwrap_or (pair_removed (λ j. same_tree j key) (pair_then k t ps)) (pair_then k t ps)) ≡ None
gone_here key k t ps true is ih h =
    let test : Tree → Bool = λ j. same_tree j key in
    let one : 1 + equal_keys key ps ≡ 1 = sym (ap (λ b. (if b then 1 else 0) + equal_keys key ps) is) ∙ h in
    let none = none_equal key ps (omega arith) in
    ap (λ o. last_value test (unwrap_or (or_else (option_map (pair_then k t) o) (if test k then Some ps else None)) (pair_then k t ps))) (none_removed test ps none)
    ∙ (ap (λ b. last_value test (unwrap_or (if b then Some ps else None) (pair_then k t ps))) is ∙ none)
gone_here key k t ps false is ih h =
    let test : Tree → Bool = λ j. same_tree j key in
    let one : 0 + equal_keys key ps ≡ 1 = sym (ap (λ b. (if b then 1 else 0) + equal_keys key ps) is) ∙ h in
    gone_else test k t ps (pair_removed test ps) is (ih (omega arith))

pub removed_is_gone : RemovedIsGone
removed_is_gone key no_pairs h = absurd (omega arith)
removed_is_gone key (pair_then k t ps) h = gone_here key k t ps (same_tree k key) refl (removed_is_gone key ps) h
