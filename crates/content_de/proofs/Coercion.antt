-- What is taken is taken with coercion too.
use Rattle.std.proofs.Common.{◌≡◌, ℕ, ℤ, List, Bool, true, false, Option, Some, None, option_map}
use Rattle.std.proofs.Common.{◌&&◌, ◌||◌, if◌then◌else◌, refl, ap, ◌∙◌}
use Rattle.content_tree.specs.Errors.Cause.{Cause}
use Rattle.content_tree.specs.Values.Tree as tree
use Rattle.content_tree.specs.Values.Ranges.{NumberKind, in_range, is_of_kind, number_value}
use Rattle.content_de.specs.Sources.Origin.{Origin, of_tree, Flags, Subject, under}
use Rattle.content_de.specs.Outcomes.{Outcome, taken, refused, misfit, outcome_map, IsRefused}
use Rattle.content_de.specs.Requests.Data.{or_else}
use Rattle.content_de.specs.Requests.Leaves.{held_by}
use Rattle.content_de.specs.Requests.Numbers.{number_at, expected_number}
use Rattle.content_de.specs.Requests.Compounds.{newtype_from, items_from, tuple_from}
use Rattle.content_de.specs.Requests.Compounds.{tuple_struct_from, entries_from, struct_from}
use Rattle.content_de.specs.Accesses.Enum.{enum_from, one_held, many_held, entries_held}
use Rattle.content_de.specs.Accesses.Node.{shape_at}
use Rattle.content_de.specs.Laws.{CoercionKeeps, Keeps, coercing, coerced, coerced_seq, coerced_map}
use Rattle.content_de.specs.Laws.{coerced_enum, coerced_shape}

-- a request that answers the same with coercion, but for what this makes of the datum
kept : {S A : Type 0} (source : S → S) (datum : A → A) (request : S → Outcome A) → ((s : S) → request (source s) ≡ outcome_map datum (request s)) → Keeps source datum request
kept source datum request moved s a e = moved s ∙ ap (outcome_map datum) e

-- what is made of a datum, at once or in two steps
mapped_twice : {A B C : Type 0} (f : A → B) (g : B → C) (o : Outcome A) → outcome_map (λ a. g (f a)) o ≡ outcome_map g (outcome_map f o)
mapped_twice f g (taken a) = refl
mapped_twice f g (refused c) = refl

-- the same of what was looked for
found_twice : {A B C : Type 0} (f : A → B) (g : B → C) (o : Option A) (c : Cause) → or_else (option_map (λ a. g (f a)) o) (refused c) ≡ outcome_map g (or_else (option_map f o) (refused c))
found_twice f g (Some a) c = refl
found_twice f g None c = refl

-- a number that is taken is taken with coercion
number_taken : (is inside coerces : Bool) (v z : ℤ) (o : Outcome ℤ) → IsRefused o
    → or_else (if is || (coerces && inside) then Some v else None) o ≡ taken z → or_else (if is || (true && inside) then Some v else None) o ≡ taken z
number_taken true inside coerces v z o r e = e
number_taken false inside true v z o r e = e
number_taken false inside false v z (taken y) r e = absurd r
number_taken false inside false v z (refused c) r e = absurd (cc e)

-- the same, whatever is read
number_kept : (k : NumberKind) (coerces : Bool) (o : Origin) (z : ℤ) → number_at k coerces o ≡ taken z → number_at k true o ≡ taken z
number_kept k coerces (of_tree (tree.number n)) z e =
    number_taken (is_of_kind k n) (in_range k (number_value n)) coerces (number_value n) z (misfit (of_tree (tree.number n)) (expected_number k)) tt e
number_kept k coerces o z e = e

-- what is held, or none, as a test says
either_moved : (none : Bool) (s : Subject) → (if none then None else Some (coerced s)) ≡ option_map coerced (if none then None else Some s)
either_moved true s = refl
either_moved false s = refl

-- what an option holds
held_moved : (f : Flags) (o : Origin) → held_by (under (coercing f) o) ≡ option_map coerced (held_by (under f o))
held_moved f (of_tree tree.absent) = refl
held_moved f (of_tree (tree.present t)) = refl
held_moved f (of_tree tree.unit) = either_moved f.buffered (under f (of_tree tree.unit))
held_moved f o = refl

-- what a newtype struct holds
newtype_moved : (name : List ℕ) (f : Flags) (o : Origin) → newtype_from name (under (coercing f) o) ≡ outcome_map coerced (newtype_from name (under f o))
newtype_moved name f (of_tree (tree.structure n tree.no_data)) = refl
newtype_moved name f (of_tree (tree.structure n (tree.one t))) = refl
newtype_moved name f (of_tree (tree.structure n (tree.many ts))) = refl
newtype_moved name f (of_tree (tree.structure n (tree.named fs))) = refl
newtype_moved name f o = refl

-- a variant with its tag
enum_moved : (name : List ℕ) (f : Flags) (o : Origin) → enum_from name (coercing f) o ≡ outcome_map coerced_enum (enum_from name f o)
enum_moved name f (of_tree (tree.map tree.no_pairs)) = refl
enum_moved name f (of_tree (tree.map (tree.pair_then k t tree.no_pairs))) = refl
enum_moved name f (of_tree (tree.map (tree.pair_then k t (tree.pair_then l u ps)))) = refl
enum_moved name f o = refl

-- what any source is
shape_moved : (f : Flags) (o : Origin) → shape_at (under (coercing f) o) ≡ coerced_shape (shape_at (under f o))
shape_moved f (of_tree (tree.structure n tree.no_data)) = refl
shape_moved f (of_tree (tree.structure n (tree.one t))) = refl
shape_moved f (of_tree (tree.structure n (tree.many ts))) = refl
shape_moved f (of_tree (tree.structure n (tree.named fs))) = refl
shape_moved f o = refl

-- each request
pub coercion_kept : CoercionKeeps
coercion_kept = (
  record {
    bool = λ s a e. e;
    character = λ s a e. e;
    number = λ k s a e. number_kept k s.flags.coerces s.origin a e;
    text = λ s a e. e;
    octets = λ s a e. e;
    identifier = λ s a e. e;
    unit = λ s a e. e;
    option = kept coerced _ _ (λ s. ap taken (held_moved s.flags s.origin));
    unit_struct = λ name s a e. e;
    newtype_struct = λ name. kept _ _ _ (λ s. newtype_moved name s.flags s.origin);
    seq = kept _ _ _ (λ s. mapped_twice _ coerced_seq (items_from s.origin));
    tuple = λ len. kept _ _ _ (λ s. mapped_twice _ coerced_seq (tuple_from len s.origin));
    tuple_struct = λ name. kept _ _ _ (λ s. mapped_twice _ coerced_seq (tuple_struct_from name s.origin));
    map = kept _ _ _ (λ s. mapped_twice _ coerced_map (entries_from s.origin));
    struct = λ name. kept _ _ _ (λ s. mapped_twice _ coerced_map (struct_from name s.origin));
    enumeration = λ name. kept _ _ _ (λ s. enum_moved name s.flags s.origin);
    ignored = λ s a e. e;
    any = kept _ _ _ (λ s. ap taken (shape_moved s.flags s.origin));
  },
  record {
    unit = λ v a e. e;
    newtype = kept _ _ _ (λ v. found_twice _ coerced (one_held v.held) _);
    tuple = kept _ _ _ (λ v. found_twice _ coerced_seq (many_held v.held) _);
    struct = kept _ _ _ (λ v. found_twice _ coerced_map (entries_held v.held) _);
  },
)
