-- Untagged enums come back where what each variant takes tells it apart from the others: its class of trees, or how many values.
use Rattle.std.specs.Prelude.{◌≡◌, ℕ, ◌+◌, false, List, Option, None, Some, IsSome, nat_eq, refl}
use Rattle.std.proofs.Common.{subst, sym, arith, ◌∙◌}
use Rattle.std.proofs.lemmas.Cmp.{nat_eq_equiv}
use Rattle.content_tree.specs.Values.Ranges.{NumberKind}
use Rattle.content_tree.specs.Values.Tree as tree
use Rattle.content_tree.specs.Values.Tree.{Tree, Trees, count}
use Rattle.content_tree.specs.Errors.Cause.{Cause}
use Rattle.content_ser.specs.Scripts.Script.{Script}
use Rattle.content_de.specs.Sources.Origin.{of_tree, Flags, tree_under, buffering}
use Rattle.content_de.specs.Outcomes.{refusal_of, refusal_then}
use Rattle.content_de.specs.Requests.Leaves.{bool_from, char_from, unit_from, text_from}
use Rattle.content_de.specs.Requests.Numbers.{number_from}
use Rattle.content_de.specs.Accesses.Seq.{SeqLeft, seq_at, tuple_at, items_under}
use Rattle.content_de.specs.Accesses.Map.{MapLeft, map_at, struct_at}
use Rattle.content_de.specs.Reads.Attempts.{or_next}
use Rattle.content_de.specs.Reads.Read.{Refusal}
use Rattle.content_de.specs.Reads.Tuples.{part_then, end_of_parts}
use Rattle.serde_content.specs.RoundTrip.{SpellsSuch}
use Rattle.serde_content.specs.Laws.Holders.{second_free}

-- the classes of trees
abbrev pub units : ℕ
units = 0

abbrev pub booleans : ℕ
booleans = 1

abbrev pub numbers : ℕ
numbers = 2

abbrev pub characters : ℕ
characters = 3

abbrev pub texts : ℕ
texts = 4

-- sequences and tuples
abbrev pub rows : ℕ
rows = 5

-- maps and structs
abbrev pub records : ℕ
records = 6

-- all else
abbrev pub others : ℕ
others = 7

-- the class of a tree
abbrev pub class_of : Tree → ℕ
class_of tree.unit = units
class_of (tree.boolean b) = booleans
class_of (tree.number n) = numbers
class_of (tree.character c) = characters
class_of (tree.text t) = texts
class_of (tree.seq ts) = rows
class_of (tree.tuple ts) = rows
class_of (tree.map ps) = records
class_of (tree.structure n d) = records
class_of t = others

-- how many values a sequence or a tuple has
abbrev pub row_length : Tree → ℕ
row_length (tree.seq ts) = count ts
row_length (tree.tuple ts) = count ts
row_length t = 0

-- in a buffer, a tree is refused in which this sees anything else
pub record TakesOnly (see : Tree → ℕ) (one : ℕ) (refusal : Refusal) : Type 0 where
  pub sees : (f : Flags) (t : Tree) → refusal (tree_under (buffering f) t) ≡ None → see t ≡ one

-- the unit
unit_class : (t : Tree) → refusal_of (unit_from (of_tree t)) ≡ None → class_of t ≡ units
unit_class tree.unit free = refl
unit_class t free = absurd (cc free)

pub unit_takes : TakesOnly class_of units (λ s. refusal_of (unit_from s.origin))
unit_takes = record { sees = λ f t free. unit_class t free }

-- a boolean
bool_class : (t : Tree) → refusal_of (bool_from (of_tree t)) ≡ None → class_of t ≡ booleans
bool_class (tree.boolean b) free = refl
bool_class t free = absurd (cc free)

pub bool_takes : TakesOnly class_of booleans (λ s. refusal_of (bool_from s.origin))
bool_takes = record { sees = λ f t free. bool_class t free }

-- a number of a kind
number_class : (k : NumberKind) (f : Flags) (t : Tree) → refusal_of (number_from k (tree_under f t)) ≡ None → class_of t ≡ numbers
number_class k f (tree.number n) free = refl
number_class k f t free = absurd (cc free)

pub number_takes : (k : NumberKind) → TakesOnly class_of numbers (λ s. refusal_of (number_from k s))
number_takes k = record { sees = λ f t free. number_class k (buffering f) t free }

-- a character
char_class : (t : Tree) → refusal_of (char_from (of_tree t)) ≡ None → class_of t ≡ characters
char_class (tree.character c) free = refl
char_class t free = absurd (cc free)

pub char_takes : TakesOnly class_of characters (λ s. refusal_of (char_from s.origin))
char_takes = record { sees = λ f t free. char_class t free }

-- a text
text_class : (t : Tree) → refusal_of (text_from (of_tree t)) ≡ None → class_of t ≡ texts
text_class (tree.text c) free = refl
text_class t free = absurd (cc free)

pub text_takes : TakesOnly class_of texts (λ s. refusal_of (text_from s.origin))
text_takes = record { sees = λ f t free. text_class t free }

-- a sequence
seq_class : (items : SeqLeft → Option Cause) (f : Flags) (t : Tree) → refusal_then (seq_at (tree_under f t)) items ≡ None → class_of t ≡ rows
seq_class items f (tree.seq ts) free = refl
seq_class items f t free = absurd (cc free)

pub seq_takes : {items : SeqLeft → Option Cause} → TakesOnly class_of rows (λ s. refusal_then (seq_at s) items)
seq_takes {items} = record { sees = λ f t free. seq_class items (buffering f) t free }

-- a tuple
tuple_class : (len : ℕ) (items : SeqLeft → Option Cause) (f : Flags) (t : Tree) → refusal_then (tuple_at len (tree_under f t)) items ≡ None → class_of t ≡ rows
tuple_class len items f (tree.seq ts) free = refl
tuple_class len items f (tree.tuple ts) free = refl
tuple_class len items f t free = absurd (cc free)

pub tuple_takes : {len : ℕ} {items : SeqLeft → Option Cause} → TakesOnly class_of rows (λ s. refusal_then (tuple_at len s) items)
tuple_takes {len} {items} = record { sees = λ f t free. tuple_class len items (buffering f) t free }

-- a map
map_class : (entries : MapLeft → Option Cause) (f : Flags) (t : Tree) → refusal_then (map_at (tree_under f t)) entries ≡ None → class_of t ≡ records
map_class entries f (tree.map ps) free = refl
map_class entries f t free = absurd (cc free)

pub map_takes : {entries : MapLeft → Option Cause} → TakesOnly class_of records (λ s. refusal_then (map_at s) entries)
map_takes {entries} = record { sees = λ f t free. map_class entries (buffering f) t free }

-- a struct of values by key
struct_class : (name : List ℕ) (fields : MapLeft → Option Cause) (f : Flags) (t : Tree) → refusal_then (struct_at name (tree_under f t)) fields ≡ None → class_of t ≡ records
struct_class name fields f (tree.map ps) free = refl
struct_class name fields f (tree.structure n d) free = refl
struct_class name fields f t free = absurd (cc free)

pub struct_takes : {name : List ℕ} {fields : MapLeft → Option Cause} → TakesOnly class_of records (λ s. refusal_then (struct_at name s) fields)
struct_takes {name} {fields} = record { sees = λ f t free. struct_class name fields (buffering f) t free }

-- in a buffer, these parts refuse any other number of values
pub record PartsCount (n : ℕ) (parts : SeqLeft → Option Cause) : Type 0 where
  pub of_items : (f : Flags) (ts : Trees) → parts (items_under (buffering f) ts) ≡ None → count ts ≡ n

-- no part
none_left : (n : ℕ) (f : Flags) (ts : Trees) → end_of_parts n (items_under (buffering f) ts) ≡ None → count ts ≡ 0
none_left n f tree.no_trees free = refl
none_left n f (tree.tree_then t ts) free = absurd (cc free)

pub parts_end_counts : (n : ℕ) → PartsCount 0 (end_of_parts n)
parts_end_counts n = record { of_items = none_left n }

-- one part, and then the others
one_more : {others : SeqLeft → Option Cause} {n : ℕ} (refusal : Refusal) (expected found : ℕ) → PartsCount n others → (f : Flags) (ts : Trees)
    → part_then expected found refusal others (items_under (buffering f) ts) ≡ None → count ts ≡ n + 1
one_more refusal expected found more f tree.no_trees free = absurd (cc free)
one_more refusal expected found more f (tree.tree_then t ts) free = omega (arith, more.of_items f ts (second_free _ _ free))

pub part_counts : {others : SeqLeft → Option Cause} {n : ℕ} (refusal : Refusal) (expected found : ℕ) → PartsCount n others → PartsCount (n + 1) (part_then expected found refusal others)
part_counts refusal expected found more = record { of_items = one_more refusal expected found more }

-- a tuple of these parts
row_counts : {n : ℕ} {parts : SeqLeft → Option Cause} (len : ℕ) → PartsCount n parts → (f : Flags) (t : Tree)
    → refusal_then (tuple_at len (tree_under (buffering f) t)) parts ≡ None → row_length t ≡ n
row_counts len more f (tree.seq ts) free = more.of_items f ts free
row_counts len more f (tree.tuple ts) free = more.of_items f ts free
row_counts len more f t free = absurd (cc free)

pub tuple_counts : {n len : ℕ} {parts : SeqLeft → Option Cause} → PartsCount n parts → TakesOnly row_length n (λ s. refusal_then (tuple_at len s) parts)
tuple_counts {len = len} more = record { sees = row_counts len more }

-- what differs isn't equal
differ : (a b : ℕ) → nat_eq a b ≡ false → a ≡ b → ⊥
differ a b apart e = cc (sym (subst (λ c. nat_eq a c ≡ false) (sym e) apart) ∙ nat_eq_equiv.refl a)

-- what the one type takes the other doesn't
pub taken_by_one : {X : Type 0} {see : Tree → ℕ} {a b : ℕ} {one other : Refusal} → TakesOnly see a one → TakesOnly see b other → nat_eq a b ≡ false → (f : Flags) (t : Tree)
    → one (tree_under (buffering f) t) ≡ None → other (tree_under (buffering f) t) ≡ None → X
taken_by_one {a = a} {b = b} first second apart f t h k = absurd (differ a b apart (sym (first.sees f t h) ∙ second.sees f t k))

-- what isn't refused isn't refused
pub not_refused : {X : Type 0} (o : Option Cause) → o ≡ None → IsSome o → X
not_refused None free is = absurd (cc is)
not_refused (Some c) free is = absurd (cc free)

-- the first alternative isn't refused
pub first_taken : (o next : Option Cause) → o ≡ None → or_next o next ≡ None
first_taken o next free = rw free refl

-- a later one isn't
pub later_taken : (o : Option Cause) {next : Option Cause} → next ≡ None → or_next o next ≡ None
later_taken None free = refl
later_taken (Some c) free = free

-- such a tree, seen otherwise
pub such_seen : {p q : Tree → Type 0} {sc : Script} → ((t : Tree) → p t → q t) → SpellsSuch p sc → SpellsSuch q sc
such_seen see s = record { free = s.free; whole = s.whole; spelled = s.spelled; such = see s.whole s.such }
