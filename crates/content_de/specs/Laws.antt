-- Laws of the definitions.
use Rattle.std.specs.Prelude.{ℕ, List, map, ◌≡◌, true, option_map}
use Rattle.content_tree.specs.Values.Text.{Text}
use Rattle.content_tree.specs.Values.Tree as tree
use Rattle.content_tree.specs.Values.Tree.{Tree, TreeData}
use Rattle.content_tree.specs.Values.Ranges.{NumberKind}
use Rattle.content_de.specs.Sources.Origin.{Origin, of_tree, Flags, Subject, tree_under}
use Rattle.content_de.specs.Outcomes.{Outcome, taken, IsTaken}
use Rattle.content_de.specs.Requests.Leaves.{bool_from, char_from, unit_from, text_from}
use Rattle.content_de.specs.Requests.Leaves.{bytes_from, name_from, held_by}
use Rattle.content_de.specs.Requests.Numbers.{number_from}
use Rattle.content_de.specs.Requests.Compounds.{unit_struct_from, newtype_from}
use Rattle.content_de.specs.Accesses.Seq.{SeqLeft, items_under, seq_at, tuple_at, tuple_struct_at}
use Rattle.content_de.specs.Accesses.Map.{MapLeft, entries_under, map_at, struct_at}
use Rattle.content_de.specs.Accesses.Enum.{VariantLeft, EnumLeft, enum_from, enum_at}
use Rattle.content_de.specs.Accesses.Enum.{unit_variant_of, newtype_variant_of, tuple_variant_of}
use Rattle.content_de.specs.Accesses.Enum.{struct_variant_of}
use Rattle.content_de.specs.Accesses.Node as node
use Rattle.content_de.specs.Accesses.Node.{Shape, shape_at}
use Rattle.content_de.specs.Plain.{plain, plain_each, plain_of}

-- the plain form of a plain form is itself
abbrev pub PlainOnce : Type 0
PlainOnce = (t : Tree) → plain (plain t) ≡ plain t

-- what is read, made plain
abbrev pub plain_subject : Subject → Subject
plain_subject s = tree_under s.flags (plain_of s.origin)

-- an entry, its key and its value made plain
abbrev pub plain_entry : Origin × Tree → Origin × Tree
plain_entry e = (of_tree (plain_of e.0), plain e.1)

-- each item that is left, made plain
abbrev pub plain_seq : SeqLeft → SeqLeft
plain_seq s = items_under s.flags (plain_each s.items)

-- each entry that is left, made plain
abbrev pub plain_map : MapLeft → MapLeft
plain_map m = entries_under m.flags (map plain_entry m.entries)

-- the access to such data is taken of both variants, and of the other it hands out the plain form of what it does of one
abbrev pub HandsOutPlain : TreeData → (one other : VariantLeft) → Type 0
HandsOutPlain tree.no_data v w = IsTaken (unit_variant_of v) (λ u. unit_variant_of w ≡ taken u)
HandsOutPlain (tree.one t) v w = IsTaken (newtype_variant_of v) (λ s. newtype_variant_of w ≡ taken (plain_subject s))
HandsOutPlain (tree.many ts) v w = IsTaken (tuple_variant_of v) (λ s. tuple_variant_of w ≡ taken (plain_seq s))
HandsOutPlain (tree.named fs) v w = IsTaken (struct_variant_of v) (λ m. struct_variant_of w ≡ taken (plain_map m))

-- the plain form of a variant is a variant too: its tag, and what it hands out, are those of the variant made plain
abbrev pub PlainVariant : Type 0
PlainVariant = (requested : List ℕ) (f : Flags) (n : Text) (i : ℕ) (v : Text) (d : TreeData)
    → IsTaken (enum_from requested f (of_tree (tree.enumeration n i v d))) (λ a.
    IsTaken (enum_from requested f (of_tree (plain (tree.enumeration n i v d)))) (λ b.
    (b.tag ≡ of_tree (plain_of a.tag)) × HandsOutPlain d a.variant b.variant))

-- the same flags, with coercion
abbrev pub coercing : Flags → Flags
coercing f = record { human_readable = f.human_readable; coerces = true; buffered = f.buffered }

-- a source, read with coercion
abbrev pub coerced : Subject → Subject
coerced s = record { origin = s.origin; flags = coercing s.flags }

-- the items that are left, read with coercion
abbrev pub coerced_seq : SeqLeft → SeqLeft
coerced_seq l = items_under (coercing l.flags) l.items

-- the entries that are left, read with coercion
abbrev pub coerced_map : MapLeft → MapLeft
coerced_map l = entries_under (coercing l.flags) l.entries

-- what a variant holds, read with coercion
abbrev pub coerced_variant : VariantLeft → VariantLeft
coerced_variant v = record { requested = v.requested; held = v.held; flags = coercing v.flags }

-- a tag and what its variant holds, read with coercion
abbrev pub coerced_enum : EnumLeft → EnumLeft
coerced_enum e = record { tag = e.tag; variant = coerced_variant e.variant }

-- what any source is, its parts read with coercion
abbrev pub coerced_shape : Shape → Shape
coerced_shape (node.present s) = node.present (coerced s)
coerced_shape (node.newtype s) = node.newtype (coerced s)
coerced_shape (node.seq l) = node.seq (coerced_seq l)
coerced_shape (node.map l) = node.map (coerced_map l)
coerced_shape (node.variant e) = node.variant (coerced_enum e)
coerced_shape s = s

-- a datum is the same
abbrev pub same : {A : Type 0} → A → A
same a = a

-- what a request takes it takes with coercion too, as this makes of it
abbrev pub Keeps : {S A : Type 0} → (S → S) → (A → A) → (S → Outcome A) → Type 0
Keeps {S} {A} source datum request = (s : S) (a : A) → request s ≡ taken a → request (source s) ≡ taken (datum a)

-- each request of a source that is taken is taken with coercion: the same datum, and the same parts but for that flag
pub record RequestsKeep : Type 0 where
  pub bool : Keeps coerced same (λ s. bool_from s.origin)
  pub character : Keeps coerced same (λ s. char_from s.origin)
  pub number : (k : NumberKind) → Keeps coerced same (number_from k)
  pub text : Keeps coerced same (λ s. text_from s.origin)
  pub octets : Keeps coerced same (λ s. bytes_from s.origin)
  pub identifier : Keeps coerced same (λ s. name_from s.origin)
  pub unit : Keeps coerced same (λ s. unit_from s.origin)
  pub option : Keeps coerced (option_map coerced) (λ s. taken (held_by s))
  pub unit_struct : (name : List ℕ) → Keeps coerced same (λ s. unit_struct_from name s.origin)
  pub newtype_struct : (name : List ℕ) → Keeps coerced coerced (newtype_from name)
  pub seq : Keeps coerced coerced_seq seq_at
  pub tuple : (len : ℕ) → Keeps coerced coerced_seq (tuple_at len)
  pub tuple_struct : (name : List ℕ) → Keeps coerced coerced_seq (tuple_struct_at name)
  pub map : Keeps coerced coerced_map map_at
  pub struct : (name : List ℕ) → Keeps coerced coerced_map (struct_at name)
  pub enumeration : (name : List ℕ) → Keeps coerced coerced_enum (enum_at name)
  pub ignored : Keeps {A = Unit {0}} coerced same (λ s. taken tt)
  pub any : Keeps coerced coerced_shape (λ s. taken (shape_at s))

-- and so is each request of a variant
pub record VariantsKeep : Type 0 where
  pub unit : Keeps coerced_variant same unit_variant_of
  pub newtype : Keeps coerced_variant coerced newtype_variant_of
  pub tuple : Keeps coerced_variant coerced_seq tuple_variant_of
  pub struct : Keeps coerced_variant coerced_map struct_variant_of

-- what is taken without coercion is taken with it
abbrev pub CoercionKeeps : Type 0
CoercionKeeps = RequestsKeep × VariantsKeep
