-- What an enum access and a variant access hold, and what their calls answer.
use Rattle.std.specs.Prelude.{ℕ, List, [], Bool, true, false, IsTrue, ⊤}
use Rattle.std.specs.Prelude.{Option, Some, None, option_map, if◌then◌else◌}
use Rattle.content_tree.specs.Values.Text.{text_of}
use Rattle.content_tree.specs.Values.Tree as tree
use Rattle.content_tree.specs.Values.Tree.{Tree, Trees}
use Rattle.content_tree.specs.Values.Value.{tree_of, enum_tree}
use Rattle.content_tree.specs.Images.Image.{Image, image}
use Rattle.content_tree.specs.Images.Image as image
use Rattle.content_tree.specs.Errors.Cause.{Cause, unexpected}
use Rattle.content_tree.specs.declared.expected.DataType.{DataType}
use Rattle.content_tree.specs.declared.expected.DataType.TheVariants as kind
use Rattle.content_de.specs.Sources.Origin.{Origin, of_tree, of_identifier, Flags, Subject}
use Rattle.content_de.specs.Sources.Origin.{tree_under, subject_under}
use Rattle.content_de.specs.Sources.Deserializer.{flags_of}
use Rattle.content_de.specs.Outcomes.{Outcome, taken, refused, misfit}
use Rattle.content_de.specs.Requests.Data.{data_in, is_nothing, one_in, many_in, named_in}
use Rattle.content_de.specs.Requests.Data.{seq_in, map_in, or_else}
use Rattle.content_de.specs.Requests.Names.{an_enum, a_variant}
use Rattle.content_de.specs.Requests.Compounds.{entries_of_pairs, entries_of_fields}
use Rattle.content_de.specs.Accesses.Seq.{SeqLeft, items_under}
use Rattle.content_de.specs.Accesses.Map.{MapLeft, entries_under}
use Rattle.content_de.specs.declared.enum_access.Requested.{Requested}
use Rattle.content_de.specs.declared.enum_access.Requested.TheVariants as requested
use Rattle.content_de.specs.declared.enum_access.Tagged.{Tagged}
use Rattle.content_de.specs.declared.enum_access.Tagged.TheVariants as tagged
use Rattle.content_de.specs.declared.enum_access.EnumAccess.{EnumAccess}
use Rattle.content_de.specs.declared.variant_access.Held as stood
use Rattle.content_de.specs.declared.variant_access.Held.TheVariants as standing
use Rattle.content_de.specs.declared.variant_access.VariantAccess.{VariantAccess}

-- what comes after a tag: the whole node of an enum, nothing, or the value of a map's one entry
pub data Held : Type 0 where
  a_node : Tree → Held
  nothing : Held
  a_value : Tree → Held

-- a variant whose tag was read: the enum's requested name, what is held, and the flags
pub record VariantLeft : Type 0 where
  pub requested : List ℕ
  pub held : Held
  pub flags : Flags

-- a variant whose tag wasn't read yet
pub record EnumLeft : Type 0 where
  pub tag : Origin
  pub variant : VariantLeft

-- the name of an enum's node
abbrev pub own_name : Held → List ℕ
own_name (a_node (tree.enumeration n i v d)) = n.content
own_name h = []

-- the name that was asked for, or the node's own
abbrev pub requested_name : Requested → Held → List ℕ
requested_name (requested.Named s) h = s.now
requested_name requested.Own h = own_name h

-- the tag of an enum's node
abbrev pub node_tag : Tree → Origin
node_tag (tree.enumeration n i v d) = of_identifier v i
node_tag t = of_tree t

-- what is held
abbrev pub held_of : stood.Held → Held
held_of (standing.Node b) = a_node (enum_tree b.value)
held_of standing.Nothing = nothing
held_of (standing.Value v) = a_value (tree_of v)

-- what is held after the tag
abbrev pub tagged_held : Tagged → Held
tagged_held (tagged.Node b) = a_node (enum_tree b.value)
tagged_held (tagged.Text t) = nothing
tagged_held (tagged.Entry k v) = a_value (tree_of v)

-- the tag
abbrev pub tagged_tag : Tagged → Origin
tagged_tag (tagged.Node b) = node_tag (enum_tree b.value)
tagged_tag (tagged.Text t) = of_tree (tree.text (text_of t))
tagged_tag (tagged.Entry k v) = of_tree (tree_of k)

-- what contracts see of a `VariantAccess`
abbrev pub variant_view : VariantAccess → VariantLeft
variant_view a = record {
  requested = requested_name a.requested (held_of a.held);
  held = held_of a.held;
  flags = flags_of a.flags;
}

-- what contracts see of an `EnumAccess`
abbrev pub enum_view : EnumAccess → EnumLeft
enum_view a = record {
  tag = tagged_tag a.tagged;
  variant = record {
    requested = requested_name a.requested (tagged_held a.tagged);
    held = tagged_held a.tagged;
    flags = flags_of a.flags;
  };
}

-- a variant with this tag
abbrev pub enum_with : (name : List ℕ) → Flags → Origin → Held → EnumLeft
enum_with name f o h = record { tag = o; variant = record { requested = name; held = h; flags = f } }

-- a variant: the node of an enum, a text, or a map of exactly one entry
abbrev pub enum_from : (name : List ℕ) → Flags → Origin → Outcome EnumLeft
enum_from name f (of_tree (tree.enumeration n i v d)) =
    taken (enum_with name f (of_identifier v i) (a_node (tree.enumeration n i v d)))
enum_from name f (of_tree (tree.text t)) = taken (enum_with name f (of_tree (tree.text t)) nothing)
enum_from name f (of_tree (tree.map (tree.pair_then k t tree.no_pairs))) =
    taken (enum_with name f (of_tree k) (a_value t))
enum_from name f o = misfit o (an_enum name)

-- a variant of the enum of this name
abbrev pub enum_at : (name : List ℕ) → Subject → Outcome EnumLeft
enum_at name s = enum_from name s.flags s.origin

-- the tag with its flags
abbrev pub tag_of : EnumLeft → Subject
tag_of e = subject_under e.variant.flags e.tag

-- a copy of the tag takes no memory
abbrev pub TagTakesNoMemory : Origin → Type 0
TagTakesNoMemory (of_tree t) = ⊤
TagTakesNoMemory (of_identifier n i) = IsTrue n.borrowed

-- the image of what is held
abbrev pub held_image : Held → Image
held_image (a_node t) = image t
held_image nothing = image.unit
held_image (a_value t) = image t

-- another sort of variant than this one, which is asked for
abbrev pub wrong_sort : VariantLeft → DataType → Cause
wrong_sort v typ = unexpected (held_image v.held) (a_variant v.requested typ)

-- refused for that
abbrev pub wrong_variant : {A : Type 0} → VariantLeft → DataType → Outcome A
wrong_variant v typ = refused (wrong_sort v typ)

-- no data is held
abbrev pub holds_nothing : Held → Bool
holds_nothing (a_node t) = is_nothing (data_in t)
holds_nothing nothing = true
holds_nothing (a_value t) = false

-- no data
abbrev pub unit_variant_of : VariantLeft → Outcome (Unit {0})
unit_variant_of v = if holds_nothing v.held then taken tt else wrong_variant v kind.Unit

-- the one value of a newtype variant, or whatever a map's entry holds
abbrev pub one_held : Held → Option Tree
one_held (a_node t) = one_in (data_in t)
one_held nothing = None
one_held (a_value t) = Some t

-- the items of a tuple variant, however many, or of a sequence that a map's entry holds
abbrev pub many_held : Held → Option Trees
many_held (a_node t) = many_in (data_in t)
many_held nothing = None
many_held (a_value t) = seq_in t

-- the entries of an object-like variant, or of a map that a map's entry holds
abbrev pub entries_held : Held → Option (List (Origin × Tree))
entries_held (a_node t) = option_map (entries_of_fields 0) (named_in (data_in t))
entries_held nothing = None
entries_held (a_value t) = option_map entries_of_pairs (map_in t)

-- one value
abbrev pub newtype_variant_of : VariantLeft → Outcome Subject
newtype_variant_of v = or_else (option_map (tree_under v.flags) (one_held v.held)) (wrong_variant v kind.NewType)

-- values by place
abbrev pub tuple_variant_of : VariantLeft → Outcome SeqLeft
tuple_variant_of v = or_else (option_map (items_under v.flags) (many_held v.held)) (wrong_variant v kind.Tuple)

-- values by key
abbrev pub struct_variant_of : VariantLeft → Outcome MapLeft
struct_variant_of v =
    or_else (option_map (entries_under v.flags) (entries_held v.held)) (wrong_variant v kind.Struct)
