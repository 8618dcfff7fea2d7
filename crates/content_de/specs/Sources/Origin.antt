-- What is read: a tree, or an identifier, which is the name of a field or a variant with its index.
use Rattle.std.specs.Prelude.{ℕ, Bool, true, false, Option, Some, None, ⊤}
use Rattle.content_tree.specs.Values.Text.{Text}
use Rattle.content_tree.specs.Values.Tree.{Tree}
use Rattle.content_tree.specs.Images.Image.{Image, image, identifier}

-- a tree, or an identifier
pub data Origin : Type 0 where
  of_tree : Tree → Origin
  of_identifier : Text → ℕ → Origin

-- an identifier, and no tree
abbrev pub IsIdentifier : Origin → Type 0
IsIdentifier (of_tree t) = ⊥
IsIdentifier (of_identifier n i) = ⊤

-- the tree, where one is read
abbrev pub tree_in : Origin → Option Tree
tree_in (of_tree t) = Some t
tree_in (of_identifier n i) = None

-- the image of what is read
abbrev pub origin_image : Origin → Image
origin_image (of_tree t) = image t
origin_image (of_identifier n i) = identifier n.content

-- the flags: what is read is human readable, numbers are coerced, and it is read as Serde reads out of a buffer
pub record Flags : Type 0 where
  pub human_readable : Bool
  pub coerces : Bool
  pub buffered : Bool

-- all off
abbrev pub no_flags : Flags
no_flags = record { human_readable = false; coerces = false; buffered = false }

-- the flags in a buffer: numbers are coerced there
abbrev pub buffering : Flags → Flags
buffering f = record { human_readable = f.human_readable; coerces = true; buffered = true }

-- an origin with its flags
pub record Subject : Type 0 where
  pub origin : Origin
  pub flags : Flags

-- an origin with these flags
abbrev pub under : Flags → Origin → Subject
under f o = record { origin = o; flags = f }

-- a tree with these flags
abbrev pub tree_under : Flags → Tree → Subject
tree_under f t = record { origin = of_tree t; flags = f }

-- the same, read out of a buffer
abbrev pub in_buffer : Subject → Subject
in_buffer s = record { origin = s.origin; flags = buffering s.flags }

-- an identifier is human readable, and has the other flags of what it is a part of
abbrev pub identifier_flags : Flags → Flags
identifier_flags f = record { human_readable = true; coerces = f.coerces; buffered = f.buffered }

-- a key or a tag under the flags of what it is in
abbrev pub subject_under : Flags → Origin → Subject
subject_under f (of_tree t) = tree_under f t
subject_under f (of_identifier n i) = record { origin = of_identifier n i; flags = identifier_flags f }
