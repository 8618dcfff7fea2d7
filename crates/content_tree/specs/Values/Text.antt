-- What contracts see of a text, of bytes and of a name.
use Rattle.std.specs.Prelude.{ℕ, Bool, true, false, List, string_bytes}
use Rattle.content_tree.specs.declared.cow.CowStr.{CowStr}
use Rattle.content_tree.specs.declared.cow.CowStr.TheVariants as cow_str
use Rattle.content_tree.specs.declared.cow.CowBytes.{CowBytes}
use Rattle.content_tree.specs.declared.cow.CowBytes.TheVariants as cow_bytes

-- the bytes, and whether they are borrowed; of a name: whether it is static
pub record Text : Type 0 where
  pub content : List ℕ
  pub borrowed : Bool

-- a text, with its case
abbrev pub text_of : CowStr → Text
text_of (cow_str.Borrowed s) = record { content = s.now; borrowed = true }
text_of (cow_str.Owned s) = record { content = string_bytes s; borrowed = false }

-- bytes, with their case
abbrev pub bytes_of : CowBytes → Text
bytes_of (cow_bytes.Borrowed s) = record { content = s.now; borrowed = true }
bytes_of (cow_bytes.Owned s) = record { content = s.items; borrowed = false }

-- the bytes of a text
abbrev pub text_content : CowStr → List ℕ
text_content s = (text_of s).content

-- the bytes themselves
abbrev pub bytes_content : CowBytes → List ℕ
bytes_content s = (bytes_of s).content

-- an owned text of this content
abbrev pub owned_text : List ℕ → Text
owned_text content = record { content = content; borrowed = false }

-- a static name of this content
abbrev pub static_name : List ℕ → Text
static_name content = record { content = content; borrowed = true }

-- the same content, owned
abbrev pub to_owned : Text → Text
to_owned t = owned_text t.content
