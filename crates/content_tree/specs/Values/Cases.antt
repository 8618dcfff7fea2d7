-- The two cases of a text and of bytes.
use Rattle.std.specs.Prelude.{ℕ, List, true, Option, Some, None}
use Rattle.std.specs.declared.alloc.Global.{Global}
use Rattle.std.specs.declared.string.String.{String}
use Rattle.std.specs.declared.vec.Vec.{Vec}
use Rattle.content_tree.specs.Values.Text.{Text}
use Rattle.content_tree.specs.declared.cow.CowStr.{CowStr}
use Rattle.content_tree.specs.declared.cow.CowStr.TheVariants as cow_str
use Rattle.content_tree.specs.declared.cow.CowBytes.{CowBytes}
use Rattle.content_tree.specs.declared.cow.CowBytes.TheVariants as cow_bytes
use Rattle.content_tree.specs.declared.value.NamedValue.{NamedValue, out-NamedValue}
use Rattle.content_tree.specs.declared.value.NamedData.{NamedData}
use Rattle.content_tree.specs.declared.value.NamedStruct.{NamedStruct, out-NamedStruct}
use Rattle.content_tree.specs.declared.value.NamedEnum.{NamedEnum, out-NamedEnum}
use Rattle.content_tree.specs.declared.value.NamedData.TheOpen as open_
use Rattle.content_tree.specs.declared.value.NamedData.TheOpen.{NamedValue-F}

-- a borrowed text of this content
abbrev pub borrowed_text : List ℕ → Text
borrowed_text content = record { content = content; borrowed = true }

-- the `String` inside an owned text
abbrev pub string_in : CowStr → Option (String Global)
string_in (cow_str.Borrowed s) = None
string_in (cow_str.Owned s) = Some s

-- the `Vec` inside owned bytes
abbrev pub vec_in : CowBytes → Option (Vec ℕ Global)
vec_in (cow_bytes.Borrowed s) = None
vec_in (cow_bytes.Owned v) = Some v

-- one level of `string_at`
abbrev pub string_here : NamedValue-F NamedData NamedValue NamedEnum NamedStruct → Option (String Global)
string_here (open_.String t) = string_in t
string_here v = None

-- the `String` inside a value that is an owned text
abbrev pub string_at : NamedValue → Option (String Global)
string_at v = string_here (out-NamedValue v)

-- one level of `vec_at`
abbrev pub vec_here : NamedValue-F NamedData NamedValue NamedEnum NamedStruct → Option (Vec ℕ Global)
vec_here (open_.Bytes t) = vec_in t
vec_here v = None

-- the `Vec` inside a value that is owned bytes
abbrev pub vec_at : NamedValue → Option (Vec ℕ Global)
vec_at v = vec_here (out-NamedValue v)

-- the name of a struct, with the `String` that it may hold
abbrev pub struct_name : NamedStruct → CowStr
struct_name s = (out-NamedStruct s).name

-- the names of a variant's enum and of the variant
abbrev pub enum_names : NamedEnum → CowStr × CowStr
enum_names e = ((out-NamedEnum e).name, (out-NamedEnum e).variant)
