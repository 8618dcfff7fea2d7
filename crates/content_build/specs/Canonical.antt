-- What a `Serializer` makes of a tree: its canonical form.
use Rattle.std.specs.Prelude.{◌≡◌, Bool, Ok, Err}
use Rattle.content_tree.specs.Errors.Kind.{IsOutOfMemory}
use Rattle.content_tree.specs.Values.Tree.{Tree, owned}
use Rattle.content_tree.specs.Values.Value.{tree_of}
use Rattle.content_tree.specs.declared.error.Error.{Error}
use Rattle.content_tree.specs.declared.value.NamedValue.{NamedValue}
use Rattle.content_ser.specs.Sending.Canonical.{IsCanonical}
use Rattle.content_ser.specs.Sending.TreeScript.{loose_script}
use Rattle.content_build.specs.Serializer.{Serialized}

-- where it answers a value, that is the canonical form, its texts and byte values owned
abbrev pub CanonicalBuilt : Type 0
CanonicalBuilt = (t : Tree) (readable : Bool) (v : NamedValue)
    → Serialized (loose_script t readable) (Ok v)
    → (c : Tree) × IsCanonical t c × (tree_of v ≡ owned c)

-- where it answers an error and memory was enough, the tree has no canonical form
abbrev pub CanonicalStopped : Type 0
CanonicalStopped = (t : Tree) (readable : Bool) (e : Error)
    → Serialized (loose_script t readable) (Err e)
    → ¬ IsOutOfMemory e
    → (c : Tree) → ¬ IsCanonical t c
