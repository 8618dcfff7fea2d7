-- Serialiser calls, as contracts see them: by their contents.
use Rattle.std.specs.Prelude.{ℕ, Bool, List, Option}
use Rattle.content_tree.specs.declared.number.Number.{Number}

-- a call: a text, bytes and a name are their contents alone
pub data Event : Type 0 where
  boolean : Bool → Event
  number : Number → Event
  character : ℕ → Event
  text : List ℕ → Event
  octets : List ℕ → Event
  unit : Event
  none : Event
  some : Event
  unit_struct : List ℕ → Event
  unit_variant : List ℕ → ℕ → List ℕ → Event
  newtype_struct : List ℕ → Event
  newtype_variant : List ℕ → ℕ → List ℕ → Event
  seq : Option ℕ → Event
  tuple : ℕ → Event
  tuple_struct : List ℕ → ℕ → Event
  tuple_variant : List ℕ → ℕ → List ℕ → ℕ → Event
  map : Option ℕ → Event
  structure : List ℕ → ℕ → Event
  struct_variant : List ℕ → ℕ → List ℕ → ℕ → Event
  element : Event
  tuple_field : Event
  field : List ℕ → Event
  key : Event
  value : Event
  entry : Event
  end : Event
