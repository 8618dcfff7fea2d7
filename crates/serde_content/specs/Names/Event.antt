-- The calls, as contracts see them.
pub use Rattle.content_ser.specs.Calls.Event.{boolean, number, character, text, octets, unit, none}
pub use Rattle.content_ser.specs.Calls.Event.{some}
pub use Rattle.content_ser.specs.Calls.Event.{unit_struct, unit_variant, newtype_struct}
pub use Rattle.content_ser.specs.Calls.Event.{newtype_variant}
pub use Rattle.content_ser.specs.Calls.Event.{seq, tuple, tuple_struct, tuple_variant, map}
pub use Rattle.content_ser.specs.Calls.Event.{structure}
pub use Rattle.content_ser.specs.Calls.Event.{struct_variant, element, tuple_field, field, key}
pub use Rattle.content_ser.specs.Calls.Event.{value, entry, end}
