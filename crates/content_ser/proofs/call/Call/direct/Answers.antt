use Rattle.std.proofs.Common.{refl}
use Rattle.content_tree.specs.declared.value.NamedData as held
use Rattle.content_tree.proofs.Views.{tree_data_of-Unit}
use Rattle.content_ser.specs.Calls.Event as event
use Rattle.content_ser.specs.Calls.Head.{of_struct, of_variant}
use Rattle.content_ser.proofs.Making.{headed_spelled, leaf_makes}
use Rattle.content_ser.proofs.call.Call.direct.Goals as goal

pub returns-in-UnitStruct : goal.returns-in-UnitStruct
returns-in-UnitStruct c = rw c.in-UnitStruct.is
    (headed_spelled (of_struct c.in-UnitStruct.name.now) held.Unit c.made_of.result tree_data_of-Unit
    (leaf_makes (event.unit_struct c.in-UnitStruct.name.now) c.args.room refl) c.made_of.ensures)

pub returns-in-UnitVariant : goal.returns-in-UnitVariant
returns-in-UnitVariant c = rw c.in-UnitVariant.is
    (headed_spelled (of_variant c.in-UnitVariant.name.now c.in-UnitVariant.index c.in-UnitVariant.variant.now) held.Unit c.made_of-in-UnitVariant.result tree_data_of-Unit
    (leaf_makes (event.unit_variant c.in-UnitVariant.name.now c.in-UnitVariant.index c.in-UnitVariant.variant.now) c.args.room refl) c.made_of-in-UnitVariant.ensures)
