use Rattle.std.proofs.Common.{codes, refl, sym}
use Rattle.content_ser.specs.Calls.Event.{structure}
use Rattle.content_ser.specs.Calls.Head.{of_struct}
use Rattle.content_ser.proofs.Making.{field_added, fields_end_added, record_spelled}
use Rattle.content_ser.proofs.impls.duration.DurationSerialize.direct.Goals as goal

pub returns : goal.returns
returns c = record_spelled (of_struct (codes "Duration")) (structure (codes "Duration") 2) _ _ c.made_of.result refl c.in_ok-levels.ensures
    (rw (sym c.as_secs.ensures, sym c.subsec_nanos.ensures, c.push_reserved-2.ensures.items, c.push_reserved.ensures.items, c.in_ok-fields.ensures.items)
    (field_added _ _ _ refl c.in_ok-secs.ensures refl (field_added _ _ _ refl c.in_ok-nanos.ensures refl (fields_end_added _ _)))) c.made_of.ensures
