use Rattle.std.proofs.Common.{[], ◌∷◌}
use Rattle.content_ser.proofs.Making.{tuple_spelled, element_read, elements_end_read}
use Rattle.content_ser.proofs.impls.tuple.Tuple3Serialize.direct.Goals as goal

pub returns : goal.returns
returns g c = tuple_spelled _ c.in_ok-levels.ensures
    (rw (c.push_reserved-3.ensures.items, c.push_reserved-2.ensures.items, c.push_reserved.ensures.items, c.in_ok-items.ensures.items)
    (element_read _ _ (c.in_ok-direct-2.field-0 ∷ c.in_ok-direct-3.field-0 ∷ []) c.in_ok-direct.ensures (element_read _ _ (c.in_ok-direct-3.field-0 ∷ []) c.in_ok-direct-2.ensures (element_read _ _ [] c.in_ok-direct-3.ensures (elements_end_read _)))))
