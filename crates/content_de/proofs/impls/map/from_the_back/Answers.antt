use Rattle.content_de.proofs.Ascending.{put_in_last}
use Rattle.content_de.proofs.impls.map.from_the_back.Goals as goal

pub loop-key-preserved-in_ok-insert : goal.loop-key-preserved-in_ok-insert
loop-key-preserved-in_ok-insert g c = put_in_last g.K.Ord.cmp _ _ c.in-Some.key c.in-Some.value _ _ _ c.requires c.loop-key.invariant c.in-Some.ensures.items c.in_ok-insert.ensures.entries

pub loop-key-preserved : goal.loop-key-preserved
loop-key-preserved g c = put_in_last g.K.Ord.cmp _ _ c.in-Some.key c.in-Some.value _ _ _ c.requires c.loop-key.invariant c.in-Some.ensures.items c.in_ok-insert.ensures.entries
