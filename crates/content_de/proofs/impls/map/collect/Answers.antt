use Rattle.std.proofs.Common.{◌≡◌, sym, subst, IfOk}
use Rattle.content_de.proofs.Ascending.{put_in_sorted}
use Rattle.content_de.proofs.impls.map.collect.Goals as goal

pub returns-then-ascend : goal.returns-then-ascend
returns-then-ascend g c =
    subst (λ es. IfOk c.from_the_back.result (λ map. map.entries ≡ es)) (sym (put_in_sorted g.met.K.Ord.total c.args.entries.items (c.ascend.ensures c.if-ascend.true))) c.from_the_back.ensures
