use Rattle.std.proofs.Common.{◌≡◌, ◌++◌, OnOk, ap, ◌∙◌, subst}
use Rattle.content_cbor.specs.Item.{bytes_item, shortest, without_zeros}
use Rattle.content_cbor.proofs.leaves.write_shortest.Goals as goal

pub returns-clause-value : goal.returns-clause-value
unfolding shortest
returns-clause-value c =
    let e : c.without_zeros.result.now ≡ shortest c.args.number = c.without_zeros.ensures ∙ ap without_zeros c.to_be_bytes.ensures in
    subst (λ bs. OnOk c.write_bytes.result (c.write_bytes.new.out.items ≡ c.args.out.now.items ++ bytes_item bs)) e c.write_bytes.ensures.value
