use Rattle.std.proofs.Common.{◌≡◌, ◌++◌, ap, sym, subst, ◌∙◌}
use Rattle.content_tree.specs.Values.Tree as tree
use Rattle.content_tree.specs.Values.Value.{trees_view}
use Rattle.content_cbor.specs.Form.{CodesForm}
use Rattle.content_cbor.specs.Item.{item}
use Rattle.content_cbor.proofs.Coded.{codes_form}
use Rattle.content_cbor.proofs.encoding.encode_array.Goals as goal

pub returns-clause-form : goal.returns-clause-form
returns-clause-form c =
    let t = tree.seq (trees_view c.args.items.now) in
    let is : c.write_array.new.out.items ≡ item t = c.in_ok-write_array.ensures.value ∙ ap (λ bs. bs ++ item t) c.new-out.ensures.items in
    subst (CodesForm t) (sym is) (codes_form t c.in_ok-write_array.ensures.fits)
