use Rattle.std.proofs.Common.{◌≡◌, ◌++◌, ap, sym, subst, ◌∙◌}
use Rattle.content_tree.specs.Values.Value.{tree_of}
use Rattle.content_cbor.specs.Form.{CodesForm}
use Rattle.content_cbor.specs.Item.{item}
use Rattle.content_cbor.proofs.Coded.{codes_form}
use Rattle.content_cbor.proofs.encoding.encode.Goals as goal

pub returns-clause-form : goal.returns-clause-form
returns-clause-form c =
    let t = tree_of c.args.value.now in
    let is : c.write_value.new.out.items ≡ item t = c.in_ok-write_value.ensures.value ∙ ap (λ bs. bs ++ item t) c.new-out.ensures.items in
    subst (CodesForm t) (sym is) (codes_form t c.in_ok-write_value.ensures.fits)
