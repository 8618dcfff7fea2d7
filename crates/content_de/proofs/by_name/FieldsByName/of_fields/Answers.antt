use Rattle.std.proofs.Common.{ap, suc, ◌∷◌}
use Rattle.content_tree.specs.Values.Tree.{unit}
use Rattle.content_tree.specs.Values.Value.{tree_of}
use Rattle.content_de.specs.Sources.Deserializer.{flags_of}
use Rattle.content_de.proofs.KeyTrees.{field_keys}
use Rattle.content_de.proofs.by_name.FieldsByName.of_fields.Goals as goal

pub returns-then-not-key_taken : goal.returns-then-not-key_taken
returns-then-not-key_taken c = rw c.if-not-key_taken.true (ap (λ es. record { entries = es; flags = flags_of c.args.flags }) (field_keys c.args.fields.place c.args.fields.left.items))

pub returns-in-Some : goal.returns-in-Some
returns-in-Some c = rw (c.if-not-key_taken.false, c.pop_front.ensures.items, c.in-Some.is)
    (ap (λ es. record { entries = (unit, tree_of c.in-Some.value) ∷ es; flags = flags_of c.args.flags }) (field_keys (suc c.args.fields.place) c.pop_front.new.self.items))
