use Rattle.std.proofs.Common.{◌≡◌}
use Rattle.content_tree.specs.declared.value.NamedStruct.{out-NamedStruct}
use Rattle.content_tree.specs.declared.value.NamedData as held
use Rattle.content_uses.proofs.Structs.{fields_in}
use Rattle.content_uses.proofs.merging.take_fields.Goals as goal

pub returns-in-Struct-clause-fields : goal.returns-in-Struct-clause-fields
returns-in-Struct-clause-fields c =
    let is : (out-NamedStruct c.args.whole.now).«data» ≡ held.Struct c.in-Struct.fields = cc in
    fields_in c.args.whole.now c.in-Struct.fields is
