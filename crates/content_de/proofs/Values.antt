-- The tree of each case of a value.
use Rattle.content_tree.specs.declared.value.NamedValue.{the_lemmas}
use Rattle.content_de.proofs.Fields.{fields_fused}

-- one level of a value, a struct, a variant and what they hold
pub ruleset values = (the_lemmas, fields_fused)
