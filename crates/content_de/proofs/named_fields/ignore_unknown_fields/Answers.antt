use Rattle.content_de.specs.Accesses.ByName.{fields_left}
use Rattle.content_de.proofs.LeftOver.{none_skipped}
use Rattle.content_de.proofs.named_fields.ignore_unknown_fields.Goals as goal

pub returns-then-is_empty-clause-value : goal.returns-then-is_empty-clause-value
returns-then-is_empty-clause-value c = (none_skipped _ (fields_left c.args.from) (c.is_empty.ensures c.if-is_empty.true), tt)
