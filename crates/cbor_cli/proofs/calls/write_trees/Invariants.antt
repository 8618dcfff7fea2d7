use Rattle.std.proofs.Common.{◌-◌, ◌≤◌, length, drop}
use Rattle.std.specs.String.{string_bytes}
use Rattle.serde_content.specs.Names.Words.{events_of}
use Rattle.cbor_cli.proofs.Telling.{HasTold}
use Rattle.cbor_cli.proofs.calls.write_trees.Given as goal

abbrev pub invariant-trees : goal.invariant-trees
invariant-trees l = record {
  within : l.start ≤ length l.calls;
  told : HasTold l.form (events_of l.calls) (drop l.start (events_of l.calls)) (string_bytes l.initial.out) (string_bytes l.out);
}

abbrev pub decreases-trees : goal.decreases-trees
decreases-trees l = length l.calls - l.start
