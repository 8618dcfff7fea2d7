use Rattle.std.proofs.Common.{sym, subst}
use Rattle.std.specs.Prelude.{IsSome}
use Rattle.content_tree.proofs.PathEditing.{set_found, set_missing}
use Rattle.content_tree.specs.Values.Value.{tree_of}
use Rattle.content_tree.proofs.value.NamedValue.set_pointer.Goals as goal

pub returns-in-Ok-clause-replaced : goal.returns-in-Ok-clause-replaced
returns-in-Ok-clause-replaced c =
    sym (set_found c.args.path.now c.args.value c.in-Ok.before (tree_of c.args.self.now) (tree_of c.trade.new.place) c.in-Ok.ensures)

pub returns-in-Ok-add_at-clause-replaced : goal.returns-in-Ok-add_at-clause-replaced
returns-in-Ok-add_at-clause-replaced c =
    sym (set_missing c.args.path.now (tree_of c.args.value) (tree_of c.args.self.now) c.in-Err.ensures.0)

pub returns-in-Err-add_at-clause-in_place : goal.returns-in-Err-add_at-clause-in_place
returns-in-Err-add_at-clause-in_place c = λ some.
    let missing = set_missing c.args.path.now (tree_of c.args.value) (tree_of c.args.self.now) c.in-Err.ensures.0 in
    absurd (cc (subst (λ o. IsSome o) missing some))
