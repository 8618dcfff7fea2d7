use Rattle.std.proofs.Common.{sym, subst}
use Rattle.content_tree.specs.Values.Tree.{owned}
use Rattle.content_ser.specs.Grammar.Spells.{SpellsWhole}
use Rattle.content_ser.specs.Scripts.Script.{calls_of}
use Rattle.content_ser.specs.Sending.TreeScript.{loose_script}
use Rattle.content_ser.proofs.Canonically.{canonical_spelled}
use Rattle.content_ser.proofs.SameScript.{same_script, same_unmarked}
use Rattle.content_build.proofs.Agreement.{one_tree}
use Rattle.serde_content.proofs.laws.equal_calls.Goals as goal

pub returns : goal.returns
returns c t u f g readable is is' =
    let first = (canonical_spelled t f readable is).1 in
    let second = (canonical_spelled u g readable is').1 in
    let calls = calls_of (loose_script t readable) in
    ((λ e. same_unmarked f g (one_tree calls (owned f) (owned g) first (subst (λ s. SpellsWhole (calls_of s) (owned g)) (sym e) second))), same_script t u f g is is')
