use Rattle.std.proofs.Common.{◌≡◌, ◌++◌, ◌-◌, ◌∙◌, ap, codes, string_bytes, rules}
use Rattle.std.specs.List.{repeat}
use Rattle.content_json.proofs.Writing.{next_indent}
use Rattle.content_json.proofs.layout.write_indent.Goals as goal

pub loop-left-preserved : goal.loop-left-preserved
loop-left-preserved c =
    let wrote : string_bytes c.push_str.new.self ≡ string_bytes c.loop-left.out ++ codes "  " = search rules in
    ap (λ bs. bs ++ repeat (c.loop-left.left - 1) (codes "  ")) wrote
    ∙ next_indent (string_bytes c.loop-left.out) c.loop-left.left _ c.loop-left-test.true c.loop-left.invariant
