use Rattle.std.proofs.Common.{◌≡◌, ◌++◌, ◌+◌, ◌∙◌, ap, codes, string_bytes, rules, arith, refl, map, drop, get_or}
use Rattle.std.specs.Fmt.{decimal}
use Rattle.content_tree.proofs.Printing.{drop_first}
use Rattle.content_json.specs.Layout.{line}
use Rattle.content_json.proofs.Writing.{closed, led, next_part, not_empty}
use Rattle.content_json.proofs.encoding.write_bytes.Goals as goal

pub loop-byte-preserved : goal.loop-byte-preserved
loop-byte-preserved c =
    let xs = c.args.bytes.now in
    let at = c.loop-byte.byte-index in
    let byte = get_or xs at 0 in
    let lead = c.loop-byte.lead.now ++ line c.in_ok-inner.inner in
    let wrote : string_bytes c.write.new.self ≡ (string_bytes c.loop-byte.out ++ lead) ++ decimal byte = search rules in
    record {
      utf8 = search rules;
      written =
          ap (λ bs. bs ++ led (codes ",") (line c.in_ok-inner.inner) (map decimal (drop (at + 1) xs))) wrote
          ∙ next_part (map decimal) _ _ _ (decimal byte) _ xs at byte (drop_first xs at 0 c.loop-byte-test.true) refl c.loop-byte.invariant.written;
    }

pub returns-clause-value : goal.returns-clause-value
returns-clause-value c =
    closed (λ _. map decimal) (codes "[") (codes "]") c.loop-byte.lead.now (string_bytes c.loop-byte.out) _ _ c.args.layout c.in_ok-inner.inner c.args.bytes.now c.loop-byte.byte-index
    refl (λ x ys. omega arith) c.in_ok-inner.ensures.value (not_empty _ c.if-is_empty.ensures) c.loop-byte-test.false c.loop-byte.invariant.written c.in_ok-write_end.ensures
