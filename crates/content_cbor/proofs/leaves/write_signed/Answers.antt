use Rattle.std.proofs.Common.{◌≡◌, ◌++◌, ◌-◌, OnOk, ap, ◌∙◌, subst, pos, negsuc}
use Rattle.std.proofs.lemmas.Int.{to_z-of_z}
use lib.IntN.{nat_abs}
use mir.Val.{to_z, of_z}
use mir.Syntax.{w128}
use Rattle.content_cbor.specs.Item.{number_item}
use Rattle.content_cbor.proofs.Signs.{size_below_zero, size_from_zero}
use Rattle.content_cbor.proofs.leaves.write_signed.Goals as goal

pub returns-then-number-lt0-clause-value : goal.returns-then-number-lt0-clause-value
returns-then-number-lt0-clause-value c =
    let z = c.args.number in
    let size : c.unsigned_abs-size.result ≡ nat_abs (to_z w128 (of_z w128 z)) = c.unsigned_abs-size.ensures.value in
    let is : negsuc (c.unsigned_abs-size.result - 1) ≡ z =
    ap (λ n. negsuc (n - 1)) (size ∙ ap nat_abs (to_z-of_z w128 z c.ranges.number)) ∙ size_below_zero z c.ranges.number c.if-number-lt0.true in
    subst (λ y. OnOk c.write_negative.result (c.write_negative.new.out.items ≡ c.args.out.now.items ++ number_item y)) is c.write_negative.ensures.value

pub returns-else-number-lt0-clause-value : goal.returns-else-number-lt0-clause-value
returns-else-number-lt0-clause-value c =
    let z = c.args.number in
    let size : c.unsigned_abs-size.result ≡ nat_abs (to_z w128 (of_z w128 z)) = c.unsigned_abs-size.ensures.value in
    let is : pos c.unsigned_abs-size.result ≡ z =
    ap pos (size ∙ ap nat_abs (to_z-of_z w128 z c.ranges.number)) ∙ size_from_zero z c.ranges.number c.if-number-lt0.false in
    subst (λ y. OnOk c.write_unsigned.result (c.write_unsigned.new.out.items ≡ c.args.out.now.items ++ number_item y)) is c.write_unsigned.ensures.value
