use Rattle.std.proofs.Common.{◌≡◌, ◌∙◌, ℕ, ◌+◌, suc, sym, ap, [], append-nil, arith, rules}
use Rattle.std.proofs.lemmas.Grind.{common_steps}
use Rattle.std.specs.Vec.{vec_len}
use Rattle.content_tree.specs.Values.Pointers.{item_of}
use Rattle.content_de.specs.Accesses.Seq.{seq_view}
use Rattle.content_de.proofs.Ends.{end_refusal, end_gives}
use Rattle.content_de.proofs.Places.{later_item, item_refused}
use Rattle.content_de.proofs.impls.holders.read_items.Goals as goal

pub returns-clause-value : goal.returns-clause-value
returns-clause-value g c = (
  sym c.loop-item.invariant.refusal ∙ end_refusal g.T.Deserialize.refusal _ _ c.in_default.ensures.value,
  rw (← append-nil c.loop-item.items.items) (c.loop-item.invariant.gives [] (end_gives g.T.Deserialize.gives _ _ c.in_default.ensures.value)),
)

-- an item more is read, and those left have an index more
pub loop-item-preserved : goal.loop-item-preserved
loop-item-preserved g c =
    let all = (seq_view c.args.from).items in
    let now = (seq_view c.loop-item.from).items in
    record {
      refusal = search rules;
      gives = grind (arith, common_steps);
      items = λ k.
          let next : vec_len c.push_reserved.new.self + k ≡ vec_len c.loop-item.items + suc k = omega (arith, c.push_reserved.ensures.len) in
          ap (λ n. item_of n all) next
          ∙ (c.loop-item.invariant.items (suc k) ∙ (sym (later_item k now) ∙ ap (λ s. item_of k s.items) (sym c.next_deserializer.ensures.rest)));
      flags = search rules;
      room = search rules;
    }

-- the item of this index is refused
pub returns-in-Err-clause-path : goal.returns-in-Err-clause-path
returns-in-Err-clause-path g c =
    let all = seq_view c.args.from in
    let from : c.len.result ≡ vec_len c.loop-item.items + 0 = omega (arith, c.len.ensures) in
    item_refused g.T.Deserialize.refusal all (seq_view c.loop-item.from) c.len.result _ c.in-Err.error c.refused_at.result
    (ap (λ n. item_of n all.items) from ∙ c.loop-item.invariant.items 0) c.loop-item.invariant.flags c.in-Some.ensures.value
    c.in-Err.ensures.value c.refused_at.ensures.cause c.refused_at.ensures.path
