use Rattle.std.proofs.Common.{◌≡◌, ℕ, true, arith, ap, sym, ◌∙◌, rules, inl, inr}
use Rattle.content_tree.proofs.Views.{struct_tree-is}
use Rattle.content_tree.specs.Values.Cases.{struct_name}
use Rattle.content_tree.specs.Values.Value.{struct_tree}
use Rattle.content_tree.specs.declared.value.NamedStruct.{out-NamedStruct}
use Rattle.content_tree.specs.declared.value.NamedData as held
use Rattle.std.specs.Iterator.Adapters.{zip_first, zip_second}
use Rattle.serde_content.specs.Names.Words.{tree_of, tree_data_of, text_of, pairs_view, fields_view}
use Rattle.serde_content.specs.Names.Words.{NamedValue}
use Rattle.serde_content.specs.Names.Tree as tree
use Rattle.content_uses.specs.Merged.{parts, same_sort}
use Rattle.content_tree.specs.declared.cow.CowStr.{CowStr}
use Rattle.content_uses.specs.Places.{keyed, field_key}
use Rattle.content_uses.proofs.Putting.{changed, added, put_step, no_place_left, no_pair_left}
use Rattle.content_uses.proofs.Putting.{yielded_more}
use Rattle.content_uses.proofs.Structs.{fields_in, structs_merged}
use Rattle.content_uses.proofs.merging.+put_over.Goals as goal

pub merge_pairs-loop-place-preserved-then-place-len : goal.merge_pairs-loop-place-preserved-then-place-len
merge_pairs-loop-place-preserved-then-place-len t c =
    let pair : NamedValue × NamedValue = (c.in-Some.key, c.in-Some.value) in
    let step = put_step tree_of pair (zip_second c.loop-place.place-iterator).rest.items (zip_second c.next.new.self).rest.items _ _ c.in-Some.place
    (pairs_view c.loop-place.pairs.items) (pairs_view c.set_value.new.pairs.items) _ c.in-Some.ensures.steps.1.0 c.in-Some.ensures.steps.0.0
    c.loop-place.invariant.3 c.loop-place.invariant.4
    (changed (tree_of pair.0) (tree_of pair.1) _ _ _ _ _ _ c.in-Some.place c.replace_value-old.ensures.value c.replace_value-old.ensures.placed
    c.set_value.ensures c.in_ok-merged.ensures.value) in (
      (tt, tt),
      tt,
      yielded_more (λ (p : ℕ × (NamedValue × NamedValue)). p.1) _ c.loop-place.yielded (c.in-Some.place, pair) _ _ c.loop-place.invariant.2 c.in-Some.ensures.steps.1.0,
      step.0,
      step.1,
    )

pub merge_pairs-loop-place-preserved : goal.merge_pairs-loop-place-preserved
merge_pairs-loop-place-preserved t c =
    let pair : NamedValue × NamedValue = (c.in-Some.key, c.in-Some.value) in
    let step = put_step tree_of pair (zip_second c.loop-place.place-iterator).rest.items (zip_second c.next.new.self).rest.items _ _ c.in-Some.place
    (pairs_view c.loop-place.pairs.items) (pairs_view c.push.new.self.items) _ c.in-Some.ensures.steps.1.0 c.in-Some.ensures.steps.0.0
    c.loop-place.invariant.3 c.loop-place.invariant.4
    (added tree_of pair c.loop-place.pairs.items c.push.new.self.items c.in-Some.place (omega arith) c.in_ok-push.ensures.items) in (
      (tt, tt),
      tt,
      yielded_more (λ (p : ℕ × (NamedValue × NamedValue)). p.1) _ c.loop-place.yielded (c.in-Some.place, pair) _ _ c.loop-place.invariant.2 c.in-Some.ensures.steps.1.0,
      step.0,
      step.1,
    )

pub merge_fields-loop-place-preserved-then-place-len : goal.merge_fields-loop-place-preserved-then-place-len
merge_fields-loop-place-preserved-then-place-len t c =
    let pair : CowStr × NamedValue = (c.in-Some.name, c.in-Some.value) in
    let step = put_step field_key pair (zip_second c.loop-place.place-iterator).rest.items (zip_second c.next.new.self).rest.items _ _ c.in-Some.place
    (keyed field_key c.loop-place.fields.items) (keyed field_key c.set_value.new.pairs.items) _ c.in-Some.ensures.steps.1.0 c.in-Some.ensures.steps.0.0
    c.loop-place.invariant.3 c.loop-place.invariant.4
    (changed (field_key pair.0) (tree_of pair.1) _ _ _ _ _ _ c.in-Some.place c.replace_value-old.ensures.value c.replace_value-old.ensures.placed
    c.set_value.ensures c.in_ok-whole.ensures.value) in (
      (tt, tt),
      tt,
      yielded_more (λ (p : ℕ × (CowStr × NamedValue)). p.1) _ c.loop-place.yielded (c.in-Some.place, pair) _ _ c.loop-place.invariant.2 c.in-Some.ensures.steps.1.0,
      step.0,
      step.1,
    )

pub merge_fields-loop-place-preserved : goal.merge_fields-loop-place-preserved
merge_fields-loop-place-preserved t c =
    let pair : CowStr × NamedValue = (c.in-Some.name, c.in-Some.value) in
    let step = put_step field_key pair (zip_second c.loop-place.place-iterator).rest.items (zip_second c.next.new.self).rest.items _ _ c.in-Some.place
    (keyed field_key c.loop-place.fields.items) (keyed field_key c.push.new.self.items) _ c.in-Some.ensures.steps.1.0 c.in-Some.ensures.steps.0.0
    c.loop-place.invariant.3 c.loop-place.invariant.4
    (added field_key pair c.loop-place.fields.items c.push.new.self.items c.in-Some.place (omega arith) c.in_ok-push.ensures.items) in (
      (tt, tt),
      tt,
      yielded_more (λ (p : ℕ × (CowStr × NamedValue)). p.1) _ c.loop-place.yielded (c.in-Some.place, pair) _ _ c.loop-place.invariant.2 c.in-Some.ensures.steps.1.0,
      step.0,
      step.1,
    )

pub merge_pairs-returns : goal.merge_pairs-returns
merge_pairs-returns t c =
    elim c.in-None.ensures.steps [
      | inl s ↦ no_place_left tree_of (zip_second c.loop-place.place-iterator).rest.items
          (zip_first c.loop-place.place-iterator).rest.items _ _ c.loop-place.invariant.3
          c.loop-place.invariant.4
          (sym (zip_first c.loop-place.place-iterator).rest.ok.0 ∙ s.1.0)
      | inr s ↦ no_pair_left tree_of (zip_second c.loop-place.place-iterator).rest.items _ _
          c.loop-place.invariant.4
          (sym (zip_second c.loop-place.place-iterator).rest.ok.0 ∙ s.1.0)
    ]

pub merge_fields-returns : goal.merge_fields-returns
merge_fields-returns t c =
    elim c.in-None.ensures.steps [
      | inl s ↦ no_place_left field_key (zip_second c.loop-place.place-iterator).rest.items
          (zip_first c.loop-place.place-iterator).rest.items _ _ c.loop-place.invariant.3
          c.loop-place.invariant.4
          (sym (zip_first c.loop-place.place-iterator).rest.ok.0 ∙ s.1.0)
      | inr s ↦ no_pair_left field_key (zip_second c.loop-place.place-iterator).rest.items _ _
          c.loop-place.invariant.4
          (sym (zip_second c.loop-place.place-iterator).rest.ok.0 ∙ s.1.0)
    ]

pub merge_structs-returns-in-Struct-clause-value :
    goal.merge_structs-returns-in-Struct-clause-value
merge_structs-returns-in-Struct-clause-value t c =
    let same : same_sort (struct_tree c.args.over.value) (struct_tree c.args.base.value) ≡ true
    = search rules in
    let is : (out-NamedStruct c.args.over.value).«data» ≡ held.Struct c.in-Struct.fields = cc in
    let lent : c.deref_mut.result.now ≡ c.args.base.value = cc in
    let back : c.deref_mut-in-Struct.result.now ≡ c.take_fields-among.new.whole = cc in
    let name : struct_name c.deref_mut-in-Struct.result.now ≡ struct_name c.args.base.value
    = ap struct_name back ∙ c.take_fields-among.ensures.name ∙ ap struct_name lent in
    structs_merged (struct_tree c.args.over.value) (struct_tree c.args.base.value)
    (struct_tree c.set_fields.new.whole) (text_of (struct_name c.args.base.value))
    (tree_data_of (out-NamedStruct c.args.base.value).«data») c.in-Struct.fields.items
    c.take_fields-among.result.items c.in_ok-fields-in-Struct.fields.items same
    (struct_tree-is c.args.base.value) (fields_in c.args.over.value c.in-Struct.fields is)
    (c.take_fields-among.ensures.fields ∙ ap (λ s. parts (struct_tree s)) lent)
    c.in_ok-fields-in-Struct.ensures
    (c.set_fields.ensures
    ∙ ap (λ n. tree.structure (text_of n) (tree.named (fields_view c.in_ok-fields-in-Struct.fields.items)))
    name)
