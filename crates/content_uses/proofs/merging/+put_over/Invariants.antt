use Rattle.std.proofs.Common.{◌≡◌, ◌++◌, map}
use Rattle.std.specs.Iterator.Adapters.{zip_first, zip_second}
use Rattle.serde_content.specs.Names.Words.{pairs_view}
use Rattle.content_uses.specs.Merged.{merged_pairs}
use Rattle.content_uses.specs.Places.{places, keyed, field_key}
use Rattle.content_uses.proofs.merging.+put_over.Given as goal

abbrev pub invariant-merge_pairs-loop-place : goal.invariant-merge_pairs-loop-place
invariant-merge_pairs-loop-place l =
    (goal.iterator-merge_pairs-loop-place).can_next l.place-iterator ×
    (goal.iterator-merge_pairs-loop-place).is_finite l.place-iterator ×
    (l.fn.over.items ≡ map (λ p. p.1) l.yielded ++ (zip_second l.place-iterator).rest.items) ×
    ((zip_first l.place-iterator).rest.items ≡ places (pairs_view (zip_second l.place-iterator).rest.items) (pairs_view l.pairs.items)) ×
    (merged_pairs (pairs_view (zip_second l.place-iterator).rest.items) (pairs_view l.pairs.items)
    ≡ merged_pairs (pairs_view l.fn.over.items) (pairs_view l.fn.base.items))

abbrev pub invariant-merge_fields-loop-place : goal.invariant-merge_fields-loop-place
invariant-merge_fields-loop-place l =
    (goal.iterator-merge_fields-loop-place).can_next l.place-iterator ×
    (goal.iterator-merge_fields-loop-place).is_finite l.place-iterator ×
    (l.fn.over.items ≡ map (λ p. p.1) l.yielded ++ (zip_second l.place-iterator).rest.items) ×
    ((zip_first l.place-iterator).rest.items ≡ places (keyed field_key (zip_second l.place-iterator).rest.items) (keyed field_key l.fields.items)) ×
    (merged_pairs (keyed field_key (zip_second l.place-iterator).rest.items) (keyed field_key l.fields.items)
    ≡ merged_pairs (keyed field_key l.fn.over.items) (keyed field_key l.fn.base.items))
