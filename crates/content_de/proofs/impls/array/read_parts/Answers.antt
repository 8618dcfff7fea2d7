use Rattle.std.proofs.Common.{◌≡◌, ◌+◌, ◌-◌, ◌<◌, ◌≤◌, [], ◌∷◌, ◌++◌, ap, subst, sym, ◌∙◌, append-nil, append_assoc, arith, rules}
use Rattle.content_de.specs.Accesses.Seq.{seq_view}
use Rattle.content_de.specs.Reads.Arrays.{parts_alike, array_refusal, PartsAlike}
use Rattle.content_de.proofs.Alike.{part_read, part_refused, parts_read, part_given, none_given, all_left, refused_exit}
use Rattle.content_de.proofs.impls.array.read_parts.Goals as goal

pub loop-found-init : goal.loop-found-init
loop-found-init g c =
    let s = seq_view c.args.from in
    record {
      refusal = ap (λ k. parts_alike g.row.N 0 k g.T.Deserialize.refusal s) (all_left g.row.N);
      gives = λ rest h. rw c.in_ok-items.ensures.items (subst (λ k. PartsAlike g.T.Deserialize.gives k rest s) (all_left g.row.N) h);
      len = c.in_ok-items.ensures.len;
      room = c.in_ok-items.ensures.exact;
    }

pub loop-found-preserved : goal.loop-found-preserved
loop-found-preserved g c =
    let refusal = g.T.Deserialize.refusal in
    let gives = g.T.Deserialize.gives in
    let n = g.row.N in
    let i = c.loop-found.found in
    let before = seq_view c.loop-found.from in
    let part = c.in_ok-next_part.ensures.value in
    let below : i < n = omega arith in
    record {
      refusal = ap (λ s. parts_alike n (i + 1) (n - (i + 1)) refusal s) c.next_part.ensures.rest
          ∙ sym (part_read refusal n i before below part.0) ∙ c.loop-found.invariant.refusal;
      gives = λ rest h.
          let others = subst (λ s. PartsAlike gives (n - (i + 1)) rest s) c.next_part.ensures.rest h in
          rw (c.push_reserved.ensures.items, append_assoc c.loop-found.items.items (c.in_ok-next_part.field-0 ∷ []) rest)
          (c.loop-found.invariant.gives (c.in_ok-next_part.field-0 ∷ rest) (part_given gives n i before c.in_ok-next_part.field-0 rest below part.1 others));
      len = c.push_reserved.ensures.len ∙ ap (λ k. k + 1) c.loop-found.invariant.len;
      room = c.push_reserved.ensures.capacity ∙ c.loop-found.invariant.room;
    }

pub returns-in_err-next_part : goal.returns-in_err-next_part
returns-in_err-next_part g c =
    let s = seq_view c.args.from in
    refused_exit (array_refusal g.row.N g.T.Deserialize.refusal s) (λ xs. PartsAlike g.T.Deserialize.gives g.row.N xs s) _ _ c.from_residual-in_err-next_part.ensures.1
    (λ other. sym c.loop-found.invariant.refusal
    ∙ part_refused g.T.Deserialize.refusal g.row.N c.loop-found.found _ _ (omega arith) (c.in_err-next_part.ensures.value other))

pub returns-in_err-finish_parts : goal.returns-in_err-finish_parts
returns-in_err-finish_parts g c =
    let s = seq_view c.args.from in
    refused_exit (array_refusal g.row.N g.T.Deserialize.refusal s) (λ xs. PartsAlike g.T.Deserialize.gives g.row.N xs s) _ _ c.from_residual-in_err-finish_parts.ensures.1
    (λ other. sym c.loop-found.invariant.refusal
    ∙ parts_read g.T.Deserialize.refusal g.row.N c.loop-found.found _ (omega arith) ∙ c.in_err-finish_parts.ensures.value other)

pub returns : goal.returns
returns g c =
    let inv = c.loop-found.invariant in
    let s = seq_view c.args.from in
    let past : g.row.N ≤ c.loop-found.found = omega arith in (
      sym inv.refusal ∙ parts_read g.T.Deserialize.refusal g.row.N c.loop-found.found _ past ∙ c.in_ok-finish_parts.ensures.value.0,
      rw (c.into_array.ensures, ← append-nil c.loop-found.items.items)
          (inv.gives [] (none_given g.T.Deserialize.gives g.row.N c.loop-found.found _ past)),
    )
