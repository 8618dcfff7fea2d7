-- The laws of merging.
use Rattle.std.proofs.Common.{◌≡◌, Bool, true, false, Option, Some, None, refl, ap, sym, ◌∙◌, if◌then◌else◌}
use Rattle.std.specs.Cmp.Lexicographic.{texts_ties}
use Rattle.serde_content.proofs.Names.{tree_equiv}
use Rattle.serde_content.specs.Names.Words.{same_tree, last_value, last_field, or_else, lookup}
use Rattle.serde_content.specs.Names.Words.{Tree, Text}
use Rattle.serde_content.specs.Names.Tree as tree
use Rattle.serde_content.specs.Names.Tree.{Pairs, no_pairs, pair_then, Fields, no_fields, field_then}
use Rattle.content_uses.specs.Merged.{put, as_pairs, parts, with_parts, same_sort, merged, merged_pairs}
use Rattle.content_uses.specs.MergingLaws.{put_over, found_after, EmptyChangesNothing, OtherSortWins}
use Rattle.content_uses.specs.MergingLaws.{KeysFind}
use Rattle.content_uses.proofs.Parts.{by_sort, other_right, merged_one, merged_other, parts_merged}
use Rattle.content_uses.proofs.Parts.{sort_turned, sort_with, with_own}

-- the last value of a key, or none
abbrev pub at : Tree → Pairs → Option Tree
at k ps = last_value (λ j. same_tree j k) ps

-- one more pair before the others
abbrev pub then_at : (q i t : Tree) → Option Tree → Option Tree
then_at q i t o = or_else o (if same_tree i q then Some t else None)

-- equal keys are equal to the same keys
alike : (i j q : Tree) → same_tree j q ≡ true → same_tree i j ≡ same_tree i q
alike i j q e = tree_equiv.symm i j ∙ tree_equiv.congr j q i e ∙ tree_equiv.symm q i

-- equal keys find the same
pub at_alike : (j q : Tree) (ps : Pairs) → same_tree j q ≡ true → at j ps ≡ at q ps
at_alike j q no_pairs e = refl
at_alike j q (pair_then i t ps) e =
    ap (λ o. then_at j i t o) (at_alike j q ps e) ∙ ap (λ b. or_else (at q ps) (if b then Some t else None)) (alike i j q e)

-- what a key finds where a pair is put
here : (j q u i t : Tree) (ps : Pairs) (o : Option Tree) → at j ps ≡ o → (b : Bool) → same_tree i j ≡ b → (d : Bool) → same_tree j q ≡ d
    → at q (put j u (merged u) ps) ≡ (if same_tree j q then put_over u (at q ps) else at q ps)
    → at q (put j u (merged u) (pair_then i t ps))
    ≡ (if same_tree j q then put_over u (at q (pair_then i t ps)) else at q (pair_then i t ps))
here j q u i t ps (Some s) e b f true g rest =
    let found : at q ps ≡ Some s = sym (at_alike j q ps g) ∙ e in
    rw (e, g, found) (ap (then_at q i t) (rw (g, found) at rest))
here j q u i t ps (Some s) e b f false g rest = rw (e, g) (ap (then_at q i t) (rw g at rest))
here j q u i t ps None e true f true g rest =
    let found : at q ps ≡ None = sym (at_alike j q ps g) ∙ e in
    let same : same_tree i q ≡ true = tree_equiv.congr i j q f ∙ g in
    rw (e, f, g, found, same) refl
here j q u i t ps None e true f false g rest =
    let other : same_tree i q ≡ false = tree_equiv.congr i j q f ∙ g in
    rw (e, f, g, other) refl
here j q u i t ps None e false f true g rest =
    let found : at q ps ≡ None = sym (at_alike j q ps g) ∙ e in
    let other : same_tree i q ≡ false = sym (alike i j q g) ∙ f in
    rw (e, f, g, found, other) (ap (λ o. or_else o None) (rw (g, found) at rest))
here j q u i t ps None e false f false g rest = rw (e, f, g) (ap (then_at q i t) (rw g at rest))

at_put : (j q u : Tree) (ps : Pairs) → at q (put j u (merged u) ps) ≡ (if same_tree j q then put_over u (at q ps) else at q ps)
at_put j q u no_pairs = refl
at_put j q u (pair_then i t ps) = here j q u i t ps (at j ps) refl (same_tree i j) refl (same_tree j q) refl (at_put j q u ps)

-- what a key finds in pairs that are put over others
at_merged : (k : Tree) (qs ps : Pairs) → at k (merged_pairs qs ps) ≡ found_after k qs (at k ps)
at_merged k no_pairs ps = refl
at_merged k (pair_then j u qs) ps =
    at_merged k qs (put j u (merged u) ps) ∙ ap (found_after k qs) (at_put j k u ps)

-- a text finds a field of that name
text_finds : (x : Text) (fs : Fields) → last_field x.content fs ≡ at (tree.text x) (as_pairs fs)
text_finds x no_fields = refl
text_finds x (field_then k t fs) =
    ap (λ b. or_else (last_field x.content fs) (if b then Some t else None))
    (texts_ties k.content x.content)
    ∙ ap (λ o. or_else o (if same_tree (tree.text k) (tree.text x) then Some t else None))
    (text_finds x fs)

-- another key finds none
none_finds : (k : Tree) → ((x : Text) → same_tree (tree.text x) k ≡ false) → (fs : Fields)
    → None ≡ at k (as_pairs fs)
none_finds k other no_fields = refl
none_finds k other (field_then x t fs) =
    ap (λ o. or_else o None) (none_finds k other fs)
    ∙ ap (λ b. or_else (at k (as_pairs fs)) (if b then Some t else None)) (sym (other x))

-- what a key finds in a struct
field_finds : (k : Tree) (n : Text) (fs : Fields)
    → lookup k (tree.structure n (tree.named fs)) ≡ at k (as_pairs fs)
field_finds (tree.text x) n fs = text_finds x fs
field_finds (tree.map qs) n fs = none_finds _ (λ x. refl) fs
field_finds tree.unit n fs = none_finds _ (λ x. refl) fs
field_finds (tree.boolean b) n fs = none_finds _ (λ x. refl) fs
field_finds (tree.number m) n fs = none_finds _ (λ x. refl) fs
field_finds (tree.character c) n fs = none_finds _ (λ x. refl) fs
field_finds (tree.octets x) n fs = none_finds _ (λ x. refl) fs
field_finds (tree.seq ts) n fs = none_finds _ (λ x. refl) fs
field_finds tree.absent n fs = none_finds _ (λ x. refl) fs
field_finds (tree.present t) n fs = none_finds _ (λ x. refl) fs
field_finds (tree.structure m d) n fs = none_finds _ (λ x. refl) fs
field_finds (tree.enumeration m i v d) n fs = none_finds _ (λ x. refl) fs
field_finds (tree.tuple ts) n fs = none_finds _ (λ x. refl) fs

-- what a key finds is among the parts
part_finds : (k u t : Tree) → same_sort u t ≡ true → lookup k t ≡ at k (parts t)
part_finds k u t =
    by_sort (λ s. same_sort u s ≡ true → lookup k s ≡ at k (parts s)) (λ ps e. refl)
    (λ n fs e. field_finds k n fs) (λ s o e. absurd (cc (e, other_right u s o))) t

pub keys_find : KeysFind
keys_find k u t e =
    let ps : Pairs = merged_pairs (parts u) (parts t) in
    let still : same_sort u (with_parts ps t) ≡ true
    = sort_turned u (with_parts ps t) ∙ sort_with ps t u ∙ sort_turned t u ∙ e in
    ap (lookup k) (merged_one u t e) ∙ part_finds k u (with_parts ps t) still
    ∙ ap (at k) (parts_merged u t e) ∙ at_merged k (parts u) (parts t)
    ∙ ap (found_after k (parts u)) (sym (part_finds k u t e))

pub empty_changes_nothing : EmptyChangesNothing
empty_changes_nothing u t e none =
    merged_one u t e ∙ ap (λ ps. with_parts (merged_pairs ps (parts t)) t) none ∙ with_own t

pub other_sort_wins : OtherSortWins
other_sort_wins = merged_other
