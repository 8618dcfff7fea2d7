-- One tree more from the values grown.
use Rattle.std.proofs.Common.{◌≡◌, ℕ, suc, ◌-◌, ◌<◌, nat_eq, List, [], ◌∷◌, ◌++◌, refl, sym, ap}
use Rattle.std.proofs.Common.{◌∙◌, subst}
use Rattle.std.proofs.Common.{map, if◌then◌else◌, take, get_or, length}
use Rattle.std.proofs.Math.ListN.{set}
use Rattle.std.proofs.lemmas.List.{reverse-append}
use Rattle.content_tree.specs.Values.Text.{Text, static_name, text_of}
use Rattle.content_tree.specs.Values.Tree.{Tree, no_trees, tree_then, Pairs, no_pairs}
use Rattle.content_tree.specs.Values.Tree.{pair_then, no_fields, field_then}
use Rattle.content_tree.specs.Values.Value.{tree_of, trees_view, pairs_view, fields_view}
use Rattle.content_tree.specs.declared.cow.CowStr.{CowStr}
use Rattle.content_tree.specs.declared.value.NamedValue.{NamedValue}
use Rattle.content_build.specs.Inner.Cells.{Cell}
use Rattle.content_build.specs.Inner.Forest as forest
use Rattle.content_build.specs.Inner.Forest.{trees_near, fields_near, pairs_near, past, past_fields}
use Rattle.content_build.specs.Inner.Forest.{plant, plant_key, read}
use Rattle.content_build.specs.Inner.Values.{grown_view, grown_trees}
use Rattle.content_build.specs.declared.grow.Grown.{Grown}
use Rattle.content_build.proofs.Forward.{append_trees, append_trees-push, append_fields}
use Rattle.content_build.proofs.Forward.{append_fields-push, append_pairs}
use Rattle.content_build.proofs.Forward.{append_pairs-push}
use Rattle.content_build.proofs.Memory.{by_last, set_at_last, nothing}
use Rattle.content_build.proofs.Pushes.{trees_view-push, pairs_view-push, fields_view-push}
use Rattle.content_build.proofs.Reading.{nonzero}

pub grown-pop : (all rest : List Grown) (g : Grown) → all ≡ rest ++ g ∷ [] → grown_trees all ≡ grown_view g ∷ grown_trees rest
grown-pop all rest g e = ap grown_trees e ∙ ap (map grown_view) (reverse-append rest (g ∷ []))

pub near-zero : (f : List forest.Grown) → trees_near 0 f ≡ no_trees
near-zero [] = refl
near-zero (forest.grown k t n ∷ f) = refl

pub past-zero : (f : List forest.Grown) → past 0 f ≡ f
past-zero [] = refl
past-zero (forest.grown k t n ∷ f) = refl

pub past_fields-zero : (f : List forest.Grown) → past_fields 0 f ≡ f
past_fields-zero [] = refl
past_fields-zero (forest.grown k t n ∷ f) = refl

pub past-step : (m : ℕ) (k : Text) (t : Tree) (n : ℕ) (f : List forest.Grown) → 0 < m → past m (forest.grown k t n ∷ f) ≡ past (m - n) f
past-step m k t n f h = ap (λ b. if b then forest.grown k t n ∷ f else past (m - n) f) (nonzero m h)

pub past_fields-step : (m : ℕ) (k : Text) (t : Tree) (n : ℕ) (f : List forest.Grown) → 0 < m → past_fields m (forest.grown k t n ∷ f) ≡ past_fields ((m - n) - 1) f
past_fields-step m k t n f h = ap (λ b. if b then forest.grown k t n ∷ f else past_fields ((m - n) - 1) f) (nonzero m h)

pub near-step : (m : ℕ) (k : Text) (t : Tree) (n : ℕ) (f : List forest.Grown) → 0 < m → trees_near m (forest.grown k t n ∷ f) ≡ tree_then t (trees_near (m - n) f)
near-step m k t n f h = ap (λ b. if b then no_trees else tree_then t (trees_near (m - n) f)) (nonzero m h)

pub items-step : (items more : List NamedValue) (m : ℕ) (g : Grown) (f : List forest.Grown) → 0 < m → more ≡ items ++ g.value ∷ []
    → append_trees (trees_view more) (trees_near (m - g.size) f) ≡ append_trees (trees_view items) (trees_near m (grown_view g ∷ f))
items-step items more m g f h e =
    ap (λ l. append_trees l (trees_near (m - g.size) f)) (ap trees_view e ∙ trees_view-push items g.value)
    ∙ (append_trees-push (trees_view items) (tree_of g.value) (trees_near (m - g.size) f) ∙ ap (append_trees (trees_view items)) (sym (near-step m (static_name g.key.now) (tree_of g.value) g.size f h)))

pub fields-zero : (f : List forest.Grown) → fields_near 0 f ≡ no_fields
fields-zero [] = refl
fields-zero (forest.grown k t n ∷ f) = refl

pub near-step_field : (m : ℕ) (k : Text) (t : Tree) (n : ℕ) (f : List forest.Grown) → 0 < m → fields_near m (forest.grown k t n ∷ f) ≡ field_then k t (fields_near ((m - n) - 1) f)
near-step_field m k t n f h = ap (λ b. if b then no_fields else field_then k t (fields_near ((m - n) - 1) f)) (nonzero m h)

pub fields-step : (items more : List (CowStr × NamedValue)) (m : ℕ) (g : Grown) (k : CowStr) (f : List forest.Grown) → 0 < m → text_of k ≡ static_name g.key.now → more ≡ items ++ (k, g.value) ∷ []
    → append_fields (fields_view more) (fields_near ((m - g.size) - 1) f) ≡ append_fields (fields_view items) (fields_near m (grown_view g ∷ f))
fields-step items more m g k f h is e =
    ap (λ l. append_fields l (fields_near ((m - g.size) - 1) f)) (ap fields_view e ∙ fields_view-push items (k, g.value))
    ∙ (append_fields-push (fields_view items) (text_of k) (tree_of g.value) (fields_near ((m - g.size) - 1) f)
    ∙ (ap (λ x. append_fields (fields_view items) (field_then x (tree_of g.value) (fields_near ((m - g.size) - 1) f))) is
    ∙ ap (append_fields (fields_view items)) (sym (near-step_field m (static_name g.key.now) (tree_of g.value) g.size f h))))

pub append_pairs-nil : (ps : Pairs) → append_pairs ps no_pairs ≡ ps
append_pairs-nil no_pairs = refl
append_pairs-nil (pair_then k v ps) = ap (pair_then k v) (append_pairs-nil ps)

pub pairs-zero : (f : List forest.Grown) → pairs_near 0 f ≡ no_pairs
pairs-zero [] = refl
pairs-zero (g ∷ []) = refl
pairs-zero (forest.grown k t n ∷ forest.grown l u o ∷ f) = refl

pub pairs-odd : (m : ℕ) (k : Text) (t : Tree) (n : ℕ) (f : List forest.Grown) → 0 < m → m - n ≡ 0 → pairs_near m (forest.grown k t n ∷ f) ≡ no_pairs
pairs-odd m k t n [] h z = refl
pairs-odd m k t n (forest.grown l u o ∷ f) h z =
    ap (λ b. if b then no_pairs else (if nat_eq (m - n) 0 then no_pairs else pair_then t u (pairs_near ((m - n) - o) f))) (nonzero m h)
    ∙ ap (λ x. if nat_eq x 0 then no_pairs else pair_then t u (pairs_near (x - o) f)) z

pub pairs-two : (m : ℕ) (k : Text) (t : Tree) (n : ℕ) (l : Text) (u : Tree) (o : ℕ) (f : List forest.Grown) → 0 < m → 0 < m - n → pairs_near m (forest.grown k t n ∷ forest.grown l u o ∷ f) ≡ pair_then t u (pairs_near ((m - n) - o) f)
pairs-two m k t n l u o f h z =
    ap (λ b. if b then no_pairs else (if nat_eq (m - n) 0 then no_pairs else pair_then t u (pairs_near ((m - n) - o) f))) (nonzero m h)
    ∙ ap (λ b. if b then no_pairs else pair_then t u (pairs_near ((m - n) - o) f)) (nonzero (m - n) z)

pub pairs-step : (items more : List (NamedValue × NamedValue)) (m : ℕ) (g h : Grown) (f : List forest.Grown) → 0 < m → 0 < m - g.size → more ≡ items ++ (g.value, h.value) ∷ []
    → append_pairs (pairs_view more) (pairs_near ((m - g.size) - h.size) f) ≡ append_pairs (pairs_view items) (pairs_near m (grown_view g ∷ grown_view h ∷ f))
pairs-step items more m g h f a b e =
    ap (λ l. append_pairs l (pairs_near ((m - g.size) - h.size) f)) (ap pairs_view e ∙ pairs_view-push items (g.value, h.value))
    ∙ (append_pairs-push (pairs_view items) (tree_of g.value) (tree_of h.value) (pairs_near ((m - g.size) - h.size) f) ∙ ap (append_pairs (pairs_view items)) (sym (pairs-two m (static_name g.key.now) (tree_of g.value) g.size (static_name h.key.now) (tree_of h.value) h.size f a b)))

pub read-push : (cs : List Cell) (c : Cell) (f : List forest.Grown) → read (cs ++ c ∷ []) f ≡ read cs (plant c f)
read-push [] c f = refl
read-push (d ∷ cs) c f = ap (plant d) (read-push cs c f)

-- the last value gets the key
pub key-given : (gs : List Grown) (n : ℕ) (g new : Grown) (k : List ℕ) → suc n ≡ length gs → g ≡ get_or gs n g → grown_view new ≡ forest.grown (static_name k) (tree_of g.value) g.size
    → grown_trees (set gs n new) ≡ plant_key (static_name k) (grown_trees gs)
key-given gs n g new k s here is =
    grown-pop (set gs n new) (take n gs) new (set_at_last gs n new s)
    ∙ (ap (λ x. x ∷ grown_trees (take n gs)) is ∙ sym (ap (plant_key (static_name k)) (grown-pop gs (take n gs) g (by_last gs n g s here))))

pub no-key-given : (gs : List Grown) (k : Text) → length gs ≡ 0 → grown_trees gs ≡ plant_key k (grown_trees gs)
no-key-given gs k z = subst (λ l. grown_trees l ≡ plant_key k (grown_trees l)) (sym (nothing gs z)) refl

pub read-append : (cs ds : List Cell) (f : List forest.Grown) → read (cs ++ ds) f ≡ read cs (read ds f)
read-append [] ds f = refl
read-append (c ∷ cs) ds f = ap (plant c) (read-append cs ds f)
