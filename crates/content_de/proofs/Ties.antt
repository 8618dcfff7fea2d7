-- What the order and `==` of deserializers answer, which are derived.
use Rattle.std.proofs.Common.{◌≡◌, Bool, refl, ap, sym, subst, ◌∙◌}
use Rattle.std.specs.Bool.{Decides}
use Rattle.std.specs.Ordering.{is_eq, bool_cmp, nat_cmp, ordering_then}
use Rattle.content_tree.proofs.Decide.{Ties, along, both, nats_tie, bools_tie, texts_tie}
use Rattle.content_tree.proofs.SameTree.{trees_tie}
use Rattle.content_tree.specs.Orders.Trees.{text_cmp}
use Rattle.content_de.specs.Sources.Origin.{Origin, of_tree, of_identifier, Flags, Subject}
use Rattle.content_de.specs.Sources.Deserializer.{origin_of, subject}
use Rattle.content_de.specs.Sources.Order.{origin_cmp, flags_cmp, subject_cmp, unmarked_origin}
use Rattle.content_de.specs.Sources.Order.{SameSubject}
use Rattle.content_de.specs.declared.source.Source.{Source}
use Rattle.content_de.specs.declared.source.Source.TheVariants as source
use Rattle.content_de.specs.declared.deserializer.Deserializer.{Deserializer}
use Rattle.content_de.specs.contracts.source.SourceOrd.TheImpl as source_ord
use Rattle.content_de.specs.contracts.deserializer.DeserializerOrd.TheImpl as order
use Rattle.content_de.specs.contracts.deserializer.DeserializerOrd.TheImpl.Laws as laws
use Rattle.content_de.specs.contracts.deserializer.DeserializerPartialEq.TheImpl as equality

-- sources
source_order : (a b : Source) → (source_ord.ghosts).cmp a b ≡ origin_cmp (origin_of a) (origin_of b)
source_order (source.Tree v) (source.Tree w) = refl
source_order (source.Tree v) (source.Identifier m j) = refl
source_order (source.Identifier n i) (source.Tree w) = refl
source_order (source.Identifier n i) (source.Identifier m j) = refl

-- sources with their flags
subject_order : (a b : Deserializer) → (order.ghosts).cmp a b ≡ subject_cmp (subject a) (subject b)
subject_order a b = ap (λ o. ordering_then o (flags_cmp (subject a).flags (subject b).flags)) (source_order a.source b.source)

-- neither is less exactly where both are the same but for marks
origins_tie : (a b : Origin) → Ties (origin_cmp a b) (unmarked_origin a ≡ unmarked_origin b)
origins_tie (of_tree t) (of_tree u) = along _ (trees_tie t u) (ap of_tree) (λ e. cc)
origins_tie (of_tree t) (of_identifier m j) = (λ e. absurd (cc e), λ e. absurd (cc e))
origins_tie (of_identifier n i) (of_tree u) = (λ e. absurd (cc e), λ e. absurd (cc e))
origins_tie (of_identifier n i) (of_identifier m j) =
    along _ (both (text_cmp n m) (nat_cmp i j) (texts_tie n m) (nats_tie i j)) (λ p. cc) (λ e. (cc, cc))

-- these flags
abbrev make_flags : (human_readable coerces buffered : Bool) → Flags
make_flags h c b = record { human_readable = h; coerces = c; buffered = b }

-- flags that agree are the same
flags_same : (a b : Flags) → a.human_readable ≡ b.human_readable → a.coerces ≡ b.coerces → a.buffered ≡ b.buffered → a ≡ b
flags_same a b h c d =
    ap (λ x. make_flags x a.coerces a.buffered) h ∙ ap (λ x. make_flags b.human_readable x a.buffered) c
    ∙ ap (make_flags b.human_readable b.coerces) d

-- neither of two pairs of tests is less exactly where both agree
two_tie : (a b c d : Bool) → Ties (ordering_then (bool_cmp a b) (bool_cmp c d)) ((a ≡ b) × (c ≡ d))
two_tie a b c d = both (bool_cmp a b) (bool_cmp c d) (bools_tie a b) (bools_tie c d)

-- the same of the flags
flags_tie : (a b : Flags) → Ties (flags_cmp a b) (a ≡ b)
flags_tie a b =
    along _ (both (bool_cmp a.human_readable b.human_readable) _ (bools_tie a.human_readable b.human_readable) (two_tie a.coerces b.coerces a.buffered b.buffered))
    (λ p. flags_same a b p.0 p.1.0 p.1.1) (λ e. (ap (λ f. f.human_readable) e, (ap (λ f. f.coerces) e, ap (λ f. f.buffered) e)))

-- the same of both
subjects_tie : (a b : Subject) → Ties (subject_cmp a b) (SameSubject a b)
subjects_tie a b = both (origin_cmp a.origin b.origin) (flags_cmp a.flags b.flags) (origins_tie a.origin b.origin) (flags_tie a.flags b.flags)

-- what `==` decides
pub equal_deserializers : (a b : Deserializer) → Decides ((equality.ghosts).eq a b) (SameSubject (subject a) (subject b))
equal_deserializers a b =
    let same = laws.matches_eq-law a b ∙ ap is_eq (subject_order a b) in
    subst (λ t. Decides t (SameSubject (subject a) (subject b))) (sym same) (subjects_tie (subject a) (subject b))
