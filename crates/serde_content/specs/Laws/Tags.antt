-- The variants of an enum whose tags may be aliases come back where what they hold does.
use Rattle.std.specs.Prelude.{◌≡◌, ℕ, Bool, true, false, List, Option, None}
use Rattle.std.proofs.Common.{sym, subst, ◌∙◌}
use Rattle.content_tree.specs.Values.Text.{Text}
use Rattle.content_tree.specs.Values.Tree as tree
use Rattle.content_tree.specs.Errors.Cause.{Cause}
use Rattle.content_de.specs.Sources.Origin.{Origin, of_tree, of_identifier, under}
use Rattle.content_de.specs.Outcomes.{Outcome, taken, refused, refusal_then, IsTaken}
use Rattle.content_de.specs.Requests.Leaves.{text_from}
use Rattle.content_de.specs.Accesses.Enum.{VariantLeft, Held, a_node, nothing, a_value}
use Rattle.content_de.specs.Reads.Own.{enum_refusal}
use Rattle.serde_content.specs.RoundTrip.{flags}
use Rattle.serde_content.specs.Tags.{EnumGivesBy}
use Rattle.serde_content.specs.Laws.Variants.{left, VariantKeeps}

-- a tag that stands for the variant's name, and what comes after it
meant_kept : {P : Type 0} {own : VariantLeft → Option Cause} {given : P → VariantLeft → Type 0} (mean : List ℕ → List ℕ) (variant : List ℕ) (variants : List ℕ → VariantLeft → Option Cause)
    → ((v : VariantLeft) → variants variant v ≡ own v) → VariantKeeps own given → (name : List ℕ) (held : Held) (tag : Outcome Text) (h : Bool) (z : P)
    → refusal_then tag (λ t. variants (mean t.content) (left name held (flags h false))) ≡ None
    → IsTaken tag (λ t. mean t.content ≡ variant) × given z (left name held (flags h false))
    → (refusal_then tag (λ t. variants (mean t.content) (left name held (flags h true))) ≡ None) × (IsTaken tag (λ t. mean t.content ≡ variant) × given z (left name held (flags h true)))
meant_kept {own} mean variant variants so keeps name held (taken t) h z free is =
    let before = left name held (flags h false) in
    let after = left name held (flags h true) in
    let there = keeps.of_held name held h z (record { free = sym (so before) ∙ subst (λ n. variants n before ≡ None) is.0 free; given = is.1 }) in
    (subst (λ n. variants n after ≡ None) (sym is.0) (so after ∙ there.free), (is.0, there.given))
meant_kept mean variant variants so keeps name held (refused c) h z free is = absurd (cc free)

-- what an enum may give as this variant without coercion it may give with it
pub meant_variant_kept : {P : Type 0} {own : VariantLeft → Option Cause} {given : P → VariantLeft → Type 0} (mean : List ℕ → List ℕ) (name variant : List ℕ) (variants : List ℕ → VariantLeft → Option Cause)
    → ((v : VariantLeft) → variants variant v ≡ own v) → VariantKeeps own given → (o : Origin) (h : Bool) (z : P)
    → enum_refusal name (λ tag. variants (mean tag)) (under (flags h false) o) ≡ None → EnumGivesBy mean name variant (given z) (under (flags h false) o)
    → (enum_refusal name (λ tag. variants (mean tag)) (under (flags h true) o) ≡ None) × EnumGivesBy mean name variant (given z) (under (flags h true) o)
meant_variant_kept mean name variant variants so keeps (of_tree (tree.enumeration n i v d)) h z free is = meant_kept mean variant variants so keeps name (a_node (tree.enumeration n i v d)) (text_from (of_identifier v i)) h z free is
meant_variant_kept mean name variant variants so keeps (of_tree (tree.text t)) h z free is = meant_kept mean variant variants so keeps name nothing (text_from (of_tree (tree.text t))) h z free is
meant_variant_kept mean name variant variants so keeps (of_tree (tree.map (tree.pair_then k t tree.no_pairs))) h z free is = meant_kept mean variant variants so keeps name (a_value t) (text_from (of_tree k)) h z free is
meant_variant_kept mean name variant variants so keeps o h z free is = absurd is
