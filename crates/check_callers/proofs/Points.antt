-- What a `Point` is sent as, and what is read of it.
use Rattle.std.proofs.Common.{◌≡◌, ℤ, List, [], ◌∷◌, Option, Result, Ok, Err, IfOk, codes, ap, ap₂}
use Rattle.std.proofs.Common.{subst, ◌∙◌}
use Rattle.content_tree.specs.Values.Ranges.{i32}
use Rattle.content_tree.specs.Values.Text.{static_name}
use Rattle.content_tree.specs.Values.Tree as tree
use Rattle.content_tree.specs.Values.Tree.{Tree}
use Rattle.content_tree.specs.declared.error.Error.{Error}
use Rattle.content_tree.specs.declared.number.Number.TheVariants as number
use Rattle.content_tree.specs.Errors.Cause.{Cause}
use Rattle.content_ser.specs.Calls.Event as event
use Rattle.content_ser.specs.Calls.Event.{Event}
use Rattle.content_ser.specs.Calls.Head.{of_struct}
use Rattle.content_ser.specs.Grammar.Spells.{SpellsWhole, spells_record, spells_leaf, fields_more}
use Rattle.content_ser.specs.Grammar.Spells.{fields_end}
use Rattle.content_de.specs.Sources.Origin.{Subject, no_flags, tree_under}
use Rattle.content_de.specs.Outcomes.{taken}
use Rattle.content_de.specs.Requests.Numbers.{number_from}
use Rattle.content_de.specs.Reads.Read.{Gives, Reads}
use Rattle.content_de.specs.Reads.Own.{StructGives, FieldThen, NoField}
use Rattle.serde_content.specs.declared.samples.point.Point.{Point}

-- the tree of a point
abbrev pub point_tree : (x y : ℤ) → Tree
point_tree x y =
    tree.structure (static_name (codes "Point")) (tree.named
    (tree.field_then (static_name (codes "x")) (tree.number (number.I32 x))
    (tree.field_then (static_name (codes "y")) (tree.number (number.I32 y))
    tree.no_fields)))

-- the calls of a point
abbrev pub point_calls : (x y : ℤ) → List Event
point_calls x y =
    event.structure (codes "Point") 2 ∷ event.field (codes "x") ∷ event.number (number.I32 x)
    ∷ event.field (codes "y") ∷ event.number (number.I32 y) ∷ event.end ∷ []

-- they spell its tree
pub point_spelled : (x y : ℤ) → SpellsWhole (point_calls x y) (point_tree x y)
point_spelled x y = spells_record {h = of_struct (codes "Point")} (fields_more spells_leaf (fields_more spells_leaf fields_end))

-- the point that a subject gives
abbrev PointGives : Gives Point
PointGives s p = StructGives (codes "Point")
    (FieldThen (λ t z. number_from i32 t ≡ taken z) p.x
    (FieldThen (λ t z. number_from i32 t ≡ taken z) p.y
    NoField)) s

-- what was taken is that
taken_same : (x z : ℤ) → taken x ≡ taken z → z ≡ x
taken_same x z e = cc

-- a point of these fields
abbrev make_point : (x y : ℤ) → Point
make_point x y = record { x = x; y = y }

-- what is read of the tree of a point
pub read_back : (x y : ℤ) (refusal : Option Cause) (r : Result Point Error) (s : Subject) (t : Tree) → s ≡ tree_under no_flags t → t ≡ point_tree x y
    → Reads refusal (PointGives s) r → IfOk r (λ p. p ≡ make_point x y)
read_back x y refusal r s t same spelled reads =
    read r (subst (λ u. Reads refusal (PointGives u) r) (same ∙ ap (tree_under no_flags) spelled) reads)
  where
    read : (q : Result Point Error) → Reads refusal (PointGives (tree_under no_flags (point_tree x y))) q → IfOk q (λ p. p ≡ make_point x y)
    read (Ok p) h = ap₂ make_point (taken_same x p.x h.1.0) (taken_same y p.y h.1.1.0)
    read (Err e) h = tt
