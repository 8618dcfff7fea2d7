-- Which fields the places in a sorted list mean.
use Rattle.std.specs.Prelude.{◌≡◌, ℕ, List, [], ◌∷◌, map, slice_get, Some}
use Rattle.std.specs.Borrow.{Bor}
use Rattle.content_tree.specs.Values.Text.{text_content}
use Rattle.content_tree.specs.Values.Value.{tree_of}
use Rattle.content_tree.specs.declared.cow.CowStr.{CowStr}
use Rattle.content_tree.specs.declared.value.NamedValue.{NamedValue}
use Rattle.content_ser.specs.Sending.Loose.{KeyedTree, loose}

-- a field by the bytes of its key, with what is sent for its value
abbrev pub keyed_tree_of : CowStr × NamedValue → KeyedTree
keyed_tree_of f = (text_content f.0, loose (tree_of f.1))

-- each place has the field of its entry
abbrev pub StandsFor : List (CowStr × NamedValue) → List (Bor (List ℕ) × ℕ)
    → List KeyedTree → Type 0
StandsFor fs [] [] = Unit {0}
StandsFor fs [] (e ∷ es) = ⊥
StandsFor fs (p ∷ ps) [] = ⊥
StandsFor fs (p ∷ ps) (e ∷ es) =
    (slice_get (map keyed_tree_of fs) p.1 ≡ Some e) × (p.0.now ≡ e.0)
    × StandsFor fs ps es
