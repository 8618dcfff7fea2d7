-- Where in a value something was refused.
use Rattle.std.specs.Prelude.{ℕ, List, [], ◌∷◌, ◌≡◌, map, reverse, Option, Some, None, IfSome, option_map, unwrap_or, string_bytes}
use Rattle.content_tree.specs.Errors.Kind.{kind_of}
use Rattle.content_tree.specs.declared.error.Error.{Error}
use Rattle.content_tree.specs.declared.error.ErrorKind.{ErrorKind}
use Rattle.content_tree.specs.declared.path.Located.{Located}
use Rattle.content_tree.specs.declared.path.Path.{Path}
use Rattle.content_tree.specs.declared.trail.Step as own
use Rattle.content_tree.specs.declared.trail.Step.TheVariants as step
use Rattle.content_tree.specs.declared.trail.Trail.{Trail}
use Rattle.content_tree.specs.declared.trail.Trail.TheVariants.{Here, Steps, Unknown}

-- a step into a value, a `Step` of the code: to the item of this index, or to what has this name
pub data Place : Type 0 where
  item : ℕ → Place
  under : List ℕ → Place

-- the place that a step leads to
abbrev pub place_of : own.Step → Place
place_of (step.Index n) = item n
place_of (step.Name text) = under (string_bytes text)

-- the places that steps lead to, which are kept from the inside out
abbrev pub places_of : List own.Step → List Place
places_of steps = reverse (map place_of steps)

-- the places that a trail leads through, from the whole value on: none where memory ran out as they were kept
abbrev pub trail_places : Trail → Option (List Place)
trail_places Here = Some []
trail_places (Steps steps) = Some (places_of steps.value.items)
trail_places Unknown = None

-- the places that lead to what was refused, from the whole value on: none where memory ran out as they were kept
abbrev pub places : Error → Option (List Place)
places e = trail_places e.trail

-- a new error of this kind: the whole value was refused
abbrev pub IsNew : ErrorKind → Error → Type 0
IsNew kind e = (kind_of e ≡ kind) × (places e ≡ Some [])

-- the place comes first now, unless memory ran out
abbrev pub IsInside : Place → Option (List Place) → Option (List Place) → Type 0
IsInside place before after = IfSome after (λ all. option_map (λ inner. place ∷ inner) before ≡ Some all)

-- the same places, unless memory ran out
abbrev pub IsKept : Option (List Place) → Option (List Place) → Type 0
IsKept before after = IfSome after (λ all. before ≡ Some all)

-- the places of a path
abbrev pub path_places : Path → List Place
path_places p = unwrap_or (trail_places p.trail.now) []

-- the error that is printed
abbrev pub located_error : Located → Error
located_error l = l.error.now
