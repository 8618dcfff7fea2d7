-- The arguments after the word of a line.
use Rattle.std.specs.Prelude.{ℕ, ◌==◌, Bool, true, false, cond, ◌&&◌, ◌||◌, nat_le, nat_lt, List}
use Rattle.std.specs.Prelude.{[], ◌∷◌, length, codes, Option, None, Some}
use Rattle.std.specs.Str.{bytes_eq}
use Rattle.std.specs.Option.{option_map, option_and_then}
use Rattle.std.specs.List.{before_first, after_first, position_or_len}
use Rattle.serde_content.specs.Names.Event as event
use Rattle.serde_content.specs.Names.Words.{Event}
use Rattle.content_lines.specs.Numerals.{natural_of, is_lower_hex, unhex}

-- a byte that a line may hold: 32 to 126
abbrev pub is_printable : ℕ → Bool
is_printable b = nat_le 32 b && nat_lt b 127

-- the byte between words
abbrev pub is_space : ℕ → Bool
is_space b = b == 32

-- `true` or `false`
abbrev pub boolean_of : List ℕ → Option Event
boolean_of t = cond (bytes_eq t (codes "true")) (Some (event.boolean true)) (cond (bytes_eq t (codes "false")) (Some (event.boolean false)) None)

-- one printable byte
abbrev pub character_of : List ℕ → Option Event
character_of (c ∷ []) = cond (is_printable c) (Some (event.character c)) None
character_of _ = None

-- pairs of lower-case digits
abbrev pub octets_of : List ℕ → Option Event
octets_of t = cond (is_lower_hex t) (Some (event.octets (unhex t))) None

-- the names that a line may cite
abbrev pub is_name : List ℕ → Bool
is_name t =
    bytes_eq t (codes "Foo") || (bytes_eq t (codes "Bar") || (bytes_eq t (codes "Baz") || (bytes_eq t (codes "Point")
    || (bytes_eq t (codes "bar") || (bytes_eq t (codes "baz") || (bytes_eq t (codes "x") || bytes_eq t (codes "y")))))))

-- the name, if it is one of them
abbrev pub name_of : List ℕ → Option (List ℕ)
name_of t = cond (is_name t) (Some t) None

-- what comes before and after the first space
abbrev pub pair_of : List ℕ → Option (List ℕ × List ℕ)
pair_of t = cond (nat_lt (position_or_len is_space t) (length t)) (Some (before_first is_space t, after_first is_space t)) None

-- both, if both are there
abbrev pub both : {A B : Type 0} → Option A → Option B → Option (A × B)
both a b = option_and_then (λ x. option_map (λ y. (x, y)) b) a

-- a name and a length: `N n`
abbrev pub named_length_of : List ℕ → Option (List ℕ × ℕ)
named_length_of t = option_and_then (λ p. both (name_of p.0) (natural_of 64 p.1)) (pair_of t)

-- a name and an index, with what comes after them
pub record VariantStart : Type 0 where
  pub name : List ℕ
  pub index : ℕ
  pub rest : List ℕ

-- `N i ..`
abbrev pub variant_start_of : List ℕ → Option VariantStart
variant_start_of t = option_and_then (λ p. option_and_then (λ q. option_map (λ h. record { name = h.0; index = h.1; rest = q.1 }) (both (name_of p.0) (natural_of 32 q.0))) (pair_of p.1)) (pair_of t)

-- a variant: the name of its enum, its index and its name
pub record Variant : Type 0 where
  pub name : List ℕ
  pub index : ℕ
  pub variant : List ℕ

-- `N i V`
abbrev pub variant_of : List ℕ → Option Variant
variant_of t = option_and_then (λ h. option_map (λ v. record { name = h.name; index = h.index; variant = v }) (name_of h.rest)) (variant_start_of t)

-- `N i V n`
abbrev pub variant_length_of : List ℕ → Option (Variant × ℕ)
variant_length_of t = option_and_then (λ h. option_map (λ p. (record { name = h.name; index = h.index; variant = p.0 }, p.1)) (named_length_of h.rest)) (variant_start_of t)
