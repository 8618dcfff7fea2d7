-- The call that a line spells.
use Rattle.std.specs.Prelude.{ℕ, cond, nat_lt, List, length, codes, Option, None, Some}
use Rattle.std.specs.Str.{bytes_eq}
use Rattle.std.specs.Option.{option_map, option_and_then}
use Rattle.std.specs.List.{list_all, before_first, after_first, position_or_len}
use Rattle.serde_content.specs.Names.Number as num
use Rattle.serde_content.specs.Names.Event as event
use Rattle.serde_content.specs.Names.Words.{Event}
use Rattle.content_lines.specs.Numerals.{natural_of, integer_of}
use Rattle.content_lines.specs.Forms.{is_printable, is_space, boolean_of, character_of, octets_of}
use Rattle.content_lines.specs.Forms.{name_of, named_length_of, variant_of, variant_length_of}

-- the word before the first space
abbrev pub word_of : List ℕ → List ℕ
word_of line = before_first is_space line

-- what comes after the first space, if there is one
abbrev pub rest_of : List ℕ → Option (List ℕ)
rest_of line = cond (nat_lt (position_or_len is_space line) (length line)) (Some (after_first is_space line)) None

-- the call of a line that is one word
abbrev pub of_word : List ℕ → Option Event
of_word w =
    cond (bytes_eq w (codes "unit")) (Some event.unit)
    (cond (bytes_eq w (codes "none")) (Some event.none)
    (cond (bytes_eq w (codes "some")) (Some event.some)
    (cond (bytes_eq w (codes "seq")) (Some (event.seq None))
    (cond (bytes_eq w (codes "map")) (Some (event.map None))
    (cond (bytes_eq w (codes "element")) (Some event.element)
    (cond (bytes_eq w (codes "tuple_field")) (Some event.tuple_field)
    (cond (bytes_eq w (codes "key")) (Some event.key)
    (cond (bytes_eq w (codes "value")) (Some event.value)
    (cond (bytes_eq w (codes "entry")) (Some event.entry)
    (cond (bytes_eq w (codes "end")) (Some event.end)
    None))))))))))

-- the call of a word that opens, names or announces, a space and its arguments
abbrev pub of_named : List ℕ → List ℕ → Option Event
of_named w t =
    cond (bytes_eq w (codes "unit_struct")) (option_map event.unit_struct (name_of t))
    (cond (bytes_eq w (codes "newtype_struct")) (option_map event.newtype_struct (name_of t))
    (cond (bytes_eq w (codes "unit_variant")) (option_map (λ v. event.unit_variant v.name v.index v.variant) (variant_of t))
    (cond (bytes_eq w (codes "newtype_variant")) (option_map (λ v. event.newtype_variant v.name v.index v.variant) (variant_of t))
    (cond (bytes_eq w (codes "seq")) (option_map (λ n. event.seq (Some n)) (natural_of 64 t))
    (cond (bytes_eq w (codes "map")) (option_map (λ n. event.map (Some n)) (natural_of 64 t))
    (cond (bytes_eq w (codes "tuple")) (option_map event.tuple (natural_of 64 t))
    (cond (bytes_eq w (codes "tuple_struct")) (option_map (λ p. event.tuple_struct p.0 p.1) (named_length_of t))
    (cond (bytes_eq w (codes "tuple_variant")) (option_map (λ p. event.tuple_variant p.0.name p.0.index p.0.variant p.1) (variant_length_of t))
    (cond (bytes_eq w (codes "struct")) (option_map (λ p. event.structure p.0 p.1) (named_length_of t))
    (cond (bytes_eq w (codes "struct_variant")) (option_map (λ p. event.struct_variant p.0.name p.0.index p.0.variant p.1) (variant_length_of t))
    (cond (bytes_eq w (codes "field")) (option_map event.field (name_of t))
    None)))))))))))

-- the call of a kind of numbers, a space and a number, or else of a named one
abbrev pub of_number : List ℕ → List ℕ → Option Event
of_number w t =
    cond (bytes_eq w (codes "i8")) (option_map (λ n. event.number (num.I8 n)) (integer_of 7 t))
    (cond (bytes_eq w (codes "u8")) (option_map (λ n. event.number (num.U8 n)) (natural_of 8 t))
    (cond (bytes_eq w (codes "i16")) (option_map (λ n. event.number (num.I16 n)) (integer_of 15 t))
    (cond (bytes_eq w (codes "u16")) (option_map (λ n. event.number (num.U16 n)) (natural_of 16 t))
    (cond (bytes_eq w (codes "i32")) (option_map (λ n. event.number (num.I32 n)) (integer_of 31 t))
    (cond (bytes_eq w (codes "u32")) (option_map (λ n. event.number (num.U32 n)) (natural_of 32 t))
    (cond (bytes_eq w (codes "i64")) (option_map (λ n. event.number (num.I64 n)) (integer_of 63 t))
    (cond (bytes_eq w (codes "u64")) (option_map (λ n. event.number (num.U64 n)) (natural_of 64 t))
    (cond (bytes_eq w (codes "i128")) (option_map (λ n. event.number (num.I128 n)) (integer_of 127 t))
    (cond (bytes_eq w (codes "u128")) (option_map (λ n. event.number (num.U128 n)) (natural_of 128 t))
    (of_named w t))))))))))

-- the call of a word, a space and its arguments
abbrev pub of_phrase : List ℕ → List ℕ → Option Event
of_phrase w t =
    cond (bytes_eq w (codes "bool")) (boolean_of t)
    (cond (bytes_eq w (codes "char")) (character_of t)
    (cond (bytes_eq w (codes "str")) (Some (event.text t))
    (cond (bytes_eq w (codes "bytes")) (octets_of t)
    (of_number w t))))

-- the call of a word and of its arguments, if it has any
abbrev pub of_parts : List ℕ → Option (List ℕ) → Option Event
of_parts w None = of_word w
of_parts w (Some t) = of_phrase w t

-- the call that a line spells, if it spells one
abbrev pub event_in : List ℕ → Option Event
event_in line = cond (list_all is_printable line) (of_parts (word_of line) (rest_of line)) None

-- a numeral, from 1 to 2 ^ 64 - 1
abbrev pub positive_of : List ℕ → Option ℕ
positive_of t = option_and_then (λ n. cond (nat_lt 0 n) (Some n) None) (natural_of 64 t)

-- the limit of a word and of its argument, if it has one: `limit N`
abbrev pub limit_of_parts : List ℕ → Option (List ℕ) → Option ℕ
limit_of_parts w None = None
limit_of_parts w (Some t) = cond (bytes_eq w (codes "limit")) (positive_of t) None

-- the limit that a line sets, if it sets one
abbrev pub limit_in : List ℕ → Option ℕ
limit_in line = cond (list_all is_printable line) (limit_of_parts (word_of line) (rest_of line)) None
