-- What images print.
use Rattle.std.specs.Prelude.{ℕ, List, [], ◌∷◌, ◌++◌, flat_map, codes, if◌then◌else◌, ◌==◌, nat_lt}
use Rattle.std.specs.Prelude.{◌||◌, false, encode_utf8}
use Rattle.std.specs.Str.{chars}
use Rattle.std.specs.Fmt.{decimal, signed_decimal, digits}
use Rattle.content_tree.specs.declared.number.Number.{Number}
use Rattle.content_tree.specs.declared.number.Number.TheVariants as num
use Rattle.content_tree.specs.Images.Image.{Image, ImageData, Images, ImagePairs, ImageFields, unit}
use Rattle.content_tree.specs.Images.Image.{boolean, number, character, text, octets, seq, map}
use Rattle.content_tree.specs.Images.Image.{absent, present, structure, enumeration, tuple}
use Rattle.content_tree.specs.Images.Image.{identifier, no_data, one, many, named, no_images}
use Rattle.content_tree.specs.Images.Image.{image_then, no_image_pairs, image_pair_then}
use Rattle.content_tree.specs.Images.Image.{no_image_fields, image_field_then}

-- a number, with its kind at once
abbrev pub number_text : Number → List ℕ
number_text (num.I8 n) = signed_decimal n ++ codes "i8"
number_text (num.U8 n) = decimal n ++ codes "u8"
number_text (num.I16 n) = signed_decimal n ++ codes "i16"
number_text (num.U16 n) = decimal n ++ codes "u16"
number_text (num.I32 n) = signed_decimal n ++ codes "i32"
number_text (num.U32 n) = decimal n ++ codes "u32"
number_text (num.I64 n) = signed_decimal n ++ codes "i64"
number_text (num.U64 n) = decimal n ++ codes "u64"
number_text (num.I128 n) = signed_decimal n ++ codes "i128"
number_text (num.U128 n) = decimal n ++ codes "u128"

-- a character of a quoted text; past ASCII it stays as it is
abbrev pub escaped : ℕ → List ℕ
escaped c = if c == 34 then codes "\\\"" else (if c == 92 then codes "\\\\" else (if c == 9 then codes "\\t" else (if c == 10 then codes "\\n"
    else (if c == 13 then codes "\\r" else (if c == 0 then codes "\\0" else (if nat_lt c 32 || c == 127 then codes "\\u{" ++ (digits 16 false c ++ codes "}") else encode_utf8 c))))))

-- a text in quotes, as Rust's debug form has it for ASCII
abbrev pub quoted : List ℕ → List ℕ
quoted bytes = 34 ∷ (flat_map escaped (chars bytes) ++ codes "\"")

-- bytes, the first after `lead` and each other after a comma
abbrev pub byte_list : List ℕ → List ℕ → List ℕ
byte_list lead [] = []
byte_list lead (b ∷ bs) = lead ++ (decimal b ++ byte_list (codes ", ") bs)

-- the text of an image
abbrev mutual
  pub printed : Image → List ℕ
  printed unit = codes "()"
  printed (boolean b) = if b then codes "true" else codes "false"
  printed (number n) = number_text n
  printed (character c) = codes "'" ++ (encode_utf8 c ++ codes "'")
  printed (text t) = quoted t
  printed (octets bs) = codes "&[" ++ (byte_list [] bs ++ codes "]")
  printed (seq is) = codes "[" ++ (printed_list [] is ++ codes "]")
  printed (map es) = codes "{ " ++ (printed_pairs [] es ++ codes " }")
  printed absent = codes "None"
  printed (present i) = codes "Some(" ++ (printed i ++ codes ")")
  printed (structure n c) = n ++ printed_data c
  printed (enumeration n v c) = n ++ (codes "::" ++ (v ++ printed_data c))
  printed (tuple is) = codes "(" ++ (printed_list [] is ++ codes ")")
  printed (identifier t) = t

  -- in what a struct or a variant holds
  pub printed_data : ImageData → List ℕ
  printed_data no_data = []
  printed_data (one i) = codes "(" ++ (printed i ++ codes ")")
  printed_data (many is) = codes "(" ++ (printed_list [] is ++ codes ")")
  printed_data (named ms) = codes " { " ++ (printed_fields [] ms ++ codes " }")

  -- one by one
  pub printed_list : List ℕ → Images → List ℕ
  printed_list lead no_images = []
  printed_list lead (image_then i is) = lead ++ (printed i ++ printed_list (codes ", ") is)

  -- of each pair, key and then value
  pub printed_pairs : List ℕ → ImagePairs → List ℕ
  printed_pairs lead no_image_pairs = []
  printed_pairs lead (image_pair_then k v es) = lead ++ (printed k ++ (codes ": " ++ (printed v ++ printed_pairs (codes ", ") es)))

  -- of each field, key and then value
  pub printed_fields : List ℕ → ImageFields → List ℕ
  printed_fields lead no_image_fields = []
  printed_fields lead (image_field_then k v ms) = lead ++ (k ++ (codes ": " ++ (printed v ++ printed_fields (codes ", ") ms)))
