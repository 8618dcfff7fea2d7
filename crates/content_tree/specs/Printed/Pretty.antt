-- What a value prints on several lines.
use Rattle.std.specs.Prelude.{ℕ, zero, suc, ◌+◌, ◌-◌, ◌^◌, min, Bool, true, false, List, [], ◌∷◌, ◌++◌, codes}
use Rattle.std.specs.Prelude.{if◌then◌else◌, ◌&&◌}
use Rattle.content_tree.specs.Images.Image.{Image, ImageData, Images, ImagePairs, ImageFields, seq}
use Rattle.content_tree.specs.Images.Image.{map, present, structure, enumeration, tuple, no_data, one}
use Rattle.content_tree.specs.Images.Image.{many, named, no_images, image_then, no_image_pairs}
use Rattle.content_tree.specs.Images.Image.{image_pair_then, no_image_fields, image_field_then}
use Rattle.content_tree.specs.Printed.Images.{printed, printed_data}
use Rattle.content_tree.specs.declared.display.pretty.PrettyDisplay.{PrettyDisplay}
use Rattle.content_tree.specs.declared.value.NamedValue.{NamedValue}

-- the value that is printed
abbrev pub pretty_value : PrettyDisplay → NamedValue
pretty_value d = d.value.now

-- two spaces a level
abbrev pub indent : ℕ → List ℕ
indent zero = []
indent (suc n) = codes "  " ++ indent n

-- a new line of a level
abbrev pub line : ℕ → List ℕ
line n = codes "\n" ++ indent n

-- the next level; no value nests as deep as the bound
abbrev pub deeper : ℕ → ℕ
deeper n = min (n + 1) (2 ^ 64 - 1)

-- no data
abbrev pub holds_nothing : ImageData → Bool
holds_nothing no_data = true
holds_nothing c = false

-- nothing is inside
abbrev pub is_leaf : Image → Bool
is_leaf (seq is) = false
is_leaf (map es) = false
is_leaf (present i) = false
is_leaf (structure m c) = holds_nothing c
is_leaf (enumeration m v c) = holds_nothing c
is_leaf (tuple is) = false
is_leaf i = true

-- no item, or one leaf
abbrev pub is_short : Images → Bool
is_short no_images = true
is_short (image_then i no_images) = is_leaf i
is_short is = false

-- no pair, or one of leaves
abbrev pub are_short_pairs : ImagePairs → Bool
are_short_pairs no_image_pairs = true
are_short_pairs (image_pair_then k i no_image_pairs) = is_leaf k && is_leaf i
are_short_pairs es = false

-- no field, or one of a leaf
abbrev pub are_short_fields : ImageFields → Bool
are_short_fields no_image_fields = true
are_short_fields (image_field_then k i no_image_fields) = is_leaf i
are_short_fields ms = false

-- the text of an image at a level: what is short as `display` prints it, else each part on a line of its own
abbrev mutual
  pub pretty : ℕ → Image → List ℕ
  pretty n (seq is) =
      if is_short is then printed (seq is) else codes "[" ++ (pretty_list (deeper n) [] is ++ (line n ++ codes "]"))
  pretty n (map es) =
      if are_short_pairs es then printed (map es) else codes "{" ++ (pretty_pairs (deeper n) [] es ++ (line n ++ codes "}"))
  pretty n (present i) = codes "Some(" ++ (pretty n i ++ codes ")")
  pretty n (structure m c) = m ++ pretty_data n c
  pretty n (enumeration m v c) = m ++ (codes "::" ++ (v ++ pretty_data n c))
  pretty n (tuple is) =
      if is_short is then printed (tuple is) else codes "(" ++ (pretty_list (deeper n) [] is ++ (line n ++ codes ")"))
  pretty n i = printed i

  -- in what a struct or a variant holds
  pub pretty_data : ℕ → ImageData → List ℕ
  pretty_data n no_data = []
  pretty_data n (one i) = codes "(" ++ (pretty n i ++ codes ")")
  pretty_data n (many is) =
      if is_short is then printed_data (many is) else codes "(" ++ (pretty_list (deeper n) [] is ++ (line n ++ codes ")"))
  pretty_data n (named ms) =
      if are_short_fields ms then printed_data (named ms) else codes " {" ++ (pretty_fields (deeper n) [] ms ++ (line n ++ codes "}"))

  -- one by one, each on a line of this level, after `lead` or a comma
  pub pretty_list : ℕ → List ℕ → Images → List ℕ
  pretty_list n lead no_images = []
  pretty_list n lead (image_then i is) = lead ++ (line n ++ (pretty n i ++ pretty_list n (codes ",") is))

  -- of each pair, key and then value
  pub pretty_pairs : ℕ → List ℕ → ImagePairs → List ℕ
  pretty_pairs n lead no_image_pairs = []
  pretty_pairs n lead (image_pair_then k i es) =
      lead ++ (line n ++ (pretty n k ++ (codes ": " ++ (pretty n i ++ pretty_pairs n (codes ",") es))))

  -- of each field, key and then value
  pub pretty_fields : ℕ → List ℕ → ImageFields → List ℕ
  pretty_fields n lead no_image_fields = []
  pretty_fields n lead (image_field_then k i ms) =
      lead ++ (line n ++ (k ++ (codes ": " ++ (pretty n i ++ pretty_fields n (codes ",") ms))))
