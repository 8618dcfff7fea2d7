-- The order of images is total: it is that of their ranked trees.
use Rattle.std.specs.Prelude.{◌≡◌, pos, true, false, [], refl}
use Rattle.std.proofs.Common.{subst, sym, ap, ◌∙◌}
use Rattle.std.specs.Ordering.{ordering_then, as_partial_cmp}
use Rattle.std.specs.Cmp.{IsTotalOrder, IsEquivalence, IsPartialOrder, on_total, eq_by_cmp_equiv}
use Rattle.std.specs.Cmp.{partial_order_from_total}
use Rattle.content_tree.specs.Laws.Ranked.{Ranked, ranked, Children, no_children, child_then}
use Rattle.content_tree.specs.Laws.Ranked.{ranked_cmp, children_cmp, then_equal, ranked_total}
use Rattle.content_tree.specs.Laws.RankedTree.{leaf, number_leaf, bool_place, number_as}
use Rattle.content_tree.specs.Images.Image.{Image, unit, boolean, number, character, text, octets}
use Rattle.content_tree.specs.Images.Image.{seq, map, absent, present, structure, enumeration}
use Rattle.content_tree.specs.Images.Image.{tuple, identifier, ImageData, no_data, one, many, named}
use Rattle.content_tree.specs.Images.Image.{Images, no_images, image_then, ImagePairs}
use Rattle.content_tree.specs.Images.Image.{no_image_pairs, image_pair_then, ImageFields}
use Rattle.content_tree.specs.Images.Image.{no_image_fields, image_field_then}
use Rattle.content_tree.specs.Orders.Images.{bytes_cmp, image_cmp, image_data_cmp, images_cmp}
use Rattle.content_tree.specs.Orders.Images.{image_pairs_cmp, image_fields_cmp, same_image}
use Rattle.content_tree.specs.Orders.Images.{same_image_data}

-- the ranked tree of an image
abbrev mutual
  rank : Image → Ranked
  rank unit = leaf 0 0 (pos 0) []
  rank (boolean b) = leaf 1 (bool_place b) (pos 0) []
  rank (number n) = number_leaf n
  rank (character c) = leaf 3 c (pos 0) []
  rank (text t) = leaf 4 0 (pos 0) t
  rank (octets t) = leaf 5 0 (pos 0) t
  rank (seq is) = ranked (6, 0, pos 0, []) (rank_each is)
  rank (map es) = ranked (7, 0, pos 0, []) (rank_entries es)
  rank absent = leaf 8 0 (pos 0) []
  rank (present i) = ranked (8, 1, pos 0, []) (child_then (rank i) no_children)
  rank (structure n c) = ranked (9, 0, pos 0, n) (child_then (rank_content c) no_children)
  rank (enumeration n v c) =
      ranked (10, 0, pos 0, n) (child_then (leaf 0 0 (pos 0) v) (child_then (rank_content c) no_children))
  rank (tuple is) = ranked (11, 0, pos 0, []) (rank_each is)
  rank (identifier t) = leaf 12 0 (pos 0) t

  rank_content : ImageData → Ranked
  rank_content no_data = leaf 0 0 (pos 0) []
  rank_content (one i) = ranked (1, 0, pos 0, []) (child_then (rank i) no_children)
  rank_content (many is) = ranked (2, 0, pos 0, []) (rank_each is)
  rank_content (named ms) = ranked (3, 0, pos 0, []) (rank_members ms)

  rank_each : Images → Children
  rank_each no_images = no_children
  rank_each (image_then i is) = child_then (rank i) (rank_each is)

  rank_entries : ImagePairs → Children
  rank_entries no_image_pairs = no_children
  rank_entries (image_pair_then k i es) = child_then (rank k) (child_then (rank i) (rank_entries es))

  rank_members : ImageFields → Children
  rank_members no_image_fields = no_children
  rank_members (image_field_then k i ms) = child_then (leaf 0 0 (pos 0) k) (child_then (rank i) (rank_members ms))

-- each comparison is that of the ranked trees
mutual
  image_as : (a b : Image) → image_cmp a b ≡ ranked_cmp (rank a) (rank b)
  image_as unit unit = refl
  image_as absent absent = refl
  image_as absent (present b) = refl
  image_as (present a) absent = refl
  image_as (boolean true) (boolean true) = refl
  image_as (boolean true) (boolean false) = refl
  image_as (boolean false) (boolean true) = refl
  image_as (boolean false) (boolean false) = refl
  image_as (number a) (number b) = number_as a b
  image_as (character a) (character b) = sym (then_equal _ ∙ then_equal _)
  image_as (text a) (text b) = sym (then_equal _)
  image_as (octets a) (octets b) = sym (then_equal _)
  image_as (seq a) (seq b) = images_as a b
  image_as (map a) (map b) = entries_as a b
  image_as (present a) (present b) = image_as a b ∙ sym (then_equal _)
  image_as (structure n c) (structure m d) = ap (ordering_then (bytes_cmp n m)) (content_as c d ∙ sym (then_equal _))
  image_as (enumeration n v c) (enumeration m w d) =
      let held = content_as c d ∙ sym (then_equal _) in
      ap (ordering_then (bytes_cmp n m)) (λ k. ordering_then (sym (then_equal (bytes_cmp v w)) k) (held k))
  image_as (tuple a) (tuple b) = images_as a b
  image_as (identifier a) (identifier b) = sym (then_equal _)
  image_as a b = refl

  content_as : (c d : ImageData) → image_data_cmp c d ≡ ranked_cmp (rank_content c) (rank_content d)
  content_as no_data no_data = refl
  content_as (one a) (one b) = image_as a b ∙ sym (then_equal _)
  content_as (many a) (many b) = images_as a b
  content_as (named a) (named b) = members_as a b
  content_as c d = refl

  images_as : (is js : Images) → images_cmp is js ≡ children_cmp (rank_each is) (rank_each js)
  images_as no_images no_images = refl
  images_as no_images (image_then j js) = refl
  images_as (image_then i is) no_images = refl
  images_as (image_then i is) (image_then j js) = λ k. ordering_then (image_as i j k) (images_as is js k)

  entries_as : (es fs : ImagePairs) → image_pairs_cmp es fs ≡ children_cmp (rank_entries es) (rank_entries fs)
  entries_as no_image_pairs no_image_pairs = refl
  entries_as no_image_pairs (image_pair_then l j fs) = refl
  entries_as (image_pair_then k i es) no_image_pairs = refl
  entries_as (image_pair_then k i es) (image_pair_then l j fs) =
      λ p. ordering_then (image_as k l p) (ordering_then (image_as i j p) (entries_as es fs p))

  members_as : (ms ns : ImageFields) → image_fields_cmp ms ns ≡ children_cmp (rank_members ms) (rank_members ns)
  members_as no_image_fields no_image_fields = refl
  members_as no_image_fields (image_field_then l j ns) = refl
  members_as (image_field_then k i ms) no_image_fields = refl
  members_as (image_field_then k i ms) (image_field_then l j ns) =
      λ p. ordering_then (sym (then_equal (bytes_cmp k l)) p) (ordering_then (image_as i j p) (members_as ms ns p))

-- the order of images is total
pub image_total : IsTotalOrder image_cmp
image_total = subst (λ R. IsTotalOrder R) (λ i a b. sym (image_as a b) i) (on_total rank ranked_total)

-- the order of contents is total
pub image_data_total : IsTotalOrder image_data_cmp
image_data_total = subst (λ R. IsTotalOrder R) (λ i a b. sym (content_as a b) i) (on_total rank_content ranked_total)

-- the test of images is an equivalence
pub image_equiv : IsEquivalence same_image
image_equiv = eq_by_cmp_equiv image_total

-- the order of images agrees with their test
pub image_partial_order : IsPartialOrder same_image (as_partial_cmp image_cmp)
image_partial_order = partial_order_from_total image_total

-- the test of contents is an equivalence
pub image_data_equiv : IsEquivalence same_image_data
image_data_equiv = eq_by_cmp_equiv image_data_total

-- the order of contents agrees with their test
pub image_data_partial_order : IsPartialOrder same_image_data (as_partial_cmp image_data_cmp)
image_data_partial_order = partial_order_from_total image_data_total
