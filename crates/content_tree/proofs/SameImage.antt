-- The order finds neither of two images less exactly if they are equal.
use Rattle.std.proofs.Common.{◌≡◌, refl, ap}
use Rattle.content_tree.proofs.Decide.{Ties, along, both, nats_tie, bytes_tie, bools_tie}
use Rattle.content_tree.proofs.Decide.{numbers_tie}
use Rattle.content_tree.specs.Images.Image.{Image, unit, boolean, number, character, text, octets}
use Rattle.content_tree.specs.Images.Image.{seq, map, absent, present, structure, enumeration}
use Rattle.content_tree.specs.Images.Image.{tuple, identifier, ImageData, no_data, one, many, named}
use Rattle.content_tree.specs.Images.Image.{Images, no_images, image_then, ImagePairs}
use Rattle.content_tree.specs.Images.Image.{no_image_pairs, image_pair_then, ImageFields}
use Rattle.content_tree.specs.Images.Image.{no_image_fields, image_field_then}
use Rattle.content_tree.specs.Orders.Images.{bytes_cmp, image_cmp, image_data_cmp, images_cmp}
use Rattle.content_tree.specs.Orders.Images.{image_pairs_cmp, image_fields_cmp}

-- images, contents, and the lists in them
mutual
  pub images_tie : (a b : Image) → Ties (image_cmp a b) (a ≡ b)
  images_tie unit unit = (λ e. refl, λ e. refl)
  images_tie (boolean a) (boolean b) = along _ (bools_tie a b) (ap boolean) (λ e. cc)
  images_tie (number a) (number b) = along _ (numbers_tie a b) (ap number) (λ e. cc)
  images_tie (character a) (character b) = along _ (nats_tie a b) (ap character) (λ e. cc)
  images_tie (text a) (text b) = along _ (bytes_tie a b) (ap text) (λ e. cc)
  images_tie (octets a) (octets b) = along _ (bytes_tie a b) (ap octets) (λ e. cc)
  images_tie (seq a) (seq b) = along _ (lists_tie a b) (ap seq) (λ e. cc)
  images_tie (map a) (map b) = along _ (image_pairs_tie a b) (ap map) (λ e. cc)
  images_tie absent absent = (λ e. refl, λ e. refl)
  images_tie (present a) (present b) = along _ (images_tie a b) (ap present) (λ e. cc)
  images_tie (structure n c) (structure m d) =
      along _ (both (bytes_cmp n m) (image_data_cmp c d) (bytes_tie n m) (image_data_tie c d)) (λ e. cc) (λ e. (cc, cc))
  images_tie (enumeration n v c) (enumeration m w d) =
      let held = both (bytes_cmp v w) (image_data_cmp c d) (bytes_tie v w) (image_data_tie c d) in
      along _ (both (bytes_cmp n m) _ (bytes_tie n m) held) (λ e. cc) (λ e. (cc, (cc, cc)))
  images_tie (tuple a) (tuple b) = along _ (lists_tie a b) (ap tuple) (λ e. cc)
  images_tie (identifier a) (identifier b) = along _ (bytes_tie a b) (ap identifier) (λ e. cc)
  images_tie a b = (λ e. absurd (cc e), λ e. absurd (cc e))

  pub image_data_tie : (c d : ImageData) → Ties (image_data_cmp c d) (c ≡ d)
  image_data_tie no_data no_data = (λ e. refl, λ e. refl)
  image_data_tie (one a) (one b) = along _ (images_tie a b) (ap one) (λ e. cc)
  image_data_tie (many a) (many b) = along _ (lists_tie a b) (ap many) (λ e. cc)
  image_data_tie (named a) (named b) = along _ (image_fields_tie a b) (ap named) (λ e. cc)
  image_data_tie c d = (λ e. absurd (cc e), λ e. absurd (cc e))

  lists_tie : (is js : Images) → Ties (images_cmp is js) (is ≡ js)
  lists_tie no_images no_images = (λ e. refl, λ e. refl)
  lists_tie (image_then i is) (image_then j js) =
      along _ (both (image_cmp i j) (images_cmp is js) (images_tie i j) (lists_tie is js)) (λ e. cc) (λ e. (cc, cc))
  lists_tie is js = (λ e. absurd (cc e), λ e. absurd (cc e))

  image_pairs_tie : (es fs : ImagePairs) → Ties (image_pairs_cmp es fs) (es ≡ fs)
  image_pairs_tie no_image_pairs no_image_pairs = (λ e. refl, λ e. refl)
  image_pairs_tie (image_pair_then k i es) (image_pair_then l j fs) =
      let values = both (image_cmp i j) (image_pairs_cmp es fs) (images_tie i j) (image_pairs_tie es fs) in
      along _ (both (image_cmp k l) _ (images_tie k l) values) (λ e. cc) (λ e. (cc, (cc, cc)))
  image_pairs_tie es fs = (λ e. absurd (cc e), λ e. absurd (cc e))

  image_fields_tie : (ms ns : ImageFields) → Ties (image_fields_cmp ms ns) (ms ≡ ns)
  image_fields_tie no_image_fields no_image_fields = (λ e. refl, λ e. refl)
  image_fields_tie (image_field_then k i ms) (image_field_then l j ns) =
      let values = both (image_cmp i j) (image_fields_cmp ms ns) (images_tie i j) (image_fields_tie ms ns) in
      along _ (both (bytes_cmp k l) _ (bytes_tie k l) values) (λ e. cc) (λ e. (cc, (cc, cc)))
  image_fields_tie ms ns = (λ e. absurd (cc e), λ e. absurd (cc e))
