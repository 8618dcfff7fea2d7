-- The item of a tree codes what it keeps of it.
use Rattle.std.proofs.Common.{◌≡◌, ℕ, suc, zero, ◌+◌, ◌*◌, ◌/◌, ◌%◌, ◌^◌, ◌<◌, ◌≤◌, ℤ, pos, negsuc, Bool, true, false, cond, ltb, List, [], ◌∷◌, ◌++◌, length, ◌⊎◌, refl, sym, ap, subst, ◌∙◌, append_assoc, append-nil, arith, inl, inr}
use Rattle.std.specs.Int.{to_be_bytes, byte_at, bytes_high_first, w8, w128}
use Rattle.std.specs.Int.Digits.{number_from_digits, number_from_digits_after}
use native.Mathlib.Nat.{pow-suc, div-div-eq-div-mul, div-one, div-eq_of_lt, div-add-mod'}
use Rattle.std.proofs.lemmas.Bool.Decides.{eqb_tells}
use Rattle.std.proofs.lemmas.Bool.{cases_lt, lt-ltb, le-ltb}
use Rattle.content_tree.specs.Values.Text.{static_name}
use Rattle.content_tree.specs.Values.Tree as tree
use Rattle.content_tree.specs.Values.Tree.{Tree, TreeData, Trees, Pairs, Fields, count}
use Rattle.content_tree.specs.Values.Value.{trees_of, pairs_of}
use Rattle.content_tree.specs.Values.Ranges.{number_value}
use Rattle.content_ser.specs.Sending.TreeScript.{count_pairs, count_fields}
use Rattle.content_cbor.specs.Heads.{first_byte, head}
use Rattle.content_cbor.specs.Item.{boolean_item, bytes_item, null_item, number_item, shortest, without_zeros, item, each_item, pair_items, field_items, data_item, variant_item, text_item}
use Rattle.content_cbor.specs.Codes as size
use Rattle.content_cbor.specs.Codes.{Codes, Each, IsHead, IsInteger, IsTagged, IsContent, IsPiece, IsString, IsPair, Parts}
use Rattle.content_cbor.proofs.Ranges.{IsInRange, within}
use Rattle.content_cbor.specs.Form.{form, each_form, pair_forms, field_forms, data_form, variant_form, text_form, entry_form, depth, each_depth, pair_depths, Fits, EachFits, PairsFit, FieldsFit, DataFits, IsText, CodesForm}
use Rattle.content_cbor.specs.declared.heads.Major.{Major}
use Rattle.content_cbor.specs.declared.heads.Major.TheVariants as major

one_byte : (n : ℕ) → n < 2 ^ 8 → n ∷ [] ≡ to_be_bytes w8 n
one_byte n lt = ap (λ b. b ∷ []) (omega (arith, lt))

pub tells : (a b : ℕ) → ((ltb a b ≡ true) × (a < b)) ⊎ ((ltb a b ≡ false) × (b ≤ a))
tells a b = elim (cases_lt a b) [ inl lt ↦ inl (lt-ltb a b lt, lt) | inr le ↦ inr (le-ltb a b le, le) ]

-- the shortest head is one
pub head_is : (m : Major) (n : ℕ) → n < 2 ^ 64 → IsHead m n (head m n)
unfolding head
head_is m n room =
    elim (tells n 24) [
      | inl w ↦ rw w.0 (inl (w.1, refl))
      | inr v ↦ elim (tells n (2 ^ 8)) [
        | inl w ↦ rw (v.0, w.0) (inr (size.one, w.1, ap (λ bs. first_byte m 24 ∷ bs) (one_byte n w.1)))
        | inr u ↦ elim (tells n (2 ^ 16)) [
          | inl w ↦ rw (v.0, u.0, w.0) (inr (size.two, w.1, refl))
          | inr t ↦ elim (tells n (2 ^ 32)) [
            | inl w ↦ rw (v.0, u.0, t.0, w.0) (inr (size.four, w.1, refl))
            | inr w ↦ rw (v.0, u.0, t.0, w.0) (inr (size.eight, room, refl))
          ]
        ]
      ]
    ]

-- ---- simple values

null_is : null_item ≡ first_byte major.Simple 22 ∷ []
unfolding head
null_is = refl

boolean_is : (b : Bool) → boolean_item b ≡ first_byte major.Simple (cond b 21 20) ∷ []
unfolding head
boolean_is true = refl
boolean_is false = refl

-- ---- texts and bytes

piece_is : (m : Major) (content : List ℕ) → length content < 2 ^ 64 → IsContent m content → IsPiece m content (head m (length content) ++ content)
piece_is m content room is = (head m (length content), head_is m (length content) room, is, refl)

string_is : (m : Major) (content : List ℕ) → length content < 2 ^ 64 → IsContent m content → IsString m (static_name content) (head m (length content) ++ content)
string_is m content room is = inl (refl, piece_is m content room is)

text_is : (content : List ℕ) → IsText content → IsString major.Text (static_name content) (text_item content)
text_is content fits = string_is major.Text content fits.1 fits.0

-- ---- numbers

byte_is : (k n : ℕ) → byte_at k n ≡ n / 256 ^ k % 256
byte_is zero n = ap (λ m. m % 256) (sym (div-one n))
byte_is (suc k) n = refl

shifted : (k n : ℕ) → n / 256 ^ suc k * 256 + byte_at k n ≡ n / 256 ^ k
shifted k n =
    ap (λ m. n / m * 256 + byte_at k n) (pow-suc 256 k) ∙ ap (λ m. m * 256 + byte_at k n) (sym (div-div-eq-div-mul n (256 ^ k) 256))
    ∙ ap (λ b. n / 256 ^ k / 256 * 256 + b) (byte_is k n) ∙ div-add-mod' (n / 256 ^ k) 256

digits_back : (k n : ℕ) → number_from_digits_after 256 (n / 256 ^ k) (bytes_high_first k n) ≡ n
digits_back zero n = div-one n
digits_back (suc k) n = ap (λ m. number_from_digits_after 256 m (bytes_high_first k n)) (shifted k n) ∙ digits_back k n

sixteen : (n : ℕ) → length (to_be_bytes w128 n) ≡ 16
sixteen n = refl

no_longer : (bs : List ℕ) → length (without_zeros bs) ≤ length bs
unfolding without_zeros
no_longer [] = omega arith
no_longer (b ∷ bs) = elim (eqb_tells b 0) [ inl w ↦ rw w.0 (omega (arith, no_longer bs)) | inr w ↦ rw w.0 (omega arith) ]

no_zeros : (bs : List ℕ) → number_from_digits 256 (without_zeros bs) ≡ number_from_digits 256 bs
unfolding without_zeros
no_zeros [] = refl
no_zeros (b ∷ bs) = elim (eqb_tells b 0) [
  | inl w ↦ let e : 0 ≡ 0 * 256 + b = omega (arith, w.1) in rw w.0 (no_zeros bs ∙ ap (λ d. number_from_digits_after 256 d bs) e)
  | inr w ↦ rw w.0 refl
]

shortest_is : (n : ℕ) → n < 2 ^ 128 → number_from_digits 256 (shortest n) ≡ n
unfolding shortest
shortest_is n room =
    no_zeros (to_be_bytes w128 n)
    ∙ ap (λ m. number_from_digits_after 256 m (bytes_high_first 16 n)) (sym (div-eq_of_lt room)) ∙ digits_back 16 n

shortest_length : (n : ℕ) → length (shortest n) < 2 ^ 64
unfolding shortest
shortest_length n = omega (arith, no_longer (to_be_bytes w128 n), sixteen n)

tagged_is : (tag n : ℕ) → tag < 2 ^ 64 → n < 2 ^ 128 → IsTagged tag n (head major.Tag tag ++ bytes_item (shortest n))
tagged_is tag n small room = (
  head major.Tag tag,
  bytes_item (shortest n),
  static_name (shortest n),
  head_is major.Tag tag small,
  string_is major.Bytes (shortest n) (shortest_length n) tt,
  shortest_is n room,
  refl,
)

integer_is : (z : ℤ) → IsInRange z → IsInteger z (number_item z)
integer_is (pos n) room = elim (tells n (2 ^ 64)) [
  | inl w ↦ rw w.0 (inl (head_is major.Unsigned n w.1))
  | inr w ↦ rw w.0 (inr (room, tagged_is 2 n (omega arith) room))
]
integer_is (negsuc n) room = elim (tells n (2 ^ 64)) [
  | inl w ↦ rw w.0 (inl (head_is major.Negative n w.1))
  | inr w ↦ rw w.0 (inr (room, tagged_is 3 n (omega arith) (omega (arith, room))))
]

-- ---- lists

abbrev forms : Trees → List Tree
forms tree.no_trees = []
forms (tree.tree_then t ts) = form t ∷ forms ts

each_is : (ts : Trees) → each_form ts ≡ trees_of (forms ts)
each_is tree.no_trees = refl
each_is (tree.tree_then t ts) = ap (λ us. tree.tree_then (form t) us) (each_is ts)

counted : (ts : Trees) → length (forms ts) ≡ count ts
counted tree.no_trees = refl
counted (tree.tree_then t ts) = ap suc (counted ts)

abbrev pair_list : Pairs → List (Tree × Tree)
pair_list tree.no_pairs = []
pair_list (tree.pair_then k t ps) = (form k, form t) ∷ pair_list ps

pairs_are : (ps : Pairs) → pair_forms ps ≡ pairs_of (pair_list ps)
pairs_are tree.no_pairs = refl
pairs_are (tree.pair_then k t ps) = ap (λ us. tree.pair_then (form k) (form t) us) (pairs_are ps)

counted_pairs : (ps : Pairs) → length (pair_list ps) ≡ count_pairs ps
counted_pairs tree.no_pairs = refl
counted_pairs (tree.pair_then k t ps) = ap suc (counted_pairs ps)

abbrev field_list : Fields → List (Tree × Tree)
field_list tree.no_fields = []
field_list (tree.field_then k t fs) = (text_form k.content, form t) ∷ field_list fs

fields_are : (fs : Fields) → field_forms fs ≡ pairs_of (field_list fs)
fields_are tree.no_fields = refl
fields_are (tree.field_then k t fs) = ap (λ us. tree.pair_then (text_form k.content) (form t) us) (fields_are fs)

counted_fields : (fs : Fields) → length (field_list fs) ≡ count_fields fs
counted_fields tree.no_fields = refl
counted_fields (tree.field_then k t fs) = ap suc (counted_fields fs)

-- a head and so many parts
whole : {A : Type 0} (m : Major) (Part : A → List ℕ → Type 0) (xs : List A) (n : ℕ) (body : List ℕ) → length xs ≡ n → n < 2 ^ 64 → Each Part xs body
    → Parts m Part xs (head m n ++ body)
whole m Part xs n body len room each = inl (head m n, body, subst (λ k. IsHead m k (head m n)) (sym len) (head_is m n room), each, refl)

-- ---- trees

some_depth : (t : Tree) → 1 ≤ depth t
some_depth tree.unit = omega arith
some_depth (tree.boolean b) = omega arith
some_depth (tree.number n) = omega arith
some_depth (tree.character c) = omega arith
some_depth (tree.text x) = omega arith
some_depth (tree.octets x) = omega arith
some_depth (tree.seq ts) = omega arith
some_depth (tree.map ps) = omega arith
some_depth tree.absent = omega arith
some_depth (tree.present t) = omega arith
some_depth (tree.structure n d) = omega arith
some_depth (tree.enumeration n i v d) = omega arith
some_depth (tree.tuple ts) = omega arith

key_is : (limit : ℕ) (k : List ℕ) → IsText k → 0 < limit → Codes limit (text_form k) (text_item k)
key_is zero k is some = absurd (omega (arith, some))
key_is (suc limit) k is some = text_is k is

entry_is : (limit : ℕ) (v : List ℕ) (t : Tree) (bs : List ℕ) → IsText v → 0 < limit → Codes limit t bs
    → Codes (suc limit) (entry_form v t) ((head major.Map 1 ++ text_item v) ++ bs)
entry_is limit v t bs fits some is = (
  (text_form v, t) ∷ [],
  refl,
  inl (
    head major.Map 1,
    text_item v ++ bs,
    head_is major.Map 1 (omega arith),
    (text_item v ++ bs, [], (text_item v, bs, key_is limit v fits some, is, refl), refl, sym (append-nil (text_item v ++ bs))),
    append_assoc (head major.Map 1) (text_item v) bs,
  ),
)

-- the depth of an entry
in_entry : (limit : ℕ) (v : List ℕ) (t : Tree) → depth (entry_form v t) ≤ suc limit → (0 < limit) × (depth t ≤ limit)
in_entry limit v t le = (omega (arith, le), omega (arith, le))

array_is : (limit : ℕ) (ts : Trees) → count ts < 2 ^ 64 → Each (Codes limit) (forms ts) (each_item ts)
    → Codes (suc limit) (tree.seq (each_form ts)) (head major.Array (count ts) ++ each_item ts)
array_is limit ts room each = (forms ts, each_is ts, whole major.Array (Codes limit) (forms ts) (count ts) (each_item ts) (counted ts) room each)

map_is : (limit : ℕ) (ps : Pairs) → count_pairs ps < 2 ^ 64 → Each (IsPair (Codes limit)) (pair_list ps) (pair_items ps)
    → Codes (suc limit) (tree.map (pair_forms ps)) (head major.Map (count_pairs ps) ++ pair_items ps)
map_is limit ps room each =
    (pair_list ps, pairs_are ps, whole major.Map (IsPair (Codes limit)) (pair_list ps) (count_pairs ps) (pair_items ps) (counted_pairs ps) room each)

fields_map_is : (limit : ℕ) (fs : Fields) → count_fields fs < 2 ^ 64 → Each (IsPair (Codes limit)) (field_list fs) (field_items fs)
    → Codes (suc limit) (tree.map (field_forms fs)) (head major.Map (count_fields fs) ++ field_items fs)
fields_map_is limit fs room each =
    (field_list fs, fields_are fs, whole major.Map (IsPair (Codes limit)) (field_list fs) (count_fields fs) (field_items fs) (counted_fields fs) room each)

mutual
  pub coded : (limit : ℕ) (t : Tree) → Fits t → depth (form t) ≤ limit → Codes limit (form t) (item t)
  coded zero t fits le = absurd (omega (arith, some_depth (form t), le))
  coded (suc limit) tree.unit fits le = null_is
  coded (suc limit) (tree.boolean true) fits le = boolean_is true
  coded (suc limit) (tree.boolean false) fits le = boolean_is false
  coded (suc limit) (tree.number n) fits le = (number_value n, refl, integer_is (number_value n) (within n fits))
  coded (suc limit) (tree.character c) fits le = text_is _ fits
  coded (suc limit) (tree.text t) fits le = text_is t.content fits
  coded (suc limit) (tree.octets t) fits le = string_is major.Bytes t.content fits tt
  coded (suc limit) (tree.seq ts) fits le = array_is limit ts fits.0 (each_coded limit ts fits.1 (omega (arith, le)))
  coded (suc limit) (tree.map ps) fits le = map_is limit ps fits.0 (pairs_coded limit ps fits.1 (omega (arith, le)))
  coded (suc limit) tree.absent fits le = null_is
  coded (suc limit) (tree.present t) fits le = coded (suc limit) t fits le
  coded (suc limit) (tree.structure n d) fits le = data_coded (suc limit) d fits le
  coded (suc limit) (tree.enumeration n i v d) fits le = variant_coded limit v.content d fits.0 fits.1 le
  coded (suc limit) (tree.tuple ts) fits le = array_is limit ts fits.0 (each_coded limit ts fits.1 (omega (arith, le)))

  data_coded : (limit : ℕ) (d : TreeData) → DataFits d → depth (data_form d) ≤ limit → Codes limit (data_form d) (data_item d)
  data_coded zero d fits le = absurd (omega (arith, some_depth (data_form d), le))
  data_coded (suc limit) tree.no_data fits le = null_is
  data_coded (suc limit) (tree.one t) fits le = coded (suc limit) t fits le
  data_coded (suc limit) (tree.many ts) fits le = array_is limit ts fits.0 (each_coded limit ts fits.1 (omega (arith, le)))
  data_coded (suc limit) (tree.named fs) fits le = fields_map_is limit fs fits.0 (fields_coded limit fs fits.1 (omega (arith, le)))

  variant_coded : (limit : ℕ) (v : List ℕ) (d : TreeData) → IsText v → DataFits d → depth (variant_form v d) ≤ suc limit
      → Codes (suc limit) (variant_form v d) (variant_item v d)
  variant_coded limit v tree.no_data is fits le = text_is v is
  variant_coded limit v (tree.one t) is fits le =
      let h = in_entry limit v (form t) le in
      entry_is limit v (form t) (item t) is h.0 (coded limit t fits h.1)
  variant_coded zero v (tree.many ts) is fits le = absurd (omega (arith, le))
  variant_coded zero v (tree.named fs) is fits le = absurd (omega (arith, le))
  variant_coded (suc limit) v (tree.many ts) is fits le =
      let h = in_entry (suc limit) v (tree.seq (each_form ts)) le in
      entry_is (suc limit) v (tree.seq (each_form ts)) (head major.Array (count ts) ++ each_item ts) is h.0
      (array_is limit ts fits.0 (each_coded limit ts fits.1 (omega (arith, h.1))))
  variant_coded (suc limit) v (tree.named fs) is fits le =
      let h = in_entry (suc limit) v (tree.map (field_forms fs)) le in
      entry_is (suc limit) v (tree.map (field_forms fs)) (head major.Map (count_fields fs) ++ field_items fs) is h.0
      (fields_map_is limit fs fits.0 (fields_coded limit fs fits.1 (omega (arith, h.1))))

  each_coded : (limit : ℕ) (ts : Trees) → EachFits ts → each_depth (each_form ts) ≤ limit → Each (Codes limit) (forms ts) (each_item ts)
  each_coded limit tree.no_trees fits le = refl
  each_coded limit (tree.tree_then t ts) fits le =
      (item t, each_item ts, coded limit t fits.0 (omega (arith, le)), each_coded limit ts fits.1 (omega (arith, le)), refl)

  pairs_coded : (limit : ℕ) (ps : Pairs) → PairsFit ps → pair_depths (pair_forms ps) ≤ limit → Each (IsPair (Codes limit)) (pair_list ps) (pair_items ps)
  pairs_coded limit tree.no_pairs fits le = refl
  pairs_coded limit (tree.pair_then k t ps) fits le = (
    item k ++ item t,
    pair_items ps,
    (item k, item t, coded limit k fits.0 (omega (arith, le)), coded limit t fits.1 (omega (arith, le)), refl),
    pairs_coded limit ps fits.2 (omega (arith, le)),
    refl,
  )

  fields_coded : (limit : ℕ) (fs : Fields) → FieldsFit fs → pair_depths (field_forms fs) ≤ limit → Each (IsPair (Codes limit)) (field_list fs) (field_items fs)
  fields_coded limit tree.no_fields fits le = refl
  fields_coded limit (tree.field_then k t fs) fits le = (
    text_item k.content ++ item t,
    field_items fs,
    (text_item k.content, item t, key_is limit k.content fits.0 (omega (arith, le)), coded limit t fits.1 (omega (arith, le)), refl),
    fields_coded limit fs fits.2 (omega (arith, le)),
    refl,
  )

-- the item of a tree that fits codes its form
pub codes_form : (t : Tree) → Fits t → CodesForm t (item t)
codes_form t fits limit le = coded limit t fits le
