-- Readers refuse at the end of the bytes exactly what has ended.
use Rattle.std.proofs.Common.{◌≡◌, ℕ, suc, zero, ◌+◌, ◌*◌, ◌/◌, ◌%◌, Bool, true, false, cond, eqb, ltb, List, [], ◌∷◌, length, Option, Some, None, Result, Ok, Err, refl}
use Rattle.std.specs.Prelude.{◌↔◌}
use Rattle.std.specs.Int.{is_in_range}
use Rattle.std.specs.List.{concat}
use Rattle.content_tree.specs.Values.Tree.{Tree}
use Rattle.content_cbor.specs.declared.decode_error.Fault.{Fault}
use Rattle.content_cbor.specs.declared.decode_error.Fault.TheVariants as fault
use Rattle.content_cbor.specs.declared.heads.First.{First}
use Rattle.content_cbor.specs.declared.heads.Major.{Major}
use Rattle.content_cbor.specs.declared.heads.Major.TheVariants as major
use Rattle.content_cbor.specs.declared.stop.Refusal.{Refusal}
use Rattle.content_cbor.specs.Inner.Steps.{◌>>=◌, Reader, or_refused, refused, unless}
use Rattle.content_cbor.specs.Inner.Numbers.{Bounds, argument_at, digits_at, size_of, unbounded}
use Rattle.content_cbor.specs.declared.utf8.Lack.{Lack}
use Rattle.content_cbor.specs.Inner.Texts.{after_byte, text_at, within}
use Rattle.content_cbor.specs.Inner.Reading.{begins_chunk, bounds_of, chunk_at, chunk_bounds, chunks_at, content_at, digits_of, digits_until, each_at, first_at, head_at, head_behind}
use Rattle.content_cbor.specs.Inner.Reading.{inside_at, is_reserved, item_at, item_fault, kind_at, leaf_at, length_at, magnitude_at, magnitude_behind, major_of, pair_at, parts_at, room, string_at, tag_at, until_at, whole_at}

-- what is refused with nothing left has ended, and nothing else has
abbrev pub IsEnd : Refusal → Type 0
IsEnd e = (e.«fault» ≡ fault.Ended) ↔ (e.left ≡ 0)

-- so it is inside an item, where nothing is trailing
abbrev pub IsInside : Refusal → Type 0
IsInside e = IsEnd e × (e.«fault» ≡ fault.Trailing → ⊥)

abbrev pub Ends : {A : Type 0} → Result A Refusal → Type 0
Ends (Ok x) = Unit {0}
Ends (Err e) = IsInside e

-- a fault of bytes that are there, inside an item
abbrev IsOther : Fault → Type 0
IsOther f = (f ≡ fault.Ended → ⊥) × (f ≡ fault.Trailing → ⊥)

ended : IsInside (record { «fault» = fault.Ended; left = 0 })
ended = ((λ f. refl, λ n. refl), λ is. absurd cc)

other : (f : Fault) (n : ℕ) → IsOther f → IsInside (record { «fault» = f; left = suc n })
other f n not = ((λ is. absurd (not.0 is), λ is. absurd cc), not.1)

ends_if : {A : Type 0} (b : Bool) (x y : Result A Refusal) → Ends x → Ends y → Ends (cond b x y)
ends_if true x y p q = p
ends_if false x y p q = q

ends_then : {A B : Type 0} (r : Result A Refusal) (f : A → Result B Refusal) → Ends r → ((x : A) → Ends (f x)) → Ends (r >>= f)
ends_then (Ok x) f p next = next x
ends_then (Err e) f p next = p

abbrev IsBound : Bounds → Type 0
IsBound bounds = IsOther bounds.otherwise

ends_digits : (bounds : Bounds) → IsBound bounds → (due n : ℕ) (bs : List ℕ) → Ends (digits_at bounds due n bs)
unfolding digits_at
ends_digits bounds not zero n bs = tt
ends_digits bounds not (suc due) n [] = ended
ends_digits bounds not (suc due) n (b ∷ bs) =
    ends_if (bounds.admits due (n * 256 + b)) _ _ (ends_digits bounds not due (n * 256 + b) bs) (other bounds.otherwise (length bs) not)

open_bound : IsBound unbounded
open_bound = (λ is. absurd cc, λ is. absurd cc)

ends_argument : (bounds : Bounds) → IsBound bounds → (info : ℕ) (bs : List ℕ) → Ends (argument_at bounds info bs)
unfolding argument_at
ends_argument bounds not info bs =
    ends_if (ltb info 24) _ _
    (ends_if (bounds.admits 0 info) _ _ tt (other bounds.otherwise (length bs) not))
    (ends_digits bounds not (size_of info) 0 bs)

ends_first : (bs : List ℕ) → Ends (first_at bs)
unfolding first_at
ends_first [] = ended
ends_first (b ∷ bs) =
    ends_if (is_reserved (major_of (b / 32)) (b % 32)) _ _ (other fault.Reserved (length bs) (λ is. absurd cc, λ is. absurd cc)) tt

-- what is wrong, if anything is, is another fault
abbrev AreOther : Option Fault → Type 0
AreOther None = Unit {0}
AreOther (Some f) = IsOther f

other_if : (b : Bool) (x y : Option Fault) → AreOther x → AreOther y → AreOther (cond b x y)
other_if true x y p q = p
other_if false x y p q = q

item_other : (m : Major) (info : ℕ) → AreOther (item_fault m info)
item_other major.Simple info =
    other_if (eqb info 31) _ _ (λ is. absurd cc, λ is. absurd cc)
    (other_if (is_in_range 25 27 info) _ _ (λ is. absurd cc, λ is. absurd cc) (other_if (is_in_range 20 22 info) _ _ tt (λ is. absurd cc, λ is. absurd cc)))
item_other major.Tag info =
    other_if (ltb 23 info) _ _ tt (other_if (is_in_range 2 3 info) _ _ tt (λ is. absurd cc, λ is. absurd cc))
item_other major.Unsigned info = tt
item_other major.Negative info = tt
item_other major.Bytes info = tt
item_other major.Text info = tt
item_other major.Array info = tt
item_other major.Map info = tt

ends_unless : (o : Option Fault) (b : ℕ) (bs : List ℕ) (h : First × List ℕ) → AreOther o → Ends (unless o (b ∷ bs) h)
ends_unless None b bs h is = tt
ends_unless (Some f) b bs h is = other f (length bs) is

ends_kind : (bs : List ℕ) → Ends (kind_at bs)
unfolding kind_at first_at
ends_kind [] = ended
ends_kind (b ∷ bs) =
    ends_then (first_at (b ∷ bs)) _ (ends_first (b ∷ bs)) (λ h. ends_unless (item_fault h.0.«major» h.0.info) b bs h (item_other h.0.«major» h.0.info))

-- ---- heads

ends_head_behind : (bounds : Bounds) → IsBound bounds → (first : First) (bs : List ℕ) → Ends (head_behind bounds first bs)
ends_head_behind bounds not first bs =
    ends_if (eqb first.info 31) _ _ tt
    (ends_then (argument_at bounds first.info bs) _ (ends_argument bounds not first.info bs) (λ n. tt))

bound_of : (limit : ℕ) (m : Major) → IsBound (bounds_of limit m)
bound_of limit major.Tag = (λ is. absurd cc, λ is. absurd cc)
bound_of zero major.Array = (λ is. absurd cc, λ is. absurd cc)
bound_of zero major.Map = (λ is. absurd cc, λ is. absurd cc)
bound_of (suc limit) major.Array = (λ is. absurd cc, λ is. absurd cc)
bound_of (suc limit) major.Map = (λ is. absurd cc, λ is. absurd cc)
bound_of limit major.Unsigned = (λ is. absurd cc, λ is. absurd cc)
bound_of limit major.Negative = (λ is. absurd cc, λ is. absurd cc)
bound_of limit major.Bytes = (λ is. absurd cc, λ is. absurd cc)
bound_of limit major.Text = (λ is. absurd cc, λ is. absurd cc)
bound_of limit major.Simple = (λ is. absurd cc, λ is. absurd cc)

ends_head : (limit : ℕ) (bs : List ℕ) → Ends (head_at limit bs)
unfolding head_at
ends_head limit bs =
    ends_then (kind_at bs) _ (ends_kind bs) (λ h.
    ends_head_behind (bounds_of limit h.0.«major») (bound_of limit h.0.«major») h.0 h.1)

-- ---- texts and bytes

ends_there : {A B : Type 0} (f : Fault) (b : ℕ) (bs : List ℕ) (o : Option A) (then : A → Result B Refusal) → IsOther f
    → ((x : A) → Ends (then x)) → Ends (or_refused f (b ∷ bs) o >>= then)
ends_there f b bs None then not next = other f (length bs) not
ends_there f b bs (Some x) then not next = next x

ends_text : (lack : Lack) (n : ℕ) (bs : List ℕ) → Ends (text_at lack n bs)
unfolding text_at
ends_text lack zero bs = tt
ends_text lack (suc n) [] = ended
ends_text lack (suc n) (b ∷ bs) =
    ends_there fault.NotUtf8 b bs (within n (after_byte lack b)) _ (λ is. absurd cc, λ is. absurd cc) (λ next.
    ends_then (text_at next n bs) _ (ends_text next n bs) (λ x. tt))

ends_content : (t : Bool) (n : ℕ) (bs : List ℕ) → Ends (content_at t n bs)
unfolding content_at
ends_content false n bs = ends_if (ltb (length bs) n) _ _ ended tt
ends_content true n bs = ends_text _ n bs

-- a fault at bytes of which a first one was read
ends_at_first : (f : Fault) (bs : List ℕ) (h : First × List ℕ) → first_at bs ≡ Ok h → IsOther f → IsInside (record { «fault» = f; left = length bs })
unfolding first_at
ends_at_first f [] h is not = absurd cc
ends_at_first f (b ∷ bs) h is not = other f (length bs) not

ends_at_kind : (f : Fault) (bs : List ℕ) (h : First × List ℕ) → kind_at bs ≡ Ok h → IsOther f → IsInside (record { «fault» = f; left = length bs })
unfolding kind_at first_at
ends_at_kind f [] h is not = absurd cc
ends_at_kind f (b ∷ bs) h is not = other f (length bs) not

ends_known : {A B : Type 0} (r : Result A Refusal) (f : A → Result B Refusal) → Ends r → ((x : A) → r ≡ Ok x → Ends (f x)) → Ends (r >>= f)
ends_known (Ok x) f p next = next x refl
ends_known (Err e) f p next = p

ends_length : (t : Bool) (bounds : Bounds) → IsBound bounds → (bs : List ℕ) → Ends (length_at t bounds bs)
unfolding length_at
ends_length t bounds not bs =
    ends_known (first_at bs) _ (ends_first bs) (λ h is.
    ends_if (begins_chunk t h.0.«major» h.0.info) _ _ (ends_argument bounds not h.0.info h.1)
    (ends_at_first fault.WrongChunk bs h is (λ no. absurd cc, λ no. absurd cc)))

ends_chunk : (t : Bool) (bs : List ℕ) → Ends (chunk_at t bs)
unfolding chunk_at
ends_chunk t bs =
    ends_then (length_at t unbounded bs) _ (ends_length t unbounded open_bound bs) (λ n. ends_content t n.0 n.1)

-- ---- parts

ends_until : {A : Type 0} (read : Reader A) → ((bs : List ℕ) → Ends (read bs)) → (k : ℕ) (bs : List ℕ) → Ends (until_at read k bs)
unfolding until_at
ends_until read ends zero bs = ended
ends_until read ends (suc k) [] =
    ends_then (read []) _ (ends []) (λ x. ends_then (until_at read k x.1) _ (ends_until read ends k x.1) (λ xs. tt))
ends_until read ends (suc k) (b ∷ bs) =
    ends_if (eqb b 255) _ _ tt
    (ends_then (read (b ∷ bs)) _ (ends (b ∷ bs)) (λ x. ends_then (until_at read k x.1) _ (ends_until read ends k x.1) (λ xs. tt)))

ends_each : {A : Type 0} (read : Reader A) → ((bs : List ℕ) → Ends (read bs)) → (k : ℕ) (bs : List ℕ) → Ends (each_at read k bs)
unfolding each_at
ends_each read ends zero bs = tt
ends_each read ends (suc k) bs =
    ends_then (read bs) _ (ends bs) (λ x. ends_then (each_at read k x.1) _ (ends_each read ends k x.1) (λ xs. tt))

ends_string : (t : Bool) (o : Option ℕ) (bs : List ℕ) → Ends (string_at t o bs)
unfolding string_at chunks_at
ends_string t (Some n) bs = ends_then (content_at t n bs) _ (ends_content t n bs) (λ x. tt)
ends_string t None bs =
    ends_then (until_at (chunk_at t) (length bs) bs >>= λ xs. Ok (concat xs.0, xs.1)) _
    (ends_then (until_at (chunk_at t) (length bs) bs) _ (ends_until (chunk_at t) (ends_chunk t) (length bs) bs) (λ xs. tt)) (λ x. tt)

-- ---- numbers under a tag

room_bound : (negative : Bool) → IsBound (room negative)
room_bound negative = (λ is. absurd cc, λ is. absurd cc)

bound_if : (b : Bool) (x y : Bounds) → IsBound x → IsBound y → IsBound (cond b x y)
bound_if true x y p q = p
bound_if false x y p q = q

chunk_bound : (negative : Bool) (n : ℕ) → IsBound (chunk_bounds negative n)
chunk_bound negative n = bound_if (eqb n 0) _ _ open_bound (λ is. absurd cc, λ is. absurd cc)

ends_digits_until : (negative : Bool) (n k : ℕ) (bs : List ℕ) → Ends (digits_until negative n k bs)
unfolding digits_until
ends_digits_until negative n zero bs = ended
ends_digits_until negative n (suc k) [] =
    ends_then (length_at false (chunk_bounds negative n) []) _ (ends_length false (chunk_bounds negative n) (chunk_bound negative n) []) (λ l.
    ends_then (digits_at (room negative) l.0 n l.1) _ (ends_digits (room negative) (room_bound negative) l.0 n l.1) (λ m.
    ends_digits_until negative m.0 k m.1))
ends_digits_until negative n (suc k) (b ∷ bs) =
    ends_if (eqb b 255) _ _ tt
    (ends_then (length_at false (chunk_bounds negative n) (b ∷ bs)) _ (ends_length false (chunk_bounds negative n) (chunk_bound negative n) (b ∷ bs)) (λ l.
    ends_then (digits_at (room negative) l.0 n l.1) _ (ends_digits (room negative) (room_bound negative) l.0 n l.1) (λ m.
    ends_digits_until negative m.0 k m.1)))

ends_digits_of : (negative : Bool) (o : Option ℕ) (bs : List ℕ) → Ends (digits_of negative o bs)
ends_digits_of negative (Some n) bs = ends_digits (room negative) (room_bound negative) n 0 bs
ends_digits_of negative None bs = ends_digits_until negative 0 (length bs) bs

-- a break that is due no more, or another kind
ends_simple : (b : Bool) (from : List ℕ) → ((f : Fault) → IsOther f → IsInside (record { «fault» = f; left = length from }))
    → IsInside (record { «fault» = cond b fault.Break fault.WrongKind; left = length from })
ends_simple true from at = at fault.Break (λ is. absurd cc, λ is. absurd cc)
ends_simple false from at = at fault.WrongKind (λ is. absurd cc, λ is. absurd cc)

ends_magnitude_behind : (negative : Bool) (from : List ℕ) (m : Major) (info : ℕ) (bs : List ℕ) → ((f : Fault) → IsOther f → IsInside (record { «fault» = f; left = length from }))
    → Ends (magnitude_behind negative from m info bs)
ends_magnitude_behind negative from major.Bytes info bs at =
    ends_then (head_behind unbounded (record { «major» = major.Bytes; info = info }) bs) _
    (ends_head_behind unbounded open_bound (record { «major» = major.Bytes; info = info }) bs) (λ h. ends_digits_of negative h.0.number h.1)
ends_magnitude_behind negative from major.Unsigned info bs at = at fault.WrongKind (λ is. absurd cc, λ is. absurd cc)
ends_magnitude_behind negative from major.Negative info bs at = at fault.WrongKind (λ is. absurd cc, λ is. absurd cc)
ends_magnitude_behind negative from major.Text info bs at = at fault.WrongKind (λ is. absurd cc, λ is. absurd cc)
ends_magnitude_behind negative from major.Array info bs at = at fault.WrongKind (λ is. absurd cc, λ is. absurd cc)
ends_magnitude_behind negative from major.Map info bs at = at fault.WrongKind (λ is. absurd cc, λ is. absurd cc)
ends_magnitude_behind negative from major.Tag info bs at = at fault.WrongKind (λ is. absurd cc, λ is. absurd cc)
ends_magnitude_behind negative from major.Simple info bs at = ends_simple (eqb info 31) from at

ends_magnitude : (negative : Bool) (bs : List ℕ) → Ends (magnitude_at negative bs)
unfolding magnitude_at
ends_magnitude negative bs =
    ends_known (first_at bs) _ (ends_first bs) (λ h is.
    ends_magnitude_behind negative bs h.0.«major» h.0.info h.1 (λ f not. ends_at_first f bs h is not))

ends_tag : (n : ℕ) (bs : List ℕ) → Ends (tag_at n bs)
unfolding tag_at
ends_tag n bs =
    ends_if (eqb n 2) _ _
    (ends_then (magnitude_at false bs) _ (ends_magnitude false bs) (λ x. tt))
    (ends_then (magnitude_at true bs) _ (ends_magnitude true bs) (λ x. tt))

-- ---- items

ends_leaf : (m : Major) (o : Option ℕ) (bs : List ℕ) → Ends (leaf_at m o bs)
unfolding leaf_at
ends_leaf major.Unsigned (Some n) bs = tt
ends_leaf major.Negative (Some n) bs = tt
ends_leaf major.Bytes o bs = ends_then (string_at false o bs) _ (ends_string false o bs) (λ x. tt)
ends_leaf major.Text o bs = ends_then (string_at true o bs) _ (ends_string true o bs) (λ x. tt)
ends_leaf major.Tag (Some n) bs = ends_then (tag_at n bs) _ (ends_tag n bs) (λ k. tt)
ends_leaf major.Simple (Some n) bs =
    ends_if (eqb n 20) _ _ tt (ends_if (eqb n 21) _ _ tt (ends_if (eqb n 22) _ _ tt (other fault.Simple (length bs) (λ is. absurd cc, λ is. absurd cc))))
ends_leaf major.Simple None bs = other fault.Break (length bs) (λ is. absurd cc, λ is. absurd cc)
ends_leaf major.Unsigned None bs = other fault.Reserved (length bs) (λ is. absurd cc, λ is. absurd cc)
ends_leaf major.Negative None bs = other fault.Reserved (length bs) (λ is. absurd cc, λ is. absurd cc)
ends_leaf major.Tag None bs = other fault.Reserved (length bs) (λ is. absurd cc, λ is. absurd cc)
ends_leaf major.Array o bs = other fault.Reserved (length bs) (λ is. absurd cc, λ is. absurd cc)
ends_leaf major.Map o bs = other fault.Reserved (length bs) (λ is. absurd cc, λ is. absurd cc)

ends_pair : (read : Reader Tree) → ((bs : List ℕ) → Ends (read bs)) → (bs : List ℕ) → Ends (pair_at read bs)
unfolding pair_at
ends_pair read ends bs = ends_then (read bs) _ (ends bs) (λ k. ends_then (read k.1) _ (ends k.1) (λ v. tt))

ends_parts : {A : Type 0} (read : Reader A) → ((bs : List ℕ) → Ends (read bs)) → (o : Option ℕ) (bs : List ℕ) → Ends (parts_at read o bs)
unfolding parts_at
ends_parts read ends None bs = ends_until read ends (length bs) bs
ends_parts read ends (Some n) bs = ends_each read ends n bs

ends_inside : (read : Reader Tree) → ((bs : List ℕ) → Ends (read bs)) → (m : Major) (o : Option ℕ) (bs : List ℕ) → Ends (inside_at read m o bs)
ends_inside read ends major.Array o bs = ends_then (parts_at read o bs) _ (ends_parts read ends o bs) (λ xs. tt)
ends_inside read ends major.Map o bs = ends_then (parts_at (pair_at read) o bs) _ (ends_parts (pair_at read) (ends_pair read ends) o bs) (λ xs. tt)
ends_inside read ends major.Unsigned o bs = ends_leaf major.Unsigned o bs
ends_inside read ends major.Negative o bs = ends_leaf major.Negative o bs
ends_inside read ends major.Bytes o bs = ends_leaf major.Bytes o bs
ends_inside read ends major.Text o bs = ends_leaf major.Text o bs
ends_inside read ends major.Tag o bs = ends_leaf major.Tag o bs
ends_inside read ends major.Simple o bs = ends_leaf major.Simple o bs

pub ends_item : (limit : ℕ) (bs : List ℕ) → Ends (item_at limit bs)
unfolding item_at
ends_item zero bs =
    ends_known (kind_at bs) _ (ends_kind bs) (λ h is. ends_at_kind fault.TooDeep bs h is (λ no. absurd cc, λ no. absurd cc))
ends_item (suc limit) bs =
    ends_then (head_at limit bs) _ (ends_head limit bs) (λ h. ends_inside (item_at limit) (ends_item limit) h.0.«major» h.0.number h.1)

-- ---- whole items

abbrev pub EndsWhole : Result Tree Refusal → Type 0
EndsWhole (Ok x) = Unit {0}
EndsWhole (Err e) = IsEnd e

behind_item : (t : Tree) (rest : List ℕ) → EndsWhole (cond (eqb (length rest) 0) (Ok t) (refused fault.Trailing rest))
behind_item t [] = tt
behind_item t (b ∷ bs) = by (eqb (suc (length bs)) 0)
  where
    by : (c : Bool) → EndsWhole (cond c (Ok t) (refused fault.Trailing (b ∷ bs)))
    by true = tt
    by false = (λ is. absurd cc, λ is. absurd cc)

whole_then : (r : Result (Tree × List ℕ) Refusal) (f : Tree × List ℕ → Result Tree Refusal) → Ends r → ((x : Tree × List ℕ) → EndsWhole (f x)) → EndsWhole (r >>= f)
whole_then (Ok x) f p next = next x
whole_then (Err e) f p next = p.0

pub ends_whole : (limit : ℕ) (bs : List ℕ) → EndsWhole (whole_at limit bs)
unfolding whole_at
ends_whole limit bs = whole_then (item_at limit bs) _ (ends_item limit bs) (λ x. behind_item x.0 x.1)
