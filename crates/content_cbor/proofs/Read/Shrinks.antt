-- What readers leave is no more than they had.
use Rattle.std.proofs.Common.{◌≡◌, ℕ, suc, zero, ◌+◌, ◌*◌, ◌/◌, ◌%◌, ◌<◌, ◌≤◌, Bool, true, false, cond, eqb, ltb, List, [], ◌∷◌, length, Option, Some, None, Result, Ok, Err, subst, arith, length-drop}
use Rattle.std.specs.List.{concat}
use Rattle.content_tree.specs.Values.Tree.{Tree}
use Rattle.content_cbor.specs.declared.decode_error.Fault.{Fault}
use Rattle.content_cbor.specs.declared.decode_error.Fault.TheVariants as fault
use Rattle.content_cbor.specs.declared.heads.First.{First}
use Rattle.content_cbor.specs.declared.heads.Major.{Major}
use Rattle.content_cbor.specs.declared.heads.Major.TheVariants as major
use Rattle.content_cbor.specs.declared.stop.Refusal.{Refusal}
use Rattle.content_cbor.specs.Inner.Steps.{◌>>=◌, Reader, or_refused, unless}
use Rattle.content_cbor.specs.Inner.Numbers.{Bounds, argument_at, digits_at, size_of, unbounded}
use Rattle.content_cbor.specs.declared.utf8.Lack.{Lack}
use Rattle.content_cbor.specs.Inner.Texts.{after_byte, text_at, within}
use Rattle.content_cbor.specs.Inner.Reading.{begins_chunk, bounds_of, bytes_at, chunk_at, chunk_bounds, chunks_at, content_at, digits_of, digits_until, each_at, first_at, head_at, head_behind}
use Rattle.content_cbor.specs.Inner.Reading.{inside_at, is_reserved, item_at, item_fault, kind_at, leaf_at, length_at, magnitude_at, magnitude_behind, major_of, pair_at, parts_at, room, string_at, tag_at, until_at}

-- so many bytes are left at most, behind what was read or at the fault
abbrev pub Leaves : {A : Type 0} → ℕ → Result (A × List ℕ) Refusal → Type 0
Leaves n (Ok x) = length x.1 ≤ n
Leaves n (Err e) = e.left ≤ n

-- no more than there were
abbrev pub Shrinks : {A : Type 0} → Reader A → Type 0
Shrinks read = (bs : List ℕ) → Leaves (length bs) (read bs)

pub leaves_then : {A B : Type 0} (n : ℕ) (r : Result (A × List ℕ) Refusal) (f : A × List ℕ → Result (B × List ℕ) Refusal)
    → Leaves n r → ((x : A × List ℕ) → length x.1 ≤ n → Leaves n (f x)) → Leaves n (r >>= f)
leaves_then n (Ok x) f le next = next x le
leaves_then n (Err e) f le next = le

pub leaves_if : {A : Type 0} (n : ℕ) (b : Bool) (x y : Result (A × List ℕ) Refusal) → Leaves n x → Leaves n y → Leaves n (cond b x y)
leaves_if n true x y = λ yes no. yes
leaves_if n false x y = λ yes no. no

pub leaves_there : {A B : Type 0} (n : ℕ) (f : Fault) (left : List ℕ) (o : Option A) (then : A → Result (B × List ℕ) Refusal)
    → length left ≤ n → ((x : A) → Leaves n (then x)) → Leaves n (or_refused f left o >>= then)
leaves_there n f left None then le next = le
leaves_there n f left (Some x) then le next = next x

-- where there is more room
pub wider : {A : Type 0} (m n : ℕ) (r : Result (A × List ℕ) Refusal) → m ≤ n → Leaves m r → Leaves n r
wider m n (Ok x) more le = omega (arith, more, le)
wider m n (Err e) more le = omega (arith, more, le)

-- ---- numbers and heads

pub shrinks_digits : (bounds : Bounds) (due n : ℕ) → Shrinks (digits_at bounds due n)
unfolding digits_at
shrinks_digits bounds zero n bs = omega arith
shrinks_digits bounds (suc due) n [] = omega arith
shrinks_digits bounds (suc due) n (b ∷ bs) =
    leaves_if (suc (length bs)) (bounds.admits due (n * 256 + b)) _ _
    (wider (length bs) (suc (length bs)) (digits_at bounds due (n * 256 + b) bs) (omega arith) (shrinks_digits bounds due (n * 256 + b) bs)) (omega arith)

-- fewer are left behind what was read
abbrev pub Smaller : {A : Type 0} → ℕ → Result (A × List ℕ) Refusal → Type 0
Smaller n (Ok x) = length x.1 < n
Smaller n (Err e) = e.left ≤ n

pub smaller_if : {A : Type 0} (n : ℕ) (b : Bool) (x y : Result (A × List ℕ) Refusal) → Smaller n x → Smaller n y → Smaller n (cond b x y)
smaller_if n true x y = λ yes no. yes
smaller_if n false x y = λ yes no. no

pub smaller_then : {A B : Type 0} (n : ℕ) (r : Result (A × List ℕ) Refusal) (f : A × List ℕ → Result (B × List ℕ) Refusal)
    → Smaller n r → ((x : A × List ℕ) → length x.1 < n → Smaller n (f x)) → Smaller n (r >>= f)
smaller_then n (Ok x) f less next = next x less
smaller_then n (Err e) f le next = le

-- readers that take a byte at least
abbrev pub Advances : {A : Type 0} → Reader A → Type 0
Advances read = (bs : List ℕ) → Smaller (length bs) (read bs)

pub shorter : {A : Type 0} (n : ℕ) (r : Result (A × List ℕ) Refusal) (x : A × List ℕ) → r ≡ Ok x → Smaller n r → length x.1 < n
shorter n (Ok y) x is less = let same : y ≡ x = cc in subst (λ (z : _ × List ℕ). length z.1 < n) same less
shorter n (Err e) x is le = absurd cc

pub no_longer : {A : Type 0} (n : ℕ) (r : Result (A × List ℕ) Refusal) (x : A × List ℕ) → r ≡ Ok x → Leaves n r → length x.1 ≤ n
no_longer n (Ok y) x is le = let same : y ≡ x = cc in subst (λ (z : _ × List ℕ). length z.1 ≤ n) same le
no_longer n (Err e) x is le = absurd cc

pub fewer : {A : Type 0} (m n : ℕ) (r : Result (A × List ℕ) Refusal) → m < n → Leaves m r → Smaller n r
fewer m n (Ok x) less le = omega (arith, less, le)
fewer m n (Err e) less le = omega (arith, less, le)

-- what is left at most, of bytes behind another
smaller_behind : {A : Type 0} (n : ℕ) (r : Result (A × List ℕ) Refusal) → Leaves n r → Smaller (suc n) r
smaller_behind n (Ok x) le = omega (arith, le)
smaller_behind n (Err e) le = omega (arith, le)

pub much_smaller : {A : Type 0} (m n : ℕ) (r : Result (A × List ℕ) Refusal) → m < n → Smaller (suc m) r → Smaller n r
much_smaller m n (Ok x) more less = omega (arith, more, less)
much_smaller m n (Err e) more le = omega (arith, more, le)

pub no_more : {A : Type 0} (n : ℕ) (r : Result (A × List ℕ) Refusal) → Smaller n r → Leaves n r
no_more n (Ok x) less = omega (arith, less)
no_more n (Err e) le = le

-- a fault may lie in the byte before
pub shrinks_argument : (bounds : Bounds) (info : ℕ) (bs : List ℕ) → Smaller (suc (length bs)) (argument_at bounds info bs)
unfolding argument_at
shrinks_argument bounds info bs =
    smaller_if (suc (length bs)) (ltb info 24) _ _
    (smaller_if (suc (length bs)) (bounds.admits 0 info) _ _ (omega arith) (omega arith))
    (smaller_behind (length bs) (digits_at bounds (size_of info) 0 bs) (shrinks_digits bounds (size_of info) 0 bs))

pub first_shrinks : (bs : List ℕ) → Smaller (length bs) (first_at bs)
unfolding first_at
first_shrinks [] = omega arith
first_shrinks (b ∷ bs) =
    let n = suc (length bs) in
    smaller_if n (is_reserved (major_of (b / 32)) (b % 32)) _ _ (omega arith) (omega arith)

smaller_unless : (o : Option Fault) (left : List ℕ) (h : First × List ℕ) → length h.1 < length left → Smaller (length left) (unless o left h)
smaller_unless None left h less = less
smaller_unless (Some f) left h less = omega arith

pub kind_shrinks : (bs : List ℕ) → Smaller (length bs) (kind_at bs)
unfolding kind_at
kind_shrinks bs =
    smaller_then (length bs) (first_at bs) _ (first_shrinks bs) (λ h less. smaller_unless (item_fault h.0.«major» h.0.info) bs h less)

pub advances_digits : (bounds : Bounds) (due n : ℕ) → Advances (digits_at bounds (suc due) n)
unfolding digits_at
advances_digits bounds due n [] = omega arith
advances_digits bounds due n (b ∷ bs) =
    smaller_if (suc (length bs)) (bounds.admits due (n * 256 + b)) _ _
    (smaller_behind (length bs) (digits_at bounds due (n * 256 + b) bs) (shrinks_digits bounds due (n * 256 + b) bs)) (omega arith)

pub shrinks_head_behind : (bounds : Bounds) (first : First) (bs : List ℕ) → Smaller (suc (length bs)) (head_behind bounds first bs)
shrinks_head_behind bounds first bs =
    smaller_if (suc (length bs)) (eqb first.info 31) _ _ (omega arith)
    (smaller_then (suc (length bs)) (argument_at bounds first.info bs) _ (shrinks_argument bounds first.info bs) (λ n less. less))

pub shrinks_head : (limit : ℕ) (bs : List ℕ) → Smaller (length bs) (head_at limit bs)
unfolding head_at
shrinks_head limit bs =
    smaller_then (length bs) (kind_at bs) _ (kind_shrinks bs) (λ h less.
    much_smaller (length h.1) (length bs) (head_behind (bounds_of limit h.0.«major») h.0 h.1) less (shrinks_head_behind (bounds_of limit h.0.«major») h.0 h.1))

-- ---- texts and bytes

shrinks_bytes : (n : ℕ) → Shrinks (bytes_at n)
shrinks_bytes n bs = leaves_if (length bs) (ltb (length bs) n) _ _ (omega arith) (omega (arith, length-drop n bs))

shrinks_text : (lack : Lack) (n : ℕ) → Shrinks (text_at lack n)
unfolding text_at
shrinks_text lack zero bs = omega arith
shrinks_text lack (suc n) [] = omega arith
shrinks_text lack (suc n) (b ∷ bs) =
    leaves_there (suc (length bs)) fault.NotUtf8 (b ∷ bs) (within n (after_byte lack b)) _ (omega arith) (λ next.
    leaves_then (suc (length bs)) (text_at next n bs) _ (wider (length bs) (suc (length bs)) (text_at next n bs) (omega arith) (shrinks_text next n bs)) (λ x le. le))

smaller_there : {A B : Type 0} (n : ℕ) (f : Fault) (left : List ℕ) (o : Option A) (then : A → Result (B × List ℕ) Refusal)
    → length left ≤ n → ((x : A) → Smaller n (then x)) → Smaller n (or_refused f left o >>= then)
smaller_there n f left None then le next = le
smaller_there n f left (Some x) then le next = next x

pub advances_text : (lack : Lack) (n : ℕ) → Advances (text_at lack (suc n))
unfolding text_at
advances_text lack n [] = omega arith
advances_text lack n (b ∷ bs) =
    smaller_there (suc (length bs)) fault.NotUtf8 (b ∷ bs) (within n (after_byte lack b)) _ (omega arith) (λ next.
    smaller_then (suc (length bs)) (text_at next n bs) _ (smaller_behind (length bs) (text_at next n bs) (shrinks_text next n bs)) (λ x less. less))

pub shrinks_content : (t : Bool) (n : ℕ) → Shrinks (content_at t n)
unfolding content_at
shrinks_content false n bs = shrinks_bytes n bs
shrinks_content true n bs = shrinks_text _ n bs

pub shrinks_length : (t : Bool) (bounds : Bounds) (bs : List ℕ) → Smaller (length bs) (length_at t bounds bs)
unfolding length_at
shrinks_length t bounds bs =
    smaller_then (length bs) (first_at bs) _ (first_shrinks bs) (λ h less.
    smaller_if (length bs) (begins_chunk t h.0.«major» h.0.info) _ _
    (much_smaller (length h.1) (length bs) (argument_at bounds h.0.info h.1) less (shrinks_argument bounds h.0.info h.1)) (omega arith))

leaves_behind : {A B : Type 0} (n : ℕ) (r : Result (A × List ℕ) Refusal) (f : A × List ℕ → Result (B × List ℕ) Refusal)
    → Smaller n r → ((x : A × List ℕ) → length x.1 < n → Leaves n (f x)) → Leaves n (r >>= f)
leaves_behind n (Ok x) f less next = next x less
leaves_behind n (Err e) f le next = le

pub advances_chunk : (t : Bool) → Advances (chunk_at t)
unfolding chunk_at
advances_chunk t bs =
    smaller_then (length bs) (length_at t unbounded bs) _ (shrinks_length t unbounded bs) (λ n less.
    fewer (length n.1) (length bs) (content_at t n.0 n.1) less (shrinks_content t n.0 n.1))

-- ---- parts

pub advances_until : {A : Type 0} (read : Reader A) → Advances read → (k : ℕ) → Advances (until_at read k)
unfolding until_at
advances_until read advances zero bs = omega arith
advances_until read advances (suc k) [] =
    smaller_then 0 (read []) _ (advances []) (λ x less. absurd (omega (arith, less)))
advances_until read advances (suc k) (b ∷ bs) =
    smaller_if (suc (length bs)) (eqb b 255) _ _ (omega arith)
    (smaller_then (suc (length bs)) (read (b ∷ bs)) _ (advances (b ∷ bs)) (λ x less.
    smaller_then (suc (length bs)) (until_at read k x.1) _
    (fewer (length x.1) (suc (length bs)) (until_at read k x.1) less (no_more (length x.1) (until_at read k x.1) (advances_until read advances k x.1))) (λ xs fewer. fewer)))

pub shrinks_each : {A : Type 0} (read : Reader A) → Advances read → (k : ℕ) → Shrinks (each_at read k)
unfolding each_at
shrinks_each read advances zero bs = omega arith
shrinks_each read advances (suc k) bs =
    leaves_behind (length bs) (read bs) _ (advances bs) (λ x less.
    leaves_then (length bs) (each_at read k x.1) _ (wider (length x.1) (length bs) (each_at read k x.1) (omega (arith, less)) (shrinks_each read advances k x.1)) (λ xs le. le))

pub shrinks_string : (t : Bool) (o : Option ℕ) → Shrinks (string_at t o)
unfolding string_at chunks_at
shrinks_string t (Some n) bs = leaves_then (length bs) (content_at t n bs) _ (shrinks_content t n bs) (λ x le. le)
shrinks_string t None bs =
    leaves_then (length bs) (until_at (chunk_at t) (length bs) bs >>= λ xs. Ok (concat xs.0, xs.1)) _
    (leaves_then (length bs) (until_at (chunk_at t) (length bs) bs) _ (no_more (length bs) (until_at (chunk_at t) (length bs) bs) (advances_until (chunk_at t) (advances_chunk t) (length bs) bs)) (λ x le. le)) (λ x le. le)

-- ---- numbers under a tag

pub advances_digits_until : (negative : Bool) (n k : ℕ) → Advances (digits_until negative n k)
unfolding digits_until
advances_digits_until negative n zero bs = omega arith
advances_digits_until negative n (suc k) [] =
    smaller_then 0 (length_at false (chunk_bounds negative n) []) _ (shrinks_length false (chunk_bounds negative n) []) (λ l less. absurd (omega (arith, less)))
advances_digits_until negative n (suc k) (b ∷ bs) =
    smaller_if (suc (length bs)) (eqb b 255) _ _ (omega arith)
    (smaller_then (suc (length bs)) (length_at false (chunk_bounds negative n) (b ∷ bs)) _ (shrinks_length false (chunk_bounds negative n) (b ∷ bs)) (λ l less.
    smaller_then (suc (length bs)) (digits_at (room negative) l.0 n l.1) _
    (fewer (length l.1) (suc (length bs)) (digits_at (room negative) l.0 n l.1) less (shrinks_digits (room negative) l.0 n l.1)) (λ m smaller.
    fewer (length m.1) (suc (length bs)) (digits_until negative m.0 k m.1) smaller (no_more (length m.1) (digits_until negative m.0 k m.1) (advances_digits_until negative m.0 k m.1)))))

pub shrinks_digits_of : (negative : Bool) (o : Option ℕ) → Shrinks (digits_of negative o)
shrinks_digits_of negative (Some n) bs = shrinks_digits (room negative) n 0 bs
shrinks_digits_of negative None bs = no_more (length bs) (digits_until negative 0 (length bs) bs) (advances_digits_until negative 0 (length bs) bs)

pub advances_magnitude_behind : (negative : Bool) (from : List ℕ) (m : Major) (info : ℕ) (bs : List ℕ) → length bs < length from → Smaller (length from) (magnitude_behind negative from m info bs)
advances_magnitude_behind negative from major.Bytes info bs less =
    let first : First = record { «major» = major.Bytes; info = info } in
    smaller_then (length from) (head_behind unbounded first bs) _
    (much_smaller (length bs) (length from) (head_behind unbounded first bs) less (shrinks_head_behind unbounded first bs)) (λ h smaller.
    fewer (length h.1) (length from) (digits_of negative h.0.number h.1) smaller (shrinks_digits_of negative h.0.number h.1))
advances_magnitude_behind negative from major.Unsigned info bs less = omega arith
advances_magnitude_behind negative from major.Negative info bs less = omega arith
advances_magnitude_behind negative from major.Text info bs less = omega arith
advances_magnitude_behind negative from major.Array info bs less = omega arith
advances_magnitude_behind negative from major.Map info bs less = omega arith
advances_magnitude_behind negative from major.Tag info bs less = omega arith
advances_magnitude_behind negative from major.Simple info bs less = omega arith

pub advances_magnitude : (negative : Bool) → Advances (magnitude_at negative)
unfolding magnitude_at
advances_magnitude negative bs =
    smaller_then (length bs) (first_at bs) _ (first_shrinks bs) (λ h less. advances_magnitude_behind negative bs h.0.«major» h.0.info h.1 less)

pub advances_tag : (n : ℕ) → Advances (tag_at n)
unfolding tag_at
advances_tag n bs =
    smaller_if (length bs) (eqb n 2) _ _
    (smaller_then (length bs) (magnitude_at false bs) _ (advances_magnitude false bs) (λ x less. less))
    (smaller_then (length bs) (magnitude_at true bs) _ (advances_magnitude true bs) (λ x less. less))

-- ---- items

shrinks_leaf : (m : Major) (o : Option ℕ) (bs : List ℕ) → Smaller (suc (length bs)) (leaf_at m o bs)
unfolding leaf_at
shrinks_leaf major.Unsigned (Some n) bs = omega arith
shrinks_leaf major.Negative (Some n) bs = omega arith
shrinks_leaf major.Bytes o bs =
    smaller_behind (length bs) _ (leaves_then (length bs) (string_at false o bs) _ (shrinks_string false o bs) (λ x le. le))
shrinks_leaf major.Text o bs =
    smaller_behind (length bs) _ (leaves_then (length bs) (string_at true o bs) _ (shrinks_string true o bs) (λ x le. le))
shrinks_leaf major.Tag (Some n) bs =
    smaller_behind (length bs) _ (leaves_behind (length bs) (tag_at n bs) _ (advances_tag n bs) (λ x less. omega (arith, less)))
shrinks_leaf major.Simple (Some n) bs =
    let k = suc (length bs) in
    smaller_if k (eqb n 20) _ _ (omega arith) (smaller_if k (eqb n 21) _ _ (omega arith) (smaller_if k (eqb n 22) _ _ (omega arith) (omega arith)))
shrinks_leaf major.Simple None bs = omega arith
shrinks_leaf major.Unsigned None bs = omega arith
shrinks_leaf major.Negative None bs = omega arith
shrinks_leaf major.Tag None bs = omega arith
shrinks_leaf major.Array o bs = omega arith
shrinks_leaf major.Map o bs = omega arith

pub advances_pair : (read : Reader Tree) → Advances read → Advances (pair_at read)
unfolding pair_at
advances_pair read advances bs =
    smaller_then (length bs) (read bs) _ (advances bs) (λ k less.
    smaller_then (length bs) (read k.1) _ (fewer (length k.1) (length bs) (read k.1) less (no_more (length k.1) (read k.1) (advances k.1))) (λ v smaller. smaller))

pub shrinks_parts : {A : Type 0} (read : Reader A) → Advances read → (o : Option ℕ) → Shrinks (parts_at read o)
unfolding parts_at
shrinks_parts read advances None bs = no_more (length bs) (until_at read (length bs) bs) (advances_until read advances (length bs) bs)
shrinks_parts read advances (Some n) bs = shrinks_each read advances n bs

pub shrinks_inside : (read : Reader Tree) → Advances read → (m : Major) (o : Option ℕ) (bs : List ℕ) → Smaller (suc (length bs)) (inside_at read m o bs)
shrinks_inside read advances major.Array o bs =
    smaller_behind (length bs) _ (leaves_then (length bs) (parts_at read o bs) _ (shrinks_parts read advances o bs) (λ x le. le))
shrinks_inside read advances major.Map o bs =
    smaller_behind (length bs) _ (leaves_then (length bs) (parts_at (pair_at read) o bs) _ (shrinks_parts (pair_at read) (advances_pair read advances) o bs) (λ x le. le))
shrinks_inside read advances major.Unsigned o bs = shrinks_leaf major.Unsigned o bs
shrinks_inside read advances major.Negative o bs = shrinks_leaf major.Negative o bs
shrinks_inside read advances major.Bytes o bs = shrinks_leaf major.Bytes o bs
shrinks_inside read advances major.Text o bs = shrinks_leaf major.Text o bs
shrinks_inside read advances major.Tag o bs = shrinks_leaf major.Tag o bs
shrinks_inside read advances major.Simple o bs = shrinks_leaf major.Simple o bs

pub advances_item : (limit : ℕ) → Advances (item_at limit)
unfolding item_at
advances_item zero bs = smaller_then (length bs) (kind_at bs) _ (kind_shrinks bs) (λ h less. omega arith)
advances_item (suc limit) bs =
    smaller_then (length bs) (head_at limit bs) _ (shrinks_head limit bs) (λ h less.
    much_smaller (length h.1) (length bs) (inside_at (item_at limit) h.0.«major» h.0.number h.1) less
    (shrinks_inside (item_at limit) (advances_item limit) h.0.«major» h.0.number h.1))
