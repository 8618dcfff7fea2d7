-- Two levels more take bytes further that nested too deep.
use Rattle.std.proofs.Common.{◌≡◌, ℕ, suc, zero, ◌+◌, ◌*◌, ◌-◌, ◌/◌, ◌%◌, ◌<◌, ◌≤◌, Bool, true, false, cond, eqb, ltb, List, [], ◌∷◌, length, Option, Some, None, Result, Ok, Err, ◌⊎◌, refl, sym, ap, subst, ◌∙◌, arith, inl, inr}
use Rattle.std.specs.Int.{is_in_range}
use Rattle.std.specs.List.{concat}
use Rattle.std.proofs.lemmas.Bool.{cases_lt, eqb-true, ltb-false, ltb-true}
use Rattle.content_tree.specs.Values.Tree.{Tree}
use Rattle.content_cbor.specs.Decoded.{StopsAt}
use Rattle.content_cbor.specs.declared.decode_error.DecodeError.TheVariants as error
use Rattle.content_cbor.specs.declared.decode_error.Fault.{Fault}
use Rattle.content_cbor.specs.declared.decode_error.Fault.TheVariants as fault
use Rattle.content_cbor.specs.declared.heads.First.{First}
use Rattle.content_cbor.specs.declared.heads.Head.{Head}
use Rattle.content_cbor.specs.declared.heads.Major.{Major}
use Rattle.content_cbor.specs.declared.heads.Major.TheVariants as major
use Rattle.content_cbor.specs.declared.stop.Refusal.{Refusal}
use Rattle.content_cbor.specs.declared.utf8.Lack.{Lack}
use Rattle.content_cbor.specs.Inner.Steps.{◌>>=◌, Reader, or_refused, refused, unless}
use Rattle.content_cbor.specs.Inner.Numbers.{Bounds, argument_at, between, digits_at, size_of, unbounded}
use Rattle.content_cbor.specs.Inner.Texts.{after_byte, text_at, within}
use Rattle.content_cbor.specs.Inner.Reading.{at_break, begins_chunk, bounds_of, chunk_at, chunk_bounds, chunks_at, content_at, digits_of, digits_until, each_at, first_at, head_at, head_behind}
use Rattle.content_cbor.specs.Inner.Reading.{inside_at, is_reserved, item_at, item_fault, kind_at, leaf_at, length_at, magnitude_at, magnitude_behind, major_of, pair_at, parts_at, room, string_at, tag_at, until_at, whole_at}
use Rattle.content_cbor.proofs.Read.Grows.{true_false}
use Rattle.content_cbor.proofs.Read.Heads.{made}
use Rattle.content_cbor.proofs.Read.Numbers.{in_range_is}
use Rattle.content_cbor.proofs.Read.Place.{left_within}
use Rattle.content_cbor.proofs.Read.Shrinks.{Advances, Leaves, advances_item, advances_pair, advances_tag, advances_until, kind_shrinks, leaves_then, no_more, shorter, shrinks_digits, shrinks_each, shrinks_parts, shrinks_string}
use Rattle.content_cbor.proofs.Read.Steps.{bind_err, bind_ok, chosen, not_wrong, ok_is, same_left, same_refusal}

abbrev is_deep : Fault → Bool
is_deep fault.TooDeep = true
is_deep f = false

-- ---- what is never too deep

abbrev Shallow : {A : Type 0} → Result A Refusal → Type 0
Shallow (Ok x) = Unit {0}
Shallow (Err e) = is_deep e.«fault» ≡ false

abbrev IsBound : Bounds → Type 0
IsBound bounds = is_deep bounds.otherwise ≡ false

shallow_if : {A : Type 0} (b : Bool) (x y : Result A Refusal) → Shallow x → Shallow y → Shallow (cond b x y)
shallow_if true x y p q = p
shallow_if false x y p q = q

shallow_then : {A B : Type 0} (r : Result A Refusal) (f : A → Result B Refusal) → Shallow r → ((x : A) → Shallow (f x)) → Shallow (r >>= f)
shallow_then (Ok x) f p next = next x
shallow_then (Err e) f p next = p

shallow_there : {A B : Type 0} (f : Fault) (left : List ℕ) (o : Option A) (then : A → Result B Refusal) → is_deep f ≡ false → ((x : A) → Shallow (then x))
    → Shallow (or_refused f left o >>= then)
shallow_there f left None then not next = not
shallow_there f left (Some x) then not next = next x

shallow_digits : (bounds : Bounds) → IsBound bounds → (due n : ℕ) (bs : List ℕ) → Shallow (digits_at bounds due n bs)
unfolding digits_at
shallow_digits bounds not zero n bs = tt
shallow_digits bounds not (suc due) n [] = refl
shallow_digits bounds not (suc due) n (b ∷ bs) =
    shallow_if (bounds.admits due (n * 256 + b)) _ _ (shallow_digits bounds not due (n * 256 + b) bs) not

shallow_argument : (bounds : Bounds) → IsBound bounds → (info : ℕ) (bs : List ℕ) → Shallow (argument_at bounds info bs)
unfolding argument_at
shallow_argument bounds not info bs =
    shallow_if (ltb info 24) _ _ (shallow_if (bounds.admits 0 info) _ _ tt not) (shallow_digits bounds not (size_of info) 0 bs)

shallow_first : (bs : List ℕ) → Shallow (first_at bs)
unfolding first_at
shallow_first [] = refl
shallow_first (b ∷ bs) = shallow_if (is_reserved (major_of (b / 32)) (b % 32)) _ _ refl tt

abbrev AreShallow : Option Fault → Type 0
AreShallow None = Unit {0}
AreShallow (Some f) = is_deep f ≡ false

either_shallow : (b : Bool) (x y : Option Fault) → AreShallow x → AreShallow y → AreShallow (cond b x y)
either_shallow true x y p q = p
either_shallow false x y p q = q

item_shallow : (m : Major) (info : ℕ) → AreShallow (item_fault m info)
item_shallow major.Simple info =
    either_shallow (eqb info 31) _ _ refl (either_shallow (is_in_range 25 27 info) _ _ refl (either_shallow (is_in_range 20 22 info) _ _ tt refl))
item_shallow major.Tag info = either_shallow (ltb 23 info) _ _ tt (either_shallow (is_in_range 2 3 info) _ _ tt refl)
item_shallow major.Unsigned info = tt
item_shallow major.Negative info = tt
item_shallow major.Bytes info = tt
item_shallow major.Text info = tt
item_shallow major.Array info = tt
item_shallow major.Map info = tt

shallow_unless : {A : Type 0} (o : Option Fault) (left : List ℕ) (x : A) → AreShallow o → Shallow (unless o left x)
shallow_unless None left x is = tt
shallow_unless (Some f) left x is = is

shallow_kind : (bs : List ℕ) → Shallow (kind_at bs)
unfolding kind_at
shallow_kind bs =
    shallow_then (first_at bs) _ (shallow_first bs) (λ h. shallow_unless (item_fault h.0.«major» h.0.info) bs h (item_shallow h.0.«major» h.0.info))

shallow_head_behind : (bounds : Bounds) → IsBound bounds → (first : First) (bs : List ℕ) → Shallow (head_behind bounds first bs)
shallow_head_behind bounds not first bs =
    shallow_if (eqb first.info 31) _ _ tt
    (shallow_then (argument_at bounds first.info bs) _ (shallow_argument bounds not first.info bs) (λ n. tt))

shallow_text : (lack : Lack) (n : ℕ) (bs : List ℕ) → Shallow (text_at lack n bs)
unfolding text_at
shallow_text lack zero bs = tt
shallow_text lack (suc n) [] = refl
shallow_text lack (suc n) (b ∷ bs) =
    shallow_there fault.NotUtf8 (b ∷ bs) (within n (after_byte lack b)) _ refl (λ next.
    shallow_then (text_at next n bs) _ (shallow_text next n bs) (λ x. tt))

shallow_content : (t : Bool) (n : ℕ) (bs : List ℕ) → Shallow (content_at t n bs)
unfolding content_at
shallow_content false n bs = shallow_if (ltb (length bs) n) _ _ refl tt
shallow_content true n bs = shallow_text _ n bs

shallow_length : (t : Bool) (bounds : Bounds) → IsBound bounds → (bs : List ℕ) → Shallow (length_at t bounds bs)
unfolding length_at
shallow_length t bounds not bs =
    shallow_then (first_at bs) _ (shallow_first bs) (λ h.
    shallow_if (begins_chunk t h.0.«major» h.0.info) _ _ (shallow_argument bounds not h.0.info h.1) refl)

shallow_chunk : (t : Bool) (bs : List ℕ) → Shallow (chunk_at t bs)
unfolding chunk_at
shallow_chunk t bs = shallow_then (length_at t unbounded bs) _ (shallow_length t unbounded refl bs) (λ n. shallow_content t n.0 n.1)

shallow_until : {A : Type 0} (read : Reader A) → ((bs : List ℕ) → Shallow (read bs)) → (k : ℕ) (bs : List ℕ) → Shallow (until_at read k bs)
unfolding until_at
shallow_until read shallow zero bs = refl
shallow_until read shallow (suc k) bs =
    shallow_if (at_break bs) _ _ tt
    (shallow_then (read bs) _ (shallow bs) (λ x. shallow_then (until_at read k x.1) _ (shallow_until read shallow k x.1) (λ xs. tt)))

shallow_string : (t : Bool) (o : Option ℕ) (bs : List ℕ) → Shallow (string_at t o bs)
unfolding string_at chunks_at
shallow_string t (Some n) bs = shallow_then (content_at t n bs) _ (shallow_content t n bs) (λ x. tt)
shallow_string t None bs =
    shallow_then (until_at (chunk_at t) (length bs) bs >>= λ xs. Ok (concat xs.0, xs.1)) _
    (shallow_then (until_at (chunk_at t) (length bs) bs) _ (shallow_until (chunk_at t) (shallow_chunk t) (length bs) bs) (λ xs. tt)) (λ x. tt)

either_bound : (b : Bool) (x y : Bounds) → IsBound x → IsBound y → IsBound (cond b x y)
either_bound true x y p q = p
either_bound false x y p q = q

chunk_bound : (negative : Bool) (n : ℕ) → IsBound (chunk_bounds negative n)
chunk_bound negative n = either_bound (eqb n 0) _ _ refl refl

shallow_digits_until : (negative : Bool) (n k : ℕ) (bs : List ℕ) → Shallow (digits_until negative n k bs)
unfolding digits_until
shallow_digits_until negative n zero bs = refl
shallow_digits_until negative n (suc k) bs =
    shallow_if (at_break bs) _ _ tt
    (shallow_then (length_at false (chunk_bounds negative n) bs) _ (shallow_length false (chunk_bounds negative n) (chunk_bound negative n) bs) (λ l.
    shallow_then (digits_at (room negative) l.0 n l.1) _ (shallow_digits (room negative) refl l.0 n l.1) (λ m.
    shallow_digits_until negative m.0 k m.1)))

shallow_digits_of : (negative : Bool) (o : Option ℕ) (bs : List ℕ) → Shallow (digits_of negative o bs)
shallow_digits_of negative (Some n) bs = shallow_digits (room negative) refl n 0 bs
shallow_digits_of negative None bs = shallow_digits_until negative 0 (length bs) bs

break_or_kind : (b : Bool) → is_deep (cond b fault.Break fault.WrongKind) ≡ false
break_or_kind true = refl
break_or_kind false = refl

shallow_magnitude_behind : (negative : Bool) (from : List ℕ) (m : Major) (info : ℕ) (bs : List ℕ) → Shallow (magnitude_behind negative from m info bs)
shallow_magnitude_behind negative from major.Bytes info bs =
    shallow_then (head_behind unbounded (made major.Bytes info) bs) _ (shallow_head_behind unbounded refl (made major.Bytes info) bs) (λ h.
    shallow_digits_of negative h.0.number h.1)
shallow_magnitude_behind negative from major.Simple info bs = break_or_kind (eqb info 31)
shallow_magnitude_behind negative from major.Unsigned info bs = refl
shallow_magnitude_behind negative from major.Negative info bs = refl
shallow_magnitude_behind negative from major.Text info bs = refl
shallow_magnitude_behind negative from major.Array info bs = refl
shallow_magnitude_behind negative from major.Map info bs = refl
shallow_magnitude_behind negative from major.Tag info bs = refl

shallow_magnitude : (negative : Bool) (bs : List ℕ) → Shallow (magnitude_at negative bs)
unfolding magnitude_at
shallow_magnitude negative bs =
    shallow_then (first_at bs) _ (shallow_first bs) (λ h. shallow_magnitude_behind negative bs h.0.«major» h.0.info h.1)

shallow_tag : (n : ℕ) (bs : List ℕ) → Shallow (tag_at n bs)
unfolding tag_at
shallow_tag n bs =
    shallow_if (eqb n 2) _ _
    (shallow_then (magnitude_at false bs) _ (shallow_magnitude false bs) (λ x. tt)) (shallow_then (magnitude_at true bs) _ (shallow_magnitude true bs) (λ x. tt))

shallow_leaf : (m : Major) (o : Option ℕ) (bs : List ℕ) → Shallow (leaf_at m o bs)
unfolding leaf_at
shallow_leaf major.Unsigned (Some n) bs = tt
shallow_leaf major.Negative (Some n) bs = tt
shallow_leaf major.Bytes o bs = shallow_then (string_at false o bs) _ (shallow_string false o bs) (λ x. tt)
shallow_leaf major.Text o bs = shallow_then (string_at true o bs) _ (shallow_string true o bs) (λ x. tt)
shallow_leaf major.Tag (Some n) bs = shallow_then (tag_at n bs) _ (shallow_tag n bs) (λ k. tt)
shallow_leaf major.Simple (Some n) bs = shallow_if (eqb n 20) _ _ tt (shallow_if (eqb n 21) _ _ tt (shallow_if (eqb n 22) _ _ tt refl))
shallow_leaf major.Simple None bs = refl
shallow_leaf major.Unsigned None bs = refl
shallow_leaf major.Negative None bs = refl
shallow_leaf major.Tag None bs = refl
shallow_leaf major.Array o bs = refl
shallow_leaf major.Map o bs = refl

-- ---- further than with so many bytes left

abbrev Under : {A : Type 0} → ℕ → Result (A × List ℕ) Refusal → Type 0
Under n (Ok x) = length x.1 < n
Under n (Err e) = e.left < n

under_leaves : {A : Type 0} (m n : ℕ) (r : Result (A × List ℕ) Refusal) → m < n → Leaves m r → Under n r
under_leaves m n (Ok x) less le = omega (arith, less, le)
under_leaves m n (Err e) less le = omega (arith, less, le)

under_then : {A B : Type 0} (n : ℕ) (r : Result (A × List ℕ) Refusal) (f : A × List ℕ → Result (B × List ℕ) Refusal) → Under n r
    → ((x : A × List ℕ) → Leaves (length x.1) (f x)) → Under n (r >>= f)
under_then n (Ok x) f less next = under_leaves (length x.1) n (f x) less (next x)
under_then n (Err e) f less next = less

-- with what is known of the test
under_by : {A : Type 0} (n : ℕ) (b : Bool) (x y : Result (A × List ℕ) Refusal) → (b ≡ true → Under n x) → (b ≡ false → Under n y) → Under n (cond b x y)
under_by n true x y p q = p refl
under_by n false x y p q = q refl

-- the same; or the same fault, if not of depth; or further
abbrev Goes : {A : Type 0} → Result (A × List ℕ) Refusal → Result (A × List ℕ) Refusal → Type 0
Goes (Ok x) wide = wide ≡ Ok x
Goes (Err e) wide = Under e.left wide ⊎ ((is_deep e.«fault» ≡ false) × (wide ≡ Err e))

abbrev Further : {A : Type 0} → Reader A → Reader A → Type 0
Further read wide = (bs : List ℕ) → Goes (read bs) (wide bs)

goes_same : {A : Type 0} (r : Result (A × List ℕ) Refusal) → Shallow r → Goes r r
goes_same (Ok x) is = refl
goes_same (Err e) is = inr (is, refl)

goes_then : {A B : Type 0} (r wide : Result (A × List ℕ) Refusal) (f g : A × List ℕ → Result (B × List ℕ) Refusal) → Goes r wide
    → ((x : A × List ℕ) → Leaves (length x.1) (g x)) → ((x : A × List ℕ) → Goes (f x) (g x)) → Goes (r >>= f) (wide >>= g)
goes_then (Ok x) wide f g is leaves next = rw is (next x)
goes_then (Err e) wide f g (inl w) leaves next = inl (under_then e.left wide g w leaves)
goes_then (Err e) wide f g (inr w) leaves next = inr (w.0, ap (λ r. r >>= g) w.1)

goes_known : {A B : Type 0} (r : Result A Refusal) (f g : A → Result (B × List ℕ) Refusal) → Shallow r → ((x : A) → r ≡ Ok x → Goes (f x) (g x))
    → Goes (r >>= f) (r >>= g)
goes_known (Ok x) f g is next = next x refl
goes_known (Err e) f g is next = inr (is, refl)

goes_if : {A : Type 0} (b : Bool) (x y wide_x wide_y : Result (A × List ℕ) Refusal) → Goes x wide_x → Goes y wide_y → Goes (cond b x y) (cond b wide_x wide_y)
goes_if true x y wide_x wide_y p q = p
goes_if false x y wide_x wide_y p q = q

goes_alike : {A : Type 0} (r s wide broad : Result (A × List ℕ) Refusal) → r ≡ s → wide ≡ broad → Goes s broad → Goes r wide
goes_alike r s wide broad first second is = subst (λ u. Goes u wide) (sym first) (subst (λ u. Goes s u) (sym second) is)

deep_or : {A : Type 0} (b : Bool) (d : Refusal) (r wide : Result (A × List ℕ) Refusal) → Under d.left wide → Goes r wide → Goes (cond b r (Err d)) wide
deep_or true d r wide under is = is
deep_or false d r wide under is = inl under

-- ---- numbers of heads

under_digits : (due n : ℕ) (bs : List ℕ) (most : ℕ) → length bs < most → Under most (digits_at unbounded due n bs)
under_digits due n bs most less = under_leaves (length bs) most (digits_at unbounded due n bs) less (shrinks_digits unbounded due n bs)

digits_go : (due n : ℕ) → Further (digits_at (between 0 0 fault.TooDeep) due n) (digits_at unbounded due n)
unfolding digits_at
digits_go zero n bs = refl
digits_go (suc due) n [] = inr (refl, refl)
digits_go (suc due) n (b ∷ bs) =
    deep_or ((between 0 0 fault.TooDeep).admits due (n * 256 + b)) (record { «fault» = fault.TooDeep; left = suc (length bs) })
    (digits_at (between 0 0 fault.TooDeep) due (n * 256 + b) bs) (digits_at unbounded due (n * 256 + b) bs)
    (under_digits due (n * 256 + b) bs (suc (length bs)) (omega arith)) (digits_go due (n * 256 + b) bs)

argument_goes : (info : ℕ) → Further (argument_at (between 0 0 fault.TooDeep) info) (argument_at unbounded info)
unfolding argument_at
argument_goes info bs =
    goes_if (ltb info 24) _ _ _ _
    (deep_or ((between 0 0 fault.TooDeep).admits 0 info) (record { «fault» = fault.TooDeep; left = suc (length bs) }) (Ok (info, bs)) (Ok (info, bs)) (omega arith) refl)
    (digits_go (size_of info) 0 bs)

array_number : (limit info : ℕ) → Further (argument_at (bounds_of limit major.Array) info) (argument_at unbounded info)
array_number zero info bs = argument_goes info bs
array_number (suc limit) info bs = goes_same (argument_at unbounded info bs) (shallow_argument unbounded refl info bs)

map_number : (limit info : ℕ) → Further (argument_at (bounds_of limit major.Map) info) (argument_at unbounded info)
map_number zero info bs = argument_goes info bs
map_number (suc limit) info bs = goes_same (argument_at unbounded info bs) (shallow_argument unbounded refl info bs)

under_argument : (info : ℕ) (bs : List ℕ) (most : ℕ) → length bs < most → Under most (argument_at unbounded info bs)
unfolding argument_at
under_argument info bs most less = under_by most (ltb info 24) _ _ (λ low. less) (λ high. under_digits (size_of info) 0 bs most less)

-- ---- parts

each_goes : {A : Type 0} (read wide : Reader A) → Further read wide → Advances wide → (k : ℕ) → Further (each_at read k) (each_at wide k)
unfolding each_at
each_goes read wide further advances zero bs = refl
each_goes read wide further advances (suc k) bs =
    goes_then (read bs) (wide bs) _ _ (further bs)
    (λ x. leaves_then (length x.1) (each_at wide k x.1) _ (shrinks_each wide advances k x.1) (λ xs le. le))
    (λ x. goes_then (each_at read k x.1) (each_at wide k x.1) _ _ (each_goes read wide further advances k x.1) (λ xs. omega arith) (λ xs. refl))

until_goes : {A : Type 0} (read wide : Reader A) → Further read wide → Advances wide → (k : ℕ) → Further (until_at read k) (until_at wide k)
unfolding until_at
until_goes read wide further advances zero bs = inr (refl, refl)
until_goes read wide further advances (suc k) bs =
    goes_if (at_break bs) _ _ _ _ refl
    (goes_then (read bs) (wide bs) _ _ (further bs)
    (λ x. leaves_then (length x.1) (until_at wide k x.1) _ (no_more (length x.1) (until_at wide k x.1) (advances_until wide advances k x.1)) (λ xs le. le))
    (λ x. goes_then (until_at read k x.1) (until_at wide k x.1) _ _ (until_goes read wide further advances k x.1) (λ xs. omega arith) (λ xs. refl)))

parts_go : {A : Type 0} (read wide : Reader A) → Further read wide → Advances wide → (o : Option ℕ) → Further (parts_at read o) (parts_at wide o)
unfolding parts_at
parts_go read wide further advances None bs = until_goes read wide further advances (length bs) bs
parts_go read wide further advances (Some n) bs = each_goes read wide further advances n bs

pair_goes : (read wide : Reader Tree) → Further read wide → Advances wide → Further (pair_at read) (pair_at wide)
unfolding pair_at
pair_goes read wide further advances bs =
    goes_then (read bs) (wide bs) _ _ (further bs)
    (λ k. leaves_then (length k.1) (wide k.1) _ (no_more (length k.1) (wide k.1) (advances k.1)) (λ v le. le))
    (λ k. goes_then (read k.1) (wide k.1) _ _ (further k.1) (λ v. omega arith) (λ v. refl))

array_goes : (read wide : Reader Tree) → Further read wide → Advances wide → (o : Option ℕ) → Further (inside_at read major.Array o) (inside_at wide major.Array o)
array_goes read wide further advances o bs =
    goes_then (parts_at read o bs) (parts_at wide o bs) _ _ (parts_go read wide further advances o bs) (λ xs. omega arith) (λ xs. refl)

map_goes : (read wide : Reader Tree) → Further read wide → Advances wide → (o : Option ℕ) → Further (inside_at read major.Map o) (inside_at wide major.Map o)
map_goes read wide further advances o bs =
    goes_then (parts_at (pair_at read) o bs) (parts_at (pair_at wide) o bs) _ _
    (parts_go (pair_at read) (pair_at wide) (pair_goes read wide further advances) (advances_pair wide advances) o bs) (λ xs. omega arith) (λ xs. refl)

-- ---- behind a first byte

-- what stands behind a first byte of an item
abbrev behind : Bounds → Reader Tree → Major → ℕ → Reader Tree
behind bounds read m info bs =
    cond (eqb info 31) (inside_at read m None bs) (argument_at bounds info bs >>= λ n. inside_at read m (Some n.0) n.1)

-- one step inside of another
inwards : {A B C : Type 0} (b : Bool) (x : B) (r : Result A Refusal) (q : A → B) (f : B → Result C Refusal)
    → ((cond b (Ok x) (r >>= λ n. Ok (q n))) >>= f) ≡ cond b (f x) (r >>= λ n. f (q n))
inwards true x r q f = refl
inwards false x (Ok n) q f = refl
inwards false x (Err e) q f = refl

head_first : (limit : ℕ) (read : Reader Tree) (r : Result (First × List ℕ) Refusal)
    → ((r >>= λ h. head_behind (bounds_of limit h.0.«major») h.0 h.1) >>= λ x. inside_at read x.0.«major» x.0.number x.1)
    ≡ (r >>= λ h. behind (bounds_of limit h.0.«major») read h.0.«major» h.0.info h.1)
head_first limit read (Ok h) =
    inwards {B = Head × List ℕ} (eqb h.0.info 31) (record { «major» = h.0.«major»; number = None }, h.1) (argument_at (bounds_of limit h.0.«major») h.0.info h.1)
    (λ n. (record { «major» = h.0.«major»; number = Some n.0 }, n.1)) (λ x. inside_at read x.0.«major» x.0.number x.1)
head_first limit read (Err e) = refl

item_is : (limit : ℕ) (bs : List ℕ) → item_at (suc limit) bs ≡ (kind_at bs >>= λ h. behind (bounds_of limit h.0.«major») (item_at limit) h.0.«major» h.0.info h.1)
unfolding item_at head_at
item_is limit bs = head_first limit (item_at limit) (kind_at bs)

none_is : (bs : List ℕ) → item_at zero bs ≡ (kind_at bs >>= λ h. refused fault.TooDeep bs)
unfolding item_at
none_is bs = refl

abbrev leaf_behind : Bounds → Major → ℕ → Reader Tree
leaf_behind bounds m info bs = cond (eqb info 31) (leaf_at m None bs) (argument_at bounds info bs >>= λ n. leaf_at m (Some n.0) n.1)

leaf_goes : (bounds : Bounds) → IsBound bounds → (m : Major) (info : ℕ) (bs : List ℕ) → Goes (leaf_behind bounds m info bs) (leaf_behind bounds m info bs)
leaf_goes bounds not m info bs =
    goes_same (leaf_behind bounds m info bs)
    (shallow_if (eqb info 31) _ _ (shallow_leaf m None bs)
    (shallow_then (argument_at bounds info bs) _ (shallow_argument bounds not info bs) (λ n. shallow_leaf m (Some n.0) n.1)))

-- what is left of an array and of a map
array_leaves : (read : Reader Tree) → Advances read → (o : Option ℕ) (bs : List ℕ) → Leaves (length bs) (inside_at read major.Array o bs)
array_leaves read advances o bs = leaves_then (length bs) (parts_at read o bs) _ (shrinks_parts read advances o bs) (λ xs le. le)

map_leaves : (read : Reader Tree) → Advances read → (o : Option ℕ) (bs : List ℕ) → Leaves (length bs) (inside_at read major.Map o bs)
map_leaves read advances o bs =
    leaves_then (length bs) (parts_at (pair_at read) o bs) _ (shrinks_parts (pair_at read) (advances_pair read advances) o bs) (λ xs le. le)

behind_goes : (limit k : ℕ) (read wide : Reader Tree) → Further read wide → Advances wide → (m : Major) (info : ℕ)
    → Further (behind (bounds_of limit m) read m info) (behind (bounds_of (suc k) m) wide m info)
behind_goes limit k read wide further advances major.Array info bs =
    goes_if (eqb info 31) _ _ _ _ (array_goes read wide further advances None bs)
    (goes_then (argument_at (bounds_of limit major.Array) info bs) (argument_at unbounded info bs) _ _ (array_number limit info bs)
    (λ n. array_leaves wide advances (Some n.0) n.1) (λ n. array_goes read wide further advances (Some n.0) n.1))
behind_goes limit k read wide further advances major.Map info bs =
    goes_if (eqb info 31) _ _ _ _ (map_goes read wide further advances None bs)
    (goes_then (argument_at (bounds_of limit major.Map) info bs) (argument_at unbounded info bs) _ _ (map_number limit info bs)
    (λ n. map_leaves wide advances (Some n.0) n.1) (λ n. map_goes read wide further advances (Some n.0) n.1))
behind_goes limit k read wide further advances major.Unsigned info bs = leaf_goes unbounded refl major.Unsigned info bs
behind_goes limit k read wide further advances major.Negative info bs = leaf_goes unbounded refl major.Negative info bs
behind_goes limit k read wide further advances major.Bytes info bs = leaf_goes unbounded refl major.Bytes info bs
behind_goes limit k read wide further advances major.Text info bs = leaf_goes unbounded refl major.Text info bs
behind_goes limit k read wide further advances major.Tag info bs = leaf_goes (between 2 3 fault.Tag) refl major.Tag info bs
behind_goes limit k read wide further advances major.Simple info bs = leaf_goes unbounded refl major.Simple info bs

-- ---- past a first byte

-- what is known of the first byte of an item
first_known : (bs : List ℕ) (h : First × List ℕ) → first_at bs ≡ Ok h → is_reserved h.0.«major» h.0.info ≡ false
unfolding first_at
first_known [] h is = absurd cc
first_known (b ∷ bs) h is =
    let m = major_of (b / 32) in
    elim (chosen (is_reserved m (b % 32)) (refused fault.Reserved (b ∷ bs)) (Ok (made m (b % 32), bs)) (Ok h) is) [
      | inl w ↦ absurd cc
      | inr w ↦ subst (λ (p : First × List ℕ). is_reserved p.0.«major» p.0.info ≡ false) (ok_is (made m (b % 32), bs) h w.1) w.0
    ]

kind_known : (bs : List ℕ) (h : First × List ℕ) → kind_at bs ≡ Ok h → (is_reserved h.0.«major» h.0.info ≡ false) × (item_fault h.0.«major» h.0.info ≡ None)
unfolding kind_at
kind_known bs h is =
    let a = bind_ok (first_at bs) (λ h. unless (item_fault h.0.«major» h.0.info) bs h) h is in
    let n = not_wrong (item_fault a.0.0.«major» a.0.0.info) bs a.0 h a.2 in
    subst (λ (p : First × List ℕ). (is_reserved p.0.«major» p.0.info ≡ false) × (item_fault p.0.«major» p.0.info ≡ None)) n.1 (first_known bs a.0 a.1, n.0)

not_open : (info : ℕ) → ltb 27 info ≡ false → eqb info 31 ≡ true → ⊥
not_open info low all = omega (arith, ltb-false 27 info low, eqb-true info 31 all)

-- a test that goes on to nothing wrong
nothing_if : (b : Bool) (f : Fault) (o : Option Fault) → cond b (Some f) o ≡ None → (b ≡ false) × (o ≡ None)
nothing_if true f o is = absurd cc
nothing_if false f o is = (refl, is)

nothing_else : (b : Bool) (f : Fault) → cond b None (Some f) ≡ None → b ≡ true
nothing_else true f is = refl
nothing_else false f is = absurd cc

nothing_low : (b c : Bool) (f : Fault) → cond b None (cond c None (Some f)) ≡ None → b ≡ false → c ≡ true
nothing_low true c f is low = absurd cc
nothing_low false c f is low = nothing_else c f is

high_or_low : (info : ℕ) → ltb info 24 ≡ true → ltb 23 info ≡ true → ⊥
high_or_low info low high = omega (arith, ltb-true info 24 low, ltb-true 23 info high)

is_false : (b : Bool) → (b ≡ true → ⊥) → b ≡ false
is_false true not = absurd (not refl)
is_false false not = refl

under_tag : (info : ℕ) (bs : List ℕ) (most : ℕ) → length bs < most → item_fault major.Tag info ≡ None → Under most (argument_at (between 2 3 fault.Tag) info bs)
unfolding argument_at
under_tag info bs most less right =
    under_by most (ltb info 24) _ _
    (λ low.
    let known : is_in_range 2 3 info ≡ true =
    nothing_low (ltb 23 info) (is_in_range 2 3 info) fault.Tag right (is_false (ltb 23 info) (high_or_low info low)) in
    under_by most (is_in_range 2 3 info) _ _ (λ yes. less) (λ no. absurd (true_false (sym known ∙ no))))
    (λ high.
    under_leaves (length bs) most (digits_at (between 2 3 fault.Tag) (size_of info) 0 bs) less
    (shrinks_digits (between 2 3 fault.Tag) (size_of info) 0 bs))

-- a simple value that is known
known_simple : (info : ℕ) → item_fault major.Simple info ≡ None → is_in_range 20 22 info ≡ true
known_simple info right =
    let first = nothing_if (eqb info 31) fault.Break (cond (is_in_range 25 27 info) (Some fault.Float) (cond (is_in_range 20 22 info) None (Some fault.Simple))) right in
    let second = nothing_if (is_in_range 25 27 info) fault.Float (cond (is_in_range 20 22 info) None (Some fault.Simple)) first.1 in
    nothing_else (is_in_range 20 22 info) fault.Simple second.1

three : (info : ℕ) → (20 ≤ info) × (info ≤ 22) → (info ≡ 20) ⊎ ((info ≡ 21) ⊎ (info ≡ 22))
three info within =
    elim (cases_lt info 21) [
      | inl first ↦ inl (omega (arith, within.0, first))
      | inr past ↦ elim (cases_lt info 22) [
        | inl second ↦ inr (inl (omega (arith, past, second)))
        | inr third ↦ inr (inr (omega (arith, within.1, third)))
      ]
    ]

under_simple : (read : Reader Tree) (bs : List ℕ) (most : ℕ) → length bs < most → (info : ℕ) → (info ≡ 20) ⊎ ((info ≡ 21) ⊎ (info ≡ 22))
    → Under most (behind unbounded read major.Simple info bs)
unfolding argument_at leaf_at
under_simple read bs most less info (inl is) = subst (λ i. Under most (behind unbounded read major.Simple i bs)) (sym is) less
under_simple read bs most less info (inr (inl is)) = subst (λ i. Under most (behind unbounded read major.Simple i bs)) (sym is) less
under_simple read bs most less info (inr (inr is)) = subst (λ i. Under most (behind unbounded read major.Simple i bs)) (sym is) less

-- where what is behind the head leaves no more than there is
under_numbered : (bounds : Bounds) (read : Reader Tree) (m : Major) (info : ℕ) (bs : List ℕ) (most : ℕ) → (eqb info 31 ≡ true → Under most (inside_at read m None bs))
    → Under most (argument_at bounds info bs) → ((n : ℕ) (rest : List ℕ) → Leaves (length rest) (inside_at read m (Some n) rest)) → Under most (behind bounds read m info bs)
under_numbered bounds read m info bs most none number leaves =
    under_by most (eqb info 31) _ _ none (λ some. under_then most (argument_at bounds info bs) _ number (λ n. leaves n.0 n.1))

under_all : (read : Reader Tree) (m : Major) (info : ℕ) (bs : List ℕ) (most : ℕ) → length bs < most
    → ((o : Option ℕ) (rest : List ℕ) → Leaves (length rest) (inside_at read m o rest)) → Under most (behind unbounded read m info bs)
under_all read m info bs most less leaves =
    under_numbered unbounded read m info bs most (λ all. under_leaves (length bs) most (inside_at read m None bs) less (leaves None bs))
    (under_argument info bs most less) (λ n rest. leaves (Some n) rest)

under_behind : (k : ℕ) (read : Reader Tree) → Advances read → (m : Major) (info : ℕ) (bs : List ℕ) (most : ℕ) → length bs < most
    → is_reserved m info ≡ false → item_fault m info ≡ None → Under most (behind (bounds_of (suc k) m) read m info bs)
unfolding leaf_at
under_behind k read advances major.Array info bs most less known right = under_all read major.Array info bs most less (array_leaves read advances)
under_behind k read advances major.Map info bs most less known right = under_all read major.Map info bs most less (map_leaves read advances)
under_behind k read advances major.Bytes info bs most less known right =
    under_all read major.Bytes info bs most less (λ o rest. leaves_then (length rest) (string_at false o rest) _ (shrinks_string false o rest) (λ x le. le))
under_behind k read advances major.Text info bs most less known right =
    under_all read major.Text info bs most less (λ o rest. leaves_then (length rest) (string_at true o rest) _ (shrinks_string true o rest) (λ x le. le))
under_behind k read advances major.Unsigned info bs most less known right =
    under_numbered unbounded read major.Unsigned info bs most (λ all. absurd (not_open info known all)) (under_argument info bs most less) (λ n rest. omega arith)
under_behind k read advances major.Negative info bs most less known right =
    under_numbered unbounded read major.Negative info bs most (λ all. absurd (not_open info known all)) (under_argument info bs most less) (λ n rest. omega arith)
under_behind k read advances major.Tag info bs most less known right =
    under_numbered (between 2 3 fault.Tag) read major.Tag info bs most (λ all. absurd (not_open info known all)) (under_tag info bs most less right)
    (λ n rest. leaves_then (length rest) (tag_at n rest) _ (no_more (length rest) (tag_at n rest) (advances_tag n rest)) (λ x le. le))
under_behind k read advances major.Simple info bs most less known right =
    under_simple read bs most less info (three info (in_range_is 20 22 info (known_simple info right)))

-- ---- items

item_goes : (limit k : ℕ) → limit ≤ k → Further (item_at limit) (item_at (suc (suc k)))
item_goes zero k le bs =
    goes_alike (item_at zero bs) _ (item_at (suc (suc k)) bs) _ (none_is bs) (item_is (suc k) bs)
    (goes_known (kind_at bs) _ _ (shallow_kind bs) (λ h is.
    let known = kind_known bs h is in
    let less : length h.1 < length bs = shorter (length bs) (kind_at bs) h is (kind_shrinks bs) in
    inl (under_behind k (item_at (suc k)) (advances_item (suc k)) h.0.«major» h.0.info h.1 (length bs) less known.0 known.1)))
item_goes (suc limit) zero le bs = absurd (omega (arith, le))
item_goes (suc limit) (suc k) le bs =
    goes_alike (item_at (suc limit) bs) _ (item_at (suc (suc (suc k))) bs) _ (item_is limit bs) (item_is (suc (suc k)) bs)
    (goes_known (kind_at bs) _ _ (shallow_kind bs) (λ h is.
    behind_goes limit (suc k) (item_at limit) (item_at (suc (suc k))) (item_goes limit k (omega (arith, le))) (advances_item (suc (suc k))) h.0.«major» h.0.info h.1))

item_further : (limit greater : ℕ) → limit + 2 ≤ greater → Further (item_at limit) (item_at greater)
item_further limit greater le bs =
    let same : suc (suc (greater - 2)) ≡ greater = omega (arith, le) in
    subst (λ k. Goes (item_at limit bs) (item_at k bs)) same (item_goes limit (greater - 2) (omega (arith, le)) bs)

-- ---- refused later

under_from : {A : Type 0} (r wide : Result (A × List ℕ) Refusal) (e : Refusal) → Goes r wide → r ≡ Err e → is_deep e.«fault» ≡ true → Under e.left wide
under_from (Ok x) wide e is fails deep = absurd cc
under_from {A} (Err d) wide e (inl w) fails deep = subst (λ (u : Refusal). Under u.left wide) (same_refusal {A = A × List ℕ} d e fails) w
under_from {A} (Err d) wide e (inr w) fails deep =
    absurd (true_false (sym deep ∙ (ap (λ (u : Refusal). is_deep u.«fault») (sym (same_refusal {A = A × List ℕ} d e fails)) ∙ w.0)))

refused_under : {A : Type 0} (n : ℕ) (r : Result (A × List ℕ) Refusal) (e : Refusal) → Under n r → r ≡ Err e → e.left < n
refused_under n r e less is = subst (Under n) is less

read_under : {A : Type 0} (n : ℕ) (r : Result (A × List ℕ) Refusal) (x : A × List ℕ) → Under n r → r ≡ Ok x → length x.1 < n
read_under n r x less is = subst (Under n) is less

-- what of a whole item is too deep is inside of it
deep_inside : (limit : ℕ) (bs : List ℕ) (e : Refusal) → whole_at limit bs ≡ Err e → is_deep e.«fault» ≡ true → item_at limit bs ≡ Err e
unfolding whole_at
deep_inside limit bs e is deep =
    elim (bind_err (item_at limit bs) (λ x. cond (eqb (length x.1) 0) (Ok x.0) (refused fault.Trailing x.1)) e is) [
      | inl w ↦ w
      | inr a ↦ elim (chosen (eqb (length a.0.1) 0) (Ok a.0.0) (refused fault.Trailing a.0.1) (Err e) a.2) [
        | inl w ↦ absurd cc
        | inr w ↦
            let same = same_refusal {A = Tree} (record { «fault» = fault.Trailing; left = length a.0.1 }) e w.1 in
            absurd (true_false (sym deep ∙ ap (λ (u : Refusal). is_deep u.«fault») (sym same)))
      ]
    ]

whole_under : (limit : ℕ) (bs : List ℕ) (n : ℕ) (e : Refusal) → Under n (item_at limit bs) → whole_at limit bs ≡ Err e → e.left < n
unfolding whole_at
whole_under limit bs n e less is =
    elim (bind_err (item_at limit bs) (λ x. cond (eqb (length x.1) 0) (Ok x.0) (refused fault.Trailing x.1)) e is) [
      | inl w ↦ refused_under n (item_at limit bs) e less w
      | inr a ↦ elim (chosen (eqb (length a.0.1) 0) (Ok a.0.0) (refused fault.Trailing a.0.1) (Err e) a.2) [
        | inl w ↦ absurd cc
        | inr w ↦
            let left : length a.0.1 ≡ e.left = same_left {A = Tree} (record { «fault» = fault.Trailing; left = length a.0.1 }) e w.1 in
            omega (arith, left, read_under n (item_at limit bs) a.0 less a.1)
      ]
    ]

under_deep : (limit greater : ℕ) (bs : List ℕ) (left : ℕ) → limit + 2 ≤ greater → item_at limit bs ≡ Err (record { «fault» = fault.TooDeep; left = left }) → Under left (item_at greater bs)
under_deep limit greater bs left le is =
    under_from (item_at limit bs) (item_at greater bs) (record { «fault» = fault.TooDeep; left = left }) (item_further limit greater le bs) is refl

pub later_front : (limit greater : ℕ) (bs : List ℕ) (at later : ℕ) (f : Fault) → limit + 2 ≤ greater → StopsAt bs (error.Refused at fault.TooDeep) (item_at limit bs)
    → StopsAt bs (error.Refused later f) (item_at greater bs) → at < later
later_front limit greater bs at later f le deep stops =
    let within : deep.0 ≤ length bs = left_within limit bs (record { «fault» = fault.TooDeep; left = deep.0 }) deep.1 in
    let less : stops.0 < deep.0 = refused_under deep.0 (item_at greater bs) (record { «fault» = f; left = stops.0 }) (under_deep limit greater bs deep.0 le deep.1) stops.1 in
    omega (arith, within, less, deep.2, stops.2)

pub later_whole : (limit greater : ℕ) (bs : List ℕ) (at later : ℕ) (f : Fault) → limit + 2 ≤ greater → StopsAt bs (error.Refused at fault.TooDeep) (whole_at limit bs)
    → StopsAt bs (error.Refused later f) (whole_at greater bs) → at < later
later_whole limit greater bs at later f le deep stops =
    let inner = deep_inside limit bs (record { «fault» = fault.TooDeep; left = deep.0 }) deep.1 refl in
    let within : deep.0 ≤ length bs = left_within limit bs (record { «fault» = fault.TooDeep; left = deep.0 }) inner in
    let less : stops.0 < deep.0 = whole_under greater bs deep.0 (record { «fault» = f; left = stops.0 }) (under_deep limit greater bs deep.0 le inner) stops.1 in
    omega (arith, within, less, deep.2, stops.2)
