-- What bytes behind others change: only what had ended, and that no earlier.
use Rattle.std.proofs.Common.{◌≡◌, ℕ, suc, zero, ◌+◌, ◌*◌, ◌%◌, ◌/◌, ◌<◌, ◌≤◌, Bool, true, false, cond, eqb, ltb, List, [], ◌∷◌, ◌++◌, length, take, drop, Option, Some, None, Result, Ok, Err, ◌⊎◌, refl, sym, ap, subst, ◌∙◌, append_assoc, arith, length-append, length-drop, inl, inr}
use Rattle.std.specs.List.{concat}
use Rattle.std.proofs.lemmas.Bool.{ltb-false, ltb-true, le-ltb}
use Rattle.std.proofs.lemmas.List.{take_at, drop_at, take-append-drop, length-take}
use Rattle.content_tree.specs.Values.Tree.{Tree}
use Rattle.content_cbor.specs.declared.decode_error.Fault.{Fault}
use Rattle.content_cbor.specs.declared.decode_error.Fault.TheVariants as fault
use Rattle.content_cbor.specs.declared.heads.First.{First}
use Rattle.content_cbor.specs.declared.heads.Major.{Major}
use Rattle.content_cbor.specs.declared.heads.Major.TheVariants as major
use Rattle.content_cbor.specs.declared.stop.Refusal.{Refusal}
use Rattle.content_cbor.specs.Inner.Steps.{◌>>=◌, Reader, refused, refused_before, or_refused, unless}
use Rattle.content_cbor.specs.Inner.Numbers.{Bounds, argument_at, digits_at, size_of, unbounded}
use Rattle.content_cbor.specs.declared.utf8.Lack.{Lack}
use Rattle.content_cbor.specs.Inner.Texts.{after_byte, tail, text_at, within}
use Rattle.content_cbor.specs.Inner.Reading.{begins_chunk, bounds_of, bytes_at, chunk_at, chunk_bounds, chunks_at, content_at, digits_of, digits_until, each_at, first_at, head_at, head_behind}
use Rattle.content_cbor.specs.Inner.Reading.{inside_at, is_reserved, item_at, item_fault, kind_at, leaf_at, length_at, magnitude_at, magnitude_behind, major_of, pair_at, parts_at, room, string_at, tag_at, until_at}
use Rattle.content_cbor.proofs.Read.Shrinks.{Advances, Smaller, advances_chunk, advances_digits, advances_digits_until, advances_item, advances_magnitude, advances_pair, advances_text, advances_until}
use Rattle.content_cbor.proofs.Read.Shrinks.{fewer, much_smaller, no_longer, no_more, shorter, shrinks_content, shrinks_digits, shrinks_digits_of, shrinks_each, shrinks_head, shrinks_inside, shrinks_length, smaller_then}

-- the same fault, with so many bytes more behind it
abbrev pub later : ℕ → Refusal → Refusal
later k e = record { «fault» = e.«fault»; left = e.left + k }

-- with more bytes behind: the same part and the more, or the same fault; or the bytes had ended, and what is found is in the more
abbrev pub Agrees : {A : Type 0} → List ℕ → Result (A × List ℕ) Refusal → Result (A × List ℕ) Refusal → Type 0
Agrees more (Ok x) longer = longer ≡ Ok (x.0, x.1 ++ more)
Agrees more (Err e) longer = ((e.left ≡ 0) × Smaller (length more) longer) ⊎ (longer ≡ Err (later (length more) e))

-- so of a reader, whatever is behind
abbrev pub Longer : {A : Type 0} → Reader A → Type 0
Longer read = (bs more : List ℕ) → Agrees more (read bs) (read (bs ++ more))

agrees_then : {A B : Type 0} (more : List ℕ) (r longer : Result (A × List ℕ) Refusal) (f g : A × List ℕ → Result (B × List ℕ) Refusal)
    → Agrees more r longer → ((y : A × List ℕ) → length y.1 < length more → Smaller (length more) (g y))
    → ((x : A × List ℕ) → r ≡ Ok x → Agrees more (f x) (g (x.0, x.1 ++ more))) → Agrees more (r >>= f) (longer >>= g)
agrees_then more (Ok x) longer f g is smaller next = rw is (next x refl)
agrees_then more (Err e) longer f g (inl w) smaller next = inl (w.0, smaller_then (length more) longer g w.1 smaller)
agrees_then more (Err e) longer f g (inr w) smaller next = inr (ap (λ r. r >>= g) w)

agrees_if : {A : Type 0} (more : List ℕ) (b : Bool) (x y x′ y′ : Result (A × List ℕ) Refusal)
    → Agrees more x x′ → Agrees more y y′ → Agrees more (cond b x y) (cond b x′ y′)
agrees_if more true x y x′ y′ = λ yes no. yes
agrees_if more false x y x′ y′ = λ yes no. no

agrees_refused : {A : Type 0} (more : List ℕ) (f : Fault) (left : List ℕ) → Agrees {A = A} more (refused f left) (refused f (left ++ more))
agrees_refused more f left = inr (ap (λ n. Err (record { «fault» = f; left = n })) (length-append left more))

agrees_before : {A : Type 0} (more : List ℕ) (f : Fault) (behind : List ℕ) → Agrees {A = A} more (refused_before f behind) (refused_before f (behind ++ more))
agrees_before more f behind = inr (ap (λ n. Err (record { «fault» = f; left = n })) (omega (arith, length-append behind more)))

agrees_there : {A B : Type 0} (more : List ℕ) (f : Fault) (left : List ℕ) (o : Option A) (then then′ : A → Result (B × List ℕ) Refusal)
    → ((x : A) → Agrees more (then x) (then′ x)) → Agrees more (or_refused f left o >>= then) (or_refused f (left ++ more) o >>= then′)
agrees_there more f left None then then′ alike = agrees_refused more f left
agrees_there more f left (Some x) then then′ alike = alike x

-- ---- numbers and heads

longer_digits : (bounds : Bounds) (due n : ℕ) → Longer (digits_at bounds due n)
unfolding digits_at
longer_digits bounds zero n bs more = refl
longer_digits bounds (suc due) n [] more = inl (refl, advances_digits bounds due n more)
longer_digits bounds (suc due) n (b ∷ bs) more =
    agrees_if more (bounds.admits due (n * 256 + b)) _ _ _ _ (longer_digits bounds due (n * 256 + b) bs more) (agrees_refused more bounds.otherwise (b ∷ bs))

longer_argument : (bounds : Bounds) (info : ℕ) → Longer (argument_at bounds info)
unfolding argument_at
longer_argument bounds info bs more =
    agrees_if more (ltb info 24) _ _ _ _
    (agrees_if more (bounds.admits 0 info) _ _ _ _ refl (agrees_before more bounds.otherwise bs)) (longer_digits bounds (size_of info) 0 bs more)

-- the same part and the more, or the same fault
abbrev Settled : {A : Type 0} → List ℕ → Result (A × List ℕ) Refusal → Result (A × List ℕ) Refusal → Type 0
Settled more (Ok x) longer = longer ≡ Ok (x.0, x.1 ++ more)
Settled more (Err e) longer = longer ≡ Err (later (length more) e)

settled_if : {A : Type 0} (more : List ℕ) (b : Bool) (x y x′ y′ : Result (A × List ℕ) Refusal)
    → Settled more x x′ → Settled more y y′ → Settled more (cond b x y) (cond b x′ y′)
settled_if more true x y x′ y′ = λ yes no. yes
settled_if more false x y x′ y′ = λ yes no. no

settled_refused : {A : Type 0} (more : List ℕ) (f : Fault) (left : List ℕ) → Settled {A = A} more (refused f left) (refused f (left ++ more))
settled_refused more f left = ap (λ n. Err (record { «fault» = f; left = n })) (length-append left more)

settled_then : {A B : Type 0} (more : List ℕ) (r longer : Result (A × List ℕ) Refusal) (f g : A × List ℕ → Result (B × List ℕ) Refusal)
    → Settled more r longer → ((x : A × List ℕ) → r ≡ Ok x → Agrees more (f x) (g (x.0, x.1 ++ more))) → Agrees more (r >>= f) (longer >>= g)
settled_then more (Ok x) longer f g is next = rw is (next x refl)
settled_then more (Err e) longer f g is next = inr (ap (λ r. r >>= g) is)

-- a first byte tells
first_settles : (b : ℕ) (bs more : List ℕ) → Settled more (first_at (b ∷ bs)) (first_at (b ∷ (bs ++ more)))
unfolding first_at
first_settles b bs more =
    settled_if more (is_reserved (major_of (b / 32)) (b % 32)) _ _ _ _ (settled_refused more fault.Reserved (b ∷ bs)) refl

settled_unless : (more : List ℕ) (o : Option Fault) (left : List ℕ) (h : First × List ℕ) → Settled more (unless o left h) (unless o (left ++ more) (h.0, h.1 ++ more))
settled_unless more None left h = refl
settled_unless more (Some f) left h = settled_refused more f left

settled_with : {A B : Type 0} (more : List ℕ) (r longer : Result (A × List ℕ) Refusal) (f g : A × List ℕ → Result (B × List ℕ) Refusal)
    → Settled more r longer → ((x : A × List ℕ) → r ≡ Ok x → Settled more (f x) (g (x.0, x.1 ++ more))) → Settled more (r >>= f) (longer >>= g)
settled_with more (Ok x) longer f g is next = rw is (next x refl)
settled_with more (Err e) longer f g is next = ap (λ r. r >>= g) is

-- and so does one of an item
kind_settles : (b : ℕ) (bs more : List ℕ) → Settled more (kind_at (b ∷ bs)) (kind_at (b ∷ (bs ++ more)))
unfolding kind_at
kind_settles b bs more =
    settled_with more (first_at (b ∷ bs)) (first_at (b ∷ (bs ++ more))) _ _ (first_settles b bs more) (λ h is.
    settled_unless more (item_fault h.0.«major» h.0.info) (b ∷ bs) h)

longer_head_behind : (bounds : Bounds) (first : First) → Longer (head_behind bounds first)
longer_head_behind bounds first bs more =
    agrees_if more (eqb first.info 31) _ _ _ _ refl
    (agrees_then more (argument_at bounds first.info bs) (argument_at bounds first.info (bs ++ more)) _ _ (longer_argument bounds first.info bs more) (λ y less. less) (λ n is. refl))

longer_head : (limit : ℕ) → Longer (head_at limit)
unfolding head_at kind_at first_at
longer_head limit [] more = inl (refl, shrinks_head limit more)
longer_head limit (b ∷ bs) more =
    settled_then more (kind_at (b ∷ bs)) (kind_at (b ∷ (bs ++ more))) _ _ (kind_settles b bs more) (λ h is.
    longer_head_behind (bounds_of limit h.0.«major») h.0 h.1 more)

-- ---- texts and bytes

split_at : (k : ℕ) (bs more : List ℕ) → bs ++ more ≡ take k bs ++ (drop k bs ++ more)
split_at k bs more = ap (λ t. t ++ more) (sym (take-append-drop k bs)) ∙ append_assoc (take k bs) (drop k bs) more

-- bytes that are there now
now_there : (b : Bool) (k : ℕ) (bs more : List ℕ) → length bs < k → ltb (length (bs ++ more)) k ≡ b
    → Smaller {A = List ℕ} (length more) (cond b (refused fault.Ended []) (Ok (take k (bs ++ more), drop k (bs ++ more))))
now_there true k bs more short is = omega arith
now_there false k bs more short is =
    omega (arith, ltb-false (length (bs ++ more)) k is, length-drop k (bs ++ more), length-append bs more, short)

bytes_by : (k : ℕ) (b : Bool) (bs more : List ℕ) → ltb (length bs) k ≡ b
    → Agrees more (cond b (refused fault.Ended []) (Ok (take k bs, drop k bs))) (bytes_at k (bs ++ more))
bytes_by k true bs more is = inl (refl, now_there (ltb (length (bs ++ more)) k) k bs more (ltb-true (length bs) k is) refl)
bytes_by k false bs more is =
    let enough : k ≤ length bs = ltb-false (length bs) k is in
    let long : ltb (length (bs ++ more)) k ≡ false = le-ltb _ _ (omega (arith, enough, length-append bs more)) in
    let len : length (take k bs) ≡ k = omega (arith, length-take k bs, enough) in
    let front : take k (bs ++ more) ≡ take k bs = ap (take k) (split_at k bs more) ∙ take_at (take k bs) (drop k bs ++ more) k len in
    let back : drop k (bs ++ more) ≡ drop k bs ++ more = ap (drop k) (split_at k bs more) ∙ drop_at (take k bs) (drop k bs ++ more) k len in
    rw (long, front, back) refl

longer_bytes : (n : ℕ) → Longer (bytes_at n)
longer_bytes n bs more = bytes_by n (ltb (length bs) n) bs more refl

longer_text : (lack : Lack) (n : ℕ) → Longer (text_at lack n)
unfolding text_at
longer_text lack zero bs more = refl
longer_text lack (suc n) [] more = inl (refl, advances_text lack n more)
longer_text lack (suc n) (b ∷ bs) more =
    agrees_there more fault.NotUtf8 (b ∷ bs) (within n (after_byte lack b)) _ _ (λ next.
    agrees_then more (text_at next n bs) (text_at next n (bs ++ more)) _ _ (longer_text next n bs more) (λ y less. less) (λ x is. refl))

longer_content : (t : Bool) (n : ℕ) → Longer (content_at t n)
unfolding content_at
longer_content false n bs more = longer_bytes n bs more
longer_content true n bs more = longer_text (tail 0) n bs more

longer_length : (t : Bool) (bounds : Bounds) → Longer (length_at t bounds)
unfolding length_at first_at
longer_length t bounds [] more = inl (refl, shrinks_length t bounds more)
longer_length t bounds (b ∷ bs) more =
    settled_then more (first_at (b ∷ bs)) (first_at (b ∷ (bs ++ more))) _ _ (first_settles b bs more) (λ h is.
    agrees_if more (begins_chunk t h.0.«major» h.0.info) _ _ _ _ (longer_argument bounds h.0.info h.1 more) (agrees_refused more fault.WrongChunk (b ∷ bs)))

longer_chunk : (t : Bool) → Longer (chunk_at t)
unfolding chunk_at
longer_chunk t bs more =
    agrees_then more (length_at t unbounded bs) (length_at t unbounded (bs ++ more)) _ _ (longer_length t unbounded bs more)
    (λ y less. fewer (length y.1) (length more) (content_at t y.0 y.1) less (shrinks_content t y.0 y.1))
    (λ n is. longer_content t n.0 n.1 more)

-- ---- parts

-- nothing is read of no bytes
abbrev Needs : {A : Type 0} → Reader A → Type 0
Needs read = read [] ≡ refused fault.Ended []

longer_until : {A : Type 0} (read : Reader A) → Longer read → Advances read → Needs read → (k l : ℕ) (bs more : List ℕ) → length bs ≤ k → k ≤ l
    → Agrees more (until_at read k bs) (until_at read l (bs ++ more))
unfolding until_at
longer_until read longer advances needs zero l [] more room le = inl (refl, advances_until read advances l more)
longer_until read longer advances needs zero l (b ∷ bs) more room le = absurd (omega (arith, room))
longer_until read longer advances needs (suc k) zero bs more room le = absurd (omega (arith, le))
longer_until read longer advances needs (suc k) (suc l) [] more room le = rw needs (inl (refl, advances_until read advances (suc l) more))
longer_until read longer advances needs (suc k) (suc l) (b ∷ bs) more room le =
    agrees_if more (eqb b 255) _ _ _ _ refl
    (agrees_then more (read (b ∷ bs)) (read ((b ∷ bs) ++ more)) _ _ (longer (b ∷ bs) more)
    (λ y less. smaller_then (length more) (until_at read l y.1) _ (fewer (length y.1) (length more) (until_at read l y.1) less (no_more (length y.1) (until_at read l y.1) (advances_until read advances l y.1))) (λ z fewer. fewer)) (λ x is.
    agrees_then more (until_at read k x.1) (until_at read l (x.1 ++ more)) _ _
    (longer_until read longer advances needs k l x.1 more (omega (arith, room, shorter (suc (length bs)) (read (b ∷ bs)) x is (advances (b ∷ bs)))) (omega (arith, le))) (λ y less. less) (λ xs same. refl)))

longer_each : {A : Type 0} (read : Reader A) → Longer read → Advances read → (k : ℕ) → Longer (each_at read k)
unfolding each_at
longer_each read longer advances zero bs more = refl
longer_each read longer advances (suc k) bs more =
    agrees_then more (read bs) (read (bs ++ more)) _ _ (longer bs more)
    (λ y less. smaller_then (length more) (each_at read k y.1) _ (fewer (length y.1) (length more) (each_at read k y.1) less (shrinks_each read advances k y.1)) (λ z fewer. fewer)) (λ x is.
    agrees_then more (each_at read k x.1) (each_at read k (x.1 ++ more)) _ _ (longer_each read longer advances k x.1 more) (λ y less. less) (λ xs same. refl))

more_behind : (bs more : List ℕ) → length bs ≤ length (bs ++ more)
more_behind bs more = omega (arith, length-append bs more)

chunk_needs : (t : Bool) → Needs (chunk_at t)
unfolding chunk_at length_at first_at
chunk_needs t = refl

longer_string : (t : Bool) (o : Option ℕ) → Longer (string_at t o)
unfolding string_at chunks_at
longer_string t (Some n) bs more = agrees_then more (content_at t n bs) (content_at t n (bs ++ more)) _ _ (longer_content t n bs more) (λ y less. less) (λ x is. refl)
longer_string t None bs more =
    agrees_then more (until_at (chunk_at t) (length bs) bs >>= λ xs. Ok (concat xs.0, xs.1)) (until_at (chunk_at t) (length (bs ++ more)) (bs ++ more) >>= λ xs. Ok (concat xs.0, xs.1)) _ _
    (agrees_then more (until_at (chunk_at t) (length bs) bs) (until_at (chunk_at t) (length (bs ++ more)) (bs ++ more)) _ _
    (longer_until (chunk_at t) (longer_chunk t) (advances_chunk t) (chunk_needs t) (length bs) (length (bs ++ more)) bs more (omega arith) (more_behind bs more)) (λ y less. less) (λ xs is. refl))
    (λ y less. less) (λ x is. refl)

-- ---- numbers under a tag

digits_need : (negative : Bool) (n k : ℕ) → digits_until negative n (suc k) [] ≡ refused fault.Ended []
unfolding digits_until length_at first_at
digits_need negative n k = refl

goes_on : (negative : Bool) (m k : ℕ) (bs more : List ℕ) → length bs < length more → Smaller (length more) (digits_until negative m k bs)
goes_on negative m k bs more less =
    fewer (length bs) (length more) (digits_until negative m k bs) less (no_more (length bs) (digits_until negative m k bs) (advances_digits_until negative m k bs))

longer_digits_until : (negative : Bool) (n k l : ℕ) (bs more : List ℕ) → length bs ≤ k → k ≤ l
    → Agrees more (digits_until negative n k bs) (digits_until negative n l (bs ++ more))
unfolding digits_until
longer_digits_until negative n zero l [] more room le = inl (refl, advances_digits_until negative n l more)
longer_digits_until negative n zero l (b ∷ bs) more room le = absurd (omega (arith, room))
longer_digits_until negative n (suc k) zero bs more room le = absurd (omega (arith, le))
longer_digits_until negative n (suc k) (suc l) [] more enough le =
    subst (λ r. Agrees more r (digits_until negative n (suc l) more)) (sym (digits_need negative n k)) (inl (refl, advances_digits_until negative n (suc l) more))
longer_digits_until negative n (suc k) (suc l) (b ∷ bs) more enough le =
    agrees_if more (eqb b 255) _ _ _ _ refl
    (agrees_then more (length_at false (chunk_bounds negative n) (b ∷ bs)) (length_at false (chunk_bounds negative n) ((b ∷ bs) ++ more)) _ _ (longer_length false (chunk_bounds negative n) (b ∷ bs) more)
    (λ y less. smaller_then (length more) (digits_at (room negative) y.0 n y.1) _ (fewer (length y.1) (length more) (digits_at (room negative) y.0 n y.1) less (shrinks_digits (room negative) y.0 n y.1)) (λ z smaller.
    goes_on negative z.0 l z.1 more smaller)) (λ x is.
    agrees_then more (digits_at (room negative) x.0 n x.1) (digits_at (room negative) x.0 n (x.1 ++ more)) _ _ (longer_digits (room negative) x.0 n x.1 more) (λ z smaller. goes_on negative z.0 l z.1 more smaller) (λ m so.
    let head = shorter (suc (length bs)) (length_at false (chunk_bounds negative n) (b ∷ bs)) x is (shrinks_length false (chunk_bounds negative n) (b ∷ bs)) in
    let digits = no_longer (length x.1) (digits_at (room negative) x.0 n x.1) m so (shrinks_digits (room negative) x.0 n x.1) in
    longer_digits_until negative m.0 k l m.1 more (omega (arith, enough, head, digits)) (omega (arith, le)))))

longer_digits_of : (negative : Bool) (o : Option ℕ) → Longer (digits_of negative o)
longer_digits_of negative (Some n) bs more = longer_digits (room negative) n 0 bs more
longer_digits_of negative None bs more = longer_digits_until negative 0 (length bs) (length (bs ++ more)) bs more (omega arith) (more_behind bs more)

longer_magnitude_behind : (negative : Bool) (from : List ℕ) (m : Major) (info : ℕ) (bs more : List ℕ)
    → Agrees more (magnitude_behind negative from m info bs) (magnitude_behind negative (from ++ more) m info (bs ++ more))
longer_magnitude_behind negative from major.Bytes info bs more =
    let first : First = record { «major» = major.Bytes; info = info } in
    agrees_then more (head_behind unbounded first bs) (head_behind unbounded first (bs ++ more)) _ _ (longer_head_behind unbounded first bs more)
    (λ y less. fewer (length y.1) (length more) (digits_of negative y.0.number y.1) less (shrinks_digits_of negative y.0.number y.1))
    (λ h is. longer_digits_of negative h.0.number h.1 more)
longer_magnitude_behind negative from major.Unsigned info bs more = agrees_refused more fault.WrongKind from
longer_magnitude_behind negative from major.Negative info bs more = agrees_refused more fault.WrongKind from
longer_magnitude_behind negative from major.Text info bs more = agrees_refused more fault.WrongKind from
longer_magnitude_behind negative from major.Array info bs more = agrees_refused more fault.WrongKind from
longer_magnitude_behind negative from major.Map info bs more = agrees_refused more fault.WrongKind from
longer_magnitude_behind negative from major.Tag info bs more = agrees_refused more fault.WrongKind from
longer_magnitude_behind negative from major.Simple info bs more = agrees_refused more (cond (eqb info 31) fault.Break fault.WrongKind) from

longer_magnitude : (negative : Bool) → Longer (magnitude_at negative)
unfolding magnitude_at first_at
longer_magnitude negative [] more = inl (refl, advances_magnitude negative more)
longer_magnitude negative (b ∷ bs) more =
    settled_then more (first_at (b ∷ bs)) (first_at (b ∷ (bs ++ more))) _ _ (first_settles b bs more) (λ h is.
    longer_magnitude_behind negative (b ∷ bs) h.0.«major» h.0.info h.1 more)

longer_tag : (n : ℕ) → Longer (tag_at n)
unfolding tag_at
longer_tag n bs more =
    agrees_if more (eqb n 2) _ _ _ _
    (agrees_then more (magnitude_at false bs) (magnitude_at false (bs ++ more)) _ _ (longer_magnitude false bs more) (λ y less. less) (λ x is. refl))
    (agrees_then more (magnitude_at true bs) (magnitude_at true (bs ++ more)) _ _ (longer_magnitude true bs more) (λ y less. less) (λ x is. refl))

-- ---- items

longer_leaf : (m : Major) (o : Option ℕ) → Longer (leaf_at m o)
unfolding leaf_at
longer_leaf major.Unsigned (Some n) bs more = refl
longer_leaf major.Negative (Some n) bs more = refl
longer_leaf major.Bytes o bs more = agrees_then more (string_at false o bs) (string_at false o (bs ++ more)) _ _ (longer_string false o bs more) (λ y less. less) (λ x is. refl)
longer_leaf major.Text o bs more = agrees_then more (string_at true o bs) (string_at true o (bs ++ more)) _ _ (longer_string true o bs more) (λ y less. less) (λ x is. refl)
longer_leaf major.Tag (Some n) bs more = agrees_then more (tag_at n bs) (tag_at n (bs ++ more)) _ _ (longer_tag n bs more) (λ y less. less) (λ x is. refl)
longer_leaf major.Simple (Some n) bs more =
    agrees_if more (eqb n 20) _ _ _ _ refl (agrees_if more (eqb n 21) _ _ _ _ refl (agrees_if more (eqb n 22) _ _ _ _ refl (agrees_before more fault.Simple bs)))
longer_leaf major.Simple None bs more = agrees_before more fault.Break bs
longer_leaf major.Unsigned None bs more = agrees_before more fault.Reserved bs
longer_leaf major.Negative None bs more = agrees_before more fault.Reserved bs
longer_leaf major.Tag None bs more = agrees_before more fault.Reserved bs
longer_leaf major.Array o bs more = agrees_before more fault.Reserved bs
longer_leaf major.Map o bs more = agrees_before more fault.Reserved bs

longer_pair : (read : Reader Tree) → Longer read → Advances read → Longer (pair_at read)
unfolding pair_at
longer_pair read longer advances bs more =
    agrees_then more (read bs) (read (bs ++ more)) _ _ (longer bs more)
    (λ y less. smaller_then (length more) (read y.1) _ (fewer (length y.1) (length more) (read y.1) less (no_more (length y.1) (read y.1) (advances y.1))) (λ z smaller. smaller)) (λ k is.
    agrees_then more (read k.1) (read (k.1 ++ more)) _ _ (longer k.1 more) (λ y less. less) (λ v same. refl))

longer_parts : {A : Type 0} (read : Reader A) → Longer read → Advances read → Needs read → (o : Option ℕ) → Longer (parts_at read o)
unfolding parts_at
longer_parts read longer advances needs None bs more =
    longer_until read longer advances needs (length bs) (length (bs ++ more)) bs more (omega arith) (more_behind bs more)
longer_parts read longer advances needs (Some n) bs more = longer_each read longer advances n bs more

item_needs : (limit : ℕ) → Needs (item_at limit)
unfolding item_at head_at kind_at first_at
item_needs zero = refl
item_needs (suc limit) = refl

pair_needs : (limit : ℕ) → Needs (pair_at (item_at limit))
unfolding pair_at
pair_needs limit = rw (item_needs limit) refl

longer_inside : (limit : ℕ) → Longer (item_at limit) → (m : Major) (o : Option ℕ) → Longer (inside_at (item_at limit) m o)
longer_inside limit longer major.Array o bs more =
    agrees_then more (parts_at (item_at limit) o bs) (parts_at (item_at limit) o (bs ++ more)) _ _
    (longer_parts (item_at limit) longer (advances_item limit) (item_needs limit) o bs more) (λ y less. less) (λ xs is. refl)
longer_inside limit longer major.Map o bs more =
    agrees_then more (parts_at (pair_at (item_at limit)) o bs) (parts_at (pair_at (item_at limit)) o (bs ++ more)) _ _
    (longer_parts (pair_at (item_at limit)) (longer_pair (item_at limit) longer (advances_item limit)) (advances_pair (item_at limit) (advances_item limit)) (pair_needs limit) o bs more)
    (λ y less. less) (λ xs is. refl)
longer_inside limit longer major.Unsigned o bs more = longer_leaf major.Unsigned o bs more
longer_inside limit longer major.Negative o bs more = longer_leaf major.Negative o bs more
longer_inside limit longer major.Bytes o bs more = longer_leaf major.Bytes o bs more
longer_inside limit longer major.Text o bs more = longer_leaf major.Text o bs more
longer_inside limit longer major.Tag o bs more = longer_leaf major.Tag o bs more
longer_inside limit longer major.Simple o bs more = longer_leaf major.Simple o bs more

none_deep : (more : List ℕ) → Smaller (length more) (item_at 0 more)
none_deep more = advances_item 0 more

-- no bytes have ended, whatever the limit
longer_none : (more : List ℕ) (r : Result (Tree × List ℕ) Refusal) → r ≡ refused fault.Ended [] → Agrees more r (item_at 0 more)
longer_none more r is = rw is (inl (refl, none_deep more))

longer_deep : Longer (item_at 0)
unfolding item_at
longer_deep [] more = longer_none more (kind_at [] >>= λ h. refused fault.TooDeep []) (item_needs 0)
longer_deep (b ∷ bs) more =
    settled_then more (kind_at (b ∷ bs)) (kind_at (b ∷ (bs ++ more))) _ _ (kind_settles b bs more) (λ h is. agrees_refused more fault.TooDeep (b ∷ bs))

pub longer_item : (limit : ℕ) → Longer (item_at limit)
unfolding item_at
longer_item zero bs more = longer_deep bs more
longer_item (suc limit) bs more =
    agrees_then more (head_at limit bs) (head_at limit (bs ++ more)) _ _ (longer_head limit bs more)
    (λ y less. much_smaller (length y.1) (length more) (inside_at (item_at limit) y.0.«major» y.0.number y.1) less (shrinks_inside (item_at limit) (advances_item limit) y.0.«major» y.0.number y.1))
    (λ h is. longer_inside limit (longer_item limit) h.0.«major» h.0.number h.1 more)
