-- What codes a tree is well-formed, and what begins a head goes on to a well-formed item.
use Rattle.std.proofs.Common.{◌≡◌, ℕ, ℤ, suc, zero, ◌<◌, ◌≤◌, pos, negsuc, Bool, true, false, List, [], ◌∷◌, ◌++◌, get_or, length, Some, ◌⊎◌, refl, sym, ap, subst, ◌∙◌, append_assoc, append-nil, arith, inl, inr}
use Rattle.std.specs.Int.{to_be_bytes, w16, w32, w64}
use Rattle.std.proofs.lemmas.Bool.{cases_lt, ltb-false}
use Rattle.content_tree.specs.Values.Text.{Text}
use Rattle.content_tree.specs.Values.Tree as tree
use Rattle.content_tree.specs.Values.Tree.{Tree}
use Rattle.content_cbor.specs.Codes.{Size, Codes, Each, IsHead, IsInteger, IsPair, IsPiece, IsString, IsTagged, Open, Parts, info_of, width_of}
use Rattle.content_cbor.specs.Codes as size
use Rattle.content_cbor.specs.Heads.{first_byte}
use Rattle.content_cbor.specs.WellFormed.{Follows, IsChunk, IsFormed, IsNumbered, IsOpen, Row, Two, UpToBreak, WellFormed}
use Rattle.content_cbor.specs.declared.heads.Major.{Major}
use Rattle.content_cbor.specs.declared.heads.Major.TheVariants as major
use Rattle.content_cbor.specs.Inner.Reading.{is_reserved, is_simple, string_major}
use Rattle.content_cbor.proofs.Read.Heads.{HeadOf, Says, high_info, numbered, open_or_low, says_plain, which_size}
use Rattle.content_cbor.proofs.Read.Strings.{code_small}
use Rattle.content_cbor.proofs.Read.Utf8.{so_many, spaces}

-- some bytes can follow that make these such a part
abbrev pub Fronts : (List ℕ → Type 0) → List ℕ → Type 0
Fronts Part bs = (rest : List ℕ) × Part (bs ++ rest)

-- well-formed, with room for an item under each that a limit allows
abbrev pub Item : ℕ → List ℕ → Type 0
Item limit bs = WellFormed (suc (suc limit)) bs

-- ---- heads

no_two_bytes : (m : Major) (n : ℕ) (head : List ℕ) → is_simple m ≡ false → IsHead m n head → head ≡ first_byte major.Simple 24 ∷ n ∷ [] → ⊥
no_two_bytes m n head plain (inl w) e = omega (arith, ap length (sym w.1 ∙ e))
no_two_bytes m n head plain (inr w) e =
    let b : first_byte m (info_of w.0) ≡ first_byte major.Simple 24 = ap (λ l. get_or l 0 0) (sym w.2 ∙ e) in
    omega (arith, b, code_small m plain, high_info w.0)

pub head_numbered : (m : Major) (n : ℕ) (head : List ℕ) → is_simple m ≡ false → IsHead m n head → IsNumbered m n head
head_numbered m n head plain is = (is, λ e. absurd (no_two_bytes m n head plain is e))

one_byte : (m : Major) (n : ℕ) (head : List ℕ) → n < 24 → head ≡ first_byte m n ∷ [] → IsNumbered m n head
one_byte m n head lt is = (inl (lt, is), λ e. absurd (omega (arith, ap length (sym is ∙ e))))

pub read_numbered : (m : Major) (n : ℕ) (head : List ℕ) → HeadOf m (Some n) head → IsNumbered m n head
read_numbered m n head (inl w) = one_byte m n head w.0 w.1
read_numbered m n head (inr w) = head_numbered m n head w.0 (numbered m n head (inr w))

-- ---- what can follow

pub zero_item : (Inner : List ℕ → Type 0) → IsFormed Inner (0 ∷ [])
zero_item Inner = (major.Unsigned, inl (0, 0 ∷ [], [], one_byte major.Unsigned 0 (0 ∷ []) (omega arith) refl, refl, refl))

pub rows : (Part : List ℕ → Type 0) (x : List ℕ) → Part x → (n : ℕ) → (body : List ℕ) × Row Part n body
rows Part x is zero = ([], refl)
rows Part x is (suc n) = let r = rows Part x is n in (x ++ r.0, (x, r.0, is, r.1, refl))

pub two_zeros : (Inner : List ℕ → Type 0) → Inner (0 ∷ []) → Two Inner (0 ∷ 0 ∷ [])
two_zeros Inner zeros = (0 ∷ [], 0 ∷ [], zeros, zeros, refl)

follows_some : (Inner : List ℕ → Type 0) → Inner (0 ∷ []) → (m : Major) (n : ℕ) → (body : List ℕ) × Follows Inner m n body
follows_some Inner zeros major.Unsigned n = ([], refl)
follows_some Inner zeros major.Negative n = ([], refl)
follows_some Inner zeros major.Simple n = ([], refl)
follows_some Inner zeros major.Bytes n = (spaces n, so_many n)
follows_some Inner zeros major.Text n = (spaces n, so_many n)
follows_some Inner zeros major.Array n = rows Inner (0 ∷ []) zeros n
follows_some Inner zeros major.Map n = rows (Two Inner) (0 ∷ 0 ∷ []) (two_zeros Inner zeros) n
follows_some Inner zeros major.Tag n = (0 ∷ [], zeros)

head_formed : (Inner : List ℕ → Type 0) → Inner (0 ∷ []) → (m : Major) (n : ℕ) (head : List ℕ) → IsNumbered m n head → Fronts (IsFormed Inner) head
head_formed Inner zeros m n head is = let f = follows_some Inner zeros m n in (f.0, (m, inl (n, head, f.0, is, f.1, refl)))

-- bytes behind a first one begin a head with a number
abbrev pub HeadGoes : Major → ℕ → List ℕ → Type 0
HeadGoes m info front = (more : List ℕ) × (n : ℕ) × IsHead m n (first_byte m info ∷ (front ++ more))

pub head_begun : (Inner : List ℕ → Type 0) → Inner (0 ∷ []) → (m : Major) (info : ℕ) (front : List ℕ) → is_simple m ≡ false → HeadGoes m info front
    → Fronts (IsFormed Inner) (first_byte m info ∷ front)
head_begun Inner zeros m info front plain is =
    let head : List ℕ = first_byte m info ∷ (front ++ is.0) in
    let h = head_formed Inner zeros m is.1 head (head_numbered m is.1 head plain is.2) in
    (is.0 ++ h.0, subst (λ t. IsFormed Inner (first_byte m info ∷ t)) (append_assoc front is.0 h.0) h.1)

room_some : (s : Size) → 0 < size.room s
room_some size.one = omega arith
room_some size.two = omega arith
room_some size.four = omega arith
room_some size.eight = omega arith

plain_begun : (Inner : List ℕ → Type 0) → Inner (0 ∷ []) → (m : Major) (info : ℕ) → is_simple m ≡ false → Says m info
    → (info ≡ 31 → Fronts (IsFormed Inner) (first_byte m 31 ∷ [])) → Fronts (IsFormed Inner) (first_byte m info ∷ [])
plain_begun Inner zeros m info plain (inl low) open_ =
    head_formed Inner zeros m info (first_byte m info ∷ []) (one_byte m info (first_byte m info ∷ []) low refl)
plain_begun Inner zeros m info plain (inr (inl is)) open_ = subst (λ k. Fronts (IsFormed Inner) (first_byte m k ∷ [])) (sym is) (open_ is)
plain_begun Inner zeros m info plain (inr (inr says)) open_ =
    let s = which_size info says.1 says.2 in
    let ds = to_be_bytes (width_of s.0) 0 in
    head_begun Inner zeros m info [] plain (ds, 0, inr (s.0, room_some s.0, ap (λ k. first_byte m k ∷ ds) s.1))

simple_formed : (Inner : List ℕ → Type 0) (n : ℕ) (head : List ℕ) → IsNumbered major.Simple n head → IsFormed Inner head
simple_formed Inner n head is = (major.Simple, inl (n, head, [], is, refl, sym (append-nil head)))

long_simple : (Inner : List ℕ → Type 0) (s : Size) → Fronts (IsFormed Inner) (first_byte major.Simple (info_of s) ∷ [])
long_simple Inner size.one = (32 ∷ [], simple_formed Inner 32 (248 ∷ 32 ∷ []) (inr (size.one, omega arith, refl), λ e. omega arith))
long_simple Inner size.two =
    (to_be_bytes w16 0, simple_formed Inner 0 (249 ∷ to_be_bytes w16 0) (inr (size.two, omega arith, refl), λ e. absurd (omega (arith, ap length e))))
long_simple Inner size.four =
    (to_be_bytes w32 0, simple_formed Inner 0 (250 ∷ to_be_bytes w32 0) (inr (size.four, omega arith, refl), λ e. absurd (omega (arith, ap length e))))
long_simple Inner size.eight =
    (to_be_bytes w64 0, simple_formed Inner 0 (251 ∷ to_be_bytes w64 0) (inr (size.eight, omega arith, refl), λ e. absurd (omega (arith, ap length e))))

simple_long : (Inner : List ℕ → Type 0) (info : ℕ) → 24 ≤ info → (info ≡ 31) ⊎ (info ≤ 27) → (info ≡ 31 → ⊥) → Fronts (IsFormed Inner) (first_byte major.Simple info ∷ [])
simple_long Inner info high (inl is) isnt = absurd (isnt is)
simple_long Inner info high (inr le) isnt =
    let s = which_size info high le in subst (λ k. Fronts (IsFormed Inner) (first_byte major.Simple k ∷ [])) (sym s.1) (long_simple Inner s.0)

opened_begun : (Inner : List ℕ → Type 0) (m : Major) → IsOpen Inner m (first_byte m 31 ∷ (255 ∷ [])) → Fronts (IsFormed Inner) (first_byte m 31 ∷ [])
opened_begun Inner m is = (255 ∷ [], (m, inr is))

-- a first byte with a meaning begins an item, if it is no break
pub byte_begun : (Inner : List ℕ → Type 0) → Inner (0 ∷ []) → (m : Major) (info : ℕ) → info < 32 → is_reserved m info ≡ false → (m ≡ major.Simple → info ≡ 31 → ⊥)
    → Fronts (IsFormed Inner) (first_byte m info ∷ [])
byte_begun Inner zeros major.Simple info lt known isnt =
    elim (cases_lt info 24) [
      | inl low ↦ head_formed Inner zeros major.Simple info (first_byte major.Simple info ∷ []) (one_byte major.Simple info (first_byte major.Simple info ∷ []) low refl)
      | inr high ↦ simple_long Inner info high (open_or_low info lt known) (isnt refl)
    ]
byte_begun Inner zeros major.Unsigned info lt known isnt =
    plain_begun Inner zeros major.Unsigned info refl (says_plain major.Unsigned info refl lt known) (λ is. absurd (omega (arith, is, ltb-false 27 info known)))
byte_begun Inner zeros major.Negative info lt known isnt =
    plain_begun Inner zeros major.Negative info refl (says_plain major.Negative info refl lt known) (λ is. absurd (omega (arith, is, ltb-false 27 info known)))
byte_begun Inner zeros major.Tag info lt known isnt =
    plain_begun Inner zeros major.Tag info refl (says_plain major.Tag info refl lt known) (λ is. absurd (omega (arith, is, ltb-false 27 info known)))
byte_begun Inner zeros major.Bytes info lt known isnt =
    plain_begun Inner zeros major.Bytes info refl (says_plain major.Bytes info refl lt known) (λ is. opened_begun Inner major.Bytes (0, [], refl, refl))
byte_begun Inner zeros major.Text info lt known isnt =
    plain_begun Inner zeros major.Text info refl (says_plain major.Text info refl lt known) (λ is. opened_begun Inner major.Text (0, [], refl, refl))
byte_begun Inner zeros major.Array info lt known isnt =
    plain_begun Inner zeros major.Array info refl (says_plain major.Array info refl lt known) (λ is. opened_begun Inner major.Array (0, [], refl, refl))
byte_begun Inner zeros major.Map info lt known isnt =
    plain_begun Inner zeros major.Map info refl (says_plain major.Map info refl lt known) (λ is. opened_begun Inner major.Map (0, [], refl, refl))

-- ---- what codes a tree

each_row : {A : Type 0} (Part : A → List ℕ → Type 0) (Q : List ℕ → Type 0) → ((x : A) (bs : List ℕ) → Part x bs → Q bs) → (xs : List A) (bs : List ℕ) → Each Part xs bs → Row Q (length xs) bs
each_row Part Q to [] bs is = is
each_row Part Q to (x ∷ xs) bs is = (is.0, is.1, to x is.0 is.2, each_row Part Q to xs is.1 is.3, is.4)

opened_row : {A : Type 0} (m : Major) (Part : A → List ℕ → Type 0) (Q : List ℕ → Type 0) → ((x : A) (bs : List ℕ) → Part x bs → Q bs) → (xs : List A) (bs : List ℕ) → Open m Part xs bs → UpToBreak m Q bs
opened_row m Part Q to xs bs is = (length xs, is.0, each_row Part Q to xs is.0 is.1, is.2)

pub piece_chunk : (m : Major) (x bs : List ℕ) → IsPiece m x bs → IsChunk m bs
piece_chunk m x bs is = (is.0, x, is.1, is.3)

string_formed : (Inner : List ℕ → Type 0) (t : Bool) (x : Text) (bs : List ℕ) → IsString (string_major t) x bs → IsFormed Inner bs
string_formed Inner true x bs (inl w) =
    let p = w.1 in (major.Text, inl (length x.content, p.0, x.content, head_numbered major.Text (length x.content) p.0 refl p.1, refl, p.3))
string_formed Inner false x bs (inl w) =
    let p = w.1 in (major.Bytes, inl (length x.content, p.0, x.content, head_numbered major.Bytes (length x.content) p.0 refl p.1, refl, p.3))
string_formed Inner true x bs (inr w) =
    (major.Text, inr (opened_row major.Text (IsPiece major.Text) (IsChunk major.Text) (piece_chunk major.Text) w.0 bs w.2))
string_formed Inner false x bs (inr w) =
    (major.Bytes, inr (opened_row major.Bytes (IsPiece major.Bytes) (IsChunk major.Bytes) (piece_chunk major.Bytes) w.0 bs w.2))

tagged_formed : (depth tag n : ℕ) (bs : List ℕ) → IsTagged tag n bs → IsFormed (WellFormed (suc depth)) bs
tagged_formed depth tag n bs is =
    (major.Tag, inl (tag, is.0, is.1, head_numbered major.Tag tag is.0 refl is.3, string_formed (WellFormed depth) false is.2 is.1 is.4, is.6))

alone_formed : (Inner : List ℕ → Type 0) (m : Major) (n : ℕ) (bs : List ℕ) → Follows Inner m n [] → IsNumbered m n bs → IsFormed Inner bs
alone_formed Inner m n bs follows is = (m, inl (n, bs, [], is, follows, sym (append-nil bs)))

integer_formed : (depth : ℕ) (z : ℤ) (bs : List ℕ) → IsInteger z bs → IsFormed (WellFormed (suc depth)) bs
integer_formed depth (pos n) bs (inl w) = alone_formed (WellFormed (suc depth)) major.Unsigned n bs refl (head_numbered major.Unsigned n bs refl w)
integer_formed depth (negsuc n) bs (inl w) = alone_formed (WellFormed (suc depth)) major.Negative n bs refl (head_numbered major.Negative n bs refl w)
integer_formed depth (pos n) bs (inr w) = tagged_formed depth 2 n bs w.1
integer_formed depth (negsuc n) bs (inr w) = tagged_formed depth 3 n bs w.1

pair_two : (Inner : Tree → List ℕ → Type 0) (Q : List ℕ → Type 0) → ((t : Tree) (bs : List ℕ) → Inner t bs → Q bs) → (p : Tree × Tree) (bs : List ℕ) → IsPair Inner p bs → Two Q bs
pair_two Inner Q to p bs is = (is.0, is.1, to p.0 is.0 is.2, to p.1 is.1 is.3, is.4)

pub coded_item : (limit : ℕ) (t : Tree) (bs : List ℕ) → Codes limit t bs → Item limit bs
coded_item zero t bs is = absurd is
coded_item (suc limit) tree.absent bs is = simple_formed (Item limit) 22 bs (one_byte major.Simple 22 bs (omega arith) is)
coded_item (suc limit) (tree.boolean true) bs is = simple_formed (Item limit) 21 bs (one_byte major.Simple 21 bs (omega arith) is)
coded_item (suc limit) (tree.boolean false) bs is = simple_formed (Item limit) 20 bs (one_byte major.Simple 20 bs (omega arith) is)
coded_item (suc limit) (tree.number n) bs is = integer_formed (suc limit) is.0 bs is.2
coded_item (suc limit) (tree.text x) bs is = string_formed (Item limit) true x bs is
coded_item (suc limit) (tree.octets x) bs is = string_formed (Item limit) false x bs is
coded_item (suc limit) (tree.seq ts) bs (items, same, inl w) =
    (major.Array, inl (length items, w.0, w.1, head_numbered major.Array (length items) w.0 refl w.2, each_row (Codes limit) (Item limit) (coded_item limit) items w.1 w.3, w.4))
coded_item (suc limit) (tree.seq ts) bs (items, same, inr w) =
    (major.Array, inr (opened_row major.Array (Codes limit) (Item limit) (coded_item limit) items bs w))
coded_item (suc limit) (tree.map ps) bs (pairs, same, inl w) = (
  major.Map,
  inl (
    length pairs,
    w.0,
    w.1,
    head_numbered major.Map (length pairs) w.0 refl w.2,
    each_row (IsPair (Codes limit)) (Two (Item limit)) (pair_two (Codes limit) (Item limit) (coded_item limit)) pairs w.1 w.3,
    w.4,
  ),
)
coded_item (suc limit) (tree.map ps) bs (pairs, same, inr w) =
    (major.Map, inr (opened_row major.Map (IsPair (Codes limit)) (Two (Item limit)) (pair_two (Codes limit) (Item limit) (coded_item limit)) pairs bs w))
coded_item (suc limit) tree.unit bs is = absurd is
coded_item (suc limit) (tree.character c) bs is = absurd is
coded_item (suc limit) (tree.present t) bs is = absurd is
coded_item (suc limit) (tree.structure n d) bs is = absurd is
coded_item (suc limit) (tree.enumeration n i v d) bs is = absurd is
coded_item (suc limit) (tree.tuple ts) bs is = absurd is
