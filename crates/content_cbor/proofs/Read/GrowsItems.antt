-- The same of numbers under a tag and of items.
use Rattle.std.proofs.Common.{◌≡◌, ℕ, suc, zero, ◌-◌, ◌<◌, ◌≤◌, pos, negsuc, Bool, true, false, cond, eqb, List, [], ◌∷◌, ◌++◌, length, drop, Option, Some, None, Ok, Err, refl, sym, ap, subst, ◌∙◌, append_assoc, arith, length-append, inl, inr}
use Rattle.std.proofs.lemmas.Bool.{eqb-false}
use Rattle.content_tree.specs.Values.Tree as tree
use Rattle.content_tree.specs.Values.Tree.{Tree}
use Rattle.content_tree.specs.Values.Value.{trees_of, pairs_of}
use Rattle.content_cbor.specs.Codes.{IsHead, number_of}
use Rattle.content_cbor.specs.Heads.{first_byte}
use Rattle.content_cbor.specs.Malformed.{is_malformed}
use Rattle.content_cbor.specs.WellFormed.{IsChunk, IsFormed, Row, Two, WellFormed}
use Rattle.content_cbor.specs.declared.decode_error.Fault.{Fault}
use Rattle.content_cbor.specs.declared.decode_error.Fault.TheVariants as fault
use Rattle.content_cbor.specs.declared.heads.Major.{Major}
use Rattle.content_cbor.specs.declared.heads.Major.TheVariants as major
use Rattle.content_cbor.specs.declared.stop.Refusal.{Refusal}
use Rattle.content_cbor.specs.Inner.Steps.{◌>>=◌, refused, refused_before}
use Rattle.content_cbor.specs.Inner.Numbers.{argument_at, digits_at, unbounded}
use Rattle.content_cbor.specs.Inner.Reading.{at_break, bounds_of, chunk_bounds, digits_of, digits_until, first_at, head_at, head_behind}
use Rattle.content_cbor.specs.Inner.Reading.{inside_at, is_reserved, item_at, leaf_at, length_at, magnitude_at, magnitude_behind, pair_at, parts_at, room, simple_at, string_at, tag_at}
use Rattle.content_cbor.proofs.Read.Begun.{Before, behind_a, instead}
use Rattle.content_cbor.proofs.Read.Fills.{Fronts, HeadGoes, Item, byte_begun, coded_item, head_begun, read_numbered, two_zeros, zero_item}
use Rattle.content_cbor.proofs.Read.Formed.{IsPlain}
use Rattle.content_cbor.proofs.Read.Grows.{Filled, Finds, Grows, LengthGoes, StringGoes, ToBreak, argument_goes, byte_before, deep_grown, digits_grown, each_grown, ended_of, filled_chunk}
use Rattle.content_cbor.proofs.Read.Grows.{head_grown, last_part, length_chunk, length_grown, none_first, none_left, one_before, open_whole, pair_found, pair_grown, same_fault, string_formed, string_grown, true_false, until_grown}
use Rattle.content_cbor.proofs.Read.Heads.{HeadOf, behind_sound, below_28, first_sound, head_is, head_sound, headed, made, says_plain}
use Rattle.content_cbor.proofs.Read.Items.{item_sound}
use Rattle.content_cbor.proofs.Read.Numbers.{digits_sound}
use Rattle.content_cbor.proofs.Read.Shrinks.{advances_item, advances_pair}
use Rattle.content_cbor.proofs.Read.Steps.{bind_err, chosen, same_left}
use Rattle.content_cbor.proofs.Read.Strings.{head_begins, length_sound, open_starts}
use Rattle.content_cbor.proofs.Read.Tags.{lengths_start}
use Rattle.content_cbor.proofs.Read.Took.{IsBytes, regrouped}

-- ---- numbers under a tag

until_digits : (negative : Bool) (n k : ℕ) (bs : List ℕ) (e : Refusal) → length bs ≤ k → IsBytes bs → digits_until negative n k bs ≡ Err e → IsPlain e.«fault»
    → Before (Fronts (ToBreak (IsChunk major.Bytes))) bs (e.left - 1)
unfolding digits_until
until_digits negative n zero bs e le fits is plain =
    ended_of (Fronts (ToBreak (IsChunk major.Bytes))) bs e.left (255 ∷ [], (0, [], refl, refl)) (none_left {A = ℕ × List ℕ} bs e le is)
until_digits negative n (suc k) bs e le fits is plain =
    let bounds = chunk_bounds negative n in
    elim (chosen (at_break bs) (Ok (n, drop 1 bs)) (length_at false bounds bs >>= λ l. digits_at (room negative) l.0 n l.1 >>= λ m. digits_until negative m.0 k m.1) (Err e) is) [
      | inl w ↦ absurd cc
      | inr w ↦ elim (bind_err (length_at false bounds bs) (λ l. digits_at (room negative) l.0 n l.1 >>= λ m. digits_until negative m.0 k m.1) e w.1) [
        | inl v ↦ instead (LengthGoes false) (Fronts (ToBreak (IsChunk major.Bytes))) bs (e.left - 1)
            (λ front o. last_part (IsChunk major.Bytes) front (length_chunk false front o)) (length_grown false bounds bs e fits v plain)
        | inr a ↦
            let l = length_sound false bounds (lengths_start negative n) bs a.0.0 a.0.1 fits a.1 in
            elim (bind_err (digits_at (room negative) a.0.0 n a.0.1) (λ m. digits_until negative m.0 k m.1) e a.2) [
              | inl v ↦ behind_a (Filled a.0.0) (Fronts (ToBreak (IsChunk major.Bytes))) l.front a.0.1 bs (e.left - 1) l.split
                  (λ front o. last_part (IsChunk major.Bytes) (l.front ++ front) (filled_chunk false a.0.0 l.front front l.part.0 o))
                  (digits_grown (room negative) a.0.0 n a.0.1 e l.fits v)
              | inr b ↦
                  let d = digits_sound (room negative) a.0.0 n a.0.1 b.0.0 b.0.1 l.fits b.1 in
                  let chunk : List ℕ = l.front ++ d.front in
                  let split : bs ≡ chunk ++ b.0.1 = regrouped bs l.front a.0.1 d.front b.0.1 l.split d.split in
                  let some = (head_begins major.Bytes a.0.0 l.front [] l.part.0).0 in
                  let fewer : length b.0.1 ≤ k = omega (arith, le, some, ap length split, length-append chunk b.0.1, length-append l.front d.front) in
                  let part : IsChunk major.Bytes chunk = (l.front, d.front, subst (λ j. IsHead major.Bytes j l.front) (sym d.part.0) l.part.0, refl) in
                  behind_a (Fronts (ToBreak (IsChunk major.Bytes))) (Fronts (ToBreak (IsChunk major.Bytes))) chunk b.0.1 bs (e.left - 1) split
                  (λ front o. one_before (IsChunk major.Bytes) chunk front part o)
                  (until_digits negative b.0.0 k b.0.1 e fewer d.fits b.2 plain)
            ]
      ]
    ]

digits_of_grown : (negative : Bool) (o : Option ℕ) (bs : List ℕ) (e : Refusal) → IsBytes bs → digits_of negative o bs ≡ Err e → IsPlain e.«fault» → Before (StringGoes false o) bs (e.left - 1)
digits_of_grown negative (Some n) bs e fits is plain = digits_grown (room negative) n 0 bs e fits is
digits_of_grown negative None bs e fits is plain = until_digits negative 0 (length bs) bs e (omega arith) fits is plain

-- an item is begun behind its first byte
abbrev Behind : (List ℕ → Type 0) → Major → ℕ → List ℕ → Type 0
Behind Inner m info front = Fronts (IsFormed Inner) (first_byte m info ∷ front)

-- what is under a tag is of another kind
other_grown : (Inner : List ℕ → Type 0) → Inner (0 ∷ []) → (from : List ℕ) (f : Fault) (m : Major) (info : ℕ) (bs : List ℕ) (e : Refusal) → info < 32 → is_reserved m info ≡ false
    → (m ≡ major.Simple → info ≡ 31 → ⊥) → length from ≡ suc (length bs) → refused {A = ℕ × List ℕ} f from ≡ Err e → Before (Behind Inner m info) bs (e.left - 1)
other_grown Inner zeros from f m info bs e lt known isnt long is =
    byte_before (Behind Inner m info) bs e.left (byte_begun Inner zeros m info lt known isnt) (sym long ∙ same_left {A = ℕ × List ℕ} (record { «fault» = f; left = length from }) e is)

break_bad : (info : ℕ) → IsPlain (cond (eqb info 31) fault.Break fault.WrongKind) → info ≡ 31 → ⊥
break_bad info plain all =
    let p : IsPlain fault.Break = subst (λ i. IsPlain (cond (eqb i 31) fault.Break fault.WrongKind)) all plain in true_false p

bytes_behind : (negative : Bool) (Inner : List ℕ → Type 0) → Inner (0 ∷ []) → (info : ℕ) (bs : List ℕ) (e : Refusal) → IsBytes bs → info < 32 → is_reserved major.Bytes info ≡ false
    → (head_behind unbounded (made major.Bytes info) bs >>= λ h. digits_of negative h.0.number h.1) ≡ Err e → IsPlain e.«fault» → Before (Behind Inner major.Bytes info) bs (e.left - 1)
bytes_behind negative Inner zeros info bs e fits lt known is plain =
    let says = says_plain major.Bytes info refl lt known in
    let byte = first_byte major.Bytes info in
    elim (bind_err (head_behind unbounded (made major.Bytes info) bs) (λ h. digits_of negative h.0.number h.1) e is) [
      | inl w ↦ elim (chosen (eqb info 31) (Ok (headed major.Bytes None, bs)) (argument_at unbounded info bs >>= λ n. Ok (headed major.Bytes (Some n.0), n.1)) (Err e) w) [
        | inl v ↦ absurd cc
        | inr v ↦ elim (bind_err (argument_at unbounded info bs) (λ n. Ok (headed major.Bytes (Some n.0), n.1)) e v.1) [
          | inl u ↦ instead (HeadGoes major.Bytes info) (Behind Inner major.Bytes info) bs (e.left - 1) (λ front o. head_begun Inner zeros major.Bytes info front refl o)
              (argument_goes unbounded major.Bytes info bs e (below_28 major.Bytes info says (eqb-false info 31 v.0)) fits u)
          | inr u ↦ absurd cc
        ]
      ]
      | inr a ↦
          let h = behind_sound unbounded open_starts (made major.Bytes info) says bs a.0.0 a.0.1 fits a.1 in
          let o = a.0.0.number in
          let head : List ℕ = byte ∷ h.front in
          let head_of : HeadOf major.Bytes o head = subst (λ k. HeadOf k o head) h.part.1 (head_is unbounded a.0.0.«major» o head h.part.0) in
          behind_a (StringGoes false o) (Behind Inner major.Bytes info) h.front a.0.1 bs (e.left - 1) h.split
          (λ front g. string_formed Inner false o head front head_of g) (digits_of_grown negative o a.0.1 e h.fits a.2 plain)
    ]

behind_grown : (negative : Bool) (Inner : List ℕ → Type 0) → Inner (0 ∷ []) → (from : List ℕ) (m : Major) (info : ℕ) (bs : List ℕ) (e : Refusal) → IsBytes bs → info < 32
    → is_reserved m info ≡ false → length from ≡ suc (length bs) → magnitude_behind negative from m info bs ≡ Err e → IsPlain e.«fault» → Before (Behind Inner m info) bs (e.left - 1)
behind_grown negative Inner zeros from major.Bytes info bs e fits lt known long is plain = bytes_behind negative Inner zeros info bs e fits lt known is plain
behind_grown negative Inner zeros from major.Simple info bs e fits lt known long is plain =
    let f = cond (eqb info 31) fault.Break fault.WrongKind in
    other_grown Inner zeros from f major.Simple info bs e lt known
    (λ same. break_bad info (same_fault {A = ℕ × List ℕ} (record { «fault» = f; left = length from }) e is plain)) long is
behind_grown negative Inner zeros from major.Unsigned info bs e fits lt known long is plain =
    other_grown Inner zeros from fault.WrongKind major.Unsigned info bs e lt known (λ same. absurd cc) long is
behind_grown negative Inner zeros from major.Negative info bs e fits lt known long is plain =
    other_grown Inner zeros from fault.WrongKind major.Negative info bs e lt known (λ same. absurd cc) long is
behind_grown negative Inner zeros from major.Text info bs e fits lt known long is plain =
    other_grown Inner zeros from fault.WrongKind major.Text info bs e lt known (λ same. absurd cc) long is
behind_grown negative Inner zeros from major.Array info bs e fits lt known long is plain =
    other_grown Inner zeros from fault.WrongKind major.Array info bs e lt known (λ same. absurd cc) long is
behind_grown negative Inner zeros from major.Map info bs e fits lt known long is plain =
    other_grown Inner zeros from fault.WrongKind major.Map info bs e lt known (λ same. absurd cc) long is
behind_grown negative Inner zeros from major.Tag info bs e fits lt known long is plain =
    other_grown Inner zeros from fault.WrongKind major.Tag info bs e lt known (λ same. absurd cc) long is

magnitude_grown : (negative : Bool) (Inner : List ℕ → Type 0) → Inner (0 ∷ []) → Grows (IsFormed Inner) (magnitude_at negative)
unfolding magnitude_at
magnitude_grown negative Inner zeros bs e fits is plain =
    elim (bind_err (first_at bs) (λ h. magnitude_behind negative bs h.0.«major» h.0.info h.1) e is) [
      | inl w ↦ ended_of (Fronts (IsFormed Inner)) bs e.left (0 ∷ [], zero_item Inner) (none_first bs e w plain)
      | inr a ↦
          let f = first_sound bs a.0.0 a.0.1 fits a.1 in
          let m = a.0.0.«major» in
          let info = a.0.0.info in
          let byte = first_byte m info in
          let split : bs ≡ (byte ∷ []) ++ a.0.1 = f.split ∙ ap (λ t. t ++ a.0.1) f.part.2 in
          behind_a (Behind Inner m info) (Fronts (IsFormed Inner)) (byte ∷ []) a.0.1 bs (e.left - 1) split (λ front o. o)
          (behind_grown negative Inner zeros bs m info a.0.1 e f.fits f.part.1 f.part.0 (ap length split) a.2 plain)
    ]

tag_grown : (n : ℕ) (Inner : List ℕ → Type 0) → Inner (0 ∷ []) → Grows (IsFormed Inner) (tag_at n)
unfolding tag_at
tag_grown n Inner zeros bs e fits is plain =
    elim (chosen (eqb n 2) (magnitude_at false bs >>= λ x. Ok (number_of (pos x.0), x.1)) (magnitude_at true bs >>= λ x. Ok (number_of (negsuc x.0), x.1)) (Err e) is) [
      | inl w ↦ elim (bind_err (magnitude_at false bs) (λ x. Ok (number_of (pos x.0), x.1)) e w.1) [
        | inl v ↦ magnitude_grown false Inner zeros bs e fits v plain
        | inr v ↦ absurd cc
      ]
      | inr w ↦ elim (bind_err (magnitude_at true bs) (λ x. Ok (number_of (negsuc x.0), x.1)) e w.1) [
        | inl v ↦ magnitude_grown true Inner zeros bs e fits v plain
        | inr v ↦ absurd cc
      ]
    ]

-- ---- items

-- an item is begun behind its head
abbrev Headed : ℕ → List ℕ → List ℕ → Type 0
Headed limit head front = Fronts (IsFormed (Item limit)) (head ++ front)

bad_before : (limit : ℕ) (f : Fault) (head bs : List ℕ) (e : Refusal) → is_malformed f ≡ true → refused_before {A = Tree × List ℕ} f bs ≡ Err e → IsPlain e.«fault»
    → Before (Headed limit head) bs (e.left - 1)
bad_before limit f head bs e bad is plain =
    absurd (true_false (sym bad ∙ same_fault {A = Tree × List ℕ} (record { «fault» = f; left = suc (length bs) }) e is plain))

simple_grown : (limit n : ℕ) (head bs : List ℕ) (e : Refusal) → HeadOf major.Simple (Some n) head → simple_at n bs ≡ Err e → Before (Headed limit head) bs (e.left - 1)
simple_grown limit n head bs e is fails =
    let whole : Headed limit head [] = ([], (major.Simple, inl (n, head, [], read_numbered major.Simple n head is, refl, append_assoc head [] []))) in
    elim (chosen (eqb n 20) (Ok (tree.boolean false, bs)) (cond (eqb n 21) (Ok (tree.boolean true, bs)) (cond (eqb n 22) (Ok (tree.absent, bs)) (refused_before fault.Simple bs))) (Err e) fails) [
      | inl w ↦ absurd cc
      | inr v ↦ elim (chosen (eqb n 21) (Ok (tree.boolean true, bs)) (cond (eqb n 22) (Ok (tree.absent, bs)) (refused_before fault.Simple bs)) (Err e) v.1) [
        | inl w ↦ absurd cc
        | inr u ↦ elim (chosen (eqb n 22) (Ok (tree.absent, bs)) (refused_before fault.Simple bs) (Err e) u.1) [
          | inl w ↦ absurd cc
          | inr w ↦ byte_before (Headed limit head) bs e.left whole (same_left {A = Tree × List ℕ} (record { «fault» = fault.Simple; left = suc (length bs) }) e w.1)
        ]
      ]
    ]

array_grown : (limit : ℕ) → Finds (Item limit) (item_at limit) → Grows (Item limit) (item_at limit) → (o : Option ℕ) (head bs : List ℕ) (e : Refusal) → IsBytes bs → HeadOf major.Array o head
    → parts_at (item_at limit) o bs ≡ Err e → IsPlain e.«fault» → Before (Headed limit head) bs (e.left - 1)
unfolding parts_at
array_grown limit finds grows (Some n) head bs e fits is fails plain =
    instead (Fronts (Row (Item limit) n)) (Headed limit head) bs (e.left - 1)
    (λ front f. (f.0, (major.Array, inl (n, head, front ++ f.0, read_numbered major.Array n head is, f.1, append_assoc head front f.0))))
    (each_grown (Item limit) (item_at limit) finds grows (0 ∷ []) (zero_item (WellFormed (suc limit))) n bs e fits fails plain)
array_grown limit finds grows None head bs e fits is fails plain =
    instead (Fronts (ToBreak (Item limit))) (Headed limit head) bs (e.left - 1)
    (λ front f. (f.0, (major.Array, inr (f.1.0, f.1.1, f.1.2, open_whole major.Array (Item limit) head front is f))))
    (until_grown (Item limit) (item_at limit) finds grows (advances_item limit) (length bs) bs e (omega arith) fits fails plain)

map_grown : (limit : ℕ) → Finds (Item limit) (item_at limit) → Grows (Item limit) (item_at limit) → (o : Option ℕ) (head bs : List ℕ) (e : Refusal) → IsBytes bs → HeadOf major.Map o head
    → parts_at (pair_at (item_at limit)) o bs ≡ Err e → IsPlain e.«fault» → Before (Headed limit head) bs (e.left - 1)
unfolding parts_at
map_grown limit finds grows (Some n) head bs e fits is fails plain =
    let zeros = zero_item (WellFormed (suc limit)) in
    instead (Fronts (Row (Two (Item limit)) n)) (Headed limit head) bs (e.left - 1)
    (λ front f. (f.0, (major.Map, inl (n, head, front ++ f.0, read_numbered major.Map n head is, f.1, append_assoc head front f.0))))
    (each_grown (Two (Item limit)) (pair_at (item_at limit)) (pair_found (Item limit) (item_at limit) finds) (pair_grown (Item limit) (item_at limit) finds grows (0 ∷ []) zeros)
    (0 ∷ 0 ∷ []) (two_zeros (Item limit) zeros) n bs e fits fails plain)
map_grown limit finds grows None head bs e fits is fails plain =
    let zeros = zero_item (WellFormed (suc limit)) in
    instead (Fronts (ToBreak (Two (Item limit)))) (Headed limit head) bs (e.left - 1)
    (λ front f. (f.0, (major.Map, inr (f.1.0, f.1.1, f.1.2, open_whole major.Map (Two (Item limit)) head front is f))))
    (until_grown (Two (Item limit)) (pair_at (item_at limit)) (pair_found (Item limit) (item_at limit) finds) (pair_grown (Item limit) (item_at limit) finds grows (0 ∷ []) zeros)
    (advances_pair (item_at limit) (advances_item limit)) (length bs) bs e (omega arith) fits fails plain)

inside_grown : (limit : ℕ) → Finds (Item limit) (item_at limit) → Grows (Item limit) (item_at limit) → (m : Major) (o : Option ℕ) (head bs : List ℕ) (e : Refusal) → IsBytes bs → HeadOf m o head
    → inside_at (item_at limit) m o bs ≡ Err e → IsPlain e.«fault» → Before (Headed limit head) bs (e.left - 1)
unfolding leaf_at
inside_grown limit finds grows major.Array o head bs e fits is fails plain =
    elim (bind_err (parts_at (item_at limit) o bs) (λ xs. Ok (tree.seq (trees_of xs.0), xs.1)) e fails) [
      | inl w ↦ array_grown limit finds grows o head bs e fits is w plain
      | inr w ↦ absurd cc
    ]
inside_grown limit finds grows major.Map o head bs e fits is fails plain =
    elim (bind_err (parts_at (pair_at (item_at limit)) o bs) (λ xs. Ok (tree.map (pairs_of xs.0), xs.1)) e fails) [
      | inl w ↦ map_grown limit finds grows o head bs e fits is w plain
      | inr w ↦ absurd cc
    ]
inside_grown limit finds grows major.Bytes o head bs e fits is fails plain =
    elim (bind_err (string_at false o bs) (λ x. Ok (tree.octets x.0, x.1)) e fails) [
      | inl w ↦ instead (StringGoes false o) (Headed limit head) bs (e.left - 1) (λ front f. string_formed (Item limit) false o head front is f) (string_grown false o bs e fits w plain)
      | inr w ↦ absurd cc
    ]
inside_grown limit finds grows major.Text o head bs e fits is fails plain =
    elim (bind_err (string_at true o bs) (λ x. Ok (tree.text x.0, x.1)) e fails) [
      | inl w ↦ instead (StringGoes true o) (Headed limit head) bs (e.left - 1) (λ front f. string_formed (Item limit) true o head front is f) (string_grown true o bs e fits w plain)
      | inr w ↦ absurd cc
    ]
inside_grown limit finds grows major.Tag (Some n) head bs e fits is fails plain =
    elim (bind_err (tag_at n bs) (λ k. Ok (tree.number k.0, k.1)) e fails) [
      | inl w ↦ instead (Fronts (IsFormed (WellFormed (suc limit)))) (Headed limit head) bs (e.left - 1)
          (λ front f. (f.0, (major.Tag, inl (n, head, front ++ f.0, read_numbered major.Tag n head is, f.1, append_assoc head front f.0))))
          (tag_grown n (WellFormed (suc limit)) (zero_item (WellFormed limit)) bs e fits w plain)
      | inr w ↦ absurd cc
    ]
inside_grown limit finds grows major.Simple (Some n) head bs e fits is fails plain = simple_grown limit n head bs e is fails
inside_grown limit finds grows major.Unsigned (Some n) head bs e fits is fails plain = absurd cc
inside_grown limit finds grows major.Negative (Some n) head bs e fits is fails plain = absurd cc
inside_grown limit finds grows major.Simple None head bs e fits is fails plain = bad_before limit fault.Break head bs e refl fails plain
inside_grown limit finds grows major.Unsigned None head bs e fits is fails plain = bad_before limit fault.Reserved head bs e refl fails plain
inside_grown limit finds grows major.Negative None head bs e fits is fails plain = bad_before limit fault.Reserved head bs e refl fails plain
inside_grown limit finds grows major.Tag None head bs e fits is fails plain = bad_before limit fault.Reserved head bs e refl fails plain

item_found : (limit : ℕ) → Finds (Item limit) (item_at limit)
item_found limit bs x rest fits is =
    let i = item_sound limit bs x rest fits is in
    record { front = i.front; part = coded_item limit x i.front i.part; split = i.split; fits = i.fits }

deep_item : Grows (Item 0) (item_at 0)
deep_item bs e fits is plain = deep_grown (WellFormed 1) (zero_item (WellFormed 0)) bs e fits is plain

pub item_grown : (limit : ℕ) → Grows (Item limit) (item_at limit)
unfolding item_at
item_grown zero bs e fits is plain = deep_item bs e fits is plain
item_grown (suc limit) bs e fits is plain =
    elim (bind_err (head_at limit bs) (λ h. inside_at (item_at limit) h.0.«major» h.0.number h.1) e is) [
      | inl w ↦ head_grown limit (Item limit) (zero_item (WellFormed (suc limit))) bs e fits w plain
      | inr a ↦
          let h = head_sound limit bs a.0.0 a.0.1 fits a.1 in
          let m = a.0.0.«major» in
          let o = a.0.0.number in
          behind_a (Headed limit h.front) (Fronts (IsFormed (Item limit))) h.front a.0.1 bs (e.left - 1) h.split (λ front f. f)
          (inside_grown limit (item_found limit) (item_grown limit) m o h.front a.0.1 e h.fits (head_is (bounds_of limit m) m o h.front h.part) a.2 plain)
    ]
