-- What codes a tree is read as it.
use Rattle.std.proofs.Common.{◌≡◌, ℕ, suc, zero, ◌<◌, ℤ, pos, negsuc, true, false, cond, eqb, List, [], ◌∷◌, ◌++◌, length, Option, Some, None, Result, Ok, Err, refl, sym, ap, subst, ◌∙◌, append_assoc, append-nil, arith, length-append, inl, inr}
use Rattle.std.proofs.lemmas.Bool.{eqb-true}
use Rattle.std.proofs.lemmas.List.{nil_from_length}
use Rattle.content_tree.specs.Values.Tree as tree
use Rattle.content_tree.specs.Values.Tree.{Tree}
use Rattle.content_cbor.specs.Heads.{first_byte}
use Rattle.content_cbor.specs.Codes.{Codes, IsInteger, IsPair, Parts, number_of}
use Rattle.content_cbor.specs.declared.decode_error.Fault.TheVariants as fault
use Rattle.content_cbor.specs.declared.heads.Major.{Major}
use Rattle.content_cbor.specs.declared.heads.Major.TheVariants as major
use Rattle.content_cbor.specs.declared.stop.Refusal.{Refusal}
use Rattle.content_cbor.specs.declared.stop.Stop.{Stop}
use Rattle.content_cbor.specs.declared.stop.Stop.TheVariants as stop
use Rattle.content_cbor.specs.Inner.Steps.{Reader, Fails, refused}
use Rattle.content_cbor.specs.Inner.Reading.{at_break, bounds_of, inside_at, is_simple, each_at, item_at, leaf_at, pair_at, parts_at, until_at, whole_at}
use Rattle.content_cbor.proofs.Read.Steps.{ok_is, bind_ok, failed}
use Rattle.content_cbor.proofs.Read.Took.{IsBytes, Complete}
use Rattle.content_cbor.proofs.Read.Parts.{Begins, each_complete, until_complete}
use Rattle.content_cbor.proofs.Read.Heads.{HeadIn, HeadOf, Stands, head_complete, of_head}
use Rattle.content_cbor.proofs.Read.Strings.{string_complete, string_apart, string_begins, head_begins, opening_begins}
use Rattle.content_cbor.proofs.Read.Tags.{unsigned_again, negative_again}
use Rattle.content_cbor.proofs.Read.Items.{PartsBody, item_sound, pair_complete, pair_begins}

-- ---- no item begins as a break does

integer_begins : (z : ℤ) (bs rest : List ℕ) → IsInteger z bs → (0 < length bs) × (at_break (bs ++ rest) ≡ false)
integer_begins (pos n) bs rest (inl w) = head_begins major.Unsigned n bs rest w
integer_begins (negsuc n) bs rest (inl w) = head_begins major.Negative n bs rest w
integer_begins (pos n) bs rest (inr w) =
    let u = w.1 in
    let split : bs ++ rest ≡ u.0 ++ (u.1 ++ rest) = ap (λ f. f ++ rest) u.6 ∙ append_assoc u.0 u.1 rest in
    let b = head_begins major.Tag 2 u.0 (u.1 ++ rest) u.3 in
    (omega (arith, b.0, ap length u.6, length-append u.0 u.1), ap at_break split ∙ b.1)
integer_begins (negsuc n) bs rest (inr w) =
    let u = w.1 in
    let split : bs ++ rest ≡ u.0 ++ (u.1 ++ rest) = ap (λ f. f ++ rest) u.6 ∙ append_assoc u.0 u.1 rest in
    let b = head_begins major.Tag 3 u.0 (u.1 ++ rest) u.3 in
    (omega (arith, b.0, ap length u.6, length-append u.0 u.1), ap at_break split ∙ b.1)

parts_begin : {A : Type 0} (Part : A → List ℕ → Type 0) (m : Major) → is_simple m ≡ false → (xs : List A) (bs rest : List ℕ) → Parts m Part xs bs
    → (0 < length bs) × (at_break (bs ++ rest) ≡ false)
parts_begin Part m simple xs bs rest (inl w) =
    let split : bs ++ rest ≡ w.0 ++ (w.1 ++ rest) = ap (λ f. f ++ rest) w.4 ∙ append_assoc w.0 w.1 rest in
    let b = head_begins m (length xs) w.0 (w.1 ++ rest) w.2 in
    (omega (arith, b.0, ap length w.4, length-append w.0 w.1), ap at_break split ∙ b.1)
parts_begin Part m simple xs bs rest (inr w) =
    (omega (arith, ap length w.2), ap (λ f. at_break (f ++ rest)) w.2 ∙ opening_begins m ((w.0 ++ (255 ∷ [])) ++ rest) simple)

one_byte_begins : (b : ℕ) (bs rest : List ℕ) → eqb b 255 ≡ false → bs ≡ b ∷ [] → (0 < length bs) × (at_break (bs ++ rest) ≡ false)
one_byte_begins b bs rest other is = (omega (arith, ap length is), ap (λ f. at_break (f ++ rest)) is ∙ other)

item_begins : (limit : ℕ) → Begins (Codes limit)
item_begins zero t bs rest is = absurd is
item_begins (suc limit) tree.absent bs rest is = one_byte_begins 246 bs rest refl is
item_begins (suc limit) (tree.boolean true) bs rest is = one_byte_begins 245 bs rest refl is
item_begins (suc limit) (tree.boolean false) bs rest is = one_byte_begins 244 bs rest refl is
item_begins (suc limit) (tree.number n) bs rest is = integer_begins is.0 bs rest is.2
item_begins (suc limit) (tree.text x) bs rest is = string_begins true x bs rest is
item_begins (suc limit) (tree.octets x) bs rest is = string_begins false x bs rest is
item_begins (suc limit) (tree.seq ts) bs rest is = parts_begin (Codes limit) major.Array refl is.0 bs rest is.2
item_begins (suc limit) (tree.map ps) bs rest is = parts_begin (IsPair (Codes limit)) major.Map refl is.0 bs rest is.2
item_begins (suc limit) tree.unit bs rest is = absurd is
item_begins (suc limit) (tree.character c) bs rest is = absurd is
item_begins (suc limit) (tree.present t) bs rest is = absurd is
item_begins (suc limit) (tree.structure n d) bs rest is = absurd is
item_begins (suc limit) (tree.enumeration n i v d) bs rest is = absurd is
item_begins (suc limit) (tree.tuple ts) bs rest is = absurd is

-- ---- parts

-- where nothing may stand inside, no part does
abbrev Room : {A : Type 0} → (A → List ℕ → Type 0) → ℕ → Type 0
Room {A} Part limit = (x : A) (bs : List ℕ) → limit ≡ 0 → Part x bs → ⊥

room : (limit : ℕ) → Room (Codes limit) limit
room zero t bs none is = is
room (suc limit) t bs none is = absurd cc

pair_room : (limit : ℕ) → Room (IsPair (Codes limit)) limit
pair_room limit p bs none is = room limit p.0 is.0 none is.2

-- parts behind a head
parts_again : {A : Type 0} (Part : A → List ℕ → Type 0) (read : Reader A) → Complete Part read → Begins Part → (o : Option ℕ) (xs : List A) (body rest : List ℕ)
    → PartsBody Part o xs body → parts_at read o (body ++ rest) ≡ Ok (xs, rest)
unfolding parts_at
parts_again Part read complete begins (Some n) xs body rest is =
    ap (λ k. each_at read k (body ++ rest)) (sym is.0) ∙ each_complete Part read complete xs body rest is.1
parts_again Part read complete begins None xs body rest is =
    let whole : body ++ rest ≡ is.0 ++ (255 ∷ rest) = ap (λ f. f ++ rest) is.2 ∙ append_assoc is.0 (255 ∷ []) rest in
    let enough : length is.0 < length (body ++ rest) = omega (arith, ap length whole, length-append is.0 (255 ∷ rest)) in
    ap (until_at read (length (body ++ rest))) whole ∙ until_complete Part read complete begins xs is.0 rest (length (body ++ rest)) is.1 enough

-- the head of parts, and the parts
parts_apart : {A : Type 0} (Part : A → List ℕ → Type 0) (m : Major) → is_simple m ≡ false → (xs : List A) (bs : List ℕ) → Parts m Part xs bs
    → (o : Option ℕ) × (head body : List ℕ) × (bs ≡ head ++ body) × HeadOf m o head × PartsBody Part o xs body
parts_apart Part m simple xs bs (inl w) = (Some (length xs), w.0, w.1, w.4, of_head m simple (length xs) w.0 w.2, (refl, w.3))
parts_apart Part m simple xs bs (inr w) = (None, first_byte m 31 ∷ [], w.0 ++ (255 ∷ []), w.2, refl, (w.0, w.1, refl))

-- where no part can stand, none does
array_admits : (limit : ℕ) (ts : List Tree) (o : Option ℕ) (head body : List ℕ) → HeadOf major.Array o head → PartsBody (Codes limit) o ts body → HeadIn (bounds_of limit major.Array) major.Array o head
array_admits limit ts None head body is parts = is
array_admits (suc limit) ts (Some n) head body is parts = (is, refl)
array_admits zero [] (Some n) head body is parts = (is, subst (λ k. (bounds_of 0 major.Array).admits 0 k ≡ true) parts.0 refl)
array_admits zero (t ∷ ts) (Some n) head body is parts = absurd (room zero t parts.1.0 refl parts.1.2)

map_admits : (limit : ℕ) (ps : List (Tree × Tree)) (o : Option ℕ) (head body : List ℕ) → HeadOf major.Map o head → PartsBody (IsPair (Codes limit)) o ps body
    → HeadIn (bounds_of limit major.Map) major.Map o head
map_admits limit ps None head body is parts = is
map_admits (suc limit) ps (Some n) head body is parts = (is, refl)
map_admits zero [] (Some n) head body is parts = (is, subst (λ k. (bounds_of 0 major.Map).admits 0 k ≡ true) parts.0 refl)
map_admits zero (p ∷ ps) (Some n) head body is parts = absurd (pair_room zero p parts.1.0 refl parts.1.2)

-- ---- items

-- behind its head, what stands there is read
behind : (limit : ℕ) (m : Major) (o : Option ℕ) (bs head body rest : List ℕ) → bs ≡ head ++ body → HeadIn (bounds_of limit m) m o head → Stands m o
    → item_at (suc limit) (bs ++ rest) ≡ inside_at (item_at limit) m o (body ++ rest)
unfolding item_at
behind limit m o bs head body rest split is stands =
    ap (item_at (suc limit)) (ap (λ f. f ++ rest) split ∙ append_assoc head body rest)
    ∙ rw (head_complete limit (record { «major» = m; number = o }) head (body ++ rest) is stands) refl

-- with nothing behind the head
alone : (limit : ℕ) (m : Major) (o : Option ℕ) (head rest : List ℕ) → HeadIn (bounds_of limit m) m o head → Stands m o
    → item_at (suc limit) (head ++ rest) ≡ inside_at (item_at limit) m o rest
alone limit m o head rest is stands = behind limit m o head head [] rest (sym (append-nil head)) is stands

integer_again : (limit : ℕ) (z : ℤ) (bs rest : List ℕ) → IsInteger z bs → item_at (suc limit) (bs ++ rest) ≡ Ok (tree.number (number_of z), rest)
unfolding leaf_at
integer_again limit (pos n) bs rest (inl w) = alone limit major.Unsigned (Some n) bs rest (of_head major.Unsigned refl n bs w, refl) tt
integer_again limit (negsuc n) bs rest (inl w) = alone limit major.Negative (Some n) bs rest (of_head major.Negative refl n bs w, refl) tt
integer_again limit (pos n) bs rest (inr w) =
    let u = w.1 in
    behind limit major.Tag (Some 2) bs u.0 u.1 rest u.6 (of_head major.Tag refl 2 u.0 u.3, refl) tt
    ∙ rw (unsigned_again n u.1 rest u.2 w.0 u.4 u.5) refl
integer_again limit (negsuc n) bs rest (inr w) =
    let u = w.1 in
    behind limit major.Tag (Some 3) bs u.0 u.1 rest u.6 (of_head major.Tag refl 3 u.0 u.3, refl) tt
    ∙ rw (negative_again n u.1 rest u.2 w.0 u.4 u.5) refl

simple_item : (limit n : ℕ) (t : Tree) (bs rest : List ℕ) → Stands major.Simple (Some n) → bs ≡ first_byte major.Simple n ∷ [] → leaf_at major.Simple (Some n) rest ≡ Ok (t, rest)
    → item_at (suc limit) (bs ++ rest) ≡ Ok (t, rest)
simple_item limit n t bs rest stands is leaf = alone limit major.Simple (Some n) bs rest (inl (omega (arith, stands.1), is), refl) stands ∙ leaf

-- heads of texts, bytes, arrays and maps stand with a number and without
text_stands : (o : Option ℕ) → Stands major.Text o
text_stands (Some n) = tt
text_stands None = tt

bytes_stand : (o : Option ℕ) → Stands major.Bytes o
bytes_stand (Some n) = tt
bytes_stand None = tt

array_stands : (o : Option ℕ) → Stands major.Array o
array_stands (Some n) = tt
array_stands None = tt

map_stands : (o : Option ℕ) → Stands major.Map o
map_stands (Some n) = tt
map_stands None = tt

any_text : (limit : ℕ) (o : Option ℕ) (head : List ℕ) → HeadOf major.Text o head → HeadIn (bounds_of limit major.Text) major.Text o head
any_text limit None head is = is
any_text limit (Some n) head is = (is, refl)

any_bytes : (limit : ℕ) (o : Option ℕ) (head : List ℕ) → HeadOf major.Bytes o head → HeadIn (bounds_of limit major.Bytes) major.Bytes o head
any_bytes limit None head is = is
any_bytes limit (Some n) head is = (is, refl)

pub item_complete : (limit : ℕ) → Complete (Codes limit) (item_at limit)
unfolding leaf_at
item_complete zero t bs rest is = absurd is
item_complete (suc limit) tree.absent bs rest is = simple_item limit 22 tree.absent bs rest (omega arith, omega arith) is refl
item_complete (suc limit) (tree.boolean true) bs rest is = simple_item limit 21 (tree.boolean true) bs rest (omega arith, omega arith) is refl
item_complete (suc limit) (tree.boolean false) bs rest is = simple_item limit 20 (tree.boolean false) bs rest (omega arith, omega arith) is refl
item_complete (suc limit) (tree.number n) bs rest is = integer_again limit is.0 bs rest is.2 ∙ ap (λ k. Ok (tree.number k, rest)) (sym is.1)
item_complete (suc limit) (tree.text x) bs rest is =
    let p = string_apart true x bs is in
    behind limit major.Text p.0 bs p.1 p.2 rest p.3 (any_text limit p.0 p.1 p.4) (text_stands p.0) ∙ rw (string_complete true p.0 x p.2 rest p.5) refl
item_complete (suc limit) (tree.octets x) bs rest is =
    let p = string_apart false x bs is in
    behind limit major.Bytes p.0 bs p.1 p.2 rest p.3 (any_bytes limit p.0 p.1 p.4) (bytes_stand p.0) ∙ rw (string_complete false p.0 x p.2 rest p.5) refl
item_complete (suc limit) (tree.seq ts) bs rest is =
    let p = parts_apart (Codes limit) major.Array refl is.0 bs is.2 in
    behind limit major.Array p.0 bs p.1 p.2 rest p.3 (array_admits limit is.0 p.0 p.1 p.2 p.4 p.5) (array_stands p.0)
    ∙ rw (parts_again (Codes limit) (item_at limit) (item_complete limit) (item_begins limit) p.0 is.0 p.2 rest p.5) (ap (λ u. Ok (tree.seq u, rest)) (sym is.1))
item_complete (suc limit) (tree.map ps) bs rest is =
    let p = parts_apart (IsPair (Codes limit)) major.Map refl is.0 bs is.2 in
    behind limit major.Map p.0 bs p.1 p.2 rest p.3 (map_admits limit is.0 p.0 p.1 p.2 p.4 p.5) (map_stands p.0)
    ∙ rw (parts_again (IsPair (Codes limit)) (pair_at (item_at limit)) (pair_complete (Codes limit) (item_at limit) (item_complete limit)) (pair_begins (Codes limit) (item_begins limit)) p.0 is.0 p.2 rest p.5)
    (ap (λ u. Ok (tree.map u, rest)) (sym is.1))
item_complete (suc limit) tree.unit bs rest is = absurd is
item_complete (suc limit) (tree.character c) bs rest is = absurd is
item_complete (suc limit) (tree.present t) bs rest is = absurd is
item_complete (suc limit) (tree.structure n d) bs rest is = absurd is
item_complete (suc limit) (tree.enumeration n i v d) bs rest is = absurd is
item_complete (suc limit) (tree.tuple ts) bs rest is = absurd is

-- ---- whole

pub whole_sound : (limit : ℕ) (bs : List ℕ) (t : Tree) → IsBytes bs → whole_at limit bs ≡ Ok t → Codes limit t bs
unfolding whole_at
whole_sound limit bs t fits e =
    let a = bind_ok (item_at limit bs) (λ x. cond (eqb (length x.1) 0) (Ok x.0) (refused fault.Trailing x.1)) t e in
    let g = failed (eqb (length a.0.1) 0) (record { «fault» = fault.Trailing; left = length a.0.1 }) (Ok a.0.0) t a.2 in
    let i = item_sound limit bs a.0.0 a.0.1 fits a.1 in
    let none : a.0.1 ≡ [] = nil_from_length a.0.1 (eqb-true _ _ g.0) in
    let all : i.front ≡ bs = sym (append-nil i.front) ∙ ap (λ r. i.front ++ r) (sym none) ∙ sym i.split in
    subst (λ u. Codes limit u bs) (ok_is a.0.0 t g.1) (subst (λ b. Codes limit a.0.0 b) all i.part)

pub whole_complete : (limit : ℕ) (bs : List ℕ) (t : Tree) → Codes limit t bs → whole_at limit bs ≡ Ok t
unfolding whole_at
whole_complete limit bs t is =
    let read : item_at limit bs ≡ Ok (t, []) = ap (item_at limit) (sym (append-nil bs)) ∙ item_complete limit t bs [] is in
    rw read refl

abbrev done : Tree → Result Tree Refusal
done t = Ok t

pub not_both : (t : Tree) (r : Refusal) → done t ≡ Err r → ⊥
not_both t r e = absurd cc

-- what is refused codes nothing
pub refused_all : (limit : ℕ) (bs : List ℕ) (e : Stop) (r : Refusal) → e ≡ stop.Refused r → Fails e (whole_at limit bs) → (t : Tree) → Codes limit t bs → ⊥
refused_all limit bs e r is fails t codes =
    not_both t r (sym (whole_complete limit bs t codes) ∙ subst (λ s. Fails s (whole_at limit bs)) is fails)

-- no bytes code two trees
pub one_tree : (limit : ℕ) (bs : List ℕ) (t u : Tree) → Codes limit t bs → Codes limit u bs → t ≡ u
one_tree limit bs t u first second = ok_is t u (sym (whole_complete limit bs t first) ∙ whole_complete limit bs u second)
