-- Items that are read.
use Rattle.std.proofs.Common.{◌≡◌, ℕ, suc, zero, ◌<◌, pos, negsuc, true, false, cond, eqb, List, [], ◌∷◌, ◌++◌, length, Option, Some, None, Ok, Err, ◌⊎◌, refl, sym, ap, subst, ◌∙◌, append_assoc, append-nil, arith, length-append, inl, inr}
use Rattle.std.proofs.lemmas.Bool.{eqb-true}
use Rattle.content_tree.specs.Values.Text.{static_name}
use Rattle.content_tree.specs.Values.Tree as tree
use Rattle.content_tree.specs.Values.Tree.{Tree}
use Rattle.content_tree.specs.Values.Value.{trees_of, pairs_of}
use Rattle.content_cbor.specs.Heads.{first_byte}
use Rattle.content_cbor.specs.Codes.{Codes, Each, IsHead, IsItem, IsPair, Parts, number_of}
use Rattle.content_cbor.specs.declared.decode_error.Fault.{Fault}
use Rattle.content_cbor.specs.declared.decode_error.Fault.TheVariants as fault
use Rattle.content_cbor.specs.declared.heads.Major.{Major}
use Rattle.content_cbor.specs.declared.heads.Major.TheVariants as major
use Rattle.content_cbor.specs.declared.stop.Refusal.{Refusal}
use Rattle.content_cbor.specs.Inner.Steps.{◌>>=◌, Reader, refused, refused_before}
use Rattle.content_cbor.specs.Inner.Reading.{at_break, bounds_of, each_at, head_at, inside_at, is_simple, item_at, kind_at, leaf_at, pair_at, parts_at, simple_at, string_at, tag_at}
use Rattle.content_cbor.proofs.Read.Steps.{ok_is, bind_err, bind_ok, chosen, same_left}
use Rattle.content_cbor.proofs.Read.Took.{IsBytes, Took, Sound, Complete, regrouped}
use Rattle.content_cbor.proofs.Read.Begun.{Before, Opens, Placed, PlacedBehind, at_start, behind_a, instead, opens_behind}
use Rattle.content_cbor.proofs.Read.Parts.{Begins, Ends, copies, each_placed, each_sound, until_placed, until_sound}
use Rattle.content_cbor.proofs.Read.Numbers.{in_range_is}
use Rattle.content_cbor.proofs.Read.Shrinks.{Advances, advances_item, advances_pair}
use Rattle.content_cbor.proofs.Read.Heads.{HeadIn, HeadOf, NumberedHead, head_is, head_placed, head_sound, kind_placed, numbered}
use Rattle.content_cbor.proofs.Read.Strings.{StringBody, some_string, string_placed, string_sound, string_whole}
use Rattle.content_cbor.proofs.Read.Utf8.{spaces}
use Rattle.content_cbor.proofs.Read.Tags.{IsTag, Numbered, nothing_under, tag_placed, tag_sound}

-- a tree, by what stands behind a head
abbrev pub Behind : (Tree → List ℕ → Type 0) → List ℕ → Tree → List ℕ → Type 0
Behind Inner head t body = IsItem Inner t (head ++ body)

-- ---- what holds no part

simple_sound : (Inner : Tree → List ℕ → Type 0) (n : ℕ) (head bs : List ℕ) (t : Tree) (rest : List ℕ) → IsBytes bs → head ≡ first_byte major.Simple n ∷ []
    → simple_at n bs ≡ Ok (t, rest) → Took (Behind Inner head t) bs rest
simple_sound Inner n head bs t rest fits is e =
    elim (chosen (eqb n 20) (Ok (tree.boolean false, bs)) (cond (eqb n 21) (Ok (tree.boolean true, bs)) (cond (eqb n 22) (Ok (tree.absent, bs)) (refused_before fault.Simple bs))) (Ok (t, rest)) e) [
      | inl w ↦ subst (λ (p : Tree × List ℕ). Took (Behind Inner head p.0) bs p.1) (ok_is (tree.boolean false, bs) (t, rest) w.1)
          (record { front = []; part = append-nil head ∙ is ∙ ap (λ k. first_byte major.Simple k ∷ []) (eqb-true n 20 w.0); split = refl; fits = fits })
      | inr v ↦ elim (chosen (eqb n 21) (Ok (tree.boolean true, bs)) (cond (eqb n 22) (Ok (tree.absent, bs)) (refused_before fault.Simple bs)) (Ok (t, rest)) v.1) [
        | inl w ↦ subst (λ (p : Tree × List ℕ). Took (Behind Inner head p.0) bs p.1) (ok_is (tree.boolean true, bs) (t, rest) w.1)
            (record { front = []; part = append-nil head ∙ is ∙ ap (λ k. first_byte major.Simple k ∷ []) (eqb-true n 21 w.0); split = refl; fits = fits })
        | inr u ↦ elim (chosen (eqb n 22) (Ok (tree.absent, bs)) (refused_before fault.Simple bs) (Ok (t, rest)) u.1) [
          | inl w ↦ subst (λ (p : Tree × List ℕ). Took (Behind Inner head p.0) bs p.1) (ok_is (tree.absent, bs) (t, rest) w.1)
              (record { front = []; part = append-nil head ∙ is ∙ ap (λ k. first_byte major.Simple k ∷ []) (eqb-true n 22 w.0); split = refl; fits = fits })
          | inr w ↦ absurd cc
        ]
      ]
    ]

simple_head : (n : ℕ) (head : List ℕ) → HeadOf major.Simple (Some n) head → head ≡ first_byte major.Simple n ∷ []
simple_head n head (inl w) = w.1
simple_head n head (inr w) = absurd cc

-- a tag is one that is read
abbrev IsKnown : Major → Option ℕ → Type 0
IsKnown major.Tag (Some n) = IsTag n
IsKnown m o = Unit {0}

leaf_sound : (Inner : Tree → List ℕ → Type 0) (m : Major) (o : Option ℕ) (head bs : List ℕ) (t : Tree) (rest : List ℕ) → IsBytes bs → HeadOf m o head
    → IsKnown m o → leaf_at m o bs ≡ Ok (t, rest) → Took (Behind Inner head t) bs rest
unfolding leaf_at
leaf_sound Inner major.Unsigned (Some n) head bs t rest fits is known e =
    subst (λ (p : Tree × List ℕ). Took (Behind Inner head p.0) bs p.1) (ok_is (tree.number (number_of (pos n)), bs) (t, rest) e)
    (record { front = []; part = (pos n, refl, inl (subst (λ h. IsHead major.Unsigned n h) (sym (append-nil head)) (numbered major.Unsigned n head is))); split = refl; fits = fits })
leaf_sound Inner major.Negative (Some n) head bs t rest fits is known e =
    subst (λ (p : Tree × List ℕ). Took (Behind Inner head p.0) bs p.1) (ok_is (tree.number (number_of (negsuc n)), bs) (t, rest) e)
    (record { front = []; part = (negsuc n, refl, inl (subst (λ h. IsHead major.Negative n h) (sym (append-nil head)) (numbered major.Negative n head is))); split = refl; fits = fits })
leaf_sound Inner major.Bytes o head bs t rest fits is known e =
    let a = bind_ok (string_at false o bs) (λ x. Ok (tree.octets x.0, x.1)) (t, rest) e in
    let b = string_sound false o bs a.0.0 a.0.1 fits a.1 in
    subst (λ (p : Tree × List ℕ). Took (Behind Inner head p.0) bs p.1) (ok_is (tree.octets a.0.0, a.0.1) (t, rest) a.2)
    (record { front = b.front; part = string_whole false o a.0.0 head b.front is b.part; split = b.split; fits = b.fits })
leaf_sound Inner major.Text o head bs t rest fits is known e =
    let a = bind_ok (string_at true o bs) (λ x. Ok (tree.text x.0, x.1)) (t, rest) e in
    let b = string_sound true o bs a.0.0 a.0.1 fits a.1 in
    subst (λ (p : Tree × List ℕ). Took (Behind Inner head p.0) bs p.1) (ok_is (tree.text a.0.0, a.0.1) (t, rest) a.2)
    (record { front = b.front; part = string_whole true o a.0.0 head b.front is b.part; split = b.split; fits = b.fits })
leaf_sound Inner major.Tag (Some n) head bs t rest fits is known e =
    let a = bind_ok (tag_at n bs) (λ k. Ok (tree.number k.0, k.1)) (t, rest) e in
    let b = tag_sound n head known (numbered major.Tag n head is) bs a.0.0 a.0.1 fits a.1 in
    subst (λ (p : Tree × List ℕ). Took (Behind Inner head p.0) bs p.1) (ok_is (tree.number a.0.0, a.0.1) (t, rest) a.2)
    (record { front = b.front; part = b.part; split = b.split; fits = b.fits })
leaf_sound Inner major.Simple (Some n) head bs t rest fits is known e = simple_sound Inner n head bs t rest fits (simple_head n head is) e
leaf_sound Inner major.Simple None head bs t rest fits is known e = absurd cc
leaf_sound Inner major.Unsigned None head bs t rest fits is known e = absurd cc
leaf_sound Inner major.Negative None head bs t rest fits is known e = absurd cc
leaf_sound Inner major.Tag None head bs t rest fits is known e = absurd cc
leaf_sound Inner major.Array (Some n) head bs t rest fits is known e = absurd cc
leaf_sound Inner major.Array None head bs t rest fits is known e = absurd cc
leaf_sound Inner major.Map (Some n) head bs t rest fits is known e = absurd cc
leaf_sound Inner major.Map None head bs t rest fits is known e = absurd cc

-- ---- parts

-- parts behind the head of an array or a map
abbrev pub PartsBody : {A : Type 0} → (A → List ℕ → Type 0) → Option ℕ → List A → List ℕ → Type 0
PartsBody Part (Some n) xs body = (length xs ≡ n) × Each Part xs body
PartsBody Part None xs body = Ends Part xs body

each_behind : {A : Type 0} (Part : A → List ℕ → Type 0) (read : Reader A) → Sound Part read → (n : ℕ) (bs : List ℕ) (xs : List A) (rest : List ℕ)
    → IsBytes bs → each_at read n bs ≡ Ok (xs, rest) → Took (PartsBody Part (Some n) xs) bs rest
each_behind Part read sound n bs xs rest fits e =
    let b = each_sound Part read sound n bs xs rest fits e in
    record { front = b.0.front; part = (b.1, b.0.part); split = b.0.split; fits = b.0.fits }

parts_sound : {A : Type 0} (Part : A → List ℕ → Type 0) (read : Reader A) → Sound Part read → (o : Option ℕ) (bs : List ℕ) (xs : List A) (rest : List ℕ)
    → IsBytes bs → parts_at read o bs ≡ Ok (xs, rest) → Took (PartsBody Part o xs) bs rest
unfolding parts_at
parts_sound Part read sound None bs xs rest fits e = until_sound Part read sound (length bs) bs xs rest fits e
parts_sound Part read sound (Some n) bs xs rest fits e = each_behind Part read sound n bs xs rest fits e

pub parts_whole : {A : Type 0} (Part : A → List ℕ → Type 0) (m : Major) (o : Option ℕ) (xs : List A) (head body : List ℕ) → HeadOf m o head → PartsBody Part o xs body
    → Parts m Part xs (head ++ body)
parts_whole Part m (Some n) xs head body is behind =
    inl (head, body, subst (λ k. IsHead m k head) (sym behind.0) (numbered m n head is), behind.1, refl)
parts_whole Part m None xs head body is behind =
    inr (behind.0, behind.1, ap (λ h. h ++ body) is ∙ ap (λ b. first_byte m 31 ∷ b) behind.2)

pub pair_sound : (Inner : Tree → List ℕ → Type 0) (read : Reader Tree) → Sound Inner read → Sound (IsPair Inner) (pair_at read)
unfolding pair_at
pair_sound Inner read sound bs p rest fits e =
    let a = bind_ok (read bs) (λ k. read k.1 >>= λ v. Ok ((k.0, v.0), v.1)) (p, rest) e in
    let b = bind_ok (read a.0.1) (λ v. Ok ((a.0.0, v.0), v.1)) (p, rest) a.2 in
    let k = sound bs a.0.0 a.0.1 fits a.1 in
    let v = sound a.0.1 b.0.0 b.0.1 k.fits b.1 in
    subst (λ (q : (Tree × Tree) × List ℕ). Took (IsPair Inner q.0) bs q.1) (ok_is ((a.0.0, b.0.0), b.0.1) (p, rest) b.2)
    (record { front = k.front ++ v.front; part = (k.front, v.front, k.part, v.part, refl); split = regrouped bs k.front a.0.1 v.front b.0.1 k.split v.split; fits = v.fits })

pub pair_complete : (Inner : Tree → List ℕ → Type 0) (read : Reader Tree) → Complete Inner read → Complete (IsPair Inner) (pair_at read)
unfolding pair_at
pair_complete Inner read complete p front rest is =
    let split : front ++ rest ≡ is.0 ++ (is.1 ++ rest) = ap (λ f. f ++ rest) is.4 ∙ append_assoc is.0 is.1 rest in
    ap (pair_at read) split ∙ rw (complete p.0 is.0 (is.1 ++ rest) is.2, complete p.1 is.1 rest is.3) refl

pub pair_begins : (Inner : Tree → List ℕ → Type 0) → Begins Inner → Begins (IsPair Inner)
pair_begins Inner begins p bs rest is =
    let split : bs ++ rest ≡ is.0 ++ (is.1 ++ rest) = ap (λ f. f ++ rest) is.4 ∙ append_assoc is.0 is.1 rest in
    let b = begins p.0 is.0 (is.1 ++ rest) is.2 in
    (omega (arith, b.0, ap length is.4, length-append is.0 is.1), ap at_break split ∙ b.1)

-- ---- items

inside_sound : (limit : ℕ) → Sound (Codes limit) (item_at limit) → (m : Major) (o : Option ℕ) (head bs : List ℕ) (t : Tree) (rest : List ℕ) → IsBytes bs → HeadOf m o head
    → IsKnown m o → inside_at (item_at limit) m o bs ≡ Ok (t, rest) → Took (Behind (Codes limit) head t) bs rest
inside_sound limit sound major.Array o head bs t rest fits is known e =
    let a = bind_ok (parts_at (item_at limit) o bs) (λ xs. Ok (tree.seq (trees_of xs.0), xs.1)) (t, rest) e in
    let b = parts_sound (Codes limit) (item_at limit) sound o bs a.0.0 a.0.1 fits a.1 in
    subst (λ (p : Tree × List ℕ). Took (Behind (Codes limit) head p.0) bs p.1) (ok_is (tree.seq (trees_of a.0.0), a.0.1) (t, rest) a.2)
    (record { front = b.front; part = (a.0.0, refl, parts_whole (Codes limit) major.Array o a.0.0 head b.front is b.part); split = b.split; fits = b.fits })
inside_sound limit sound major.Map o head bs t rest fits is known e =
    let a = bind_ok (parts_at (pair_at (item_at limit)) o bs) (λ xs. Ok (tree.map (pairs_of xs.0), xs.1)) (t, rest) e in
    let b = parts_sound (IsPair (Codes limit)) (pair_at (item_at limit)) (pair_sound (Codes limit) (item_at limit) sound) o bs a.0.0 a.0.1 fits a.1 in
    subst (λ (p : Tree × List ℕ). Took (Behind (Codes limit) head p.0) bs p.1) (ok_is (tree.map (pairs_of a.0.0), a.0.1) (t, rest) a.2)
    (record { front = b.front; part = (a.0.0, refl, parts_whole (IsPair (Codes limit)) major.Map o a.0.0 head b.front is b.part); split = b.split; fits = b.fits })
inside_sound limit sound major.Unsigned o head bs t rest fits is known e = leaf_sound (Codes limit) major.Unsigned o head bs t rest fits is known e
inside_sound limit sound major.Negative o head bs t rest fits is known e = leaf_sound (Codes limit) major.Negative o head bs t rest fits is known e
inside_sound limit sound major.Bytes o head bs t rest fits is known e = leaf_sound (Codes limit) major.Bytes o head bs t rest fits is known e
inside_sound limit sound major.Text o head bs t rest fits is known e = leaf_sound (Codes limit) major.Text o head bs t rest fits is known e
inside_sound limit sound major.Tag o head bs t rest fits is known e = leaf_sound (Codes limit) major.Tag o head bs t rest fits is known e
inside_sound limit sound major.Simple o head bs t rest fits is known e = leaf_sound (Codes limit) major.Simple o head bs t rest fits is known e

known : (limit : ℕ) (m : Major) (o : Option ℕ) (bs : List ℕ) → HeadIn (bounds_of limit m) m o bs → IsKnown m o
known limit major.Tag (Some n) bs is = in_range_is 2 3 n is.1
known limit major.Tag None bs is = tt
known limit major.Unsigned o bs is = tt
known limit major.Negative o bs is = tt
known limit major.Bytes o bs is = tt
known limit major.Text o bs is = tt
known limit major.Array o bs is = tt
known limit major.Map o bs is = tt
known limit major.Simple o bs is = tt

none_read : (x : Tree × List ℕ) (bs : List ℕ) → refused fault.TooDeep bs ≡ Ok x → ⊥
none_read x bs e = absurd cc

pub item_sound : (limit : ℕ) → Sound (Codes limit) (item_at limit)
unfolding item_at
item_sound zero bs t rest fits e = let a = bind_ok (kind_at bs) (λ h. refused fault.TooDeep bs) (t, rest) e in absurd (none_read (t, rest) bs a.2)
item_sound (suc limit) bs t rest fits e =
    let a = bind_ok (head_at limit bs) (λ h. inside_at (item_at limit) h.0.«major» h.0.number h.1) (t, rest) e in
    let h = head_sound limit bs a.0.0 a.0.1 fits a.1 in
    let m = a.0.0.«major» in
    let o = a.0.0.number in
    let b = inside_sound limit (item_sound limit) m o h.front a.0.1 t rest h.fits (head_is (bounds_of limit m) m o h.front h.part) (known limit m o h.front h.part) a.2 in
    record { front = h.front ++ b.front; part = b.part; split = regrouped bs h.front a.0.1 b.front rest h.split b.split; fits = b.fits }

-- ---- where they are refused

-- a tree that is begun behind its head
abbrev Headed : (Tree → List ℕ → Type 0) → List ℕ → List ℕ → Type 0
Headed Inner head = Opens (Behind Inner head)

-- refused at the byte before, which begins the item, or behind what begins a tree
abbrev InItem : (Tree → List ℕ → Type 0) → List ℕ → List ℕ → Refusal → Type 0
InItem Inner head bs e = ((length head ≡ 1) × (suc (length bs) ≡ e.left)) ⊎ Before (Headed Inner head) bs e.left

at_head : (Inner : Tree → List ℕ → Type 0) (f : Fault) (head bs : List ℕ) (e : Refusal) → length head ≡ 1 → refused_before {A = Tree × List ℕ} f bs ≡ Err e → InItem Inner head bs e
at_head Inner f head bs e one is = inl (one, same_left {A = Tree × List ℕ} (record { «fault» = f; left = suc (length bs) }) e is)

simple_placed : (Inner : Tree → List ℕ → Type 0) (n : ℕ) (head bs : List ℕ) (e : Refusal) → length head ≡ 1 → simple_at n bs ≡ Err e → InItem Inner head bs e
simple_placed Inner n head bs e one is =
    elim (chosen (eqb n 20) (Ok (tree.boolean false, bs)) (cond (eqb n 21) (Ok (tree.boolean true, bs)) (cond (eqb n 22) (Ok (tree.absent, bs)) (refused_before fault.Simple bs))) (Err e) is) [
      | inl w ↦ absurd cc
      | inr v ↦ elim (chosen (eqb n 21) (Ok (tree.boolean true, bs)) (cond (eqb n 22) (Ok (tree.absent, bs)) (refused_before fault.Simple bs)) (Err e) v.1) [
        | inl w ↦ absurd cc
        | inr u ↦ elim (chosen (eqb n 22) (Ok (tree.absent, bs)) (refused_before fault.Simple bs) (Err e) u.1) [
          | inl w ↦ absurd cc
          | inr w ↦ at_head Inner fault.Simple head bs e one w.1
        ]
      ]
    ]

string_of : (Inner : Tree → List ℕ → Type 0) (o : Option ℕ) (head bs : List ℕ) (e : Refusal) → IsBytes bs → HeadOf major.Bytes o head
    → leaf_at major.Bytes o bs ≡ Err e → InItem Inner head bs e
unfolding leaf_at
string_of Inner o head bs e fits is e_is =
    elim (bind_err (string_at false o bs) (λ x. Ok (tree.octets x.0, x.1)) e e_is) [
      | inl w ↦ inr (instead (Opens (StringBody false o)) (Headed Inner head) bs e.left (λ front c.
          (tree.octets c.0, c.1, string_whole false o c.0 head (front ++ c.1) is c.2)) (string_placed false o bs e fits w))
      | inr w ↦ absurd cc
    ]

text_of : (Inner : Tree → List ℕ → Type 0) (o : Option ℕ) (head bs : List ℕ) (e : Refusal) → IsBytes bs → HeadOf major.Text o head
    → leaf_at major.Text o bs ≡ Err e → InItem Inner head bs e
unfolding leaf_at
text_of Inner o head bs e fits is e_is =
    elim (bind_err (string_at true o bs) (λ x. Ok (tree.text x.0, x.1)) e e_is) [
      | inl w ↦ inr (instead (Opens (StringBody true o)) (Headed Inner head) bs e.left (λ front c.
          (tree.text c.0, c.1, string_whole true o c.0 head (front ++ c.1) is c.2)) (string_placed true o bs e fits w))
      | inr w ↦ absurd cc
    ]

one_byte : (m : Major) (head : List ℕ) → HeadOf m None head → length head ≡ 1
one_byte m head is = ap length is

-- what holds no part
abbrev IsLeaf : Major → Type 0
IsLeaf major.Array = ⊥
IsLeaf major.Map = ⊥
IsLeaf m = Unit {0}

leaf_placed : (Inner : Tree → List ℕ → Type 0) (m : Major) (o : Option ℕ) (head bs : List ℕ) (e : Refusal) → IsLeaf m → IsBytes bs → HeadOf m o head → IsKnown m o
    → leaf_at m o bs ≡ Err e → InItem Inner head bs e
unfolding leaf_at
leaf_placed Inner major.Array o head bs e leaf fits is known_ e_is = absurd leaf
leaf_placed Inner major.Map o head bs e leaf fits is known_ e_is = absurd leaf
leaf_placed Inner major.Unsigned (Some n) head bs e leaf fits is known_ e_is = absurd cc
leaf_placed Inner major.Negative (Some n) head bs e leaf fits is known_ e_is = absurd cc
leaf_placed Inner major.Bytes o head bs e leaf fits is known_ e_is = string_of Inner o head bs e fits is e_is
leaf_placed Inner major.Text o head bs e leaf fits is known_ e_is = text_of Inner o head bs e fits is e_is
leaf_placed Inner major.Tag (Some n) head bs e leaf fits is known_ e_is =
    elim (bind_err (tag_at n bs) (λ k. Ok (tree.number k.0, k.1)) e e_is) [
      | inl w ↦ inr (instead (Opens (Numbered head)) (Headed Inner head) bs e.left (λ front c. (tree.number c.0, c.1, c.2))
          (tag_placed n head known_ (numbered major.Tag n head is) bs e fits w))
      | inr w ↦ absurd cc
    ]
leaf_placed Inner major.Simple (Some n) head bs e leaf fits is known_ e_is = simple_placed Inner n head bs e (ap length (simple_head n head is)) e_is
leaf_placed Inner major.Simple None head bs e leaf fits is known_ e_is = at_head Inner fault.Break head bs e (one_byte major.Simple head is) e_is
leaf_placed Inner major.Unsigned None head bs e leaf fits is known_ e_is = at_head Inner fault.Reserved head bs e (one_byte major.Unsigned head is) e_is
leaf_placed Inner major.Negative None head bs e leaf fits is known_ e_is = at_head Inner fault.Reserved head bs e (one_byte major.Negative head is) e_is
leaf_placed Inner major.Tag None head bs e leaf fits is known_ e_is = at_head Inner fault.Reserved head bs e (one_byte major.Tag head is) e_is

pair_placed : (Inner : Tree → List ℕ → Type 0) (read : Reader Tree) → Sound Inner read → Placed Inner read → Placed (IsPair Inner) (pair_at read)
unfolding pair_at
pair_placed Inner read sound placed bs e fits is =
    elim (bind_err (read bs) (λ k. read k.1 >>= λ v. Ok ((k.0, v.0), v.1)) e is) [
      | inl w ↦ elim (placed bs e fits w) [
        | inl at ↦ inl at
        | inr b ↦ inr (instead (Opens Inner) (Opens (IsPair Inner)) bs e.left (λ front o.
            ((o.0, o.0), o.1 ++ (front ++ o.1), (front ++ o.1, front ++ o.1, o.2, o.2, sym (append_assoc front o.1 (front ++ o.1))))) b)
      ]
      | inr a ↦ elim (bind_err (read a.0.1) (λ v. Ok ((a.0.0, v.0), v.1)) e a.2) [
        | inl w ↦
            let k = sound bs a.0.0 a.0.1 fits a.1 in
            let carry : (front : List ℕ) → Opens Inner front → Opens (IsPair Inner) (k.front ++ front) =
            λ front o. opens_behind (IsPair Inner) k.front front o.1 (a.0.0, o.0) (k.front, front ++ o.1, k.part, o.2, refl) in
            inr (elim (placed a.0.1 e k.fits w) [
              | inl at ↦ behind_a (Opens Inner) (Opens (IsPair Inner)) k.front a.0.1 bs e.left k.split carry (at_start (Opens Inner) a.0.1 e.left (a.0.0, k.front, k.part) at)
              | inr b ↦ behind_a (Opens Inner) (Opens (IsPair Inner)) k.front a.0.1 bs e.left k.split carry b
            ])
        | inr v ↦ absurd cc
      ]
    ]

-- where parts are due, some part can stand
abbrev Filled : {A : Type 0} → (A → List ℕ → Type 0) → Option ℕ → Type 0
Filled {A} Part o = (n : ℕ) → o ≡ Some (suc n) → (x : A) × (bs : List ℕ) × Part x bs

none_refused : {A : Type 0} (Part : A → List ℕ → Type 0) (read : Reader A) (bs : List ℕ) (e : Refusal) → each_at read 0 bs ≡ Err e
    → Before (Opens (PartsBody Part (Some 0))) bs e.left
unfolding each_at
none_refused Part read bs e is = absurd cc

parts_placed : {A : Type 0} (Part : A → List ℕ → Type 0) (read : Reader A) → Sound Part read → Placed Part read → Advances read → (o : Option ℕ) → Filled Part o
    → PlacedBehind (PartsBody Part o) (parts_at read o)
unfolding parts_at
parts_placed Part read sound placed advances None filled bs e fits is = until_placed Part read sound placed advances (length bs) bs e (omega arith) fits is
parts_placed Part read sound placed advances (Some zero) filled bs e fits is = none_refused Part read bs e is
parts_placed Part read sound placed advances (Some (suc n)) filled bs e fits is =
    let x = filled n refl in
    each_placed Part read sound placed x.0 x.1 x.2 (suc n) bs e fits is

-- a null
some_item : (limit : ℕ) → (0 < limit) → (t : Tree) × (bs : List ℕ) × Codes limit t bs
some_item zero lt = absurd (omega (arith, lt))
some_item (suc limit) lt = (tree.absent, 246 ∷ [], refl)

some_pair : (limit : ℕ) → (0 < limit) → (p : Tree × Tree) × (bs : List ℕ) × IsPair (Codes limit) p bs
some_pair limit lt = let i = some_item limit lt in ((i.0, i.0), i.1 ++ i.1, (i.1, i.1, i.2, i.2, refl))

-- parts are due only where they can stand
array_deep : (limit n : ℕ) → (bounds_of limit major.Array).admits 0 (suc n) ≡ true → 0 < limit
array_deep zero n is = absurd (omega (arith, (in_range_is 0 0 (suc n) is).1))
array_deep (suc limit) n is = omega arith

map_deep : (limit n : ℕ) → (bounds_of limit major.Map).admits 0 (suc n) ≡ true → 0 < limit
map_deep zero n is = absurd (omega (arith, (in_range_is 0 0 (suc n) is).1))
map_deep (suc limit) n is = omega arith

array_filled : (limit : ℕ) (o : Option ℕ) (bs : List ℕ) → HeadIn (bounds_of limit major.Array) major.Array o bs → Filled (Codes limit) o
array_filled limit None bs is n e = absurd cc
array_filled limit (Some k) bs is n e = let same : k ≡ suc n = cc in some_item limit (array_deep limit n (subst (λ j. (bounds_of limit major.Array).admits 0 j ≡ true) same is.1))

map_filled : (limit : ℕ) (o : Option ℕ) (bs : List ℕ) → HeadIn (bounds_of limit major.Map) major.Map o bs → Filled (IsPair (Codes limit)) o
map_filled limit None bs is n e = absurd cc
map_filled limit (Some k) bs is n e = let same : k ≡ suc n = cc in some_pair limit (map_deep limit n (subst (λ j. (bounds_of limit major.Map).admits 0 j ≡ true) same is.1))

inside_placed : (limit : ℕ) → Placed (Codes limit) (item_at limit) → (m : Major) (o : Option ℕ) (head bs : List ℕ) (e : Refusal)
    → IsBytes bs → HeadIn (bounds_of limit m) m o head → inside_at (item_at limit) m o bs ≡ Err e → InItem (Codes limit) head bs e
inside_placed limit placed major.Array o head bs e fits is e_is =
    elim (bind_err (parts_at (item_at limit) o bs) (λ xs. Ok (tree.seq (trees_of xs.0), xs.1)) e e_is) [
      | inl w ↦ inr (instead (Opens (PartsBody (Codes limit) o)) (Headed (Codes limit) head) bs e.left (λ front c.
          (tree.seq (trees_of c.0), c.1, (c.0, refl, parts_whole (Codes limit) major.Array o c.0 head (front ++ c.1) (head_is (bounds_of limit major.Array) major.Array o head is) c.2)))
          (parts_placed (Codes limit) (item_at limit) (item_sound limit) placed (advances_item limit) o (array_filled limit o head is) bs e fits w))
      | inr w ↦ absurd cc
    ]
inside_placed limit placed major.Map o head bs e fits is e_is =
    elim (bind_err (parts_at (pair_at (item_at limit)) o bs) (λ xs. Ok (tree.map (pairs_of xs.0), xs.1)) e e_is) [
      | inl w ↦ inr (instead (Opens (PartsBody (IsPair (Codes limit)) o)) (Headed (Codes limit) head) bs e.left (λ front c.
          (tree.map (pairs_of c.0), c.1, (c.0, refl, parts_whole (IsPair (Codes limit)) major.Map o c.0 head (front ++ c.1) (head_is (bounds_of limit major.Map) major.Map o head is) c.2)))
          (parts_placed (IsPair (Codes limit)) (pair_at (item_at limit)) (pair_sound (Codes limit) (item_at limit) (item_sound limit)) (pair_placed (Codes limit) (item_at limit) (item_sound limit) placed)
          (advances_pair (item_at limit) (advances_item limit)) o (map_filled limit o head is) bs e fits w))
      | inr w ↦ absurd cc
    ]
inside_placed limit placed major.Unsigned o head bs e fits is e_is = leaf_placed (Codes limit) major.Unsigned o head bs e tt fits (head_is (bounds_of limit major.Unsigned) major.Unsigned o head is) tt e_is
inside_placed limit placed major.Negative o head bs e fits is e_is = leaf_placed (Codes limit) major.Negative o head bs e tt fits (head_is (bounds_of limit major.Negative) major.Negative o head is) tt e_is
inside_placed limit placed major.Bytes o head bs e fits is e_is = leaf_placed (Codes limit) major.Bytes o head bs e tt fits (head_is (bounds_of limit major.Bytes) major.Bytes o head is) tt e_is
inside_placed limit placed major.Text o head bs e fits is e_is = leaf_placed (Codes limit) major.Text o head bs e tt fits (head_is (bounds_of limit major.Text) major.Text o head is) tt e_is
inside_placed limit placed major.Tag o head bs e fits is e_is = leaf_placed (Codes limit) major.Tag o head bs e tt fits (head_is (bounds_of limit major.Tag) major.Tag o head is) (known limit major.Tag o head is) e_is
inside_placed limit placed major.Simple o head bs e fits is e_is = leaf_placed (Codes limit) major.Simple o head bs e tt fits (head_is (bounds_of limit major.Simple) major.Simple o head is) tt e_is

-- a head with a number goes on to an item
numbered_opens : (limit : ℕ) (m : Major) (n : ℕ) (head : List ℕ) → is_simple m ≡ false → HeadIn (bounds_of limit m) m (Some n) head → Opens (Codes (suc limit)) head
numbered_opens limit major.Unsigned n head simple is =
    (tree.number (number_of (pos n)), [], (pos n, refl, inl (subst (IsHead major.Unsigned n) (sym (append-nil head)) (numbered major.Unsigned n head is.0))))
numbered_opens limit major.Negative n head simple is =
    (tree.number (number_of (negsuc n)), [], (negsuc n, refl, inl (subst (IsHead major.Negative n) (sym (append-nil head)) (numbered major.Negative n head is.0))))
numbered_opens limit major.Bytes n head simple is =
    (tree.octets (static_name (spaces n)), spaces n, string_whole false (Some n) (static_name (spaces n)) head (spaces n) is.0 (some_string false n))
numbered_opens limit major.Text n head simple is =
    (tree.text (static_name (spaces n)), spaces n, string_whole true (Some n) (static_name (spaces n)) head (spaces n) is.0 (some_string true n))
numbered_opens limit major.Array zero head simple is =
    (tree.seq (trees_of []), [], ([], refl, parts_whole (Codes limit) major.Array (Some 0) [] head [] is.0 (refl, refl)))
numbered_opens limit major.Array (suc n) head simple is =
    let x = some_item limit (array_deep limit n is.1) in
    let c = copies (Codes limit) x.0 x.1 x.2 (suc n) in
    (tree.seq (trees_of c.0), c.1, (c.0, refl, parts_whole (Codes limit) major.Array (Some (suc n)) c.0 head c.1 is.0 c.2))
numbered_opens limit major.Map zero head simple is =
    (tree.map (pairs_of []), [], ([], refl, parts_whole (IsPair (Codes limit)) major.Map (Some 0) [] head [] is.0 (refl, refl)))
numbered_opens limit major.Map (suc n) head simple is =
    let x = some_pair limit (map_deep limit n is.1) in
    let c = copies (IsPair (Codes limit)) x.0 x.1 x.2 (suc n) in
    (tree.map (pairs_of c.0), c.1, (c.0, refl, parts_whole (IsPair (Codes limit)) major.Map (Some (suc n)) c.0 head c.1 is.0 c.2))
numbered_opens limit major.Tag n head simple is =
    let k = nothing_under n head (in_range_is 2 3 n is.1) (numbered major.Tag n head is.0) in (tree.number k.0, k.1, k.2)
numbered_opens limit major.Simple n head simple is = absurd cc

pub item_placed : (limit : ℕ) → Placed (Codes limit) (item_at limit)
unfolding item_at
item_placed zero bs e fits is =
    elim (bind_err (kind_at bs) (λ h. refused fault.TooDeep bs) e is) [
      | inl w ↦ inl (kind_placed bs e w)
      | inr a ↦ inl (same_left {A = Tree × List ℕ} (record { «fault» = fault.TooDeep; left = length bs }) e a.2)
    ]
item_placed (suc limit) bs e fits is =
    elim (bind_err (head_at limit bs) (λ h. inside_at (item_at limit) h.0.«major» h.0.number h.1) e is) [
      | inl w ↦ elim (head_placed limit bs e fits w) [
        | inl at ↦ inl at
        | inr b ↦ inr (instead (Opens (NumberedHead limit)) (Opens (Codes (suc limit))) bs e.left (λ front o.
            let i = numbered_opens limit o.0.0 o.0.1 (front ++ o.1) o.2.0 o.2.1 in
            (i.0, o.1 ++ i.1, subst (Codes (suc limit) i.0) (append_assoc front o.1 i.1) i.2)) b)
      ]
      | inr a ↦
          let h = head_sound limit bs a.0.0 a.0.1 fits a.1 in
          elim (inside_placed limit (item_placed limit) a.0.0.«major» a.0.0.number h.front a.0.1 e h.fits h.part a.2) [
            | inl at ↦ inl (omega (arith, at.0, at.1, ap length h.split, length-append h.front a.0.1))
            | inr b ↦ inr (behind_a (Headed (Codes limit) h.front) (Opens (Codes (suc limit))) h.front a.0.1 bs e.left h.split (λ front c.
                opens_behind (Codes (suc limit)) h.front front c.1 c.0 c.2) b)
          ]
    ]

-- nothing begins an item
pub nothing_begun : (limit : ℕ) → 0 < limit → Opens (Codes limit) []
nothing_begun limit deep = some_item limit deep
