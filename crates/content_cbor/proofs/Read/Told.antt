-- What is refused as malformed begins no well-formed item, and all else begins one.
use Rattle.std.proofs.Common.{◌≡◌, ℕ, suc, ◌+◌, ◌-◌, ◌<◌, true, false, cond, eqb, List, [], ◌++◌, length, take, drop, Result, Ok, Err, refl, sym, ap, subst, ◌∙◌, append-nil, arith, length-append, length-drop, inl, inr}
use Rattle.std.proofs.lemmas.Bool.{cases_lt, eqb-false}
use Rattle.std.proofs.lemmas.List.{nil_from_length, take-append-drop, take_all, take_at}
use Rattle.content_tree.specs.Values.Tree.{Tree}
use Rattle.content_cbor.specs.Decoded.{StopsAt}
use Rattle.content_cbor.specs.Malformed.{is_malformed}
use Rattle.content_cbor.specs.WellFormed.{BeginsWellFormed, WellFormed}
use Rattle.content_cbor.specs.declared.decode_error.DecodeError.TheVariants as error
use Rattle.content_cbor.specs.declared.decode_error.Fault.{Fault}
use Rattle.content_cbor.specs.declared.decode_error.Fault.TheVariants as fault
use Rattle.content_cbor.specs.declared.stop.Refusal.{Refusal}
use Rattle.content_cbor.specs.Inner.Steps.{refused}
use Rattle.content_cbor.specs.Inner.Reading.{item_at, whole_at}
use Rattle.content_cbor.proofs.Read.Ends.{IsEnd}
use Rattle.content_cbor.proofs.Read.Formed.{Passes, judges_item}
use Rattle.content_cbor.proofs.Read.Grows.{same_fault, true_false}
use Rattle.content_cbor.proofs.Read.GrowsItems.{item_grown}
use Rattle.content_cbor.proofs.Read.Longer.{Agrees, later, longer_item}
use Rattle.content_cbor.proofs.Read.Place.{caught, inside, left_within, read_both, still_refused}
use Rattle.content_cbor.proofs.Read.Shrinks.{advances_item, shorter}
use Rattle.content_cbor.proofs.Read.Steps.{bind_err, chosen, ok_is, same_left}
use Rattle.content_cbor.proofs.Read.Took.{IsBytes}

-- what is malformed has not ended
positive : (e : Refusal) → IsEnd e → is_malformed e.«fault» ≡ true → 0 < e.left
positive e end bad =
    elim (cases_lt 0 e.left) [
      | inl some ↦ some
      | inr none ↦ let no : is_malformed fault.Ended ≡ true = subst (λ f. is_malformed f ≡ true) (end.1 (omega (arith, none))) bad in absurd cc
    ]

plain_and_bad : (f g : Fault) → f ≡ g → is_malformed f ≡ false → is_malformed g ≡ true → ⊥
plain_and_bad f g same plain bad = let no : false ≡ true = sym plain ∙ ap is_malformed same ∙ bad in absurd cc

pub not_formed : (limit : ℕ) (bs : List ℕ) (e : Refusal) (at : ℕ) → item_at limit bs ≡ Err e → is_malformed e.«fault» ≡ true → at ≡ length bs - e.left
    → BeginsWellFormed (take (at + 1) bs) → ⊥
not_formed limit bs e at is bad place begins =
    let front : List ℕ = take (at + 1) bs in
    let more : List ℕ = drop (at + 1) bs in
    let rest : List ℕ = begins.1 in
    let past : length more < e.left =
    omega (arith, length-drop (at + 1) bs, place, positive e (inside limit bs e is).0 bad, left_within limit bs e is) in
    let c = caught more e (item_at limit front) (item_at limit (front ++ more)) (longer_item limit front more) (ap (item_at limit) (take-append-drop (at + 1) bs) ∙ is) past in
    let again : item_at limit (front ++ rest) ≡ Err (later (length rest) c.0) =
    still_refused rest c.0 (item_at limit front) (item_at limit (front ++ rest)) (longer_item limit front rest) c.1 c.2 in
    let plain : Passes {A = Tree} (Err (later (length rest) c.0)) [] =
    subst (λ r. Passes r []) (ap (item_at limit) (append-nil (front ++ rest)) ∙ again) (judges_item limit begins.0 (front ++ rest) [] begins.2) in
    plain_and_bad c.0.«fault» e.«fault» c.3 plain bad

-- what is read with bytes behind it was read before they end
read_there : (more rest : List ℕ) (t : Tree) (r longer : Result (Tree × List ℕ) Refusal) → Agrees more r longer → longer ≡ Ok (t, rest) → length more < length rest
    → (x : Tree × List ℕ) × (r ≡ Ok x) × (0 < length x.1)
read_there more rest t (Ok x) longer agrees is past =
    let same : (x.0, x.1 ++ more) ≡ (t, rest) = ok_is (x.0, x.1 ++ more) (t, rest) (sym agrees ∙ is) in
    (x, refl, omega (arith, past, ap (λ (p : Tree × List ℕ). length p.1) same, length-append x.1 more))
read_there more rest t (Err d) longer (inl w) is past =
    let less : length rest < length more = shorter (length more) longer (t, rest) is w.1 in absurd (omega (arith, past, less))
read_there more rest t (Err d) longer (inr w) is past = absurd (read_both (t, rest) (later (length more) d) longer is w)

read_further : (more : List ℕ) (x : Tree × List ℕ) (r longer : Result (Tree × List ℕ) Refusal) → Agrees more r longer → r ≡ Ok x → longer ≡ Ok (x.0, x.1 ++ more)
read_further more x (Ok y) longer agrees is = let same : y ≡ x = ok_is y x is in subst (λ (p : Tree × List ℕ). longer ≡ Ok (p.0, p.1 ++ more)) same agrees
read_further more x (Err d) longer agrees is = absurd cc

behind_not_formed : (limit : ℕ) (bs : List ℕ) (t : Tree) (behind : List ℕ) (at : ℕ) → item_at limit bs ≡ Ok (t, behind) → 0 < length behind → at ≡ length bs - length behind
    → BeginsWellFormed (take (at + 1) bs) → ⊥
behind_not_formed limit bs t behind at is some place begins =
    let front : List ℕ = take (at + 1) bs in
    let more : List ℕ = drop (at + 1) bs in
    let rest : List ℕ = begins.1 in
    let fewer : length behind < length bs = shorter (length bs) (item_at limit bs) (t, behind) is (advances_item limit bs) in
    let past : length more < length behind = omega (arith, length-drop (at + 1) bs, place, some, fewer) in
    let c = read_there more behind t (item_at limit front) (item_at limit (front ++ more)) (longer_item limit front more) (ap (item_at limit) (take-append-drop (at + 1) bs) ∙ is) past in
    let again : item_at limit (front ++ rest) ≡ Ok (c.0.0, c.0.1 ++ rest) =
    read_further rest c.0 (item_at limit front) (item_at limit (front ++ rest)) (longer_item limit front rest) c.1 in
    let none : c.0.1 ++ rest ≡ [] =
    subst (λ r. Passes r []) (ap (item_at limit) (append-nil (front ++ rest)) ∙ again) (judges_item limit begins.0 (front ++ rest) [] begins.2) in
    omega (arith, c.2, ap length none, length-append c.0.1 rest)

pub whole_not_formed : (limit : ℕ) (bs : List ℕ) (e : Refusal) (at : ℕ) → whole_at limit bs ≡ Err e → is_malformed e.«fault» ≡ true → at ≡ length bs - e.left
    → BeginsWellFormed (take (at + 1) bs) → ⊥
unfolding whole_at
whole_not_formed limit bs e at is bad place begins =
    elim (bind_err (item_at limit bs) (λ x. cond (eqb (length x.1) 0) (Ok x.0) (refused fault.Trailing x.1)) e is) [
      | inl w ↦ not_formed limit bs e at w bad place begins
      | inr a ↦ elim (chosen (eqb (length a.0.1) 0) (Ok a.0.0) (refused fault.Trailing a.0.1) (Err e) a.2) [
        | inl w ↦ absurd cc
        | inr w ↦
            let some : 0 < length a.0.1 = omega (arith, eqb-false (length a.0.1) 0 w.0) in
            let left : length a.0.1 ≡ e.left = same_left {A = Tree} (record { «fault» = fault.Trailing; left = length a.0.1 }) e w.1 in
            behind_not_formed limit bs a.0.0 a.0.1 at a.1 some (omega (arith, place, left)) begins
      ]
    ]

-- ---- what is not malformed

item_begins : (limit : ℕ) (bs : List ℕ) (e : Refusal) (at : ℕ) → IsBytes bs → item_at limit bs ≡ Err e → is_malformed e.«fault» ≡ false → at ≡ length bs - e.left
    → BeginsWellFormed (take (at + 1) bs)
item_begins limit bs e at fits is plain place =
    let b = item_grown limit bs e fits is plain in
    let long = ap length b.split in
    let parts = length-append b.front b.behind in
    let same : take (at + 1) bs ≡ b.front =
    elim (cases_lt 0 e.left) [
      | inl some ↦
          let front : length b.front ≡ at + 1 = omega (arith, some, place, left_within limit bs e is, long, parts, b.last) in
          ap (take (at + 1)) b.split ∙ take_at b.front b.behind (at + 1) front
      | inr none ↦
          let nothing : b.behind ≡ [] = nil_from_length b.behind (omega (arith, none, b.last)) in
          take_all (at + 1) bs (omega (arith, place, none)) ∙ b.split ∙ ap (λ t. b.front ++ t) nothing ∙ append-nil b.front
    ] in
    (suc (suc limit), b.opens.0, subst (λ t. WellFormed (suc (suc limit)) (t ++ b.opens.0)) (sym same) b.opens.1)

whole_begins : (limit : ℕ) (bs : List ℕ) (e : Refusal) (at : ℕ) → IsBytes bs → whole_at limit bs ≡ Err e → is_malformed e.«fault» ≡ false → at ≡ length bs - e.left
    → BeginsWellFormed (take (at + 1) bs)
unfolding whole_at
whole_begins limit bs e at fits is plain place =
    elim (bind_err (item_at limit bs) (λ x. cond (eqb (length x.1) 0) (Ok x.0) (refused fault.Trailing x.1)) e is) [
      | inl w ↦ item_begins limit bs e at fits w plain place
      | inr a ↦ elim (chosen (eqb (length a.0.1) 0) (Ok a.0.0) (refused fault.Trailing a.0.1) (Err e) a.2) [
        | inl w ↦ absurd cc
        | inr w ↦ absurd (true_false (same_fault {A = Tree} (record { «fault» = fault.Trailing; left = length a.0.1 }) e w.1 plain))
      ]
    ]

-- the same of an answer's fault and place
pub told_front : (limit : ℕ) (bs : List ℕ) (at : ℕ) (f : Fault) → StopsAt bs (error.Refused at f) (item_at limit bs) → is_malformed f ≡ true → BeginsWellFormed (take (at + 1) bs) → ⊥
told_front limit bs at f stops bad begins = not_formed limit bs (record { «fault» = f; left = stops.0 }) at stops.1 bad stops.2 begins

pub told_whole : (limit : ℕ) (bs : List ℕ) (at : ℕ) (f : Fault) → StopsAt bs (error.Refused at f) (whole_at limit bs) → is_malformed f ≡ true → BeginsWellFormed (take (at + 1) bs) → ⊥
told_whole limit bs at f stops bad begins = whole_not_formed limit bs (record { «fault» = f; left = stops.0 }) at stops.1 bad stops.2 begins

pub begun_front : (limit : ℕ) (bs : List ℕ) (at : ℕ) (f : Fault) → IsBytes bs → StopsAt bs (error.Refused at f) (item_at limit bs) → is_malformed f ≡ false → BeginsWellFormed (take (at + 1) bs)
begun_front limit bs at f fits stops plain = item_begins limit bs (record { «fault» = f; left = stops.0 }) at fits stops.1 plain stops.2

pub begun_whole : (limit : ℕ) (bs : List ℕ) (at : ℕ) (f : Fault) → IsBytes bs → StopsAt bs (error.Refused at f) (whole_at limit bs) → is_malformed f ≡ false → BeginsWellFormed (take (at + 1) bs)
begun_whole limit bs at f fits stops plain = whole_begins limit bs (record { «fault» = f; left = stops.0 }) at fits stops.1 plain stops.2
