-- The place of a refusal.
use Rattle.std.proofs.Common.{◌≡◌, ℕ, suc, ◌+◌, ◌-◌, ◌<◌, ◌≤◌, cond, eqb, List, [], ◌∷◌, ◌++◌, length, take, drop, Result, Ok, Err, refl, sym, ap, subst, ◌∙◌, append_assoc, append-nil, arith, length-append, length-drop, inl, inr}
use Rattle.std.specs.Prelude.{◌↔◌}
use Rattle.std.proofs.lemmas.List.{take_at, take-append-drop}
use Rattle.content_tree.specs.Values.Tree.{Tree}
use Rattle.content_cbor.specs.Codes.{Codes}
use Rattle.content_cbor.specs.Decoded.{IsPlaced, IsViable, StopsAt}
use Rattle.content_cbor.specs.declared.decode_error.DecodeError.TheVariants as error
use Rattle.content_cbor.specs.declared.decode_error.Fault.TheVariants as fault
use Rattle.content_cbor.specs.declared.stop.Refusal.{Refusal}
use Rattle.content_cbor.specs.declared.stop.Stop.{Stop}
use Rattle.content_cbor.specs.declared.stop.Stop.TheVariants as stop
use Rattle.content_cbor.specs.Inner.Steps.{Fails, error_in, refused}
use Rattle.content_cbor.specs.Inner.Reading.{item_at, whole_at}
use Rattle.content_cbor.proofs.Read.Begun.{Before, Opens, at_start}
use Rattle.content_cbor.proofs.Read.Ends.{Ends, EndsWhole, IsEnd, IsInside, ends_item, ends_whole}
use Rattle.content_cbor.proofs.Read.Items.{item_placed, item_sound, nothing_begun}
use Rattle.content_cbor.proofs.Read.Longer.{Agrees, later, longer_item}
use Rattle.content_cbor.proofs.Read.Shrinks.{Leaves, advances_item, no_more}
use Rattle.content_cbor.proofs.Read.Steps.{bind_err, chosen, ok_is, same_refusal}
use Rattle.content_cbor.proofs.Read.Took.{IsBytes}
use Rattle.content_cbor.proofs.Read.Whole.{item_complete, refused_all}

-- the bytes that an item takes
pub front_coded : (limit : ℕ) (bs : List ℕ) (t : Tree) (rest : List ℕ) (n : ℕ) → IsBytes bs → item_at limit bs ≡ Ok (t, rest) → n ≡ length bs - length rest → Codes limit t (take n bs)
front_coded limit bs t rest n fits is long =
    let i = item_sound limit bs t rest fits is in
    let front : length i.front ≡ n = omega (arith, long, ap length i.split, length-append i.front rest) in
    let same : take n bs ≡ i.front = ap (take n) i.split ∙ take_at i.front rest n front in
    subst (Codes limit t) (sym same) i.part

-- ---- viable before

before_viable : (limit : ℕ) (bs : List ℕ) (left at : ℕ) → Before (Opens (Codes limit)) bs left → at ≡ length bs - left → IsViable limit (take at bs)
before_viable limit bs left at b place =
    let front : length b.front ≡ at = omega (arith, place, b.last, ap length b.split, length-append b.front b.behind) in
    let same : take at bs ≡ b.front = ap (take at) b.split ∙ take_at b.front b.behind at front in
    subst (Opens (Codes limit)) (sym same) b.opens

begun_before : (limit : ℕ) (bs : List ℕ) (e : Refusal) → IsBytes bs → item_at limit bs ≡ Err e → 0 < limit → Before (Opens (Codes limit)) bs e.left
begun_before limit bs e fits is deep =
    elim (item_placed limit bs e fits is) [
      | inl at ↦ at_start (Opens (Codes limit)) bs e.left (nothing_begun limit deep) at
      | inr b ↦ b
    ]

-- ---- not viable with one byte more

pub read_both : (x : Tree × List ℕ) (e : Refusal) (r : Result (Tree × List ℕ) Refusal) → r ≡ Ok x → r ≡ Err e → ⊥
read_both x e r is fails = absurd cc

-- what is refused before its end stays so, whatever follows
pub still_refused : (more : List ℕ) (e : Refusal) (r longer : Result (Tree × List ℕ) Refusal) → Agrees more r longer → r ≡ Err e → 0 < e.left → longer ≡ Err (later (length more) e)
still_refused more e (Ok x) longer agrees is some = absurd cc
still_refused more e (Err d) longer (inl w) is some =
    let same : d ≡ e = same_refusal {A = Tree × List ℕ} d e is in absurd (omega (arith, w.0, ap (λ (u : Refusal). u.left) same, some))
still_refused more e (Err d) longer (inr w) is some =
    let same : d ≡ e = same_refusal {A = Tree × List ℕ} d e is in w ∙ ap (λ u. Err (later (length more) u)) same

-- and what is refused was refused there already, without the bytes behind the place
pub caught : (more : List ℕ) (e : Refusal) (r longer : Result (Tree × List ℕ) Refusal) → Agrees more r longer → longer ≡ Err e → length more < e.left
    → (d : Refusal) × (r ≡ Err d) × (0 < d.left) × (d.«fault» ≡ e.«fault»)
caught more e (Ok x) longer agrees is past = absurd (read_both (x.0, x.1 ++ more) e longer agrees is)
caught more e (Err d) longer (inl w) is past =
    let le : Leaves (length more) longer = no_more (length more) longer w.1 in
    absurd (omega (arith, past, subst (Leaves (length more)) is le))
caught more e (Err d) longer (inr w) is past =
    let same : later (length more) d ≡ e = same_refusal {A = Tree × List ℕ} (later (length more) d) e (sym w ∙ is) in
    (d, refl, omega (arith, past, ap (λ (u : Refusal). u.left) same), ap (λ (u : Refusal). u.«fault») same)

none_begun : (limit : ℕ) (bs : List ℕ) (e : Refusal) → item_at limit bs ≡ Err e → 0 < e.left → IsViable limit bs → ⊥
none_begun limit bs e is some g =
    let read : item_at limit (bs ++ g.1) ≡ Ok (g.0, []) = ap (item_at limit) (sym (append-nil (bs ++ g.1))) ∙ item_complete limit g.0 (bs ++ g.1) [] g.2 in
    read_both (g.0, []) (later (length g.1) e) (item_at limit (bs ++ g.1)) read
    (still_refused g.1 e (item_at limit bs) (item_at limit (bs ++ g.1)) (longer_item limit bs g.1) is some)

leaves_error : {A : Type 0} (n : ℕ) (r : Result (A × List ℕ) Refusal) (e : Refusal) → Leaves n r → r ≡ Err e → e.left ≤ n
leaves_error n r e le is = subst (Leaves n) is le

pub left_within : (limit : ℕ) (bs : List ℕ) (e : Refusal) → item_at limit bs ≡ Err e → e.left ≤ length bs
left_within limit bs e is = leaves_error (length bs) (item_at limit bs) e (no_more (length bs) (item_at limit bs) (advances_item limit bs)) is

one_more : (limit at : ℕ) (bs : List ℕ) → IsViable limit (take (at + 1) bs) → IsViable limit (take (suc at) bs)
one_more limit at bs viable = let same : at + 1 ≡ suc at = omega arith in subst (λ k. IsViable limit (take k bs)) same viable

dead : (limit : ℕ) (bs : List ℕ) (e : Refusal) (at : ℕ) → item_at limit bs ≡ Err e → at ≡ length bs - e.left → at < length bs → IsViable limit (take (suc at) bs) → ⊥
dead limit bs e at is place before viable =
    let front : List ℕ = take (suc at) bs in
    let more : List ℕ = drop (suc at) bs in
    let whole : front ++ more ≡ bs = take-append-drop (suc at) bs in
    let past : length more < e.left = omega (arith, length-drop (suc at) bs, place, before, left_within limit bs e is) in
    let c = caught more e (item_at limit front) (item_at limit (front ++ more)) (longer_item limit front more) (ap (item_at limit) whole ∙ is) past in
    none_begun limit front c.0 c.1 c.2 viable

-- what has ended has its place at the end
pub inside : (limit : ℕ) (bs : List ℕ) (e : Refusal) → item_at limit bs ≡ Err e → IsInside e
inside limit bs e is = subst (Ends {A = Tree × List ℕ}) is (ends_item limit bs)

at_end : (n : ℕ) (e : Refusal) → e.left ≤ n → IsEnd e → (e.«fault» ≡ fault.Ended) ↔ (n - e.left ≡ n)
at_end n e le end = (λ is. omega (arith, end.0 is), λ all. end.1 (omega (arith, all, le)))

-- and no item is refused behind itself
none_before : (limit : ℕ) (bs : List ℕ) (e : Refusal) (at : ℕ) → item_at limit bs ≡ Err e → (e.«fault» ≡ fault.Trailing) ↔ ((t : Tree) × Codes limit t (take at bs))
none_before limit bs e at is = (
  λ trailing. absurd ((inside limit bs e is).1 trailing),
  λ c.
      let read : item_at limit bs ≡ Ok (c.0, drop at bs) =
      ap (item_at limit) (sym (take-append-drop at bs)) ∙ item_complete limit c.0 (take at bs) (drop at bs) c.1 in
      absurd (read_both (c.0, drop at bs) e (item_at limit bs) read is),
)

placed : (limit : ℕ) (bs : List ℕ) (e : Refusal) → IsBytes bs → item_at limit bs ≡ Err e → IsPlaced limit bs (error.Refused (length bs - e.left) e.«fault»)
placed limit bs e fits is = (
  omega arith,
  λ deep. before_viable limit bs e.left (length bs - e.left) (begun_before limit bs e fits is deep) refl,
  λ before viable. dead limit bs e (length bs - e.left) is refl before (one_more limit (length bs - e.left) bs viable),
  (at_end (length bs) e (left_within limit bs e is) (inside limit bs e is).0, none_before limit bs e (length bs - e.left) is),
)

pub item_is_placed : (limit : ℕ) (bs : List ℕ) (s : Stop) → IsBytes bs → Fails s (item_at limit bs) → IsPlaced limit bs (error_in bs s)
item_is_placed limit bs stop.OutOfMemory fits is = tt
item_is_placed limit bs (stop.Refused e) fits is = placed limit bs e fits is

-- ---- bytes behind an item

two_rests : (t u : Tree) (b : ℕ) (rest : List ℕ) (r : Result (Tree × List ℕ) Refusal) → r ≡ Ok (t, b ∷ rest) → r ≡ Ok (u, []) → ⊥
two_rests t u b rest r long short =
    let same : (t, b ∷ rest) ≡ (u, []) = ok_is (t, b ∷ rest) (u, []) (sym long ∙ short) in
    absurd (omega (arith, ap (λ (x : Tree × List ℕ). length x.1) same))

trailing : (limit : ℕ) (bs : List ℕ) (t : Tree) (front rest : List ℕ) (at : ℕ) → Codes limit t front → bs ≡ front ++ rest → at ≡ length bs - length rest
    → (IsViable limit (take at bs)) × (at < length bs → IsViable limit (take (suc at) bs) → ⊥)
trailing limit bs t front [] at codes split place =
    let all : at ≡ length front = omega (arith, place, ap length split, length-append front []) in (
      (t, [], subst (Codes limit t) (sym (ap (λ x. x ++ []) (ap (take at) split ∙ take_at front [] at (sym all)) ∙ append-nil front)) codes),
      λ before viable. absurd (omega (arith, before, place)),
    )
trailing limit bs t front (b ∷ rest) at codes split place =
    let all : at ≡ length front = omega (arith, place, ap length split, length-append front (b ∷ rest)) in
    let one : bs ≡ (front ++ (b ∷ [])) ++ rest = split ∙ sym (append_assoc front (b ∷ []) rest) in
    let long : length (front ++ (b ∷ [])) ≡ suc at = omega (arith, all, length-append front (b ∷ [])) in
    let next : take (suc at) bs ≡ front ++ (b ∷ []) = ap (take (suc at)) one ∙ take_at (front ++ (b ∷ [])) rest (suc at) long in (
      (t, [], subst (Codes limit t) (sym (ap (λ x. x ++ []) (ap (take at) split ∙ take_at front (b ∷ rest) at (sym all)) ∙ append-nil front)) codes),
      λ before viable.
          let u = viable.0 in
          let more = viable.1 in
          let same : take (suc at) bs ++ more ≡ front ++ (b ∷ more) = ap (λ x. x ++ more) next ∙ append_assoc front (b ∷ []) more in
          let short : item_at limit (take (suc at) bs ++ more) ≡ Ok (u, []) =
          ap (item_at limit) (sym (append-nil (take (suc at) bs ++ more))) ∙ item_complete limit u (take (suc at) bs ++ more) [] viable.2 in
          two_rests t u b more (item_at limit (take (suc at) bs ++ more)) (ap (item_at limit) same ∙ item_complete limit t front (b ∷ more) codes) short,
    )

whole_placed : (limit : ℕ) (bs : List ℕ) (e : Refusal) → IsBytes bs → whole_at limit bs ≡ Err e → IsPlaced limit bs (error.Refused (length bs - e.left) e.«fault»)
unfolding whole_at
whole_placed limit bs e fits is =
    elim (bind_err (item_at limit bs) (λ x. cond (eqb (length x.1) 0) (Ok x.0) (refused fault.Trailing x.1)) e is) [
      | inl w ↦ placed limit bs e fits w
      | inr a ↦ elim (chosen (eqb (length a.0.1) 0) (Ok a.0.0) (refused fault.Trailing a.0.1) (Err e) a.2) [
        | inl w ↦ absurd cc
        | inr w ↦
            let i = item_sound limit bs a.0.0 a.0.1 fits a.1 in
            let same = same_refusal {A = Tree} (record { «fault» = fault.Trailing; left = length a.0.1 }) e w.1 in
            let t = trailing limit bs a.0.0 i.front a.0.1 (length bs - e.left) i.part i.split (ap (λ (u : Refusal). length bs - u.left) (sym same)) in
            let le : e.left ≤ length bs = omega (arith, ap length i.split, length-append i.front a.0.1, ap (λ (u : Refusal). u.left) same) in
            let end : IsEnd e = subst EndsWhole is (ends_whole limit bs) in
            let codes : Codes limit a.0.0 (take (length bs - e.left) bs) =
            front_coded limit bs a.0.0 a.0.1 (length bs - e.left) fits a.1 (ap (λ (u : Refusal). length bs - u.left) (sym same)) in (
              omega arith,
              λ deep. t.0,
              λ before viable. t.1 before (one_more limit (length bs - e.left) bs viable),
              (at_end (length bs) e le end, (λ behind. (a.0.0, codes), λ c. ap (λ (u : Refusal). u.«fault») (sym same))),
            )
      ]
    ]

pub whole_is_placed : (limit : ℕ) (bs : List ℕ) (s : Stop) → IsBytes bs → Fails s (whole_at limit bs) → IsPlaced limit bs (error_in bs s)
whole_is_placed limit bs stop.OutOfMemory fits is = tt
whole_is_placed limit bs (stop.Refused e) fits is = whole_placed limit bs e fits is

-- the fault with which reading ends
pub stops : {A : Type 0} (bs : List ℕ) (s : Stop) (read : Result A Refusal) → Fails s read → StopsAt bs (error_in bs s) read
stops bs stop.OutOfMemory read is = tt
stops bs (stop.Refused e) read is = (e.left, is, refl)

-- where some tree is coded, reading ends for want of memory alone
pub no_memory : (limit : ℕ) (bs : List ℕ) (s : Stop) (t : Tree) → Fails s (whole_at limit bs) → Codes limit t bs → error_in bs s ≡ error.OutOfMemory
no_memory limit bs stop.OutOfMemory t is codes = refl
no_memory limit bs (stop.Refused e) t is codes = absurd (refused_all limit bs (stop.Refused e) e refl is t codes)

pub no_memory_in_front : (limit : ℕ) (bs front rest : List ℕ) (s : Stop) (t : Tree) → bs ≡ front ++ rest → Fails s (item_at limit bs) → Codes limit t front
    → error_in bs s ≡ error.OutOfMemory
no_memory_in_front limit bs front rest stop.OutOfMemory t split is codes = refl
no_memory_in_front limit bs front rest (stop.Refused e) t split is codes =
    absurd (read_both (t, rest) e (item_at limit bs) (ap (item_at limit) split ∙ item_complete limit t front rest codes) is)

-- ---- an item at the front

pub front_is : (limit : ℕ) (bs : List ℕ) (t u : Tree) (rest front behind : List ℕ) (n : ℕ) → item_at limit bs ≡ Ok (t, rest) → n ≡ length bs - length rest
    → Codes limit u front → bs ≡ front ++ behind → (t ≡ u) × (n ≡ length front)
front_is limit bs t u rest front behind n is long codes split =
    let read : item_at limit bs ≡ Ok (u, behind) = ap (item_at limit) split ∙ item_complete limit u front behind codes in
    let same : (t, rest) ≡ (u, behind) = ok_is (t, rest) (u, behind) (sym is ∙ read) in
    (ap (λ (x : Tree × List ℕ). x.0) same, omega (arith, long, ap (λ (x : Tree × List ℕ). length x.1) same, ap length split, length-append front behind))
