-- Texts that are read are what the rule says.
use Rattle.std.proofs.Common.{◌≡◌, ℕ, suc, zero, ◌+◌, ◌-◌, ◌*◌, ◌<◌, ◌≤◌, inl, inr, Bool, true, false, List, [], ◌∷◌, ◌++◌, length, drop, Ok, Option, Some, None, refl, sym, ap, subst, ◌∙◌, arith, append_assoc, append-nil, nat_le}
use Rattle.std.specs.Prelude.{encode_utf8}
use Rattle.std.specs.Int.{is_in_range}
use Rattle.std.proofs.lemmas.Bool.Decides.{eqb_tells}
use Rattle.std.proofs.lemmas.Bool.{and_from, and_parts, le-leb, leb-true, leb-false}
use Rattle.content_tree.specs.Values.Text.{Text, owned_text, static_name}
use Rattle.content_json.specs.declared.decode_error.Fault.TheVariants as fault
use Rattle.content_json.specs.Codes.{begins_with, Escapes, hex_value, is_empty, IsEscape, IsHex, IsString, short_escape}
use Rattle.content_json.specs.Inner.Steps.{or_refused, refused}
use Rattle.content_json.specs.Inner.Strings.{bad_first, bad_second, byte_at, escape_at, hex_at, IsUnit, rest_at, run_at, string_at, unicode_at, unit_at}
use Rattle.content_json.proofs.Runs.{truth}
use Rattle.content_json.proofs.Sound.{bound, byte_read, done, hex_read, next_read, run_read, same_ok}

-- a number of a range
pub in_range : (lo hi n : ℕ) → is_in_range lo hi n ≡ true → (lo ≤ n) × (n ≤ hi)
in_range lo hi n is = let h = and_parts (nat_le lo n) (nat_le n hi) is in (leb-true lo n h.0, leb-true n hi h.1)

pub within_range : (lo hi n : ℕ) → lo ≤ n → n ≤ hi → is_in_range lo hi n ≡ true
within_range lo hi n low high = and_from (nat_le lo n) (nat_le n hi) (le-leb lo n low) (le-leb n hi high)

-- what isn't in a range
pub out_of_range : (lo hi n : ℕ) → ((lo ≤ n) → (n ≤ hi) → ⊥) → is_in_range lo hi n ≡ false
out_of_range lo hi n none = elim (truth (is_in_range lo hi n)) [
  | inl pass ↦ let h = in_range lo hi n pass in absurd (none h.0 h.1)
  | inr miss ↦ miss
]

-- a hexadecimal digit is below 16
pub hex_small : (b d : ℕ) → hex_value b ≡ Some d → d < 16
hex_small b d is = elim (truth (is_in_range 48 57 b)) [
  | inl pass ↦ let e : Some (b - 48) ≡ Some d = rw pass at is in let same : b - 48 ≡ d = cc e in let h = in_range 48 57 b pass in omega (arith, same, h.0, h.1)
  | inr one ↦ elim (truth (is_in_range 97 102 b)) [
    | inl pass ↦ let e : Some (b - 87) ≡ Some d = rw (one, pass) at is in let same : b - 87 ≡ d = cc e in let h = in_range 97 102 b pass in omega (arith, same, h.0, h.1)
    | inr two ↦ elim (truth (is_in_range 65 70 b)) [
      | inl pass ↦ let e : Some (b - 55) ≡ Some d = rw (one, two, pass) at is in let same : b - 55 ≡ d = cc e in let h = in_range 65 70 b pass in omega (arith, same, h.0, h.1)
      | inr three ↦ let e : None ≡ Some d = rw (one, two, three) at is in absurd (cc e)
    ]
  ]
]

-- the first two digits say whether it is the second half of a pair
suits : (is_second : Bool) (p q r s : ℕ) → p < 16 → q < 16 → r < 16 → s < 16 → bad_first is_second p ≡ false → bad_second is_second p q ≡ false
    → IsUnit is_second (p * 4096 + q * 256 + r * 16 + s)
suits true p q r s hp hq hr hs first second = elim (eqb_tells p 13) [
  | inl w ↦
      elim (truth (nat_le 12 q)) [
        | inl pass ↦ let h = leb-true 12 q pass in (omega (arith, h, w.1), omega (arith, hq, hr, hs, w.1))
        | inr miss ↦ let e : true ≡ false = rw (w.0, miss) at second in absurd (cc e)
      ]
  | inr w ↦ let e : true ≡ false = rw w.0 at first in absurd (cc e)
]
suits false p q r s hp hq hr hs first second = elim (eqb_tells p 13) [
  | inl w ↦
      elim (truth (nat_le 12 q)) [
        | inl pass ↦ let e : true ≡ false = rw (w.0, pass) at second in absurd (cc e)
        | inr miss ↦ let h = leb-false 12 q miss in (omega (arith, hp, hq, hr, hs), λ below. omega (arith, h, hr, hs, w.1))
      ]
  | inr w ↦ (omega (arith, hp, hq, hr, hs), λ below. let other : p < 13 = omega (arith, below, w.1, hp) in omega (arith, other, hq, hr, hs))
]

pub unit_read : (is_second : Bool) (u : ℕ) (bs rest : List ℕ) → unit_at is_second bs ≡ Ok (u, rest) → (digits : List ℕ) × IsHex u digits × IsUnit is_second u × (bs ≡ digits ++ rest)
unfolding unit_at
unit_read is_second u bs rest is =
    let ha = bound (hex_at bs) _ (u, rest) is in
    let a = hex_read ha.0.0 bs ha.0.1 ha.1 in
    elim (truth (bad_first is_second ha.0.0)) [
      | inl wrong ↦ let e : refused fault.Surrogate bs ≡ Ok (u, rest) = rw wrong at ha.2 in absurd (cc e)
      | inr first ↦
          let one = rw first at ha.2 in
          let hb = bound (hex_at ha.0.1) _ (u, rest) one in
          let b = hex_read hb.0.0 ha.0.1 hb.0.1 hb.1 in
          elim (truth (bad_second is_second ha.0.0 hb.0.0)) [
            | inl wrong ↦ let e : refused fault.Surrogate ha.0.1 ≡ Ok (u, rest) = rw wrong at hb.2 in absurd (cc e)
            | inr second ↦
                let two = rw second at hb.2 in
                let hc = bound (hex_at hb.0.1) _ (u, rest) two in
                let c = hex_read hc.0.0 hb.0.1 hc.0.1 hc.1 in
                let hd = bound (hex_at hc.0.1) _ (u, rest) hc.2 in
                let d = hex_read hd.0.0 hc.0.1 hd.0.1 hd.1 in
                let o = same_ok (ha.0.0 * 4096 + hb.0.0 * 256 + hc.0.0 * 16 + hd.0.0) u hd.0.1 rest hd.2 in
                let all : bs ≡ a.0 ∷ b.0 ∷ c.0 ∷ d.0 ∷ rest = a.2 ∙ ap (λ l. a.0 ∷ l) (b.2 ∙ ap (λ l. b.0 ∷ l) (c.2 ∙ ap (λ l. c.0 ∷ l) (d.2 ∙ ap (λ l. d.0 ∷ l) o.1))) in
                let kind = suits is_second ha.0.0 hb.0.0 hc.0.0 hd.0.0 (hex_small a.0 ha.0.0 a.1) (hex_small b.0 hb.0.0 b.1) (hex_small c.0 hc.0.0 c.1) (hex_small d.0 hd.0.0 d.1) first second in (
                  a.0 ∷ b.0 ∷ c.0 ∷ d.0 ∷ [],
                  (a.0, b.0, c.0, d.0, ha.0.0, hb.0.0, hc.0.0, hd.0.0, a.1, b.1, c.1, d.1, refl, sym o.0),
                  subst (IsUnit is_second) o.0 kind,
                  all,
                )
          ]
    ]

pub unicode_read : (c : ℕ) (bs rest : List ℕ) → unicode_at bs ≡ Ok (c, rest) → (digits : List ℕ) × IsEscape c (117 ∷ digits) × (bs ≡ digits ++ rest)
unfolding unicode_at
unicode_read c bs rest is =
    let hu = bound (unit_at false bs) _ (c, rest) is in
    let u = unit_read false hu.0.0 bs hu.0.1 hu.1 in
    elim (truth (is_in_range 0xD800 0xDBFF hu.0.0)) [
      | inl pair ↦
          let one = rw pair at hu.2 in
          let hs = bound (byte_at fault.Surrogate 92 hu.0.1) _ (c, rest) one in
          let ht = bound (byte_at fault.Surrogate 117 hs.0) _ (c, rest) hs.2 in
          let hv = bound (unit_at true ht.0) _ (c, rest) ht.2 in
          let v = unit_read true hv.0.0 ht.0 hv.0.1 hv.1 in
          let o = same_ok (0x10000 + ((hu.0.0 - 0xD800) * 1024 + (hv.0.0 - 0xDC00))) c hv.0.1 rest hv.2 in
          let left : hu.0.1 ≡ 92 ∷ 117 ∷ (v.0 ++ rest) =
          byte_read fault.Surrogate 92 hu.0.1 hs.0 hs.1 ∙ ap (λ l. 92 ∷ l) (byte_read fault.Surrogate 117 hs.0 ht.0 ht.1 ∙ ap (λ l. 117 ∷ l) (v.3 ∙ ap (λ l. v.0 ++ l) o.1)) in (
            u.0 ++ (92 ∷ 117 ∷ v.0),
            inr (inr (hu.0.0, hv.0.0, u.0, v.0, u.1, v.1, pair, v.2.0, v.2.1, sym o.0, refl)),
            u.3 ∙ ap (λ l. u.0 ++ l) left ∙ sym (append_assoc u.0 (92 ∷ 117 ∷ v.0) rest),
          )
      | inr alone ↦
          let one : done (hu.0.0, hu.0.1) ≡ done (c, rest) = rw alone at hu.2 in
          let o = same_ok hu.0.0 c hu.0.1 rest one in
          let none : is_in_range 0xD800 0xDFFF hu.0.0 ≡ false = out_of_range 0xD800 0xDFFF hu.0.0 (λ low high. no_half hu.0.0 u.2 alone low high) in (
            u.0,
            inr (inl (u.0, subst (λ k. IsHex k u.0) o.0 u.1, subst (λ k. is_in_range 0xD800 0xDFFF k ≡ false) o.0 none, refl)),
            u.3 ∙ ap (λ l. u.0 ++ l) o.1,
          )
    ]
  where
    no_half : (n : ℕ) → IsUnit false n → is_in_range 0xD800 0xDBFF n ≡ false → 0xD800 ≤ n → n ≤ 0xDFFF → ⊥
    no_half n unit alone low high =
        let first : n < 0xDC00 = unit.1 (omega (arith, high)) in
        let both : is_in_range 0xD800 0xDBFF n ≡ true = within_range 0xD800 0xDBFF n low (omega (arith, first)) in
        let e : true ≡ false = sym both ∙ alone in
        absurd (cc e)

pub escape_read : (c : ℕ) (bs rest : List ℕ) → escape_at bs ≡ Ok (c, rest) → (front : List ℕ) × IsEscape c front × (bs ≡ front ++ rest)
unfolding escape_at
escape_read c [] rest is = absurd (cc is)
escape_read c (b ∷ bs) rest is = elim (eqb_tells b 117) [
  | inl w ↦
      let one : unicode_at bs ≡ Ok (c, rest) = rw w.0 at is in
      let u = unicode_read c bs rest one in
      (117 ∷ u.0, u.1, (λ i. w.1 i ∷ u.2 i))
  | inr w ↦
      let one = rw w.0 at is in
      let h = bound (or_refused fault.Escape (b ∷ bs) (short_escape b)) (λ x. Ok (x, bs)) (c, rest) one in
      let o = same_ok h.0 c bs rest h.2 in
      (b ∷ [], inl (b, or_read (b ∷ bs) (short_escape b) h.0 h.1 ∙ ap Some o.0, refl), ap (λ l. b ∷ l) o.1)
]
  where
    or_read : (left : List ℕ) (o : Option ℕ) (x : ℕ) → or_refused fault.Escape left o ≡ Ok x → o ≡ Some x
    or_read left None x is = absurd (cc is)
    or_read left (Some y) x is = let same : y ≡ x = cc is in ap Some same

regroup : (a b c d : List ℕ) → ((a ++ b) ++ c) ++ d ≡ a ++ ((b ++ c) ++ d)
regroup a b c d = append_assoc (a ++ b) c d ∙ append_assoc a b (c ++ d) ∙ ap (λ l. a ++ l) (sym (append_assoc b c d))

pub three : (a b c d : List ℕ) → a ++ (b ++ (c ++ d)) ≡ (a ++ (b ++ c)) ++ d
three a b c d = sym (append_assoc a (b ++ c) d ∙ ap (λ l. a ++ l) (append_assoc b c d))

pub rest_read : (k : ℕ) (first bs whole rest : List ℕ) → rest_at k first bs ≡ Ok (whole, rest)
    → (ps : List (ℕ × List ℕ)) × (content inside : List ℕ) × Escapes ps content inside × (whole ≡ first ++ content) × (bs ≡ inside ++ (34 ∷ rest))
unfolding rest_at
rest_read zero first bs whole rest is = absurd (cc is)
rest_read (suc k) first bs whole rest is = elim (truth (begins_with 34 bs)) [
  | inl quote ↦
      let one : done (first, drop 1 bs) ≡ done (whole, rest) = rw quote at is in
      let o = same_ok first whole (drop 1 bs) rest one in
      ([], [], [], (refl, refl), sym o.0 ∙ sym (append-nil first), next_read 34 bs quote ∙ ap (λ l. 34 ∷ l) o.1)
  | inr plain ↦
      let one = rw plain at is in
      elim (truth (begins_with 92 bs)) [
        | inl slash ↦
            let two = rw slash at one in
            let hc = bound (escape_at (drop 1 bs)) _ (whole, rest) two in
            let c = escape_read hc.0.0 (drop 1 bs) hc.0.1 hc.1 in
            let hr = bound (run_at hc.0.1) _ (whole, rest) hc.2 in
            let r = run_read hc.0.1 hr.0.0 hr.0.1 hr.1 in
            let more = rest_read k ((first ++ encode_utf8 hc.0.0) ++ hr.0.0) hr.0.1 whole rest hr.2 in
            let left : bs ≡ 92 ∷ (c.0 ++ (hr.0.0 ++ (more.2 ++ (34 ∷ rest)))) =
            next_read 92 bs slash ∙ ap (λ l. 92 ∷ l) (c.2 ∙ ap (λ l. c.0 ++ l) (r.1 ∙ ap (λ l. hr.0.0 ++ l) more.5)) in (
              (hc.0.0, hr.0.0) ∷ more.0,
              (encode_utf8 hc.0.0 ++ hr.0.0) ++ more.1,
              92 ∷ (c.0 ++ (hr.0.0 ++ more.2)),
              (c.0, more.2, more.1, c.1, r.0, more.3, refl, refl),
              more.4 ∙ regroup first (encode_utf8 hc.0.0) hr.0.0 more.1,
              left ∙ ap (λ l. 92 ∷ l) (three c.0 hr.0.0 more.2 (34 ∷ rest)),
            )
        | inr other ↦ let two : refused fault.Control bs ≡ Ok (whole, rest) = rw other at one in absurd (cc two)
      ]
]

-- a text with an escape is owned
owned_is : (ps : List (ℕ × List ℕ)) (content inside bs rest : List ℕ) (whole : List ℕ) → Escapes ps content inside → begins_with 34 bs ≡ false → bs ≡ inside ++ (34 ∷ rest)
    → owned_text whole ≡ record { content = whole; borrowed = is_empty ps }
owned_is [] content inside bs rest whole spelled plain is =
    let e : true ≡ false = ap (λ l. begins_with 34 (l ++ (34 ∷ rest))) (sym spelled.1) ∙ ap (begins_with 34) (sym is) ∙ plain in absurd (cc e)
owned_is (p ∷ ps) content inside bs rest whole spelled plain is = refl

pub string_read : (x : Text) (bs rest : List ℕ) → string_at bs ≡ Ok (x, rest) → (front : List ℕ) × IsString x (34 ∷ front) × (bs ≡ front ++ rest)
unfolding string_at
string_read x bs rest is =
    let hr = bound (run_at bs) _ (x, rest) is in
    let run = hr.0.0 in
    let r = run_read bs run hr.0.1 hr.1 in
    elim (truth (begins_with 34 hr.0.1)) [
      | inl quote ↦
          let one : done (static_name run, drop 1 hr.0.1) ≡ done (x, rest) = rw quote at hr.2 in
          let o = same_ok (static_name run) x (drop 1 hr.0.1) rest one in (
            run ++ (34 ∷ []),
            (run, [], [], [], r.0, (refl, refl), sym o.0 ∙ ap static_name (sym (append-nil run)), refl),
            r.1 ∙ ap (λ l. run ++ l) (next_read 34 hr.0.1 quote ∙ ap (λ l. 34 ∷ l) o.1) ∙ sym (append_assoc run (34 ∷ []) rest),
          )
      | inr plain ↦
          let one = rw plain at hr.2 in
          let hw = bound (rest_at (length hr.0.1) run hr.0.1) (λ w. Ok (owned_text w.0, w.1)) (x, rest) one in
          let w = rest_read (length hr.0.1) run hr.0.1 hw.0.0 hw.0.1 hw.1 in
          let o = same_ok (owned_text hw.0.0) x hw.0.1 rest hw.2 in (
            run ++ (w.2 ++ (34 ∷ [])),
            (
              run,
              w.0,
              w.1,
              w.2,
              r.0,
              w.3,
              sym o.0 ∙ owned_is w.0 w.1 w.2 hr.0.1 hw.0.1 hw.0.0 w.3 plain w.5 ∙ ap (λ t. record { content = t; borrowed = is_empty w.0 }) w.4,
              refl,
            ),
            r.1 ∙ ap (λ l. run ++ l) (w.5 ∙ ap (λ l. w.2 ++ (34 ∷ l)) o.1) ∙ three run w.2 (34 ∷ []) rest,
          )
    ]
