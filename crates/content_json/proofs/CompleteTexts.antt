-- What the rule says is read: texts.
use Rattle.std.proofs.Common.{◌≡◌, ℕ, suc, zero, ◌+◌, ◌-◌, ◌*◌, ◌<◌, ◌≤◌, inl, inr, Bool, true, false, not, List, [], ◌∷◌, ◌++◌, length, length-append, take, drop, Ok, Some, None, refl, sym, ap, subst, ◌∙◌, arith, append_assoc, append-nil, ◌==◌, nat_le, nat_lt}
use Rattle.std.specs.Prelude.{encode_utf8}
use Rattle.std.specs.Int.{is_in_range}
use Rattle.std.specs.List.{list_all, position_or_len}
use Rattle.std.specs.Str.{is_utf8}
use Rattle.std.proofs.lemmas.Bool.Decides.{eqb_tells}
use Rattle.std.proofs.lemmas.Bool.{and_parts, le-leb, leb-true, lt-ltb, ltb-false, ltb-true}
use Rattle.std.proofs.lemmas.List.{drop_at, take_at}
use Rattle.std.proofs.lemmas.Str.{is_utf8-from_IsUtf8}
use Rattle.content_tree.specs.Values.Text.{Text, static_name}
use Rattle.content_json.specs.declared.decode_error.Fault.TheVariants as fault
use Rattle.content_json.specs.Strings.{has_escape}
use Rattle.content_json.specs.Codes.{begins_with, Escapes, hex_value, is_empty, IsEscape, IsHex, IsRun, IsString, short_escape}
use Rattle.content_json.specs.Inner.Strings.{bad_first, bad_second, escape_at, hex_at, IsUnit, rest_at, run_at, run_length, string_at, unicode_at, unit_at}
use Rattle.content_json.proofs.Complete.{byte_there}
use Rattle.content_json.proofs.Runs.{truth}
use Rattle.content_json.proofs.SoundTexts.{hex_small, in_range, out_of_range, within_range}

-- a byte with no escape, as a test
not_true : (b : Bool) → not b ≡ true → b ≡ false
not_true true is = absurd (cc is)
not_true false is = refl

-- ---- runs

-- a run ends at the first byte with an escape
run_ends : (run : List ℕ) (b : ℕ) (bs : List ℕ) → list_all (λ c. not (has_escape c)) run ≡ true → has_escape b ≡ true → position_or_len has_escape (run ++ (b ∷ bs)) ≡ length run
run_ends [] b bs plain found = rw found refl
run_ends (r ∷ rs) b bs plain found =
    let h = and_parts (not (has_escape r)) (list_all (λ c. not (has_escape c)) rs) plain in
    rw (not_true (has_escape r) h.0) (ap (λ k. 1 + k) (run_ends rs b bs h.1 found) ∙ omega arith)

length_found : (xs : List ℕ) (k : ℕ) → position_or_len has_escape xs ≡ k → k < length xs → run_length xs ≡ k
length_found xs k is lt = rw (is, lt-ltb k (length xs) lt) refl

pub run_there : (run : List ℕ) (b : ℕ) (bs : List ℕ) → IsRun run → has_escape b ≡ true → run_at (run ++ (b ∷ bs)) ≡ Ok (run, b ∷ bs)
unfolding run_at
run_there run b bs is found =
    let len : run_length (run ++ (b ∷ bs)) ≡ length run = length_found (run ++ (b ∷ bs)) (length run) (run_ends run b bs is.1 found) (omega (arith, length-append run (b ∷ bs))) in
    let front : take (run_length (run ++ (b ∷ bs))) (run ++ (b ∷ bs)) ≡ run = ap (λ k. take k (run ++ (b ∷ bs))) len ∙ take_at run (b ∷ bs) (length run) refl in
    let back : drop (run_length (run ++ (b ∷ bs))) (run ++ (b ∷ bs)) ≡ b ∷ bs = ap (λ k. drop k (run ++ (b ∷ bs))) len ∙ drop_at run (b ∷ bs) (length run) refl in
    let good : is_utf8 (take (run_length (run ++ (b ∷ bs))) (run ++ (b ∷ bs))) ≡ true = ap is_utf8 front ∙ is_utf8-from_IsUtf8 run is.0 in
    rw good (λ i. Ok (front i, back i))

-- ---- escapes

hex_there : (b d : ℕ) (rest : List ℕ) → hex_value b ≡ Some d → hex_at (b ∷ rest) ≡ Ok (d, rest)
unfolding hex_at
hex_there b d rest is = rw is refl

-- the digits of a unit suit
first_suits : (is_second : Bool) (p q r s : ℕ) → q < 16 → r < 16 → s < 16 → IsUnit is_second (p * 4096 + q * 256 + r * 16 + s) → bad_first is_second p ≡ false
first_suits false p q r s hq hr hs unit = refl
first_suits true p q r s hq hr hs unit =
    let same : p ≡ 13 = omega (arith, hq, hr, hs, unit.0, unit.1) in rw same refl

second_suits : (is_second : Bool) (p q r s : ℕ) → q < 16 → r < 16 → s < 16 → IsUnit is_second (p * 4096 + q * 256 + r * 16 + s) → bad_second is_second p q ≡ false
second_suits false p q r s hq hr hs unit = elim (eqb_tells p 13) [
  | inl w ↦ elim (truth (nat_le 12 q)) [
    | inl pass ↦
        let high = leb-true 12 q pass in
        let low = unit.1 (omega (arith, w.1, hq, hr, hs)) in
        absurd (omega (arith, high, low, w.1))
    | inr miss ↦ rw (w.0, miss) refl
  ]
  | inr w ↦ rw w.0 refl
]
second_suits true p q r s hq hr hs unit =
    let same : p ≡ 13 = omega (arith, hq, hr, hs, unit.0, unit.1) in
    let high : nat_le 12 q ≡ true = le-leb 12 q (omega (arith, same, hr, hs, unit.0)) in
    rw (same, high) refl

unit_there : (is_second : Bool) (u : ℕ) (digits rest : List ℕ) → IsHex u digits → IsUnit is_second u → unit_at is_second (digits ++ rest) ≡ Ok (u, rest)
unfolding unit_at
unit_there is_second u digits rest hex unit =
    let a = hex.0 in let b = hex.1 in let c = hex.2 in let d = hex.3 in
    let p = hex.4 in let q = hex.5 in let r = hex.6 in let s = hex.7 in
    let hq = hex_small b q hex.9 in let hr = hex_small c r hex.10 in let hs = hex_small d s hex.11 in
    let kind : IsUnit is_second (p * 4096 + q * 256 + r * 16 + s) = subst (IsUnit is_second) hex.13 unit in
    rw (
      hex.12,
      hex_there a p (b ∷ c ∷ d ∷ rest) hex.8,
      first_suits is_second p q r s hq hr hs kind,
      hex_there b q (c ∷ d ∷ rest) hex.9,
      second_suits is_second p q r s hq hr hs kind,
      hex_there c r (d ∷ rest) hex.10,
      hex_there d s rest hex.11,
    ) (ap (λ k. Ok (k, rest)) (sym hex.13))

-- what is no surrogate isn't the second half of a pair
plain_unit : (c : ℕ) → c < 0x1_0000 → is_in_range 0xD800 0xDFFF c ≡ false → IsUnit false c
plain_unit c small none = (
  small,
  λ below. elim (truth (nat_lt c 0xDC00)) [
    | inl pass ↦ low c pass
    | inr miss ↦ let e : true ≡ false = sym (within_range 0xD800 0xDFFF c (high c miss) (omega (arith, below))) ∙ none in absurd (cc e)
  ],
)
  where
    low : (n : ℕ) → nat_lt n 0xDC00 ≡ true → n < 0xDC00
    low n is = ltb-true n 0xDC00 is

    high : (n : ℕ) → nat_lt n 0xDC00 ≡ false → 0xD800 ≤ n
    high n is = let le = ltb-false n 0xDC00 is in omega (arith, le)

hex_fits : (u : ℕ) (digits : List ℕ) → IsHex u digits → u < 0x1_0000
hex_fits u digits hex =
    let hp = hex_small hex.0 hex.4 hex.8 in let hq = hex_small hex.1 hex.5 hex.9 in let hr = hex_small hex.2 hex.6 hex.10 in let hs = hex_small hex.3 hex.7 hex.11 in
    omega (arith, hp, hq, hr, hs, hex.13)

unicode_there : (c : ℕ) (digits rest : List ℕ) → IsHex c digits → is_in_range 0xD800 0xDFFF c ≡ false → unicode_at (digits ++ rest) ≡ Ok (c, rest)
unfolding unicode_at
unicode_there c digits rest hex none =
    let unit = unit_there false c digits rest hex (plain_unit c (hex_fits c digits hex) none) in
    let alone : is_in_range 0xD800 0xDBFF c ≡ false = out_of_range 0xD800 0xDBFF c (λ low high. let e : true ≡ false = sym (within_range 0xD800 0xDFFF c low (omega (arith, high))) ∙ none in cc e) in
    rw (unit, alone) refl

pair_there : (u v : ℕ) (first second rest : List ℕ) → IsHex u first → IsHex v second → is_in_range 0xD800 0xDBFF u ≡ true → 0xDC00 ≤ v → v < 0xE000
    → unicode_at ((first ++ (92 ∷ 117 ∷ second)) ++ rest) ≡ Ok (0x10000 + ((u - 0xD800) * 1024 + (v - 0xDC00)), rest)
unfolding unicode_at
pair_there u v first second rest hu hv high low below =
    let range = in_range 0xD800 0xDBFF u high in
    let unit : IsUnit false u = (omega (arith, range.1), λ under. omega (arith, range.1)) in
    let one = unit_there false u first (92 ∷ 117 ∷ (second ++ rest)) hu unit in
    let two = unit_there true v second rest hv (low, below) in
    rw (append_assoc first (92 ∷ 117 ∷ second) rest, one, high, byte_there fault.Surrogate 92 (117 ∷ (second ++ rest)), byte_there fault.Surrogate 117 (second ++ rest), two) refl

-- u has no short escape
not_u : (b c : ℕ) → short_escape b ≡ Some c → (b == 117) ≡ false
not_u b c is = elim (eqb_tells b 117) [
  | inl w ↦ let e : None ≡ Some c = ap short_escape (sym w.1) ∙ is in absurd (cc e)
  | inr w ↦ w.0
]

pub escape_there : (c : ℕ) (front rest : List ℕ) → IsEscape c front → escape_at (front ++ rest) ≡ Ok (c, rest)
unfolding escape_at
escape_there c front rest (inl short) = rw (short.2, not_u short.0 c short.1, short.1) refl
escape_there c front rest (inr (inl unicode)) = rw unicode.3 (unicode_there c unicode.0 rest unicode.1 unicode.2)
escape_there c front rest (inr (inr pair)) =
    rw (pair.10, pair.9) (pair_there pair.0 pair.1 pair.2 pair.3 rest pair.4 pair.5 pair.6 pair.7 pair.8)

-- ---- texts with escapes

-- what comes after a run begins with a byte with an escape
escape_next : (ps : List (ℕ × List ℕ)) (content inside rest : List ℕ) → Escapes ps content inside → (b : ℕ) × (bs : List ℕ) × (has_escape b ≡ true) × (inside ++ (34 ∷ rest) ≡ b ∷ bs)
escape_next [] content inside rest spelled = (34, rest, refl, ap (λ l. l ++ (34 ∷ rest)) spelled.1)
escape_next (p ∷ ps) content inside rest spelled = (92, (spelled.0 ++ (p.1 ++ spelled.1)) ++ (34 ∷ rest), refl, ap (λ l. l ++ (34 ∷ rest)) spelled.7)

pub run_before : (run : List ℕ) (ps : List (ℕ × List ℕ)) (content inside rest : List ℕ) → IsRun run → Escapes ps content inside → run_at (run ++ (inside ++ (34 ∷ rest))) ≡ Ok (run, inside ++ (34 ∷ rest))
run_before run ps content inside rest is spelled =
    let next = escape_next ps content inside rest spelled in
    ap (λ l. run_at (run ++ l)) next.3 ∙ run_there run next.0 next.1 is next.2 ∙ ap (λ l. Ok (run, l)) (sym next.3)

-- each escape takes a byte at least
fewer : (ps : List (ℕ × List ℕ)) (content inside : List ℕ) → Escapes ps content inside → length ps ≤ length inside
fewer [] content inside spelled = omega arith
fewer (p ∷ ps) content inside spelled =
    let less = fewer ps spelled.2 spelled.1 spelled.5 in
    let one : length inside ≡ suc (length (spelled.0 ++ (p.1 ++ spelled.1))) = ap length spelled.7 in
    omega (arith, less, one, length-append spelled.0 (p.1 ++ spelled.1), length-append p.1 spelled.1)

regroup : (a b c d : List ℕ) → ((a ++ b) ++ c) ++ d ≡ a ++ ((b ++ c) ++ d)
regroup a b c d = append_assoc (a ++ b) c d ∙ append_assoc a b (c ++ d) ∙ ap (λ l. a ++ l) (sym (append_assoc b c d))

apart : (a b c d : List ℕ) → (a ++ (b ++ c)) ++ d ≡ a ++ (b ++ (c ++ d))
apart a b c d = append_assoc a (b ++ c) d ∙ ap (λ l. a ++ l) (append_assoc b c d)

pub rest_there : (k : ℕ) (first : List ℕ) (ps : List (ℕ × List ℕ)) (content inside rest : List ℕ) → Escapes ps content inside → length ps < k
    → rest_at k first (inside ++ (34 ∷ rest)) ≡ Ok (first ++ content, rest)
unfolding rest_at
rest_there zero first ps content inside rest spelled enough = absurd (omega (arith, enough))
rest_there (suc k) first [] content inside rest spelled enough =
    rw (spelled.0, spelled.1) (ap (λ l. Ok (l, rest)) (sym (append-nil first)))
rest_there (suc k) first (p ∷ ps) content inside rest spelled enough =
    let escape = spelled.0 in
    let more = spelled.1 in
    let tail = more ++ (34 ∷ rest) in
    let read = escape_there p.0 escape (p.1 ++ tail) spelled.3 in
    let run = run_before p.1 ps spelled.2 more rest spelled.4 spelled.5 in
    let rec = rest_there k ((first ++ encode_utf8 p.0) ++ p.1) ps spelled.2 more rest spelled.5 (omega (arith, enough)) in
    rw (spelled.7, apart escape p.1 more (34 ∷ rest), read, run) (rec ∙ ap (λ l. Ok (l, rest)) (regroup first (encode_utf8 p.0) p.1 spelled.2 ∙ ap (λ l. first ++ l) (sym spelled.6)))

-- where there are escapes no quote comes next
no_quote : (p : ℕ × List ℕ) (ps : List (ℕ × List ℕ)) (content inside rest : List ℕ) → Escapes (p ∷ ps) content inside → begins_with 34 (inside ++ (34 ∷ rest)) ≡ false
no_quote p ps content inside rest spelled = ap (λ l. begins_with 34 (l ++ (34 ∷ rest))) spelled.7

string_parts : (x : Text) (run : List ℕ) (ps : List (ℕ × List ℕ)) (content inside rest : List ℕ) → IsRun run → Escapes ps content inside
    → x ≡ record { content = run ++ content; borrowed = is_empty ps } → string_at (run ++ (inside ++ (34 ∷ rest))) ≡ Ok (x, rest)
unfolding string_at
string_parts x run [] content inside rest is spelled text =
    let read = run_before run [] content inside rest is spelled in
    let quote : begins_with 34 (inside ++ (34 ∷ rest)) ≡ true = ap (λ l. begins_with 34 (l ++ (34 ∷ rest))) spelled.1 in
    let same : static_name run ≡ x = ap static_name (sym (append-nil run) ∙ ap (λ l. run ++ l) (sym spelled.0)) ∙ sym text in
    let left : drop 1 (inside ++ (34 ∷ rest)) ≡ rest = ap (λ l. drop 1 (l ++ (34 ∷ rest))) spelled.1 in
    rw (read, quote) (λ i. Ok (same i, left i))
string_parts x run (p ∷ ps) content inside rest is spelled text =
    let read = run_before run (p ∷ ps) content inside rest is spelled in
    let few = fewer (p ∷ ps) content inside spelled in
    let enough : length (p ∷ ps) < length (inside ++ (34 ∷ rest)) = omega (arith, few, length-append inside (34 ∷ rest)) in
    let more = rest_there (length (inside ++ (34 ∷ rest))) run (p ∷ ps) content inside rest spelled enough in
    rw (read, no_quote p ps content inside rest spelled, more) (ap (λ t. Ok (t, rest)) (sym text))

-- a text and what comes after it
pub string_there : (x : Text) (front rest : List ℕ) → IsString x (34 ∷ front) → string_at (front ++ rest) ≡ Ok (x, rest)
string_there x front rest is =
    let run = is.0 in
    let inside = is.3 in
    let same : front ≡ run ++ (inside ++ (34 ∷ [])) = cc is.7 in
    ap (λ l. string_at (l ++ rest)) same ∙ ap string_at (apart run inside (34 ∷ []) rest) ∙ string_parts x run is.1 is.2 inside rest is.4 is.5 is.6
