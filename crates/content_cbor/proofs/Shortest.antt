-- No head is shorter than the one that is written.
use Rattle.std.proofs.Common.{◌≡◌, ℕ, ◌≤◌, ◌<◌, ◌^◌, List, ◌∷◌, length, inl, inr, ap, arith}
use Rattle.std.specs.Int.{to_be_bytes}
use Rattle.content_cbor.specs.Codes.{IsHead, Size, info_of, room, width_of}
use Rattle.content_cbor.specs.Codes.{Size as size}
use Rattle.content_cbor.specs.Heads.{first_byte, head}
use Rattle.content_cbor.specs.Laws.{HeadsAreShort}
use Rattle.content_cbor.specs.declared.heads.Major.{Major}
use Rattle.content_cbor.proofs.Coded.{tells}

-- how long a head is at least
record AtLeast (n len : ℕ) : Type 0 where
  one : 1 ≤ len
  two : 24 ≤ n → 2 ≤ len
  three : 2 ^ 8 ≤ n → 3 ≤ len
  five : 2 ^ 16 ≤ n → 5 ≤ len
  nine : 2 ^ 32 ≤ n → 9 ≤ len

with_size : (m : Major) (n : ℕ) (bs : List ℕ) (s : Size) → n < room s → bs ≡ first_byte m (info_of s) ∷ to_be_bytes (width_of s) n → AtLeast n (length bs)
with_size m n bs size.one less e =
    let len : length bs ≡ 2 = ap length e in
    record { one = omega (arith, len); two = λ le. omega (arith, len); three = λ le. absurd (omega (arith, le, less)); five = λ le. absurd (omega (arith, le, less)); nine = λ le. absurd (omega (arith, le, less)) }
with_size m n bs size.two less e =
    let len : length bs ≡ 3 = ap length e in
    record { one = omega (arith, len); two = λ le. omega (arith, len); three = λ le. omega (arith, len); five = λ le. absurd (omega (arith, le, less)); nine = λ le. absurd (omega (arith, le, less)) }
with_size m n bs size.four less e =
    let len : length bs ≡ 5 = ap length e in
    record { one = omega (arith, len); two = λ le. omega (arith, len); three = λ le. omega (arith, len); five = λ le. omega (arith, len); nine = λ le. absurd (omega (arith, le, less)) }
with_size m n bs size.eight less e =
    let len : length bs ≡ 9 = ap length e in
    record { one = omega (arith, len); two = λ le. omega (arith, len); three = λ le. omega (arith, len); five = λ le. omega (arith, len); nine = λ le. omega (arith, len) }

at_least : (m : Major) (n : ℕ) (bs : List ℕ) → IsHead m n bs → AtLeast n (length bs)
at_least m n bs (inl w) =
    let len : length bs ≡ 1 = ap length w.1 in
    let less : n < 24 = w.0 in
    record { one = omega (arith, len); two = λ le. absurd (omega (arith, le, less)); three = λ le. absurd (omega (arith, le, less)); five = λ le. absurd (omega (arith, le, less)); nine = λ le. absurd (omega (arith, le, less)) }
at_least m n bs (inr w) = with_size m n bs w.0 w.1 w.2

-- however it is written
pub no_shorter_head : HeadsAreShort
unfolding head
no_shorter_head m n bs is =
    let least = at_least m n bs is in
    elim (tells n 24) [
      | inl w ↦ rw w.0 least.one
      | inr v ↦ elim (tells n (2 ^ 8)) [
        | inl w ↦ rw (v.0, w.0) (least.two v.1)
        | inr u ↦ elim (tells n (2 ^ 16)) [
          | inl w ↦ rw (v.0, u.0, w.0) (least.three u.1)
          | inr t ↦ elim (tells n (2 ^ 32)) [
            | inl w ↦ rw (v.0, u.0, t.0, w.0) (least.five t.1)
            | inr w ↦ rw (v.0, u.0, t.0, w.0) (least.nine w.1)
          ]
        ]
      ]
    ]
