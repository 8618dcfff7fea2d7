-- The limit that a line sets.
use Rattle.std.proofs.Common.{◌≡◌, ℕ, ◌≤◌, Bool, true, false, cond, nat_lt, List, Option, Some}
use Rattle.std.proofs.Common.{None, refl, option_and_then, length, not, arith}
use Rattle.std.proofs.lemmas.Bool.{ltb-true, ltb-false}
use Rattle.std.proofs.lemmas.List.Sums.{prefix_len-le-length}
use Rattle.serde_content.specs.Names.Words.{IsLimit}
use Rattle.content_lines.specs.Lines.{is_line_feed}
use Rattle.content_lines.specs.Numerals.{natural_of}
use Rattle.content_lines.specs.Words.{limit_in, limit_of_parts, positive_of, word_of, rest_of}
use Rattle.content_lines.specs.Forms.{is_printable}
use Rattle.std.specs.Prelude.{codes}
use Rattle.std.specs.Str.{bytes_eq}
use Rattle.std.specs.List.{list_all, position, position_or_len}

if_limit : (b : Bool) (o : Option ℕ) → IsLimit o → IsLimit (cond b o None)
if_limit true o l = l
if_limit false o l = tt

number_limit : (n : ℕ) (b : Bool) → nat_lt 0 n ≡ b → IsLimit (cond b (Some n) None)
number_limit n true e = ltb-true 0 n e
number_limit n false e = tt

any_limit : (o : Option ℕ) → IsLimit (option_and_then (λ n. cond (nat_lt 0 n) (Some n) None) o)
any_limit None = tt
any_limit (Some n) = number_limit n (nat_lt 0 n) refl

parts_limit : (w : List ℕ) (r : Option (List ℕ)) → IsLimit (limit_of_parts w r)
parts_limit w None = tt
parts_limit w (Some t) = if_limit (bytes_eq w (codes "limit")) (positive_of t) (any_limit (natural_of 64 t))

-- a line sets no limit below 1
pub line_limit : (line : List ℕ) → IsLimit (limit_in line)
line_limit line = if_limit (list_all is_printable line) (limit_of_parts (word_of line) (rest_of line)) (parts_limit (word_of line) (rest_of line))

first_cases : (n size : ℕ) (b : Bool) → nat_lt n size ≡ b → n ≤ size → (k : ℕ) → cond b (Some n) None ≡ Some k → n ≡ k
first_cases n size true e l k h = cc
first_cases n size false e l k h = absurd (cc)

none_cases : (n size : ℕ) (b : Bool) → nat_lt n size ≡ b → n ≤ size → cond b (Some n) None ≡ None → n ≡ size
none_cases n size true e l h = absurd (cc)
none_cases n size false e l h = let m = ltb-false n size e in omega arith

-- where the first line feed is
pub feed_at : (input : List ℕ) (k : ℕ) → position is_line_feed input ≡ Some k → position_or_len is_line_feed input ≡ k
feed_at input k h = first_cases (position_or_len is_line_feed input) (length input) _ refl (prefix_len-le-length (λ b. not (is_line_feed b)) input) k h

-- where nothing is found, all comes before it
pub none_found : (p : ℕ → Bool) (xs : List ℕ) → position p xs ≡ None → position_or_len p xs ≡ length xs
none_found p xs h = none_cases (position_or_len p xs) (length xs) _ refl (prefix_len-le-length (λ b. not (p b)) xs) h
