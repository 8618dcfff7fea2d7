-- Texts as they are read, from the first byte on.
use Rattle.std.specs.Prelude.{ℕ, zero, suc, Bool, true, false, List, [], ◌∷◌, Ok, Result, codes, drop, length}
use Rattle.std.specs.Prelude.{if◌then◌else◌, ◌==◌, ◌||◌}
use Rattle.std.specs.Int.{is_in_range}
use Rattle.content_tree.specs.Values.Tree as tree
use Rattle.content_tree.specs.Values.Tree.{Tree}
use Rattle.content_tree.specs.Values.Value.{trees_of, pairs_of}
use Rattle.content_json.specs.Codes.{begins_with, is_blank}
use Rattle.content_json.specs.declared.decode_error.Fault.TheVariants as fault
use Rattle.content_json.specs.declared.stop.Refusal.{Refusal}
use Rattle.content_json.specs.Inner.Numbers.{number_at}
use Rattle.content_json.specs.Inner.Steps.{◌>>=◌, Reader, refused}
use Rattle.content_json.specs.Inner.Strings.{byte_at, string_at}

-- what comes after blanks
unfoldable pub after_blanks : List ℕ → List ℕ
after_blanks [] = []
after_blanks (b ∷ bs) = if is_blank b then after_blanks bs else b ∷ bs

-- the bytes of a word
unfoldable pub word_at : List ℕ → List ℕ → Result (List ℕ) Refusal
word_at [] bs = Ok bs
word_at (w ∷ ws) bs = byte_at fault.Unexpected w bs >>= λ behind. word_at ws behind

-- whether a value can begin with this byte
abbrev pub begins_value : ℕ → Bool
begins_value b =
    b == 34 || (b == 45 || (is_in_range 48 57 b || (b == 91 || (b == 123 || (b == 116 || (b == 102 || b == 110))))))

-- what comes after a part: this bracket, and no part, or a comma, and one more
unfoldable pub next_at : ℕ → Reader Bool
next_at close [] = refused fault.Unexpected []
next_at close (b ∷ bs) =
    if b == close then Ok (false, bs)
    else if b == 44 then Ok (true, after_blanks bs)
    else refused fault.Unexpected (b ∷ bs)

-- parts with commas between them, up to this bracket, and no more than so many
unfoldable pub parts_at : {A : Type 0} → ℕ → Reader A → ℕ → Reader (List A)
parts_at close part zero bs = refused fault.Ended []
parts_at close part (suc k) bs = part bs >>= λ x. next_at close (after_blanks x.1) >>= λ next.
    if next.0 then (parts_at close part k next.1 >>= λ xs. Ok (x.0 ∷ xs.0, xs.1))
    else Ok (x.0 ∷ [], next.1)

-- the parts of an array or an object after its bracket
unfoldable pub series_at : {A : Type 0} → ℕ → Reader A → Reader (List A)
series_at close part bs =
    if begins_with close (after_blanks bs) then Ok ([], drop 1 (after_blanks bs))
    else parts_at close part (length bs) (after_blanks bs)

-- a key, a colon and a value
unfoldable pub member_at : Reader Tree → Reader (Tree × Tree)
member_at part bs = byte_at fault.Unexpected 34 bs >>= λ inside. string_at inside >>= λ k.
    byte_at fault.Unexpected 58 (after_blanks k.1) >>= λ behind.
    part (after_blanks behind) >>= λ v. Ok ((tree.text k.0, v.0), v.1)

-- what holds no part, by its first byte
unfoldable pub leaf_at : ℕ → Reader Tree
leaf_at b bs =
    if b == 34 then (byte_at fault.Unexpected 34 bs >>= λ inside. string_at inside >>= λ x. Ok (tree.text x.0, x.1))
    else if b == 45 then (byte_at fault.Unexpected 45 bs >>= λ behind. number_at true behind >>= λ n. Ok (tree.number n.0, n.1))
    else if b == 116 then (word_at (codes "true") bs >>= λ behind. Ok (tree.boolean true, behind))
    else if b == 102 then (word_at (codes "false") bs >>= λ behind. Ok (tree.boolean false, behind))
    else if b == 110 then (word_at (codes "null") bs >>= λ behind. Ok (tree.absent, behind))
    else number_at false bs >>= λ n. Ok (tree.number n.0, n.1)

-- a value within a limit
unfoldable pub value_at : ℕ → Reader Tree
value_at limit [] = refused fault.Unexpected []
value_at zero (b ∷ bs) = if begins_value b then refused fault.TooDeep (b ∷ bs) else refused fault.Unexpected (b ∷ bs)
value_at (suc limit) (b ∷ bs) =
    if b == 91 then (series_at 93 (value_at limit) bs >>= λ xs. Ok (tree.seq (trees_of xs.0), xs.1))
    else if b == 123 then (series_at 125 (member_at (value_at limit)) bs >>= λ xs. Ok (tree.map (pairs_of xs.0), xs.1))
    else leaf_at b (b ∷ bs)

-- one value with blanks around it, and nothing after it
unfoldable pub whole_at : ℕ → List ℕ → Result Tree Refusal
whole_at limit bs = value_at limit (after_blanks bs) >>= λ x.
    if length (after_blanks x.1) == 0 then Ok x.0 else refused fault.Trailing (after_blanks x.1)
