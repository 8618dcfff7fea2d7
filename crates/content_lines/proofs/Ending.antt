-- The lines of a text, of which the last need not be ended.
use Rattle.std.proofs.Common.{◌≡◌, ℕ, ◌+◌, ◌-◌, ◌<◌, List, [], ◌∷◌, length, take, drop, Some, None}
use Rattle.std.proofs.Common.{false, cond, refl, sym, ap, subst, ◌∙◌, arith}
use Rattle.std.proofs.lemmas.List.{take_rest}
use Rattle.std.proofs.lemmas.List.Quantifiers.{position-Some}
use Rattle.std.proofs.lemmas.List.Splits.{slice_split_first, slice_split_none, length-slice_split}
use Rattle.std.proofs.lemmas.List.Sums.{fails_before_first}
use Rattle.std.specs.List.{position, position_or_len}
use Rattle.content_lines.specs.Lines.{is_line_feed, is_blank, lines_of, each_line, without_last_blank}
use Rattle.content_lines.proofs.Limiting.{feed_at, none_found}

-- a line before others stays
before_others : (line : List ℕ) (lines : List (List ℕ)) → 0 < length lines → without_last_blank (line ∷ lines) ≡ line ∷ without_last_blank lines
before_others line [] some = absurd (omega (arith, some))
before_others line (next ∷ lines) some = refl

-- a text has a line at least
some_line : (text : List ℕ) → 0 < length (lines_of text)
some_line text = let size = length-slice_split is_line_feed text in omega (arith, size)

-- the first line feed ends the first line
pub first_cut : (text : List ℕ) (k : ℕ) → position is_line_feed text ≡ Some k → each_line text ≡ take k text ∷ each_line (take (length text - (k + 1)) (drop (k + 1) text))
first_cut text k h =
    let at = feed_at text k h in
    let less : position_or_len is_line_feed text < length text = let f = position-Some is_line_feed text k 0 h in omega (arith, at, f.0) in
    let cut : lines_of text ≡ take k text ∷ lines_of (drop (k + 1) text) = subst (λ i. lines_of text ≡ take i text ∷ lines_of (drop (i + 1) text)) at (slice_split_first is_line_feed text 0 less) in
    ap without_last_blank cut
    ∙ before_others (take k text) (lines_of (drop (k + 1) text)) (some_line (drop (k + 1) text))
    ∙ ap (λ t. take k text ∷ each_line t) (sym (take_rest text (k + 1)))

one_line : (text : List ℕ) → 0 < length text → without_last_blank (text ∷ []) ≡ text ∷ []
one_line text some = let whole : is_blank text ≡ false = grind (arith, some) in ap (λ b. cond b [] (text ∷ [])) whole

-- where there is none, the text is one line
pub one_cut : (text : List ℕ) → position is_line_feed text ≡ None → 0 < length text → each_line text ≡ text ∷ []
one_cut text h some =
    let e = none_found is_line_feed text h in
    ap without_last_blank (slice_split_none is_line_feed text (λ k d less. fails_before_first is_line_feed text k d (omega (arith, e, less))))
    ∙ one_line text some
