-- Lists that are being printed on several lines, part by part.
use Rattle.std.proofs.Common.{◌≡◌, ◌<◌, ◌≤◌, ℕ, zero, suc, ◌+◌, ◌-◌, arith, refl, List, [], ◌∷◌, ◌++◌, codes, drop, length}
use Rattle.std.proofs.Common.{sym, ap, ◌∙◌, append_assoc, false}
use Rattle.content_tree.proofs.Images.{value_image, items_image, pairs_image, fields_image}
use Rattle.content_tree.specs.Printed.Pretty.{line, indent, pretty, pretty_list, pretty_pairs, pretty_fields}
use Rattle.content_tree.specs.Printed.Pretty.{is_short, are_short_pairs, are_short_fields}
use Rattle.content_tree.specs.Values.Text.{text_content}
use Rattle.content_tree.specs.declared.cow.CowStr.{CowStr}
use Rattle.content_tree.specs.declared.value.NamedValue.{NamedValue}

-- one more item
pub next_item : (n : ℕ) (done lead : List ℕ) (xs : List NamedValue) (i : ℕ) (x : NamedValue) (whole : List ℕ) → drop i xs ≡ x ∷ drop (i + 1) xs
    → done ++ pretty_list n lead (items_image (drop i xs)) ≡ whole
    → (done ++ (lead ++ (line n ++ pretty n (value_image x)))) ++ pretty_list n (codes ",") (items_image (drop (i + 1) xs)) ≡ whole
next_item n done lead xs i x whole here so_far =
    let rest = pretty_list n (codes ",") (items_image (drop (i + 1) xs)) in
    append_assoc done _ rest
    ∙ ap (λ r. done ++ r) (append_assoc lead _ rest ∙ ap (λ r. lead ++ r) (append_assoc (line n) (pretty n (value_image x)) rest))
    ∙ ap (λ l. done ++ pretty_list n lead (items_image l)) (sym here) ∙ so_far

-- one more pair
pub next_pair : (n : ℕ) (done lead : List ℕ) (xs : List (NamedValue × NamedValue)) (i : ℕ) (x : NamedValue × NamedValue) (whole : List ℕ)
    → drop i xs ≡ x ∷ drop (i + 1) xs
    → done ++ pretty_pairs n lead (pairs_image (drop i xs)) ≡ whole
    → (done ++ ((lead ++ (line n ++ pretty n (value_image x.0))) ++ (codes ": " ++ pretty n (value_image x.1))))
    ++ pretty_pairs n (codes ",") (pairs_image (drop (i + 1) xs)) ≡ whole
next_pair n done lead xs i x whole here so_far =
    let key = pretty n (value_image x.0) in
    let value = pretty n (value_image x.1) in
    let rest = pretty_pairs n (codes ",") (pairs_image (drop (i + 1) xs)) in
    append_assoc done _ rest
    ∙ ap (λ r. done ++ r) (append_assoc (lead ++ (line n ++ key)) _ rest ∙ append_assoc lead (line n ++ key) _
    ∙ ap (λ r. lead ++ r) (append_assoc (line n) key _ ∙ ap (λ r. line n ++ (key ++ r)) (append_assoc (codes ": ") value rest)))
    ∙ ap (λ l. done ++ pretty_pairs n lead (pairs_image l)) (sym here) ∙ so_far

-- one more field
pub next_field : (n : ℕ) (done lead : List ℕ) (xs : List (CowStr × NamedValue)) (i : ℕ) (x : CowStr × NamedValue) (whole : List ℕ)
    → drop i xs ≡ x ∷ drop (i + 1) xs
    → done ++ pretty_fields n lead (fields_image (drop i xs)) ≡ whole
    → (done ++ ((lead ++ (line n ++ (text_content x.0 ++ codes ": "))) ++ pretty n (value_image x.1)))
    ++ pretty_fields n (codes ",") (fields_image (drop (i + 1) xs)) ≡ whole
next_field n done lead xs i x whole here so_far =
    let key = text_content x.0 in
    let value = pretty n (value_image x.1) in
    let rest = pretty_fields n (codes ",") (fields_image (drop (i + 1) xs)) in
    append_assoc done _ rest
    ∙ ap (λ r. done ++ r) (append_assoc (lead ++ (line n ++ (key ++ codes ": "))) value rest ∙ append_assoc lead _ _
    ∙ ap (λ r. lead ++ r) (append_assoc (line n) (key ++ codes ": ") _ ∙ ap (λ r. line n ++ r) (append_assoc key (codes ": ") _)))
    ∙ ap (λ l. done ++ pretty_fields n lead (fields_image l)) (sym here) ∙ so_far

-- two more spaces
pub next_indent : (done : List ℕ) (n : ℕ) (whole : List ℕ) → 0 < n → done ++ indent n ≡ whole → (done ++ codes "  ") ++ indent (n - 1) ≡ whole
next_indent done zero whole some so_far = absurd (omega arith)
next_indent done (suc n) whole some so_far =
    let less : suc n - 1 ≡ n = omega arith in
    ap (λ k. (done ++ codes "  ") ++ indent k) less ∙ append_assoc done (codes "  ") (indent n) ∙ so_far

-- two items or more aren't short
pub long_items : (xs : List NamedValue) → 2 ≤ length xs → is_short (items_image xs) ≡ false
long_items [] more = absurd (omega arith)
long_items (x ∷ []) more = absurd (omega arith)
long_items (x ∷ y ∷ xs) more = refl

pub long_pairs : (xs : List (NamedValue × NamedValue)) → 2 ≤ length xs → are_short_pairs (pairs_image xs) ≡ false
long_pairs [] more = absurd (omega arith)
long_pairs (x ∷ []) more = absurd (omega arith)
long_pairs (x ∷ y ∷ xs) more = refl

pub long_fields : (xs : List (CowStr × NamedValue)) → 2 ≤ length xs → are_short_fields (fields_image xs) ≡ false
long_fields [] more = absurd (omega arith)
long_fields (x ∷ []) more = absurd (omega arith)
long_fields (x ∷ y ∷ xs) more = refl
