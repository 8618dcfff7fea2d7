-- Parts between brackets that are written one by one.
use Rattle.std.proofs.Common.{◌≡◌, ℕ, zero, suc, ◌+◌, ◌-◌, ◌<◌, ◌≤◌, List, [], ◌∷◌, ◌++◌, codes, flat_map, length, drop, refl, ap, sym, subst, ◌∙◌}
use Rattle.std.proofs.Common.{append_assoc, append-nil, arith, false, ◌==◌}
use Rattle.std.specs.List.{repeat}
use Rattle.std.proofs.lemmas.List.{drop_all}
use Rattle.content_json.specs.Layout.{deeper, enclosed, line}
use Rattle.content_json.specs.declared.layout.Layout.{Layout}

-- parts, each on this line, the first after `lead` and the others after commas
abbrev pub led : List ℕ → List ℕ → List (List ℕ) → List ℕ
led lead line [] = []
led lead line (p ∷ ps) = (lead ++ line) ++ (p ++ led (codes ",") line ps)

-- after the first part
after_comma : (line : List ℕ) (ps : List (List ℕ)) → led (codes ",") line ps ≡ flat_map (λ p. (codes "," ++ line) ++ p) ps
after_comma line [] = refl
after_comma line (p ∷ ps) =
    sym (append_assoc (codes "," ++ line) p (led (codes ",") line ps))
    ∙ ap (λ r. ((codes "," ++ line) ++ p) ++ r) (after_comma line ps)

-- with the brackets
pub enclosed_is : (open_ close : List ℕ) (l : Layout) (ps : List (List ℕ)) → 0 < length ps
    → led open_ (line (deeper l)) ps ++ (line l ++ close) ≡ enclosed open_ close l ps
enclosed_is open_ close l [] some = absurd (omega (arith, some))
enclosed_is open_ close l (p ∷ ps) some =
    let inner = line (deeper l) in
    let end_ = line l ++ close in
    append_assoc (open_ ++ inner) (p ++ led (codes ",") inner ps) end_
    ∙ append_assoc open_ inner _
    ∙ ap (λ r. open_ ++ (inner ++ ((p ++ r) ++ end_))) (after_comma inner ps)

-- one more part
pub next_part : {A : Type 0} (f : List A → List (List ℕ)) (lead line out part whole : List ℕ) (xs : List A) (i : ℕ) (x : A)
    → drop i xs ≡ x ∷ drop (i + 1) xs → f (x ∷ drop (i + 1) xs) ≡ part ∷ f (drop (i + 1) xs)
    → out ++ led lead line (f (drop i xs)) ≡ whole
    → ((out ++ (lead ++ line)) ++ part) ++ led (codes ",") line (f (drop (i + 1) xs)) ≡ whole
next_part f lead line out part whole xs i x here first so_far =
    let rest = led (codes ",") line (f (drop (i + 1) xs)) in
    append_assoc (out ++ (lead ++ line)) part rest ∙ append_assoc out (lead ++ line) (part ++ rest)
    ∙ ap (λ ps. out ++ led lead line ps) (sym first) ∙ ap (λ ys. out ++ led lead line (f ys)) (sym here) ∙ so_far

-- what isn't empty
pub not_empty : (n : ℕ) → false ≡ (n == 0) → 0 < n
not_empty zero is = absurd (cc)
not_empty (suc n) is = omega arith

-- at the end nothing is left, and a bracket closes the whole
pub closed : {A : Type 0} (f : Layout → List A → List (List ℕ)) (open_ close lead out old new : List ℕ) (l inner : Layout) (xs : List A) (i : ℕ)
    → f inner [] ≡ [] → ((x : A) (ys : List A) → 0 < length (f inner (x ∷ ys))) → inner ≡ deeper l → 0 < length xs → length xs ≤ i
    → out ++ led lead (line inner) (f inner (drop i xs)) ≡ old ++ led open_ (line inner) (f inner xs)
    → new ≡ out ++ (line l ++ close) → new ≡ old ++ enclosed open_ close l (f (deeper l) xs)
closed f open_ close lead out old new l inner [] i none grows is_inner some past so_far is = absurd (omega (arith, some))
closed f open_ close lead out old new l inner (x ∷ ys) i none grows is_inner some past so_far is =
    let xs = x ∷ ys in
    let end_ = line l ++ close in
    let left : f inner (drop i xs) ≡ [] = ap (f inner) (drop_all i xs past) ∙ none in
    let all : out ≡ old ++ led open_ (line inner) (f inner xs) = sym (append-nil out) ∙ ap (λ ps. out ++ led lead (line inner) ps) (sym left) ∙ so_far in
    let whole : led open_ (line inner) (f inner xs) ++ end_ ≡ enclosed open_ close l (f (deeper l) xs) =
    ap (λ k. led open_ (line k) (f k xs) ++ end_) is_inner
    ∙ enclosed_is open_ close l (f (deeper l) xs) (subst (λ k. 0 < length (f k xs)) is_inner (grows x ys)) in
    is ∙ ap (λ r. r ++ end_) all ∙ append_assoc old (led open_ (line inner) (f inner xs)) end_ ∙ ap (λ r. old ++ r) whole

-- two more spaces
pub next_indent : (out : List ℕ) (n : ℕ) (whole : List ℕ) → 0 < n → out ++ repeat n (codes "  ") ≡ whole
    → (out ++ codes "  ") ++ repeat (n - 1) (codes "  ") ≡ whole
next_indent out zero whole some so_far = absurd (omega arith)
next_indent out (suc n) whole some so_far =
    let less : suc n - 1 ≡ n = omega arith in
    ap (λ k. (out ++ codes "  ") ++ repeat k (codes "  ")) less ∙ append_assoc out (codes "  ") (repeat n (codes "  ")) ∙ so_far
