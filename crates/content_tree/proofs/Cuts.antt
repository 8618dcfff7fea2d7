-- Where a path is cut: after its first piece, or before its last.
use Rattle.std.proofs.Common.{◌≡◌, ◌≢◌, ◌<◌, ◌≤◌, ◌+◌, ◌∙◌, ap, sym, refl, arith, ℕ, zero, suc, true, false, nat_eq, ne_eqb, eqb-true, subst, lit<}
use Rattle.std.proofs.Common.{List, [], ◌∷◌, ◌++◌, length, get_or, take, drop, append-nil, ⊎_elim, cond}
use Rattle.std.proofs.Common.{Option, Some, None, option_map, option_and_then}
use Rattle.std.specs.Str.Pattern.{RFindsChar, SplitsAroundMatch}
use Rattle.std.proofs.lemmas.Str.Pattern.{NoCharPasses-char, drop_at_char}
use Rattle.std.specs.List.{All, AllByRecursion, slice_split, onto_first}
use Rattle.std.proofs.lemmas.Bool.{cases_Bool}
use Rattle.std.proofs.lemmas.List.Elements.{All-nil, All-cons}
use Rattle.std.proofs.lemmas.List.Splits.{slice_split_none, slice_split_at, slice_split-cons_yes, slice_split-cons_no}
use Rattle.content_tree.specs.Values.PathEdits.{Edited, at_parts, at_last, last_apart}
use Rattle.content_tree.specs.Values.Paths.{unescape, unescape_each, after_root, parts_of}
use Rattle.content_tree.specs.Values.Trades.{first_parts, HasNoSlash}
use Rattle.content_tree.specs.Values.Tree.{Tree}

-- the pieces of a text without `/`
one_piece : (bs : List ℕ) → HasNoSlash bs → All (λ x. nat_eq x 47 ≡ false) bs
one_piece [] h = All-nil (λ x. nat_eq x 47 ≡ false)
one_piece (x ∷ bs) h = All-cons (λ y. nat_eq y 47 ≡ false) x bs (ne_eqb x 47 h.0) (one_piece bs h.1)

-- no byte of it is `/`
pub none_slash : (bs : List ℕ) → ((i : ℕ) → i < length bs → get_or bs i 0 ≢ 47) → HasNoSlash bs
none_slash [] h = tt
none_slash (x ∷ bs) h = (h 0 (omega arith), none_slash bs (λ i less. h (suc i) (omega arith)))

-- ---- after the first piece

pub first_last : (piece : List ℕ) → HasNoSlash piece → parts_of (47 ∷ piece) ≡ first_parts (unescape piece) (parts_of [])
first_last piece h =
    ap (λ ss. option_and_then unescape_each (after_root ([] ∷ ss))) (slice_split_none (λ x. nat_eq x 47) piece (one_piece piece h))

pub first_more : (piece more : List ℕ) → HasNoSlash piece → parts_of (47 ∷ (piece ++ 47 ∷ more)) ≡ first_parts (unescape piece) (parts_of (47 ∷ more))
first_more piece more h =
    ap (λ ss. option_and_then unescape_each (after_root ([] ∷ ss))) (slice_split_at (λ x. nat_eq x 47) piece 47 more (one_piece piece h) refl)

slash_before : (text : List ℕ) (k : ℕ) → k < length text → ((i : ℕ) → i < k → get_or text i 0 ≢ 47) → HasNoSlash (take k text)
slash_before text zero less none = tt
slash_before [] (suc k) less none = absurd (omega arith)
slash_before (x ∷ text) (suc k) less none = (none 0 (omega arith), slash_before text k (omega arith) (λ i lower. none (suc i) (omega arith)))

cut_at : (text : List ℕ) (k : ℕ) → k < length text → get_or text k 0 ≡ 47 → text ≡ take k text ++ 47 ∷ drop (suc k) text
cut_at [] k less h = absurd (omega arith)
cut_at (x ∷ text) zero less h = ap (λ y. y ∷ text) h
cut_at (x ∷ text) (suc k) less h = ap (λ l. x ∷ l) (cut_at text k (omega arith) h)

from_cut : (text : List ℕ) (k : ℕ) → k < length text → get_or text k 0 ≡ 47 → drop k text ≡ 47 ∷ drop (suc k) text
from_cut [] k less h = absurd (omega arith)
from_cut (x ∷ text) zero less h = ap (λ y. y ∷ text) h
from_cut (x ∷ text) (suc k) less h = from_cut text k (omega arith) h

pub first_cut : (path text front back : List ℕ) (k : ℕ) → path ≡ 47 ∷ text
    → (k < length text) × (get_or text k 0 ≡ 47) × ((i : ℕ) → i < k → get_or text i 0 ≢ 47) → front ≡ take k text → back ≡ drop k text
    → parts_of path ≡ first_parts (unescape front) (parts_of back)
first_cut path text front back k root at first last =
    ap parts_of root
    ∙ (ap (λ l. parts_of (47 ∷ l)) (cut_at text k at.0 at.1)
    ∙ (first_more (take k text) (drop (suc k) text) (slash_before text k at.0 at.2)
    ∙ (λ i. first_parts (unescape (sym first i)) (parts_of (sym (last ∙ from_cut text k at.0 at.1) i)))))

-- ---- before the last piece

-- there is a first piece
first_of : (bs : List ℕ) → (s : List ℕ) × (ss : List (List ℕ)) × (slice_split (λ x. nat_eq x 47) bs ≡ s ∷ ss)
first_of [] = ([], [], refl)
first_of (x ∷ bs) =
    let rest = first_of bs in
    ⊎_elim (λ (t : nat_eq x 47 ≡ true). ([], slice_split (λ y. nat_eq y 47) bs, slice_split-cons_yes (λ y. nat_eq y 47) x bs t))
    (λ (f : nat_eq x 47 ≡ false). (x ∷ rest.0, rest.1, slice_split-cons_no (λ y. nat_eq y 47) x bs f ∙ ap (onto_first x) rest.2))
    (cases_Bool (nat_eq x 47))

onto_more : (x : ℕ) (s : List ℕ) (ss : List (List ℕ)) (bs last : List ℕ) → slice_split (λ y. nat_eq y 47) bs ≡ s ∷ ss
    → onto_first x (slice_split (λ y. nat_eq y 47) bs ++ last ∷ []) ≡ onto_first x (slice_split (λ y. nat_eq y 47) bs) ++ last ∷ []
onto_more x s ss bs last e = ap (λ l. onto_first x (l ++ last ∷ [])) e ∙ sym (ap (λ l. onto_first x l ++ last ∷ []) e)

split_last : (front last : List ℕ) → HasNoSlash last
    → slice_split (λ x. nat_eq x 47) (front ++ 47 ∷ last) ≡ slice_split (λ x. nat_eq x 47) front ++ last ∷ []
split_last [] last h = ap (λ ss. [] ∷ ss) (slice_split_none (λ x. nat_eq x 47) last (one_piece last h))
split_last (x ∷ front) last h =
    let p = λ (y : ℕ). nat_eq y 47 in
    let first = first_of front in
    ⊎_elim (λ (t : nat_eq x 47 ≡ true).
    slice_split-cons_yes p x (front ++ 47 ∷ last) t
    ∙ (ap (λ ss. [] ∷ ss) (split_last front last h) ∙ ap (λ ss. ss ++ last ∷ []) (sym (slice_split-cons_yes p x front t))))
    (λ (f : nat_eq x 47 ≡ false).
    slice_split-cons_no p x (front ++ 47 ∷ last) f
    ∙ (ap (onto_first x) (split_last front last h)
    ∙ (onto_more x first.0 first.1 front last first.2 ∙ ap (λ ss. ss ++ last ∷ []) (sym (slice_split-cons_no p x front f)))))
    (cases_Bool (nat_eq x 47))

-- the parts before the last, and that one
abbrev pub then_last : Option (List (List ℕ)) → Option (List ℕ) → Option (List (List ℕ))
then_last os o = option_and_then (λ parts. option_map (λ part. parts ++ part ∷ []) o) os

then_one : (part : List ℕ) (os : Option (List (List ℕ))) (o : Option (List ℕ))
    → option_map (λ parts. part ∷ parts) (then_last os o) ≡ then_last (option_map (λ parts. part ∷ parts) os) o
then_one part None o = refl
then_one part (Some parts) None = refl
then_one part (Some parts) (Some last) = refl

then_first : (first : Option (List ℕ)) (os : Option (List (List ℕ))) (o : Option (List ℕ))
    → option_and_then (λ part. option_map (λ parts. part ∷ parts) (then_last os o)) first
    ≡ then_last (option_and_then (λ part. option_map (λ parts. part ∷ parts) os) first) o
then_first None os o = refl
then_first (Some part) os o = then_one part os o

lone : (o : Option (List ℕ)) → option_and_then (λ part. option_map (λ parts. part ∷ parts) (Some [])) o ≡ then_last (Some []) o
lone None = refl
lone (Some part) = refl

each_last : (ss : List (List ℕ)) (last : List ℕ) → unescape_each (ss ++ last ∷ []) ≡ then_last (unescape_each ss) (unescape last)
each_last [] last = lone (unescape last)
each_last (s ∷ ss) last =
    ap (λ os. option_and_then (λ part. option_map (λ parts. part ∷ parts) os) (unescape s)) (each_last ss last)
    ∙ then_first (unescape s) (unescape_each ss) (unescape last)

root_last : (s : List ℕ) (ss : List (List ℕ)) (last : List ℕ)
    → option_and_then unescape_each (after_root ((s ∷ ss) ++ last ∷ [])) ≡ then_last (option_and_then unescape_each (after_root (s ∷ ss))) (unescape last)
root_last [] ss last = each_last ss last
root_last (x ∷ s) ss last = refl

pub parts_last : (front last : List ℕ) → HasNoSlash last → parts_of (front ++ 47 ∷ last) ≡ then_last (parts_of front) (unescape last)
parts_last front last h =
    let first = first_of front in
    ap (λ ss. option_and_then unescape_each (after_root ss)) (split_last front last h ∙ ap (λ ss. ss ++ last ∷ []) first.2)
    ∙ (root_last first.0 first.1 last
    ∙ sym (ap (λ ss. then_last (option_and_then unescape_each (after_root ss)) (unescape last)) first.2))

-- the last is taken apart
pub apart_last : (parts : List (List ℕ)) (last : List ℕ) → last_apart (parts ++ last ∷ []) ≡ Some (parts, last)
apart_last [] last = refl
apart_last (part ∷ []) last = refl
apart_last (part ∷ next ∷ parts) last = ap (option_map (λ r. (part ∷ r.0, r.1))) (apart_last (next ∷ parts) last)

-- an edit by the last part
edit_last : (edit : List ℕ → Tree → Edited Tree) (os : Option (List (List ℕ))) (o : Option (List ℕ)) (t : Tree)
    → option_and_then (λ parts. at_last edit parts t) (then_last os o)
    ≡ option_and_then (λ parts. option_and_then (λ part. (at_parts (edit part) parts).0 t) o) os
edit_last edit None o t = refl
edit_last edit (Some parts) None t = refl
edit_last edit (Some parts) (Some part) t = ap (option_and_then (λ r. (at_parts (edit r.1) r.0).0 t)) (apart_last parts part)

pub last_edited : (edit : List ℕ → Tree → Edited Tree) (path front last : List ℕ) (t : Tree) → path ≡ front ++ 47 ∷ last → HasNoSlash last
    → option_and_then (λ parts. at_last edit parts t) (parts_of path)
    ≡ option_and_then (λ parts. option_and_then (λ part. (at_parts (edit part) parts).0 t) (unescape last)) (parts_of front)
last_edited edit path front last t e h =
    ap (λ p. option_and_then (λ parts. at_last edit parts t) (parts_of p)) e
    ∙ (ap (option_and_then (λ parts. at_last edit parts t)) (parts_last front last h) ∙ edit_last edit (parts_of front) (unescape last) t)

-- a path without `/` has no last part
pub none_last : (edit : List ℕ → Tree → Edited Tree) (path : List ℕ) (t : Tree) → HasNoSlash path
    → option_and_then (λ parts. at_last edit parts t) (parts_of path) ≡ None
none_last edit [] t h = refl
none_last edit (x ∷ path) t h =
    ap (λ ss. option_and_then (λ parts. at_last edit parts t) (option_and_then unescape_each (after_root ss)))
    (slice_split_none (λ y. nat_eq y 47) (x ∷ path) (one_piece (x ∷ path) h))

-- nor is one without `/` before anything a path, unless it is empty
pub no_first : (path : List ℕ) → ((rest : List ℕ) → path ≢ 47 ∷ rest) → 0 < length path → parts_of path ≡ None
no_first [] other some = absurd (omega arith)
no_first (x ∷ path) other some =
    let first = first_of path in
    ap (λ ss. option_and_then unescape_each (after_root ss))
    (slice_split-cons_no (λ y. nat_eq y 47) x path (ne_eqb x 47 (λ e. other path (ap (λ y. y ∷ path) e))) ∙ ap (onto_first x) first.2)

-- ---- the last `/`

parted : (xs : List ℕ) (i : ℕ) → take i xs ++ drop i xs ≡ xs
parted xs zero = refl
parted [] (suc i) = refl
parted (x ∷ xs) (suc i) = ap (λ l. x ∷ l) (parted xs i)

pub rsplit_cut : (path front back : List ℕ) → SplitsAroundMatch (RFindsChar 47) path front back → (path ≡ front ++ 47 ∷ back) × HasNoSlash back
rsplit_cut path front back (i, j, finds, first, last, _, _, _) =
    let from : drop i path ≡ 47 ∷ drop j path = drop_at_char 47 path i j finds.1 (lit< tt) in
    let whole = sym (parted path i) ∙ ap (λ l. take i path ++ l) from in (
      whole ∙ (λ k. sym first k ++ 47 ∷ sym last k),
      subst HasNoSlash (sym last) (none_slash (drop j path) (λ k less. NoCharPasses-char 47 (drop j path) k finds.0 (lit< tt) less)),
    )

pub rsplit_none : (path : List ℕ) → RFindsChar 47 path None → HasNoSlash path
rsplit_none path none = none_slash path (λ k less. NoCharPasses-char 47 path k none (lit< tt) less)
