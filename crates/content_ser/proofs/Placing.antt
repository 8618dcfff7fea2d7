-- Places mean entries, after each insert.
use Rattle.std.proofs.Common.{◌≡◌, ℕ, zero, suc, ◌+◌, ◌<◌, List, [], ◌∷◌, ◌++◌, map, length, take}
use Rattle.std.proofs.Common.{get_or, Some, Bor, Ordering, Less, Equal, Greater, nat_cmp, is_eq}
use Rattle.std.proofs.Common.{refl, sym, ap, subst, ◌∙◌, arith}
use Rattle.std.specs.Prelude.{slice_get}
use Rattle.std.specs.Ordering.{match_ordering}
use Rattle.std.specs.Cmp.Lexicographic.{slice_cmp}
use Rattle.std.specs.BTreeMap.{insert_entry}
use Rattle.std.proofs.lemmas.Map.Text.{is_eq-slice_cmp}
use Rattle.std.proofs.lemmas.Slice.Eq.{bytes_eq-Decides}
use Rattle.std.proofs.lemmas.List.{take_more, map-append}
use Rattle.content_tree.specs.declared.cow.CowStr.{CowStr}
use Rattle.content_tree.specs.declared.value.NamedValue.{NamedValue}
use Rattle.content_ser.specs.Sending.Loose.{KeyedTree, put, put_each}
use Rattle.content_ser.specs.Sending.Places.{keyed_tree_of, StandsFor}

-- the order of borrowed texts
abbrev pub text_order : Bor (List ℕ) → Bor (List ℕ) → Ordering
text_order x y = slice_cmp nat_cmp x.now y.now

stands_by : (fs : List (CowStr × NamedValue)) (o : Ordering) (ps ps' ps'' : List (Bor (List ℕ) × ℕ)) (es es' es'' : List KeyedTree)
    → StandsFor fs ps es → (o ≡ Equal → StandsFor fs ps' es') → StandsFor fs ps'' es''
    → StandsFor fs (match_ordering o ps ps' ps'') (match_ordering o es es' es'')
stands_by fs Less ps ps' ps'' es es' es'' a b c = a
stands_by fs Equal ps ps' ps'' es es' es'' a b c = b refl
stands_by fs Greater ps ps' ps'' es es' es'' a b c = c

same_from_tie : (xs ys : List ℕ) → slice_cmp nat_cmp xs ys ≡ Equal → xs ≡ ys
same_from_tie xs ys e = (bytes_eq-Decides xs ys).0 (sym (is_eq-slice_cmp xs ys) ∙ ap is_eq e)

-- a place put where its entry is put
pub stands_insert : (fs : List (CowStr × NamedValue)) (ps : List (Bor (List ℕ) × ℕ)) (es : List KeyedTree) (k : Bor (List ℕ)) (i : ℕ) (e : KeyedTree)
    → slice_get (map keyed_tree_of fs) i ≡ Some e → k.now ≡ e.0 → StandsFor fs ps es → StandsFor fs (insert_entry text_order ps k i) (put es e)
stands_insert fs [] [] k i e got named h = (got, named, tt)
stands_insert fs [] (f ∷ es) k i e got named h = absurd h
stands_insert fs (p ∷ ps) [] k i e got named h = absurd h
stands_insert fs (p ∷ ps) (f ∷ es) k i e got named (here, same, rest) =
    let later = stands_insert fs ps es k i e got named rest in
    let tie : slice_cmp nat_cmp k.now p.0.now ≡ slice_cmp nat_cmp e.0 f.0 = ap (λ t. slice_cmp nat_cmp t p.0.now) named ∙ ap (slice_cmp nat_cmp e.0) same in
    subst (λ o. StandsFor fs (match_ordering o ((k, i) ∷ p ∷ ps) ((p.0, i) ∷ ps) (p ∷ insert_entry text_order ps k i)) (put (f ∷ es) e)) (sym tie)
    (stands_by fs (slice_cmp nat_cmp e.0 f.0) ((k, i) ∷ p ∷ ps) ((p.0, i) ∷ ps) (p ∷ insert_entry text_order ps k i)
    (e ∷ f ∷ es) ((f.0, e.1) ∷ es) (f ∷ put es e)
    (got, named, (here, same, rest))
    (λ even. (got ∙ ap (λ (t : List ℕ). Some (t, e.1)) (same_from_tie e.0 f.0 even), same, rest))
    (here, same, later))

-- one entry more, put last
pub put_each-more : (all es : List KeyedTree) (e : KeyedTree) → put_each all (es ++ e ∷ []) ≡ put (put_each all es) e
put_each-more all [] e = refl
put_each-more all (f ∷ es) e = put_each-more (put all f) es e

-- the item at an index, mapped
pub got_at : {A B : Type 0} (f : A → B) (xs : List A) (i : ℕ) (x : A) → i < length xs → x ≡ get_or xs i x → slice_get (map f xs) i ≡ Some (f x)
got_at f [] i x below is = absurd (omega arith)
got_at f (y ∷ ys) zero x below is = ap (λ z. Some (f z)) (sym is)
got_at f (y ∷ ys) (suc i) x below is = got_at f ys i x (omega arith) is

-- the items up to an index and that there, mapped
pub more_at : {A B : Type 0} (f : A → B) (xs : List A) (i : ℕ) (x : A) → i < length xs → x ≡ get_or xs i x → map f (take (i + 1) xs) ≡ map f (take i xs) ++ f x ∷ []
more_at f xs i x below is = ap (map f) (take_more xs i x below ∙ ap (λ z. take i xs ++ z ∷ []) (sym is)) ∙ map-append f (take i xs) (x ∷ [])

-- an index at which there is an item is below the length
pub below_from_got : {A B : Type 0} (f : A → B) (xs : List A) (i : ℕ) (y : B) → slice_get (map f xs) i ≡ Some y → i < length xs
below_from_got f [] i y e = absurd (cc e)
below_from_got f (x ∷ xs) zero y e = omega arith
below_from_got f (x ∷ xs) (suc i) y e = let h = below_from_got f xs i y e in omega (arith, h)

-- the item at an index is that which was got there, mapped
pub same_from_got : {A B : Type 0} (f : A → B) (xs : List A) (i : ℕ) (x : A) (y : B) → slice_get (map f xs) i ≡ Some y → x ≡ get_or xs i x → f x ≡ y
same_from_got f [] i x y got is = absurd (cc got)
same_from_got f (z ∷ xs) zero x y got is = let e = ap f is in cc
same_from_got f (z ∷ xs) (suc i) x y got is = same_from_got f xs i x y got is

-- as many places as entries
pub stands-length : (fs : List (CowStr × NamedValue)) (ps : List (Bor (List ℕ) × ℕ)) (es : List KeyedTree) → StandsFor fs ps es → length ps ≡ length es
stands-length fs [] [] h = refl
stands-length fs [] (e ∷ es) h = absurd h
stands-length fs (p ∷ ps) [] h = absurd h
stands-length fs (p ∷ ps) (e ∷ es) h = ap suc (stands-length fs ps es h.2)
