-- Laws of paths.
use Rattle.std.proofs.Common.{◌≡◌, ◌<◌, ◌^◌, ◌∙◌, ap, sym, refl, arith, ℕ, zero, suc, true, false, nat_eq}
use Rattle.std.proofs.Common.{List, [], ◌∷◌, ◌++◌, map, length, get_or, append_assoc, append-nil, ⊎_elim}
use Rattle.std.proofs.Common.{Option, Some, None, IsSome, option_map, option_and_then}
use Rattle.std.specs.Fmt.{decimal}
use Rattle.std.specs.List.{All, slice_split, join_with_byte}
use Rattle.std.specs.Str.Parse.{digits_value}
use Rattle.std.proofs.lemmas.Bool.{cases_Bool}
use Rattle.std.proofs.lemmas.Fmt.{decimal_nonempty, decimal_digit, first_decimal, digits_decimal, digits_value-decimal, decimal-digits_value}
use Rattle.std.proofs.lemmas.List.Elements.{All-nil, All-cons}
use Rattle.std.proofs.lemmas.List.Splits.{slice_split_none, slice_split_at, join_with_byte-slice_split}
use Rattle.content_tree.proofs.Indexes.{own, index_from, index_digits, index_zero, no_index}
use Rattle.content_tree.proofs.Pieces.{spelled, unescape-escape, mapped}
use Rattle.content_tree.specs.Laws.Paths.{EmptyPath, JoinedPaths, JoinedAtValues, SpelledParts, NamedIndex}
use Rattle.content_tree.specs.Values.Paths.{escaped, escape, path_of, unescape, unescape_each, after_root}
use Rattle.content_tree.specs.Values.Paths.{parts_of, is_index, index_of}
use Rattle.content_tree.specs.Values.Pointers.{Place, at, inside, step, follow, leads, value_at}
use Rattle.content_tree.specs.Values.Tree.{Tree}

pub empty_path : EmptyPath
empty_path t = refl

-- ---- a path and its parts

-- no slash is in it
abbrev NoSlash : List ℕ → Type 0
NoSlash xs = All (λ x. nat_eq x 47 ≡ false) xs

escaped_slash : (x : ℕ) (xs : List ℕ) → NoSlash xs → NoSlash (escaped x ++ xs)
escaped_slash x xs h =
    let P = λ (y : ℕ). nat_eq y 47 ≡ false in
    ⊎_elim (λ (t : nat_eq x 126 ≡ true). rw t (All-cons P 126 (48 ∷ xs) refl (All-cons P 48 xs refl h)))
    (λ (f : nat_eq x 126 ≡ false). ⊎_elim
    (λ (t : nat_eq x 47 ≡ true). rw (f, t) (All-cons P 126 (49 ∷ xs) refl (All-cons P 49 xs refl h)))
    (λ (g : nat_eq x 47 ≡ false). rw (f, g) (All-cons P x xs g h))
    (cases_Bool (nat_eq x 47)))
    (cases_Bool (nat_eq x 126))

escape_slash : (part : List ℕ) → NoSlash (escape part)
escape_slash [] = All-nil (λ y. nat_eq y 47 ≡ false)
escape_slash (x ∷ part) = escaped_slash x (escape part) (escape_slash part)

-- after a part comes the end or a slash
split_parts : (part : List ℕ) (parts : List (List ℕ)) → slice_split (λ x. nat_eq x 47) (escape part ++ path_of parts) ≡ escape part ∷ map escape parts
split_parts part [] = ap (slice_split (λ x. nat_eq x 47)) (append-nil (escape part)) ∙ slice_split_none _ (escape part) (escape_slash part)
split_parts part (next ∷ parts) =
    slice_split_at (λ x. nat_eq x 47) (escape part) 47 (escape next ++ path_of parts) (escape_slash part) refl
    ∙ ap (λ ss. escape part ∷ ss) (split_parts next parts)

split_path : (parts : List (List ℕ)) → slice_split (λ x. nat_eq x 47) (path_of parts) ≡ [] ∷ map escape parts
split_path [] = refl
split_path (part ∷ parts) = ap (λ ss. [] ∷ ss) (split_parts part parts)

each_read : (parts : List (List ℕ)) → unescape_each (map escape parts) ≡ Some parts
each_read [] = refl
each_read (part ∷ parts) = rw (unescape-escape part, each_read parts) refl

path_read : (parts : List (List ℕ)) → parts_of (path_of parts) ≡ Some parts
path_read parts = ap (λ ss. option_and_then unescape_each (after_root ss)) (split_path parts) ∙ each_read parts

-- what goes on comes from something
pub went_on : {A B : Type 0} (f : A → Option B) (o : Option A) (y : B) → option_and_then f o ≡ Some y → (x : A) × (o ≡ Some x) × (f x ≡ Some y)
went_on f None y e = absurd (cc e)
went_on f (Some x) y e = (x, refl, e)

each_spelled : (ss parts : List (List ℕ)) → unescape_each ss ≡ Some parts → ss ≡ map escape parts
each_spelled [] parts h = let e : [] ≡ parts = cc h in ap (map escape) e
each_spelled (s ∷ ss) parts h =
    let one = went_on (λ part. option_map (λ rest. part ∷ rest) (unescape_each ss)) (unescape s) parts h in
    let others = mapped (λ rest. one.0 ∷ rest) (unescape_each ss) parts one.2 in
    (λ i. spelled s one.0 one.1 i ∷ each_spelled ss others.0 others.1 i) ∙ ap (map escape) others.2

join_parts : (part : List ℕ) (parts : List (List ℕ)) → 47 ∷ join_with_byte 47 (escape part ∷ map escape parts) ≡ path_of (part ∷ parts)
join_parts part [] = ap (λ l. 47 ∷ l) (sym (append-nil (escape part)))
join_parts part (next ∷ parts) = ap (λ l. 47 ∷ (escape part ++ l)) (join_parts next parts)

join_path : (parts : List (List ℕ)) → join_with_byte 47 ([] ∷ map escape parts) ≡ path_of parts
join_path [] = refl
join_path (part ∷ parts) = join_parts part parts

joined : (ss parts : List (List ℕ)) → option_and_then unescape_each (after_root ss) ≡ Some parts → join_with_byte 47 ss ≡ path_of parts
joined [] parts h = absurd (cc h)
joined ([] ∷ ss) parts h = ap (λ l. join_with_byte 47 ([] ∷ l)) (each_spelled ss parts h) ∙ join_path parts
joined ((x ∷ s) ∷ ss) parts h = absurd (cc h)

path_spelled : (path : List ℕ) (parts : List (List ℕ)) → parts_of path ≡ Some parts → path ≡ path_of parts
path_spelled path parts h = sym (join_with_byte-slice_split 47 path) ∙ joined (slice_split (λ x. nat_eq x 47) path) parts h

pub spelled_parts : SpelledParts
spelled_parts path parts = (path_spelled path parts, λ e. ap parts_of e ∙ path_read parts)

-- ---- joined paths

path_joined : (ps qs : List (List ℕ)) → path_of ps ++ path_of qs ≡ path_of (ps ++ qs)
path_joined [] qs = refl
path_joined (p ∷ ps) qs = ap (λ l. 47 ∷ l) (append_assoc (escape p) (path_of ps) (path_of qs) ∙ ap (λ l. escape p ++ l) (path_joined ps qs))

parts_joined : (path more : List ℕ) (ps qs : List (List ℕ)) → parts_of path ≡ Some ps → parts_of more ≡ Some qs → parts_of (path ++ more) ≡ Some (ps ++ qs)
parts_joined path more ps qs e f =
    ap parts_of ((λ i. path_spelled path ps e i ++ path_spelled more qs f i) ∙ path_joined ps qs) ∙ path_read (ps ++ qs)

both_on : {A : Type 0} (f g h : A → Option A) → ((x : A) → f x ≡ option_and_then g (h x)) → (o : Option A) → option_and_then f o ≡ option_and_then g (option_and_then h o)
both_on f g h same None = refl
both_on f g h same (Some x) = same x

pub follow_joined : (ps qs : List (List ℕ)) (place : Place) → follow (ps ++ qs) place ≡ option_and_then (follow qs) (follow ps place)
follow_joined [] qs place = refl
follow_joined (p ∷ ps) qs place = both_on (follow (ps ++ qs)) (follow qs) (follow ps) (λ next. follow_joined ps qs next) (step p place)

leads_by : (path : List ℕ) (parts : List (List ℕ)) → parts_of path ≡ Some parts → leads path ≡ follow parts
leads_by path parts e = λ i place. option_and_then (λ ps. follow ps place) (e i)

leads_joined : (path more : List ℕ) (ps qs : List (List ℕ)) (place : Place) → parts_of path ≡ Some ps → parts_of more ≡ Some qs
    → leads (path ++ more) place ≡ option_and_then (leads more) (leads path place)
leads_joined path more ps qs place e f =
    ap (λ g. g place) (leads_by (path ++ more) (ps ++ qs) (parts_joined path more ps qs e f))
    ∙ (follow_joined ps qs place ∙ (λ i. option_and_then (sym (leads_by more qs f) i) (sym (leads_by path ps e) i place)))

is_there : {A : Type 0} (o : Option A) → IsSome o → (x : A) × (o ≡ Some x)
is_there None h = absurd (cc h)
is_there (Some x) h = (x, refl)

pub joined_paths : JoinedPaths
joined_paths path more place p q =
    let ps = is_there (parts_of path) p in
    let qs = is_there (parts_of more) q in
    leads_joined path more ps.0 qs.0 place ps.1 qs.1

-- a value is at its place
pub value_place : (place : Place) (t : Tree) → value_at place ≡ Some t → place ≡ at t
value_place (at u) t e = let same : u ≡ t = cc e in ap at same
value_place (inside d) t e = absurd (cc e)

pub joined_at_values : JoinedAtValues
joined_at_values path more t found q e =
    let place = went_on value_at (leads path (at t)) found e in
    let ps = went_on (λ parts. follow parts (at t)) (parts_of path) place.0 place.1 in
    let qs = is_there (parts_of more) q in
    let there = place.1 ∙ ap Some (value_place place.0 found place.2) in
    ap (option_and_then value_at) (leads_joined path more ps.0 qs.0 (at t) ps.1 qs.1 ∙ ap (option_and_then (leads more)) there)

-- ---- indexes

-- a number in decimal doesn't begin with 0, unless it is 0
decimal_zero : (n : ℕ) → n < 2 ^ 64 → get_or (decimal n) 0 0 ≡ 48 → length (decimal n) ≡ 1
decimal_zero zero small e = ap length (decimal_digit 0 (omega arith))
decimal_zero (suc n) small e = absurd (omega (arith, first_decimal (suc n) (omega arith) small))

decimal_index : (n : ℕ) → n < 2 ^ 64 → index_of (decimal n) ≡ Some n
decimal_index n small =
    let yes = index_from (decimal n) (digits_decimal own n small) (decimal_nonempty n small) (decimal_zero n small) in
    rw yes (ap Some (digits_value-decimal own n small))

index_decimal : (part : List ℕ) (n : ℕ) → n < 2 ^ 64 → index_of part ≡ Some n → part ≡ decimal n
index_decimal part n small e =
    ⊎_elim (λ (t : is_index part ≡ true).
    let digits = index_digits part t in
    let value : digits_value 10 part ≡ n = cc (rw t at e) in
    sym (ap decimal (sym value) ∙ decimal-digits_value own part digits.0 digits.1 (index_zero part t) (omega arith)))
    (λ (f : is_index part ≡ false). absurd (cc (e, no_index part f)))
    (cases_Bool (is_index part))

pub named_index : NamedIndex
named_index part n small = (index_decimal part n small, λ e. ap index_of e ∙ decimal_index n small)
