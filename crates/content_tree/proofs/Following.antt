-- A path, a piece at a time.
use Rattle.std.proofs.Common.{◌≡◌, ◌≢◌, ◌<◌, ◌≤◌, ◌+◌, ◌∙◌, ap, ap₂, sym, refl, ℕ, suc, false, nat_eq, ne_eqb, arith, length, drop, get_or, List, [], ◌∷◌}
use Rattle.std.proofs.Common.{Option, Some, None, option_map, option_and_then, if◌then◌else◌}
use Rattle.std.specs.List.{slice_split, onto_first}
use Rattle.std.specs.Str.{bytes_eq}
use Rattle.std.proofs.lemmas.List.{at_drop_more, drop_all}
use Rattle.std.proofs.lemmas.List.Splits.{slice_split-cons_no}
use Rattle.content_tree.specs.Values.Lookups.{last_value, last_field, is_text, or_else}
use Rattle.content_tree.specs.Values.Paths.{unescape, unescape_each, after_root}
use Rattle.content_tree.specs.Values.Places.{is_key, found_field, found_in, found_step}
use Rattle.content_tree.specs.Values.Pointers.{Place, at, inside, part_in, step, follow, value_at, pointer}
use Rattle.content_tree.specs.Values.Tree.{Tree, text, map, structure, TreeData, named}
use Rattle.content_tree.specs.Values.Tree.{Pairs, no_pairs, pair_then, Fields, no_fields, field_then}

-- the value to which parts lead, if there are any
abbrev pub value_by : Option (List (List ℕ)) → Place → Option Tree
value_by os place = option_and_then value_at (option_and_then (λ parts. follow parts place) os)

-- the value to which pieces lead
abbrev pub value_after : List (List ℕ) → Place → Option Tree
value_after ss place = value_by (unescape_each ss) place

-- where no part is spelled, no key is its text
pub no_key : (k : Tree) → is_key None k ≡ false
no_key (text t) = refl
no_key k = refl

no_pair : (ps : Pairs) → last_value (is_key None) ps ≡ None
no_pair no_pairs = refl
no_pair (pair_then k t ps) = rw (no_pair ps, no_key k) refl

pub no_field : (fs : Fields) → found_field None fs ≡ None
no_field no_fields = refl
no_field (field_then k t fs) = ap (λ r. or_else r None) (no_field fs)

none_in : (d : TreeData) → found_in None d ≡ None
none_in (named fs) = no_field fs
none_in d = refl

-- and nothing is found
found_none : (place : Place) → found_step None place ≡ None
found_none (at (map ps)) = ap (option_map at) (no_pair ps)
found_none (at (structure n d)) = ap (option_map at) (none_in d)
found_none (at t) = refl
found_none (inside d) = ap (option_map at) (none_in d)

-- a part that is spelled finds what it finds
pub key_is : (part : List ℕ) (k : Tree) → is_key (Some part) k ≡ is_text part k
key_is part (text t) = refl
key_is part k = refl

pub pair_is : (part : List ℕ) (ps : Pairs) → last_value (is_key (Some part)) ps ≡ last_value (is_text part) ps
pair_is part no_pairs = refl
pair_is part (pair_then k t ps) = ap₂ (λ o b. or_else o (if b then Some t else None)) (pair_is part ps) (key_is part k)

pub field_is : (part : List ℕ) (fs : Fields) → found_field (Some part) fs ≡ last_field part fs
field_is part no_fields = refl
field_is part (field_then k t fs) = ap (λ o. or_else o (if bytes_eq k.content part then Some t else None)) (field_is part fs)

in_is : (part : List ℕ) (d : TreeData) → found_in (Some part) d ≡ part_in part d
in_is part (named fs) = field_is part fs
in_is part d = refl

found_some : (part : List ℕ) (place : Place) → found_step (Some part) place ≡ step part place
found_some part (at (map ps)) = ap (option_map at) (pair_is part ps)
found_some part (at (structure n d)) = ap (option_map at) (in_is part d)
found_some part (at t) = refl
found_some part (inside d) = ap (option_map at) (in_is part d)

-- where nothing is spelled, nothing is found
nowhere : (o : Option Place) → option_and_then (λ next. value_by None next) o ≡ None
nowhere None = refl
nowhere (Some next) = refl

-- parts are followed from where the first leads
followed : (o : Option Place) (parts : List (List ℕ)) → option_and_then value_at (option_and_then (follow parts) o) ≡ option_and_then (λ next. value_by (Some parts) next) o
followed None parts = refl
followed (Some next) parts = refl

-- the first piece leads to a place, from which the others lead
first_step : (o : Option (List ℕ)) (os : Option (List (List ℕ))) (place : Place)
    → value_by (option_and_then (λ part. option_map (λ parts. part ∷ parts) os) o) place ≡ option_and_then (λ next. value_by os next) (found_step o place)
first_step None os place = ap (option_and_then (λ next. value_by os next)) (sym (found_none place))
first_step (Some part) None place = sym (nowhere (found_step (Some part) place))
first_step (Some part) (Some parts) place =
    followed (step part place) parts ∙ ap (option_and_then (λ next. value_by (Some parts) next)) (sym (found_some part place))

pub value_stepped : (s : List ℕ) (ss : List (List ℕ)) (place : Place) → value_after (s ∷ ss) place ≡ option_and_then (value_after ss) (found_step (unescape s) place)
value_stepped s ss place = first_step (unescape s) (unescape_each ss) place

-- the pieces of a path that are left after the first n
abbrev pub left_after : ℕ → List ℕ → List (List ℕ)
left_after n path = drop (suc n) (slice_split (λ x. nat_eq x 47) path)

-- the next piece leads to a place, from which those after it lead
pub next_piece : (path rest : List ℕ) (n : ℕ) (s : List ℕ) (place : Place) → path ≡ 47 ∷ rest
    → (n < length (slice_split (λ x. nat_eq x 47) rest)) × (s ≡ get_or (slice_split (λ x. nat_eq x 47) rest) n s)
    → value_after (left_after n path) place ≡ option_and_then (value_after (left_after (n + 1) path)) (found_step (unescape s) place)
next_piece path rest n s place root here =
    let ss = slice_split (λ x. nat_eq x 47) rest in
    let step_on = λ (later : List (List ℕ)). option_and_then (value_after later) (found_step (unescape s) place) in
    ap (λ p. value_after (left_after n p) place) root
    ∙ (at_drop_more (λ l. value_after l place) ss n s here.0
    ∙ (ap (λ piece. value_after (piece ∷ drop (n + 1) ss) place) (sym here.1)
    ∙ (value_stepped s (drop (n + 1) ss) place ∙ ap (λ p. step_on (left_after (n + 1) p)) (sym root))))

-- after the last piece the value at the place is found
pub last_piece : (path rest : List ℕ) (n : ℕ) (place : Place) → path ≡ 47 ∷ rest → length (slice_split (λ x. nat_eq x 47) rest) ≤ n
    → value_after (left_after n path) place ≡ value_at place
last_piece path rest n place root past =
    ap (λ p. value_after (left_after n p) place) root
    ∙ ap (λ l. value_after l place) (drop_all n (slice_split (λ x. nat_eq x 47) rest) past)

-- where a byte comes first, it begins the first piece
not_root : (x : ℕ) (ss : List (List ℕ)) → after_root (onto_first x ss) ≡ None
not_root x [] = refl
not_root x (s ∷ ss) = refl

-- what begins with anything but `/` leads nowhere
pub no_root : (path : List ℕ) (t : Tree) → 0 < length path → ((rest : List ℕ) → path ≢ 47 ∷ rest) → pointer path t ≡ None
no_root [] t some other = absurd (omega arith)
no_root (x ∷ path) t some other =
    let ss = slice_split (λ y. nat_eq y 47) path in
    let first = slice_split-cons_no (λ y. nat_eq y 47) x path (ne_eqb x 47 (λ e. other path (ap (λ y. y ∷ path) e))) in
    ap (λ o. value_by (option_and_then unescape_each o) (at t)) (ap after_root first ∙ not_root x ss)
