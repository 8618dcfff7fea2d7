-- What the rule says is read: values.
use Rattle.std.proofs.Common.{◌≡◌, ℕ, suc, zero, ◌<◌, ◌≤◌, ◌⊎◌, inl, inr, Bool, true, false, List, [], ◌∷◌, ◌++◌, length, length-append, Ok, refl, sym, ap, ◌∙◌, arith, codes, append_assoc, append-nil, ◌==◌, if◌then◌else◌}
use Rattle.std.specs.Int.{is_in_range}
use Rattle.std.specs.List.{list_all}
use Rattle.std.proofs.lemmas.Bool.{and_parts, ne_eqb}
use Rattle.content_tree.specs.Values.Text.{Text}
use Rattle.content_tree.specs.Values.Tree as tree
use Rattle.content_tree.specs.Values.Tree.{Tree}
use Rattle.content_json.specs.declared.decode_error.Fault.TheVariants as fault
use Rattle.content_json.specs.Codes.{ends_value, follows, AreBlanks, begins_with, Codes, greatest, is_blank, IsMember, IsSize, IsString, IsValue, IsValueOf, Joined, number_of, signed, Spaced}
use Rattle.content_json.specs.Inner.Steps.{◌>>=◌, Reader}
use Rattle.content_json.specs.Inner.Strings.{string_at}
use Rattle.content_json.specs.Inner.Reading.{after_blanks, leaf_at, member_at, next_at, parts_at, series_at, value_at, whole_at}
use Rattle.content_json.proofs.Complete.{all_blanks, byte_there, follows_blanks, no_blank, number_there, same_byte, skip_none, skip_over, word_there}
use Rattle.content_json.proofs.CompleteTexts.{string_there}
use Rattle.content_json.proofs.SoundTexts.{in_range}

-- what begins so is no blank and no closing bracket
abbrev pub Begins : List ℕ → Type 0
Begins front = (b : ℕ) × (bs : List ℕ) × (32 < b) × (b ≡ 93 → ⊥) × (b ≡ 125 → ⊥) × (front ≡ b ∷ bs)

-- a reader finds such parts where what comes after them may come after a value
abbrev pub Finds : {A : Type 0} → (A → List ℕ → Type 0) → Reader A → Type 0
Finds {A} Part part = (x : A) (front rest : List ℕ) → Part x front → follows rest ≡ true → part (front ++ rest) ≡ Ok (x, rest)

-- how such parts begin
abbrev pub AllBegin : {A : Type 0} → (A → List ℕ → Type 0) → Type 0
AllBegin {A} Part = (x : A) (front : List ℕ) → Part x front → Begins front

first_digit : (n : ℕ) (digits : List ℕ) → IsSize n digits → (b : ℕ) × (bs : List ℕ) × (48 ≤ b) × (b ≤ 57) × (digits ≡ b ∷ bs)
first_digit n [] size = elim size.2 [ inl e ↦ absurd (cc e) | inr some ↦ absurd (omega (arith, some.0)) ]
first_digit n (b ∷ bs) size =
    let h = and_parts (is_in_range 48 57 b) (list_all (is_in_range 48 57) bs) size.0 in
    let range = in_range 48 57 b h.0 in
    (b, bs, range.0, range.1, refl)

number_begins : (is_negative : Bool) (n : ℕ) (digits front : List ℕ) → IsSize n digits → front ≡ (if is_negative then 45 ∷ digits else digits) → Begins front
number_begins true n digits front size is = (45, digits, omega arith, λ e. omega (arith, e), λ e. omega (arith, e), is)
number_begins false n digits front size is =
    let d = first_digit n digits size in
    (d.0, d.1, omega (arith, d.2), λ e. omega (arith, e, d.3), λ e. omega (arith, e, d.3), is ∙ d.4)

boolean_begins : (b : Bool) (front : List ℕ) → front ≡ (if b then codes "true" else codes "false") → Begins front
boolean_begins true front is = (116, codes "rue", omega arith, λ e. omega (arith, e), λ e. omega (arith, e), is)
boolean_begins false front is = (102, codes "alse", omega arith, λ e. omega (arith, e), λ e. omega (arith, e), is)

value_begins : (Inner : Tree → List ℕ → Type 0) → AllBegin (IsValue Inner)
value_begins Inner tree.unit front is = absurd is
value_begins Inner (tree.boolean b) front is = boolean_begins b front is
value_begins Inner (tree.number n) front is = number_begins is.2.0 is.2.1 is.2.2 front is.2.4 is.2.6
value_begins Inner (tree.character c) front is = absurd is
value_begins Inner (tree.text x) front is = (34, _, omega arith, λ e. omega (arith, e), λ e. omega (arith, e), is.7)
value_begins Inner (tree.octets x) front is = absurd is
value_begins Inner (tree.seq ts) front is = (91, _, omega arith, λ e. omega (arith, e), λ e. omega (arith, e), is.2.2)
value_begins Inner (tree.map ps) front is = (123, _, omega arith, λ e. omega (arith, e), λ e. omega (arith, e), is.2.2)
value_begins Inner tree.absent front is = (110, codes "ull", omega arith, λ e. omega (arith, e), λ e. omega (arith, e), is)
value_begins Inner (tree.present t) front is = absurd is
value_begins Inner (tree.structure n d) front is = absurd is
value_begins Inner (tree.enumeration n i v d) front is = absurd is
value_begins Inner (tree.tuple ts) front is = absurd is

pub value_of_begins : (limit : ℕ) → AllBegin (IsValueOf limit)
value_of_begins zero t front is = absurd is
value_of_begins (suc limit) t front is = value_begins (IsValueOf limit) t front is

-- no blank is skipped before a part
pub stays : (front rest : List ℕ) → Begins front → after_blanks (front ++ rest) ≡ front ++ rest
stays front rest begins =
    ap (λ l. after_blanks (l ++ rest)) begins.5 ∙ skip_none begins.0 (begins.1 ++ rest) (no_blank begins.0 begins.2) ∙ ap (λ l. l ++ rest) (sym begins.5)

-- a closing bracket
pub record Closes (close : ℕ) : Type 0 where
  pub ends : ends_value close ≡ true
  pub solid : is_blank close ≡ false
  pub no_comma : (44 == close) ≡ false
  pub bracket : (close ≡ 93) ⊎ (close ≡ 125)

not_close : (close : ℕ) (front rest : List ℕ) → Closes close → Begins front → begins_with close (front ++ rest) ≡ false
not_close close front rest closes begins =
    ap (λ l. begins_with close (l ++ rest)) begins.5
    ∙ ne_eqb begins.0 close (λ e. elim closes.bracket [ inl is ↦ begins.3 (e ∙ is) | inr is ↦ begins.4 (e ∙ is) ])

three : (a b c d : List ℕ) → (a ++ (b ++ c)) ++ d ≡ a ++ (b ++ (c ++ d))
three a b c d = append_assoc a (b ++ c) d ∙ ap (λ l. a ++ l) (append_assoc b c d)

-- a part with blanks around it
spaced_there : {A : Type 0} (close : ℕ) (Part : A → List ℕ → Type 0) (part : Reader A) (x : A) (inside tail : List ℕ) → Closes close → Finds Part part → AllBegin Part
    → Spaced (Part x) inside → follows tail ≡ true
    → (left : List ℕ) × (part (after_blanks (inside ++ tail)) ≡ Ok (x, left)) × (after_blanks left ≡ after_blanks tail) × (begins_with close (after_blanks (inside ++ tail)) ≡ false)
spaced_there close Part part x inside tail closes finds begin is ends =
    let before = is.0 in
    let front = is.1 in
    let after = is.2 in
    let here : after_blanks (inside ++ tail) ≡ front ++ (after ++ tail) =
    ap (λ l. after_blanks (l ++ tail)) is.6 ∙ ap after_blanks (three before front after tail) ∙ skip_over before (front ++ (after ++ tail)) is.3
    ∙ stays front (after ++ tail) (begin x front is.4) in (
      after ++ tail,
      ap part here ∙ finds x front (after ++ tail) is.4 (follows_blanks after tail is.5 ends),
      skip_over after tail is.5,
      ap (begins_with close) here ∙ not_close close front (after ++ tail) closes (begin x front is.4),
    )

last_there : (close : ℕ) (left rest : List ℕ) → Closes close → after_blanks left ≡ after_blanks (close ∷ rest) → next_at close (after_blanks left) ≡ Ok (false, rest)
unfolding next_at
last_there close left rest closes same = rw (same ∙ skip_none close rest closes.solid, same_byte close) refl

more_there : (close : ℕ) (left rest : List ℕ) → Closes close → after_blanks left ≡ after_blanks (44 ∷ rest) → next_at close (after_blanks left) ≡ Ok (true, after_blanks rest)
unfolding next_at
more_there close left rest closes same = rw (same ∙ skip_none 44 rest refl, closes.no_comma) refl

parts_there : {A : Type 0} (close : ℕ) (Part : A → List ℕ → Type 0) (part : Reader A) → Closes close → Finds Part part → AllBegin Part
    → (k : ℕ) (xs : List A) (inside rest : List ℕ) → Joined Part xs inside → length xs ≤ k → parts_at close part k (after_blanks (inside ++ (close ∷ rest))) ≡ Ok (xs, rest)
unfolding parts_at
parts_there close Part part closes finds begin k [] inside rest joined enough = absurd joined
parts_there close Part part closes finds begin zero (x ∷ xs) inside rest joined enough = absurd (omega (arith, enough))
parts_there close Part part closes finds begin (suc k) (x ∷ []) inside rest joined enough =
    let h = spaced_there close Part part x inside (close ∷ rest) closes finds begin joined closes.ends in
    rw (h.1, last_there close h.0 rest closes h.2) refl
parts_there close Part part closes finds begin (suc k) (x ∷ y ∷ ys) inside rest joined enough =
    let front = joined.0 in
    let back = joined.1 in
    let tail = back ++ (close ∷ rest) in
    let all : inside ++ (close ∷ rest) ≡ front ++ (44 ∷ tail) = ap (λ l. l ++ (close ∷ rest)) joined.4 ∙ append_assoc front (44 ∷ back) (close ∷ rest) in
    let h = spaced_there close Part part x front (44 ∷ tail) closes finds begin joined.2 refl in
    let others = parts_there close Part part closes finds begin k (y ∷ ys) back rest joined.3 (omega (arith, enough)) in
    rw (all, h.1, more_there close h.0 tail closes h.2, others) refl

-- parts are no more than the commas between them and one
fewer : {A : Type 0} (Part : A → List ℕ → Type 0) (xs : List A) (inside : List ℕ) → Joined Part xs inside → length xs ≤ suc (length inside)
fewer Part [] inside joined = absurd joined
fewer Part (x ∷ []) inside joined = omega arith
fewer Part (x ∷ y ∷ ys) inside joined =
    let less = fewer Part (y ∷ ys) joined.1 joined.3 in
    omega (arith, less, ap length joined.4, length-append joined.0 (44 ∷ joined.1))

-- the first part isn't the bracket
begun : {A : Type 0} (close : ℕ) (Part : A → List ℕ → Type 0) (part : Reader A) → Closes close → Finds Part part → AllBegin Part
    → (xs : List A) (inside rest : List ℕ) → Joined Part xs inside → begins_with close (after_blanks (inside ++ (close ∷ rest))) ≡ false
begun close Part part closes finds begin [] inside rest joined = absurd joined
begun close Part part closes finds begin (x ∷ []) inside rest joined = (spaced_there close Part part x inside (close ∷ rest) closes finds begin joined closes.ends).3
begun close Part part closes finds begin (x ∷ y ∷ ys) inside rest joined =
    let tail = 44 ∷ (joined.1 ++ (close ∷ rest)) in
    let all : inside ++ (close ∷ rest) ≡ joined.0 ++ tail = ap (λ l. l ++ (close ∷ rest)) joined.4 ∙ append_assoc joined.0 (44 ∷ joined.1) (close ∷ rest) in
    ap (λ l. begins_with close (after_blanks l)) all ∙ (spaced_there close Part part x joined.0 tail closes finds begin joined.2 refl).3

pub series_there : {A : Type 0} (close : ℕ) (Part : A → List ℕ → Type 0) (part : Reader A) → Closes close → Finds Part part → AllBegin Part
    → (xs : List A) (inside rest : List ℕ) → ((xs ≡ []) × AreBlanks inside) ⊎ Joined Part xs inside → series_at close part (inside ++ (close ∷ rest)) ≡ Ok (xs, rest)
unfolding series_at
series_there close Part part closes finds begin xs inside rest (inl none) =
    let here : after_blanks (inside ++ (close ∷ rest)) ≡ close ∷ rest = skip_over inside (close ∷ rest) none.1 ∙ skip_none close rest closes.solid in
    rw (here, same_byte close, none.0) refl
series_there close Part part closes finds begin xs inside rest (inr joined) =
    let first = begun close Part part closes finds begin xs inside rest joined in
    let few = fewer Part xs inside joined in
    let enough : length xs ≤ length (inside ++ (close ∷ rest)) = omega (arith, few, length-append inside (close ∷ rest)) in
    rw first (parts_there close Part part closes finds begin (length (inside ++ (close ∷ rest))) xs inside rest joined enough)

-- ---- members

member_begins : (Inner : Tree → List ℕ → Type 0) → AllBegin (IsMember Inner)
member_begins Inner p front is =
    let key = is.6 in
    (34, _, omega arith, λ e. omega (arith, e), λ e. omega (arith, e), is.10 ∙ ap (λ l. l ++ (is.2 ++ (58 ∷ (is.3 ++ is.4)))) key.7)

member_there : (Inner : Tree → List ℕ → Type 0) (part : Reader Tree) → Finds Inner part → AllBegin Inner → Finds (IsMember Inner) (member_at part)
unfolding member_at
member_there Inner part finds begin p front rest is ends =
    let x = is.0 in
    let key = is.1 in
    let before = is.2 in
    let after = is.3 in
    let value = is.4 in
    let text = is.6 in
    let k = text.0 ++ (text.3 ++ (34 ∷ [])) in
    let tail = before ++ (58 ∷ (after ++ (value ++ rest))) in
    let all : front ++ rest ≡ 34 ∷ (k ++ tail) =
    ap (λ l. l ++ rest) is.10 ∙ append_assoc key (before ++ (58 ∷ (after ++ value))) rest
    ∙ ap (λ l. key ++ l) (append_assoc before (58 ∷ (after ++ value)) rest ∙ ap (λ l. before ++ (58 ∷ l)) (append_assoc after value rest))
    ∙ ap (λ l. l ++ tail) text.7 in
    let named : string_at (k ++ tail) ≡ Ok (x, tail) = string_there x k tail (text.0, text.1, text.2, text.3, text.4, text.5, text.6, refl) in
    let colon : after_blanks tail ≡ 58 ∷ (after ++ (value ++ rest)) = skip_over before (58 ∷ (after ++ (value ++ rest))) is.7 ∙ skip_none 58 (after ++ (value ++ rest)) refl in
    let here : after_blanks (after ++ (value ++ rest)) ≡ value ++ rest = skip_over after (value ++ rest) is.8 ∙ stays value rest (begin p.1 value is.9) in
    let read = finds p.1 value rest is.9 ends in
    rw (all, byte_there fault.Unexpected 34 (k ++ tail), named, colon, byte_there fault.Unexpected 58 (after ++ (value ++ rest)), here, read)
    (ap (λ n. Ok ((n, p.1), rest)) (sym is.5))

-- ---- values

array_closes : Closes 93
array_closes = record { ends = refl; solid = refl; no_comma = refl; bracket = inl refl }

object_closes : Closes 125
object_closes = record { ends = refl; solid = refl; no_comma = refl; bracket = inr refl }

boolean_there : (limit : ℕ) (b : Bool) (front rest : List ℕ) → front ≡ (if b then codes "true" else codes "false") → value_at (suc limit) (front ++ rest) ≡ Ok (tree.boolean b, rest)
unfolding value_at leaf_at
boolean_there limit true front rest is = rw is (ap (λ r. r >>= λ behind. Ok (tree.boolean true, behind)) (word_there (codes "true") rest))
boolean_there limit false front rest is = rw is (ap (λ r. r >>= λ behind. Ok (tree.boolean false, behind)) (word_there (codes "false") rest))

integer_there : (limit : ℕ) (is_negative : Bool) (n : ℕ) (digits front rest : List ℕ) → IsSize n digits → n ≤ greatest is_negative
    → front ≡ (if is_negative then 45 ∷ digits else digits) → follows rest ≡ true → value_at (suc limit) (front ++ rest) ≡ Ok (tree.number (number_of (signed is_negative n)), rest)
unfolding value_at leaf_at
integer_there limit true n digits front rest size room is ends =
    rw (is, byte_there fault.Unexpected 45 (digits ++ rest), number_there true n digits rest size room ends) refl
integer_there limit false n [] front rest size room is ends = let d = first_digit n [] size in absurd (cc d.4)
integer_there limit false n (f ∷ fs) front rest size room is ends =
    let d = first_digit n (f ∷ fs) size in
    let same : f ≡ d.0 = cc d.4 in
    let low : 48 ≤ f = omega (arith, d.2, same) in
    let high : f ≤ 57 = omega (arith, d.3, same) in
    rw (
      is,
      ne_eqb f 91 (λ e. omega (arith, e, high)),
      ne_eqb f 123 (λ e. omega (arith, e, high)),
      ne_eqb f 34 (λ e. omega (arith, e, low)),
      ne_eqb f 45 (λ e. omega (arith, e, low)),
      ne_eqb f 116 (λ e. omega (arith, e, high)),
      ne_eqb f 102 (λ e. omega (arith, e, high)),
      ne_eqb f 110 (λ e. omega (arith, e, high)),
      number_there false n (f ∷ fs) rest size room ends,
    ) refl

text_there : (limit : ℕ) (x : Text) (front rest : List ℕ) → IsString x front → value_at (suc limit) (front ++ rest) ≡ Ok (tree.text x, rest)
unfolding value_at leaf_at
text_there limit x front rest is =
    let k = is.0 ++ (is.3 ++ (34 ∷ [])) in
    rw (is.7, byte_there fault.Unexpected 34 (k ++ rest), string_there x k rest (is.0, is.1, is.2, is.3, is.4, is.5, is.6, refl)) refl

pub value_there : (limit : ℕ) → Finds (IsValueOf limit) (value_at limit)
unfolding value_at leaf_at
value_there zero t front rest is ends = absurd is
value_there (suc limit) tree.unit front rest is ends = absurd is
value_there (suc limit) (tree.boolean b) front rest is ends = boolean_there limit b front rest is
value_there (suc limit) (tree.number n) front rest is ends =
    integer_there limit is.2.0 is.2.1 is.2.2 front rest is.2.4 is.2.3 is.2.6 ends ∙ ap (λ m. Ok (tree.number m, rest)) (ap number_of (sym is.2.5) ∙ sym is.1)
value_there (suc limit) (tree.character c) front rest is ends = absurd is
value_there (suc limit) (tree.text x) front rest is ends = text_there limit x front rest is
value_there (suc limit) (tree.octets x) front rest is ends = absurd is
value_there (suc limit) (tree.seq ts) front rest is ends =
    let inside = is.2.0 in
    let all = series_there 93 (IsValueOf limit) (value_at limit) array_closes (value_there limit) (value_of_begins limit) is.0 inside rest is.2.1 in
    rw (is.2.2, append_assoc inside (93 ∷ []) rest, all) (ap (λ us. Ok (tree.seq us, rest)) (sym is.1))
value_there (suc limit) (tree.map ps) front rest is ends =
    let inside = is.2.0 in
    let all =
    series_there 125 (IsMember (IsValueOf limit)) (member_at (value_at limit)) object_closes (member_there (IsValueOf limit) (value_at limit) (value_there limit) (value_of_begins limit))
    (member_begins (IsValueOf limit)) is.0 inside rest is.2.1 in
    rw (is.2.2, append_assoc inside (125 ∷ []) rest, all) (ap (λ us. Ok (tree.map us, rest)) (sym is.1))
value_there (suc limit) tree.absent front rest is ends = rw is (ap (λ r. r >>= λ behind. Ok (tree.absent, behind)) (word_there (codes "null") rest))
value_there (suc limit) (tree.present t) front rest is ends = absurd is
value_there (suc limit) (tree.structure n d) front rest is ends = absurd is
value_there (suc limit) (tree.enumeration n i v d) front rest is ends = absurd is
value_there (suc limit) (tree.tuple ts) front rest is ends = absurd is

pub whole_there : (limit : ℕ) (t : Tree) (bs : List ℕ) → Codes limit t bs → whole_at limit bs ≡ Ok t
unfolding whole_at
whole_there limit t bs is =
    let before = is.0 in
    let front = is.1 in
    let after = is.2 in
    let here : after_blanks bs ≡ front ++ after = ap after_blanks is.6 ∙ skip_over before (front ++ after) is.3 ∙ stays front after (value_of_begins limit t front is.4) in
    let ends : follows after ≡ true = ap follows (sym (append-nil after)) ∙ follows_blanks after [] is.5 refl in
    rw (here, value_there limit t front after is.4 ends, all_blanks after is.5) refl
