-- What is coded keeps the limit, and is coded within each greater one.
use Rattle.std.proofs.Common.{◌≡◌, ℕ, suc, zero, ◌≤◌, ◌<◌, List, [], ◌∷◌, inl, inr, sym, subst, arith}
use Rattle.content_tree.specs.Values.Tree as tree
use Rattle.content_tree.specs.Values.Tree.{Tree}
use Rattle.content_tree.specs.Values.Value.{trees_of, pairs_of}
use Rattle.content_cbor.specs.Codes.{Codes, Each, IsItem, IsPair, Parts}
use Rattle.content_cbor.specs.Form.{depth, each_depth, each_form, form, pair_depths, pair_forms}
use Rattle.content_cbor.specs.Laws.{FormsKeepLimits, LimitsAreKept, LimitsWiden}
use Rattle.content_cbor.specs.declared.heads.Major.{Major}
use Rattle.content_cbor.specs.declared.heads.Major.TheVariants as major
use Rattle.content_cbor.proofs.Read.Whole.{one_tree}

-- what is coded within a limit keeps it
abbrev Kept : ℕ → Type 0
Kept limit = (bs : List ℕ) (t : Tree) → Codes limit t bs → depth t ≤ limit

-- parts with a head or with a break
body_of : {A : Type 0} (m : Major) (Part : A → List ℕ → Type 0) (xs : List A) (bs : List ℕ) → Parts m Part xs bs → (body : List ℕ) × Each Part xs body
body_of m Part xs bs (inl w) = (w.1, w.3)
body_of m Part xs bs (inr w) = (w.0, w.1)

each_kept : (limit : ℕ) → Kept limit → (xs : List Tree) (bs : List ℕ) → Each (Codes limit) xs bs → each_depth (trees_of xs) ≤ limit
each_kept limit kept [] bs w = omega arith
each_kept limit kept (x ∷ xs) bs w = omega (arith, kept w.0 x w.2, each_kept limit kept xs w.1 w.3)

pairs_kept : (limit : ℕ) → Kept limit → (xs : List (Tree × Tree)) (bs : List ℕ) → Each (IsPair (Codes limit)) xs bs → pair_depths (pairs_of xs) ≤ limit
pairs_kept limit kept [] bs w = omega arith
pairs_kept limit kept (x ∷ xs) bs w =
    let pair : IsPair (Codes limit) x w.0 = w.2 in
    omega (arith, kept pair.0 x.0 pair.2, kept pair.1 x.1 pair.3, pairs_kept limit kept xs w.1 w.3)

kept_by : (limit : ℕ) → Kept limit → Kept (suc limit)
kept_by limit kept bs tree.absent w = omega arith
kept_by limit kept bs (tree.boolean b) w = omega arith
kept_by limit kept bs (tree.number n) w = omega arith
kept_by limit kept bs (tree.text x) w = omega arith
kept_by limit kept bs (tree.octets x) w = omega arith
kept_by limit kept bs (tree.seq ts) w =
    let body = body_of major.Array (Codes limit) w.0 bs w.2 in
    let le : each_depth (trees_of w.0) ≤ limit = each_kept limit kept w.0 body.0 body.1 in
    subst (λ us. suc (each_depth us) ≤ suc limit) (sym w.1) (omega (arith, le))
kept_by limit kept bs (tree.map ps) w =
    let body = body_of major.Map (IsPair (Codes limit)) w.0 bs w.2 in
    let le : pair_depths (pairs_of w.0) ≤ limit = pairs_kept limit kept w.0 body.0 body.1 in
    subst (λ us. suc (pair_depths us) ≤ suc limit) (sym w.1) (omega (arith, le))
kept_by limit kept bs tree.unit w = absurd w
kept_by limit kept bs (tree.character c) w = absurd w
kept_by limit kept bs (tree.present t) w = absurd w
kept_by limit kept bs (tree.structure n d) w = absurd w
kept_by limit kept bs (tree.enumeration n i v d) w = absurd w
kept_by limit kept bs (tree.tuple ts) w = absurd w

pub limits_kept : LimitsAreKept
limits_kept zero bs t w = absurd w
limits_kept (suc limit) bs t w = kept_by limit (limits_kept limit) bs t w

-- ---- forms

-- the form of what is coded within a limit keeps it
abbrev FormKept : ℕ → Type 0
FormKept limit = (bs : List ℕ) (t : Tree) → Codes limit t bs → depth (form t) ≤ limit

each_form_kept : (limit : ℕ) → FormKept limit → (xs : List Tree) (bs : List ℕ) → Each (Codes limit) xs bs → each_depth (each_form (trees_of xs)) ≤ limit
each_form_kept limit kept [] bs w = omega arith
each_form_kept limit kept (x ∷ xs) bs w = omega (arith, kept w.0 x w.2, each_form_kept limit kept xs w.1 w.3)

pair_forms_kept : (limit : ℕ) → FormKept limit → (xs : List (Tree × Tree)) (bs : List ℕ) → Each (IsPair (Codes limit)) xs bs
    → pair_depths (pair_forms (pairs_of xs)) ≤ limit
pair_forms_kept limit kept [] bs w = omega arith
pair_forms_kept limit kept (x ∷ xs) bs w =
    let pair : IsPair (Codes limit) x w.0 = w.2 in
    omega (arith, kept pair.0 x.0 pair.2, kept pair.1 x.1 pair.3, pair_forms_kept limit kept xs w.1 w.3)

form_kept_by : (limit : ℕ) → FormKept limit → FormKept (suc limit)
form_kept_by limit kept bs tree.absent w = omega arith
form_kept_by limit kept bs (tree.boolean b) w = omega arith
form_kept_by limit kept bs (tree.number n) w = omega arith
form_kept_by limit kept bs (tree.text x) w = omega arith
form_kept_by limit kept bs (tree.octets x) w = omega arith
form_kept_by limit kept bs (tree.seq ts) w =
    let body = body_of major.Array (Codes limit) w.0 bs w.2 in
    let le : each_depth (each_form (trees_of w.0)) ≤ limit = each_form_kept limit kept w.0 body.0 body.1 in
    subst (λ us. suc (each_depth (each_form us)) ≤ suc limit) (sym w.1) (omega (arith, le))
form_kept_by limit kept bs (tree.map ps) w =
    let body = body_of major.Map (IsPair (Codes limit)) w.0 bs w.2 in
    let le : pair_depths (pair_forms (pairs_of w.0)) ≤ limit = pair_forms_kept limit kept w.0 body.0 body.1 in
    subst (λ us. suc (pair_depths (pair_forms us)) ≤ suc limit) (sym w.1) (omega (arith, le))
form_kept_by limit kept bs tree.unit w = absurd w
form_kept_by limit kept bs (tree.character c) w = absurd w
form_kept_by limit kept bs (tree.present t) w = absurd w
form_kept_by limit kept bs (tree.structure n d) w = absurd w
form_kept_by limit kept bs (tree.enumeration n i v d) w = absurd w
form_kept_by limit kept bs (tree.tuple ts) w = absurd w

pub forms_kept : FormsKeepLimits
forms_kept zero bs t w = absurd w
forms_kept (suc limit) bs t w = form_kept_by limit (forms_kept limit) bs t w

-- ---- greater limits

-- what the one says of bytes the other says too
abbrev Within : {A : Type 0} → (A → List ℕ → Type 0) → (A → List ℕ → Type 0) → Type 0
Within {A} P Q = (x : A) (bs : List ℕ) → P x bs → Q x bs

each_within : {A : Type 0} (P Q : A → List ℕ → Type 0) → Within P Q → Within (Each P) (Each Q)
each_within P Q on [] bs w = w
each_within P Q on (x ∷ xs) bs w = (w.0, w.1, on x w.0 w.2, each_within P Q on xs w.1 w.3, w.4)

parts_within : {A : Type 0} (m : Major) (P Q : A → List ℕ → Type 0) → Within P Q → Within (Parts m P) (Parts m Q)
parts_within m P Q on xs bs (inl w) = inl (w.0, w.1, w.2, each_within P Q on xs w.1 w.3, w.4)
parts_within m P Q on xs bs (inr w) = inr (w.0, each_within P Q on xs w.0 w.1, w.2)

pair_within : (P Q : Tree → List ℕ → Type 0) → Within P Q → Within (IsPair P) (IsPair Q)
pair_within P Q on x bs w = (w.0, w.1, on x.0 w.0 w.2, on x.1 w.1 w.3, w.4)

item_within : (P Q : Tree → List ℕ → Type 0) → Within P Q → Within (IsItem P) (IsItem Q)
item_within P Q on tree.absent bs w = w
item_within P Q on (tree.boolean b) bs w = w
item_within P Q on (tree.number n) bs w = w
item_within P Q on (tree.text x) bs w = w
item_within P Q on (tree.octets x) bs w = w
item_within P Q on (tree.seq ts) bs w = (w.0, w.1, parts_within major.Array P Q on w.0 bs w.2)
item_within P Q on (tree.map ps) bs w = (w.0, w.1, parts_within major.Map (IsPair P) (IsPair Q) (pair_within P Q on) w.0 bs w.2)
item_within P Q on tree.unit bs w = absurd w
item_within P Q on (tree.character c) bs w = absurd w
item_within P Q on (tree.present t) bs w = absurd w
item_within P Q on (tree.structure n d) bs w = absurd w
item_within P Q on (tree.enumeration n i v d) bs w = absurd w
item_within P Q on (tree.tuple ts) bs w = absurd w

pub limits_widen : LimitsWiden
limits_widen zero greater bs t le w = absurd w
limits_widen (suc limit) zero bs t le w = absurd (omega (arith, le))
limits_widen (suc limit) (suc greater) bs t le w =
    item_within (Codes limit) (Codes greater) (λ u cs. limits_widen limit greater cs u (omega (arith, le))) t bs w

-- what codes a tree beyond the limit codes none within it
pub none_within : (limit : ℕ) (bs : List ℕ) (t u : Tree) → limit < depth u → Codes (depth u) u bs → Codes limit t bs → ⊥
none_within limit bs t u past deep is =
    let same : t ≡ u = one_tree (depth u) bs t u (limits_widen limit (depth u) bs t (omega (arith, past)) is) deep in
    let le : depth u ≤ limit = subst (λ v. depth v ≤ limit) same (limits_kept limit bs t is) in
    absurd (omega (arith, le, past))
