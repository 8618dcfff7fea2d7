-- A greater limit changes nothing but what nests too deep.
use Rattle.std.proofs.Common.{◌≡◌, ℕ, suc, zero, ◌+◌, ◌*◌, ◌≤◌, Bool, true, false, cond, eqb, ltb, List, [], ◌∷◌, length, Option, Some, None, Result, Ok, Err, ◌⊎◌, refl, sym, ap, subst, ◌∙◌, arith, inl, inr}
use Rattle.std.proofs.lemmas.Bool.{cases_lt}
use Rattle.content_tree.specs.Values.Tree.{Tree}
use Rattle.content_cbor.specs.Decoded.{StopsAt}
use Rattle.content_cbor.specs.declared.decode_error.DecodeError.TheVariants as error
use Rattle.content_cbor.specs.declared.decode_error.Fault.{Fault}
use Rattle.content_cbor.specs.declared.decode_error.Fault.TheVariants as fault
use Rattle.content_cbor.specs.declared.heads.First.{First}
use Rattle.content_cbor.specs.declared.heads.Major.{Major}
use Rattle.content_cbor.specs.declared.heads.Major.TheVariants as major
use Rattle.content_cbor.specs.declared.stop.Refusal.{Refusal}
use Rattle.content_cbor.specs.Inner.Steps.{◌>>=◌, Reader, refused}
use Rattle.content_cbor.specs.Inner.Numbers.{Bounds, argument_at, between, digits_at, size_of, unbounded}
use Rattle.content_cbor.specs.Inner.Reading.{at_break, bounds_of, each_at, head_at, head_behind, inside_at, item_at, kind_at, leaf_at, pair_at, parts_at, until_at, whole_at}
use Rattle.content_cbor.proofs.Read.Steps.{same_refusal}

-- the same, or too deep
abbrev Widens : {A : Type 0} → Result A Refusal → Result A Refusal → Type 0
Widens (Ok x) wider = wider ≡ Ok x
Widens (Err e) wider = (e.«fault» ≡ fault.TooDeep) ⊎ (wider ≡ Err e)

abbrev Wider : {A : Type 0} → Reader A → Reader A → Type 0
Wider read wide = (bs : List ℕ) → Widens (read bs) (wide bs)

-- ---- steps

same_widens : {A : Type 0} (r : Result A Refusal) → Widens r r
same_widens (Ok x) = refl
same_widens (Err e) = inr refl

widens_then : {A B : Type 0} (r wide : Result A Refusal) (f g : A → Result B Refusal) → Widens r wide → ((x : A) → Widens (f x) (g x)) → Widens (r >>= f) (wide >>= g)
widens_then (Ok x) wide f g is next = rw is (next x)
widens_then (Err e) wide f g (inl deep) next = inl deep
widens_then (Err e) wide f g (inr is) next = inr (ap (λ r. r >>= g) is)

widens_if : {A : Type 0} (b : Bool) (x y wide_x wide_y : Result A Refusal) → Widens x wide_x → Widens y wide_y → Widens (cond b x y) (cond b wide_x wide_y)
widens_if true x y wide_x wide_y p q = p
widens_if false x y wide_x wide_y p q = q

deep_or : {A : Type 0} (b : Bool) (d : Refusal) (r wide : Result A Refusal) → d.«fault» ≡ fault.TooDeep → Widens r wide → Widens (cond b r (Err d)) wide
deep_or true d r wide deep is = is
deep_or false d r wide deep is = inl deep

deep_first : {A B C : Type 0} (r : Result A Refusal) (d : Refusal) (f : A → Result B Refusal) (g : B → Result C Refusal) → d.«fault» ≡ fault.TooDeep
    → Widens (r >>= λ x. Err d) ((r >>= f) >>= g)
deep_first (Ok x) d f g deep = inl deep
deep_first (Err e) d f g deep = inr refl

-- ---- heads

digits_wider : (due n : ℕ) (bs : List ℕ) → Widens (digits_at (between 0 0 fault.TooDeep) due n bs) (digits_at unbounded due n bs)
unfolding digits_at
digits_wider zero n bs = refl
digits_wider (suc due) n [] = inr refl
digits_wider (suc due) n (b ∷ bs) =
    deep_or ((between 0 0 fault.TooDeep).admits due (n * 256 + b)) (record { «fault» = fault.TooDeep; left = suc (length bs) })
    (digits_at (between 0 0 fault.TooDeep) due (n * 256 + b) bs) (digits_at unbounded due (n * 256 + b) bs) refl (digits_wider due (n * 256 + b) bs)

argument_wider : (info : ℕ) (bs : List ℕ) → Widens (argument_at (between 0 0 fault.TooDeep) info bs) (argument_at unbounded info bs)
unfolding argument_at
argument_wider info bs =
    widens_if (ltb info 24) _ _ _ _
    (deep_or ((between 0 0 fault.TooDeep).admits 0 info) (record { «fault» = fault.TooDeep; left = suc (length bs) }) (Ok (info, bs)) (Ok (info, bs)) refl refl)
    (digits_wider (size_of info) 0 bs)

argument_of : (limit : ℕ) (m : Major) (info : ℕ) (bs : List ℕ) → Widens (argument_at (bounds_of limit m) info bs) (argument_at (bounds_of (suc limit) m) info bs)
argument_of zero major.Array info bs = argument_wider info bs
argument_of zero major.Map info bs = argument_wider info bs
argument_of (suc limit) major.Array info bs = same_widens (argument_at unbounded info bs)
argument_of (suc limit) major.Map info bs = same_widens (argument_at unbounded info bs)
argument_of limit major.Tag info bs = same_widens (argument_at (between 2 3 fault.Tag) info bs)
argument_of limit major.Unsigned info bs = same_widens (argument_at unbounded info bs)
argument_of limit major.Negative info bs = same_widens (argument_at unbounded info bs)
argument_of limit major.Bytes info bs = same_widens (argument_at unbounded info bs)
argument_of limit major.Text info bs = same_widens (argument_at unbounded info bs)
argument_of limit major.Simple info bs = same_widens (argument_at unbounded info bs)

behind_wider : (bounds wide : Bounds) (first : First) (bs : List ℕ) → Widens (argument_at bounds first.info bs) (argument_at wide first.info bs)
    → Widens (head_behind bounds first bs) (head_behind wide first bs)
behind_wider bounds wide first bs is =
    widens_if (eqb first.info 31) _ _ _ _ refl (widens_then (argument_at bounds first.info bs) (argument_at wide first.info bs) _ _ is (λ n. refl))

head_wider : (limit : ℕ) → Wider (head_at limit) (head_at (suc limit))
unfolding head_at
head_wider limit bs =
    widens_then (kind_at bs) (kind_at bs) _ _ (same_widens (kind_at bs)) (λ h.
    behind_wider (bounds_of limit h.0.«major») (bounds_of (suc limit) h.0.«major») h.0 h.1 (argument_of limit h.0.«major» h.0.info h.1))

-- ---- parts

each_wider : {A : Type 0} (read wide : Reader A) → Wider read wide → (k : ℕ) → Wider (each_at read k) (each_at wide k)
unfolding each_at
each_wider read wide wider zero bs = refl
each_wider read wide wider (suc k) bs =
    widens_then (read bs) (wide bs) _ _ (wider bs) (λ x. widens_then (each_at read k x.1) (each_at wide k x.1) _ _ (each_wider read wide wider k x.1) (λ xs. refl))

until_wider : {A : Type 0} (read wide : Reader A) → Wider read wide → (k : ℕ) → Wider (until_at read k) (until_at wide k)
unfolding until_at
until_wider read wide wider zero bs = inr refl
until_wider read wide wider (suc k) bs =
    widens_if (at_break bs) _ _ _ _ refl
    (widens_then (read bs) (wide bs) _ _ (wider bs) (λ x. widens_then (until_at read k x.1) (until_at wide k x.1) _ _ (until_wider read wide wider k x.1) (λ xs. refl)))

parts_wider : {A : Type 0} (read wide : Reader A) → Wider read wide → (o : Option ℕ) → Wider (parts_at read o) (parts_at wide o)
unfolding parts_at
parts_wider read wide wider None bs = until_wider read wide wider (length bs) bs
parts_wider read wide wider (Some n) bs = each_wider read wide wider n bs

pair_wider : (read wide : Reader Tree) → Wider read wide → Wider (pair_at read) (pair_at wide)
unfolding pair_at
pair_wider read wide wider bs =
    widens_then (read bs) (wide bs) _ _ (wider bs) (λ k. widens_then (read k.1) (wide k.1) _ _ (wider k.1) (λ v. refl))

-- ---- items

inside_wider : (read wide : Reader Tree) → Wider read wide → (m : Major) (o : Option ℕ) → Wider (inside_at read m o) (inside_at wide m o)
inside_wider read wide wider major.Array o bs = widens_then (parts_at read o bs) (parts_at wide o bs) _ _ (parts_wider read wide wider o bs) (λ xs. refl)
inside_wider read wide wider major.Map o bs =
    widens_then (parts_at (pair_at read) o bs) (parts_at (pair_at wide) o bs) _ _ (parts_wider (pair_at read) (pair_at wide) (pair_wider read wide wider) o bs) (λ xs. refl)
inside_wider read wide wider major.Unsigned o bs = same_widens (leaf_at major.Unsigned o bs)
inside_wider read wide wider major.Negative o bs = same_widens (leaf_at major.Negative o bs)
inside_wider read wide wider major.Bytes o bs = same_widens (leaf_at major.Bytes o bs)
inside_wider read wide wider major.Text o bs = same_widens (leaf_at major.Text o bs)
inside_wider read wide wider major.Tag o bs = same_widens (leaf_at major.Tag o bs)
inside_wider read wide wider major.Simple o bs = same_widens (leaf_at major.Simple o bs)

deep_wider : Wider (item_at zero) (item_at (suc zero))
unfolding item_at head_at
deep_wider bs = deep_first (kind_at bs) (record { «fault» = fault.TooDeep; left = length bs }) _ _ refl

item_wider : (limit : ℕ) → Wider (item_at limit) (item_at (suc limit))
unfolding item_at
item_wider zero bs = deep_wider bs
item_wider (suc limit) bs =
    widens_then (head_at limit bs) (head_at (suc limit) bs) _ _ (head_wider limit bs) (λ h.
    inside_wider (item_at limit) (item_at (suc limit)) (item_wider limit) h.0.«major» h.0.number h.1)

whole_wider : (limit : ℕ) (bs : List ℕ) → Widens (whole_at limit bs) (whole_at (suc limit) bs)
unfolding whole_at
whole_wider limit bs =
    widens_then (item_at limit bs) (item_at (suc limit) bs) _ _ (item_wider limit bs) (λ x.
    same_widens (cond (eqb (length x.1) 0) (Ok x.0) (refused fault.Trailing x.1)))

-- ---- refused alike

alike : {A : Type 0} (r wide : Result A Refusal) (e : Refusal) → Widens r wide → (e.«fault» ≡ fault.TooDeep → ⊥) → r ≡ Err e → wide ≡ Err e
alike (Ok x) wide e is other fails = absurd cc
alike {A} (Err d) wide e (inl deep) other fails = absurd (other (ap (λ (u : Refusal). u.«fault») (sym (same_refusal {A = A} d e fails)) ∙ deep))
alike (Err d) wide e (inr is) other fails = is ∙ fails

stays : {A : Type 0} (read : ℕ → List ℕ → Result A Refusal) → ((limit : ℕ) (bs : List ℕ) → Widens (read limit bs) (read (suc limit) bs)) → (greater limit : ℕ) (bs : List ℕ) (e : Refusal)
    → limit ≤ greater → (e.«fault» ≡ fault.TooDeep → ⊥) → read limit bs ≡ Err e → read greater bs ≡ Err e
stays read wider zero limit bs e le other is = let same : limit ≡ 0 = omega (arith, le) in subst (λ k. read k bs ≡ Err e) same is
stays read wider (suc greater) limit bs e le other is =
    elim (cases_lt greater limit) [
      | inl past ↦ let same : limit ≡ suc greater = omega (arith, le, past) in subst (λ k. read k bs ≡ Err e) same is
      | inr within ↦ alike (read greater bs) (read (suc greater) bs) e (wider greater bs) other (stays read wider greater limit bs e within other is)
    ]

pub alike_front : (limit greater : ℕ) (bs : List ℕ) (at : ℕ) (f : Fault) → limit ≤ greater → (f ≡ fault.TooDeep → ⊥) → StopsAt bs (error.Refused at f) (item_at limit bs)
    → StopsAt bs (error.Refused at f) (item_at greater bs)
alike_front limit greater bs at f le other stops =
    (stops.0, stays item_at item_wider greater limit bs (record { «fault» = f; left = stops.0 }) le other stops.1, stops.2)

pub alike_whole : (limit greater : ℕ) (bs : List ℕ) (at : ℕ) (f : Fault) → limit ≤ greater → (f ≡ fault.TooDeep → ⊥) → StopsAt bs (error.Refused at f) (whole_at limit bs)
    → StopsAt bs (error.Refused at f) (whole_at greater bs)
alike_whole limit greater bs at f le other stops =
    (stops.0, stays whole_at whole_wider greater limit bs (record { «fault» = f; left = stops.0 }) le other stops.1, stops.2)
