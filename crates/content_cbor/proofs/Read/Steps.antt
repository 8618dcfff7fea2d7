-- Steps of reading that did not fail.
use Rattle.std.proofs.Common.{◌≡◌, ℕ, Bool, true, false, cond, Option, Some, None, Result, Ok, Err, List, length, ◌⊎◌, refl, ap, inl, inr}
use Rattle.content_cbor.specs.declared.decode_error.Fault.{Fault}
use Rattle.content_cbor.specs.declared.stop.Refusal.{Refusal}
use Rattle.content_cbor.specs.Inner.Steps.{◌>>=◌, or_refused, unless}

abbrev done : {A : Type 0} → A → Result A Refusal
done x = Ok x

pub ok_is : {A : Type 0} (x y : A) → done x ≡ done y → x ≡ y
ok_is x y e = cc

-- the value of a step that did not fail
pub bind_ok : {A B : Type 0} (r : Result A Refusal) (f : A → Result B Refusal) (y : B) → (r >>= f) ≡ Ok y → (x : A) × (r ≡ Ok x) × (f x ≡ Ok y)
bind_ok (Ok x) f y e = (x, refl, e)
bind_ok (Err d) f y e = absurd cc

-- which way a test went
pub chosen : {A : Type 0} (b : Bool) (x y z : A) → cond b x y ≡ z → ((b ≡ true) × (x ≡ z)) ⊎ ((b ≡ false) × (y ≡ z))
chosen true x y z e = inl (refl, e)
chosen false x y z e = inr (refl, e)

-- a test that did not refuse
pub passed : {A : Type 0} (b : Bool) (d : Refusal) (r : Result A Refusal) (y : A) → cond b (Err d) r ≡ Ok y → (b ≡ false) × (r ≡ Ok y)
passed true d r y e = absurd cc
passed false d r y e = (refl, e)

pub failed : {A : Type 0} (b : Bool) (d : Refusal) (r : Result A Refusal) (y : A) → cond b r (Err d) ≡ Ok y → (b ≡ true) × (r ≡ Ok y)
failed true d r y e = (refl, e)
failed false d r y e = absurd cc

-- what is there, where nothing was refused
pub there : {A : Type 0} (f : Fault) (left : List ℕ) (o : Option A) (x : A) → or_refused f left o ≡ Ok x → o ≡ Some x
there f left None x e = absurd cc
there f left (Some y) x e = cc

-- nothing was wrong
pub not_wrong : {A : Type 0} (o : Option Fault) (left : List ℕ) (x y : A) → unless o left x ≡ Ok y → (o ≡ None) × (x ≡ y)
not_wrong None left x y e = (refl, ok_is x y e)
not_wrong (Some f) left x y e = absurd cc

-- ---- steps that failed

abbrev pub told : {A : Type 0} → Refusal → Result A Refusal
told e = Err e

pub same_refusal : {A : Type 0} (d e : Refusal) → told {A = A} d ≡ told e → d ≡ e
same_refusal d e is = cc

pub same_left : {A : Type 0} (d e : Refusal) → told {A = A} d ≡ told e → d.left ≡ e.left
same_left d e is = ap (λ (u : Refusal). u.left) (same_refusal d e is)

pub bind_err : {A B : Type 0} (r : Result A Refusal) (f : A → Result B Refusal) (e : Refusal) → (r >>= f) ≡ Err e
    → (r ≡ Err e) ⊎ ((x : A) × (r ≡ Ok x) × (f x ≡ Err e))
bind_err (Ok x) f e is = inr (x, refl, is)
bind_err (Err d) f e is = inl (ap told (same_refusal d e is))

-- where something was wrong
pub wrong_left : {A : Type 0} (o : Option Fault) (left : List ℕ) (x : A) (e : Refusal) → unless o left x ≡ Err e → length left ≡ e.left
wrong_left None left x e is = absurd cc
wrong_left {A} (Some f) left x e is = same_left {A = A} (record { «fault» = f; left = length left }) e is

-- where nothing was there
pub not_there : {A : Type 0} (f : Fault) (left : List ℕ) (o : Option A) (e : Refusal) → or_refused f left o ≡ Err e → length left ≡ e.left
not_there {A} f left None e is = same_left {A = A} (record { «fault» = f; left = length left }) e is
not_there f left (Some x) e is = absurd cc
