-- What begins a part, and where its bytes are refused.
use Rattle.std.proofs.Common.{◌≡◌, ℕ, List, [], ◌++◌, length, Err, ◌⊎◌, refl, sym, subst, append_assoc}
use Rattle.content_cbor.specs.declared.stop.Refusal.{Refusal}
use Rattle.content_cbor.specs.Inner.Steps.{Reader}
use Rattle.content_cbor.proofs.Read.Took.{IsBytes, regrouped}

-- some part begins so
abbrev pub Opens : {A : Type 0} → (A → List ℕ → Type 0) → List ℕ → Type 0
Opens {A} Part bs = (x : A) × (rest : List ℕ) × Part x (bs ++ rest)

-- what stands before the last bytes, so many, is begun
pub record Before (Begun : List ℕ → Type 0) (bs : List ℕ) (left : ℕ) : Type 0 where
  pub front : List ℕ
  pub opens : Begun front
  pub behind : List ℕ
  pub split : bs ≡ front ++ behind
  pub last : length behind ≡ left

-- refused behind what begins a part
abbrev pub PlacedBehind : {A : Type 0} → (A → List ℕ → Type 0) → Reader A → Type 0
PlacedBehind {A} Part read = (bs : List ℕ) (e : Refusal) → IsBytes bs → read bs ≡ Err e → Before (Opens Part) bs e.left

-- the same, or refused at the start
abbrev pub Placed : {A : Type 0} → (A → List ℕ → Type 0) → Reader A → Type 0
Placed {A} Part read = (bs : List ℕ) (e : Refusal) → IsBytes bs → read bs ≡ Err e → (length bs ≡ e.left) ⊎ Before (Opens Part) bs e.left

-- nothing is before
pub at_start : (Begun : List ℕ → Type 0) (bs : List ℕ) (left : ℕ) → Begun [] → length bs ≡ left → Before Begun bs left
at_start Begun bs left opens is = record { front = []; opens = opens; behind = bs; split = refl; last = is }

-- the same of what stands before
pub instead : (P Q : List ℕ → Type 0) (bs : List ℕ) (left : ℕ) → ((front : List ℕ) → P front → Q front) → Before P bs left → Before Q bs left
instead P Q bs left carry b = record { front = b.front; opens = carry b.front b.opens; behind = b.behind; split = b.split; last = b.last }

-- behind a head
pub behind_a : (P Q : List ℕ → Type 0) (head bs whole : List ℕ) (left : ℕ) → whole ≡ head ++ bs → ((front : List ℕ) → P front → Q (head ++ front)) → Before P bs left → Before Q whole left
behind_a P Q head bs whole left split carry b =
    record { front = head ++ b.front; opens = carry b.front b.opens; behind = b.behind; split = regrouped whole head bs b.front b.behind split b.split; last = b.last }

pub opens_behind : {A : Type 0} (Part : A → List ℕ → Type 0) (head front rest : List ℕ) (x : A) → Part x (head ++ (front ++ rest)) → Opens Part (head ++ front)
opens_behind Part head front rest x is = (x, rest, subst (Part x) (sym (append_assoc head front rest)) is)
