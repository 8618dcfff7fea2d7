-- What readers take from the front of bytes.
use Rattle.std.proofs.Common.{◌≡◌, ℕ, suc, ◌+◌, ◌<◌, List, ◌∷◌, ◌++◌, get_or, drop, Ok, sym, ap, ◌∙◌, append_assoc}
use Rattle.std.proofs.lemmas.List.{get_or-drop}
use Rattle.content_cbor.specs.Inner.Steps.{Reader}

abbrev pub IsBytes : List ℕ → Type 0
IsBytes bs = (i : ℕ) → get_or bs i 0 < 256

pub IsBytes-drop : (n : ℕ) (bs : List ℕ) → IsBytes bs → IsBytes (drop n bs)
IsBytes-drop n bs h i = rw get_or-drop (h (n + i))

pub IsBytes-rest : (b : ℕ) (bs : List ℕ) → IsBytes (b ∷ bs) → IsBytes bs
IsBytes-rest b bs h i = h (suc i)

-- a part at the front, and bytes behind it
pub record Took (Front : List ℕ → Type 0) (bs rest : List ℕ) : Type 0 where
  pub front : List ℕ
  pub part : Front front
  pub split : bs ≡ front ++ rest
  pub fits : IsBytes rest

-- what is read is such a part
abbrev pub Sound : {A : Type 0} → (A → List ℕ → Type 0) → Reader A → Type 0
Sound {A} Part read = (bs : List ℕ) (x : A) (rest : List ℕ) → IsBytes bs → read bs ≡ Ok (x, rest) → Took (Part x) bs rest

-- such a part is read, whatever follows
abbrev pub Complete : {A : Type 0} → (A → List ℕ → Type 0) → Reader A → Type 0
Complete {A} Part read = (x : A) (front rest : List ℕ) → Part x front → read (front ++ rest) ≡ Ok (x, rest)

-- one part and then another
pub regrouped : (bs x mid y rest : List ℕ) → bs ≡ x ++ mid → mid ≡ y ++ rest → bs ≡ (x ++ y) ++ rest
regrouped bs x mid y rest e f = e ∙ ap (λ t. x ++ t) f ∙ sym (append_assoc x y rest)
