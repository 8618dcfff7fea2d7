-- What takes memory when it is read.
use Rattle.std.proofs.Common.{◌≡◌, ℕ, ◌-◌, ◌<◌, Bool, true, false, cond, eqb, List, ◌++◌, length, Option, None, Result, Ok, Err, refl, sym, ap, subst, ◌∙◌}
use Rattle.content_tree.specs.Values.Text.{Text, owned_text}
use Rattle.content_tree.specs.Values.Tree as tree
use Rattle.content_tree.specs.Values.Tree.{Tree}
use Rattle.content_tree.specs.Values.Value.{trees_of, pairs_of}
use Rattle.content_cbor.specs.Codes.{Codes}
use Rattle.content_cbor.specs.Decoded.{takes_memory}
use Rattle.content_cbor.specs.declared.decode_error.Fault.TheVariants as fault
use Rattle.content_cbor.specs.declared.heads.Head.{Head}
use Rattle.content_cbor.specs.declared.heads.Major.{Major}
use Rattle.content_cbor.specs.declared.heads.Major.TheVariants as major
use Rattle.content_cbor.specs.declared.stop.Refusal.{Refusal}
use Rattle.content_cbor.specs.declared.stop.Stop.{Stop}
use Rattle.content_cbor.specs.declared.stop.Stop.TheVariants as stop
use Rattle.content_cbor.specs.Inner.Steps.{◌>>=◌, Fails, Reader, refused}
use Rattle.content_cbor.specs.Inner.Reading.{chunks_at, head_at, inside_at, item_at, leaf_at, pair_at, parts_at, string_at, whole_at}
use Rattle.content_cbor.proofs.Read.Inside.{behind_head}
use Rattle.content_cbor.proofs.Read.Steps.{bind_ok, failed, ok_is}
use Rattle.content_cbor.proofs.Read.Whole.{item_complete, refused_all, whole_complete}

-- what holds parts, and what has no length
abbrev pub Takes : Major → Option ℕ → Type 0
Takes major.Array number = Unit {0}
Takes major.Map number = Unit {0}
Takes m number = number ≡ None

-- what has no length
pub no_length : (m : Major) (number : Option ℕ) → number ≡ None → Takes m number
no_length major.Unsigned number none = none
no_length major.Negative number none = none
no_length major.Bytes number none = none
no_length major.Text number none = none
no_length major.Array number none = tt
no_length major.Map number none = tt
no_length major.Tag number none = none
no_length major.Simple number none = none

-- a tree that is made of what was read
abbrev made_tree : {A : Type 0} → (A → Tree) → A × List ℕ → Result (Tree × List ℕ) Refusal
made_tree f x = Ok (f x.0, x.1)

made : {A : Type 0} (r : Result (A × List ℕ) Refusal) (f : A → Tree) (t : Tree) (after : List ℕ) → (r >>= made_tree f) ≡ Ok (t, after) → (x : A × List ℕ) × (r ≡ Ok x) × (f x.0 ≡ t)
made r f t after is =
    let a = bind_ok r (made_tree f) (t, after) is in
    let same : (f a.0.0, a.0.1) ≡ (t, after) = ok_is (f a.0.0, a.0.1) (t, after) a.2 in
    (a.0, a.1, ap (λ (x : Tree × List ℕ). x.0) same)

-- a text or bytes in chunks are owned
chunks_owned : (is_text : Bool) (bs : List ℕ) (x : Text × List ℕ) → string_at is_text None bs ≡ Ok x → x.0.borrowed ≡ false
unfolding string_at
chunks_owned is_text bs x is =
    let a = bind_ok (chunks_at is_text bs) (λ y. Ok (owned_text y.0, y.1)) x is in
    ap (λ (y : Text × List ℕ). y.0.borrowed) (sym (ok_is (owned_text a.0.0, a.0.1) x a.2))

bytes_take : (x : Text) → x.borrowed ≡ false → takes_memory (tree.octets x) ≡ true
bytes_take x owned = rw owned refl

text_takes : (x : Text) → x.borrowed ≡ false → takes_memory (tree.text x) ≡ true
text_takes x owned = rw owned refl

leaf_takes : (m : Major) (bs after : List ℕ) (t : Tree) → leaf_at m None bs ≡ Ok (t, after) → takes_memory t ≡ true
unfolding leaf_at
leaf_takes major.Bytes bs after t is =
    let a = made (string_at false None bs) (λ x. tree.octets x) t after is in
    subst (λ u. takes_memory u ≡ true) a.2 (bytes_take a.0.0 (chunks_owned false bs a.0 a.1))
leaf_takes major.Text bs after t is =
    let a = made (string_at true None bs) (λ x. tree.text x) t after is in
    subst (λ u. takes_memory u ≡ true) a.2 (text_takes a.0.0 (chunks_owned true bs a.0 a.1))
leaf_takes major.Unsigned bs after t is = absurd cc
leaf_takes major.Negative bs after t is = absurd cc
leaf_takes major.Array bs after t is = absurd cc
leaf_takes major.Map bs after t is = absurd cc
leaf_takes major.Tag bs after t is = absurd cc
leaf_takes major.Simple bs after t is = absurd cc

leaf_without : (m : Major) (number : Option ℕ) (bs after : List ℕ) (t : Tree) → number ≡ None → leaf_at m number bs ≡ Ok (t, after) → takes_memory t ≡ true
leaf_without m number bs after t none is = leaf_takes m bs after t (ap (λ n. leaf_at m n bs) (sym none) ∙ is)

inside_takes : (part : Reader Tree) (m : Major) (number : Option ℕ) (bs after : List ℕ) (t : Tree) → Takes m number → inside_at part m number bs ≡ Ok (t, after) → takes_memory t ≡ true
inside_takes part major.Array number bs after t takes is =
    let a = made (parts_at part number bs) (λ xs. tree.seq (trees_of xs)) t after is in
    subst (λ u. takes_memory u ≡ true) a.2 refl
inside_takes part major.Map number bs after t takes is =
    let a = made (parts_at (pair_at part) number bs) (λ xs. tree.map (pairs_of xs)) t after is in
    subst (λ u. takes_memory u ≡ true) a.2 refl
inside_takes part major.Unsigned number bs after t takes is = leaf_without major.Unsigned number bs after t takes is
inside_takes part major.Negative number bs after t takes is = leaf_without major.Negative number bs after t takes is
inside_takes part major.Bytes number bs after t takes is = leaf_without major.Bytes number bs after t takes is
inside_takes part major.Text number bs after t takes is = leaf_without major.Text number bs after t takes is
inside_takes part major.Tag number bs after t takes is = leaf_without major.Tag number bs after t takes is
inside_takes part major.Simple number bs after t takes is = leaf_without major.Simple number bs after t takes is

-- an item with such a head
pub item_takes : (limit : ℕ) (bs rest after : List ℕ) (h : Head) (t : Tree) → 0 < limit → head_at (limit - 1) bs ≡ Ok (h, rest) → Takes h.«major» h.number
    → item_at limit bs ≡ Ok (t, after) → takes_memory t ≡ true
item_takes limit bs rest after h t lt head takes is =
    inside_takes (item_at (limit - 1)) h.«major» h.number rest after t takes (sym (behind_head limit bs rest h lt head) ∙ is)

-- the item of a whole
pub whole_front : (limit : ℕ) (bs : List ℕ) (t : Tree) → whole_at limit bs ≡ Ok t → (rest : List ℕ) × (item_at limit bs ≡ Ok (t, rest))
unfolding whole_at
whole_front limit bs t is =
    let a = bind_ok (item_at limit bs) (λ x. cond (eqb (length x.1) 0) (Ok x.0) (refused fault.Trailing x.1)) t is in
    let g = failed (eqb (length a.0.1) 0) (record { «fault» = fault.Trailing; left = length a.0.1 }) (Ok a.0.0) t a.2 in
    (a.0.1, a.1 ∙ ap (λ u. Ok (u, a.0.1)) (ok_is a.0.0 t g.1))

-- where memory runs out only for what takes some, it is not what ends the reading of what takes none
pub whole_read : (limit : ℕ) (bs : List ℕ) (s : Stop) (t : Tree) → Fails s (whole_at limit bs) → (s ≡ stop.OutOfMemory → (u : Tree) → whole_at limit bs ≡ Ok u → takes_memory u ≡ true)
    → Codes limit t bs → takes_memory t ≡ false → ⊥
whole_read limit bs stop.OutOfMemory t fails memory codes none =
    let some : takes_memory t ≡ true = memory refl t (whole_complete limit bs t codes) in absurd cc
whole_read limit bs (stop.Refused e) t fails memory codes none = refused_all limit bs (stop.Refused e) e refl fails t codes

read_both : (x : Tree × List ℕ) (e : Refusal) (r : Result (Tree × List ℕ) Refusal) → r ≡ Ok x → r ≡ Err e → ⊥
read_both x e r is fails = absurd cc

-- the same of an item at the front
pub front_read : (limit : ℕ) (bs front rest : List ℕ) (s : Stop) (t : Tree) → Fails s (item_at limit bs)
    → (s ≡ stop.OutOfMemory → (u : Tree) (behind : List ℕ) → item_at limit bs ≡ Ok (u, behind) → takes_memory u ≡ true)
    → Codes limit t front → bs ≡ front ++ rest → takes_memory t ≡ false → ⊥
front_read limit bs front rest stop.OutOfMemory t fails memory codes split none =
    let some : takes_memory t ≡ true = memory refl t rest (ap (item_at limit) split ∙ item_complete limit t front rest codes) in absurd cc
front_read limit bs front rest (stop.Refused e) t fails memory codes split none =
    read_both (t, rest) e (item_at limit bs) (ap (item_at limit) split ∙ item_complete limit t front rest codes) fails

abbrev stopped : {A : Type 0} → Stop → Result A Stop
stopped s = Err s

same_stop : {A : Type 0} (d e : Stop) → stopped {A = A} d ≡ stopped e → d ≡ e
same_stop d e is = cc

-- what is handed on was answered
pub handed : {A : Type 0} (d e given : Stop) (r : Result A Stop) → r ≡ Err d → d ≡ given → r ≡ Err e → given ≡ e
handed {A} d e given r first same second = sym same ∙ same_stop {A = A} d e (sym first ∙ second)
