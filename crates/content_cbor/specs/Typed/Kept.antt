-- What it means to come back from CBOR: a value is sent, and what CBOR keeps of the tree that its calls spell is read as an equal one.
use Rattle.std.specs.Prelude.{◌≡◌, Bool, true, false, None}
use Rattle.content_tree.specs.Values.Tree as tree
use Rattle.content_tree.specs.Values.Tree.{Tree}
use Rattle.content_ser.specs.Grammar.Spells.{SpellsWhole}
use Rattle.content_ser.specs.Scripts.Script.{Script, calls_of}
use Rattle.content_ser.specs.Scripts.Standard.{ScriptOf}
use Rattle.content_de.specs.Reads.Read.{Refusal, Gives}
use Rattle.serde_content.specs.RoundTrip.{GivesOnly, SpellsSuch}
use Rattle.content_cbor.specs.Decoded.{read_in}
use Rattle.content_cbor.specs.Form.{Fits, form}

-- where the tree fits, its form isn't refused, in a buffer or out of it, and each value that may be given of it is such a one
abbrev pub FormGives : {A : Type 0} → Refusal → Gives A → (A → Type 0) → Tree → Type 0
FormGives refusal gives such t = Fits t → (b : Bool) → GivesOnly (refusal (read_in b (form t))) (gives (read_in b (form t))) such

-- a value that exists is sent as a tree whose form, where it fits, is read as an equal value
pub record FormComesBack {A : Type 0} (exists : A → Type 0) (script : ScriptOf A) (refusal : Refusal) (gives : Gives A) (eq : A → A → Bool) : Type 0 where
  pub of_value : (x : A) → exists x → SpellsSuch (FormGives refusal gives (λ y. eq x y ≡ true)) (script x false)

-- null is refused
pub record RefusesNull (refusal : Refusal) : Type 0 where
  pub of_null : (b : Bool) → refusal (read_in b tree.absent) ≡ None → ⊥

-- what CBOR keeps of the tree that a script's calls spell
abbrev pub IsKeptOf : Script → Tree → Type 0
IsKeptOf script u = (t : Tree) × SpellsWhole (calls_of script) t × Fits t × (u ≡ form t)
