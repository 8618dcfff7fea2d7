-- What a round trip means: a value is sent, and the tree that its calls spell is read again.
use Rattle.std.specs.Prelude.{◌≡◌, Bool, true, false, List, Option, None}
use Rattle.std.specs.List.{AllByRecursion}
use Rattle.std.specs.List.Sorted.{IsStrictlySortedBy}
use Rattle.std.specs.Map.{keys_of}
use Rattle.std.specs.declared.cmp.Ordering.{Ordering}
use Rattle.content_tree.specs.Values.Tree.{Tree}
use Rattle.content_tree.specs.Errors.Cause.{Cause}
use Rattle.content_ser.specs.Scripts.Script.{Script, calls_of, stop_of}
use Rattle.content_ser.specs.Scripts.Standard.{ScriptOf}
use Rattle.content_ser.specs.Grammar.Spells.{SpellsWhole}
use Rattle.content_de.specs.Sources.Origin.{Origin, Flags, under, tree_under}
use Rattle.content_de.specs.Reads.Read.{Refusal, Gives}

-- the script has no stop, and the tree that its calls spell is such a one
pub record SpellsSuch (such_tree : Tree → Type 0) (sc : Script) : Type 0 where
  pub free : stop_of sc ≡ None
  pub whole : Tree
  pub spelled : SpellsWhole (calls_of sc) whole
  pub such : such_tree whole

-- there is no refusal, and each value that may be given is such a one
pub record GivesOnly {A : Type 0} (refusal : Option Cause) (gives such : A → Type 0) : Type 0 where
  pub free : refusal ≡ None
  pub only : (x : A) → gives x → such x

-- this value is sent as a tree that, read as human readable where it was sent so, with or without coercion, gives an equal value
abbrev pub ComesBackAt : {A : Type 0} → ScriptOf A → Refusal → Gives A → (A → A → Bool) → A → Type 0
ComesBackAt script refusal gives eq x = (f : Flags) → SpellsSuch (λ t. GivesOnly (refusal (tree_under f t)) (gives (tree_under f t)) (λ y. eq x y ≡ true)) (script x f.human_readable)

-- so does each value that exists
pub record ComesBack {A : Type 0} (exists : A → Type 0) (script : ScriptOf A) (refusal : Refusal) (gives : Gives A) (eq : A → A → Bool) : Type 0 where
  pub of_value : (x : A) → exists x → ComesBackAt script refusal gives eq x

-- there is no refusal, and this value may be given
pub record MayGive {A : Type 0} (refusal : Option Cause) (gives : A → Type 0) (x : A) : Type 0 where
  pub free : refusal ≡ None
  pub given : gives x

-- the entries of a map that exists: the keys ascend, and each key and value exists
pub record EntriesExist {K V : Type 0} (key : K → Type 0) (value : V → Type 0) (order : K → K → Ordering) (es : List (K × V)) : Type 0 where
  pub ascend : IsStrictlySortedBy order (keys_of es)
  pub each : AllByRecursion (λ e. key e.0 × value e.1) es

-- these two flags, out of a buffer
abbrev pub flags : (human_readable coerces : Bool) → Flags
flags h c = record { human_readable = h; coerces = c; buffered = false }

-- what a source may give without coercion it may give with it
pub record CoercionKeeps {A : Type 0} (refusal : Refusal) (gives : Gives A) : Type 0 where
  pub of_origin : (o : Origin) (h : Bool) (x : A)
      → MayGive (refusal (under (flags h false) o)) (gives (under (flags h false) o)) x
      → MayGive (refusal (under (flags h true) o)) (gives (under (flags h true) o)) x
