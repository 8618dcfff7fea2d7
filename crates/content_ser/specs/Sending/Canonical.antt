-- The canonical form of a tree, and what the script of a tree says of it.
use Rattle.std.specs.Prelude.{◌≡◌, ◌⊎◌, ◌↔◌, Bool, None, IsSome}
use Rattle.content_tree.specs.Values.Text.{Text, static_name, to_owned}
use Rattle.content_tree.specs.Values.Tree.{Tree, at_texts, owned, unmarked}
use Rattle.content_ser.specs.Scripts.Script.{calls_of, stop_of}
use Rattle.content_ser.specs.Sending.Loose.{loose}
use Rattle.content_ser.specs.Grammar.Spells.{SpellsWhole}
use Rattle.content_ser.specs.Sending.StaticNames.{HasStaticNames, HasStaticKeys}
use Rattle.content_ser.specs.Sending.TreeScript.{script_of, loose_script}

-- the canonical form of a tree: its loose form, where that has no owned field key
abbrev pub IsCanonical : Tree → Tree → Type 0
IsCanonical t c = (c ≡ loose t) × HasStaticKeys c

-- the same content, static
abbrev pub to_static : Text → Text
to_static n = static_name n.content

-- every text and byte value owned, every name, variant and key static: as calls build them
abbrev pub as_built : Tree → Tree
as_built = at_texts to_owned to_static

-- without a stop, the calls of a tree spell it
abbrev pub ScriptSpells : Type 0
ScriptSpells = (t : Tree)
    → stop_of (script_of t) ≡ None
    → SpellsWhole (calls_of (script_of t)) (as_built t)

-- the loose form of a loose form is itself
abbrev pub LooseOnce : Type 0
LooseOnce = (t : Tree) → loose (loose t) ≡ loose t

-- where a tree has a canonical form, its script has no stop and its calls spell that form,
-- its texts and byte values owned
abbrev pub CanonicalSpelled : Type 0
CanonicalSpelled = (t c : Tree) (readable : Bool) → IsCanonical t c
    → (stop_of (loose_script t readable) ≡ None)
    × SpellsWhole (calls_of (loose_script t readable)) (owned c)

-- a tree has a canonical form, or it has none and its script stops
abbrev pub CanonicalOrStops : Type 0
CanonicalOrStops = (t : Tree) (readable : Bool)
    → ((c : Tree) × IsCanonical t c)
    ⊎ (((c : Tree) → ¬ IsCanonical t c) × IsSome (stop_of (loose_script t readable)))

-- the canonical form of a canonical form is itself
abbrev pub CanonicalOnce : Type 0
CanonicalOnce = (t c d : Tree) → IsCanonical t c → IsCanonical c d ↔ (d ≡ c)

-- a tree whose names, variants and keys are all static is its own canonical form
abbrev pub StaticIsCanonical : Type 0
StaticIsCanonical = (t : Tree) → HasStaticNames t → HasStaticKeys t → IsCanonical t t

-- where two trees have canonical forms, they are sent by the same calls exactly if the forms are
-- equal, every mark taken off
abbrev pub EqualCalls : Type 0
EqualCalls = (t u c d : Tree) (readable : Bool) → IsCanonical t c → IsCanonical u d
    → (loose_script t readable ≡ loose_script u readable) ↔ (unmarked c ≡ unmarked d)
