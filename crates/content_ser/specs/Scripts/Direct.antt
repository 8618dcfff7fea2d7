-- Values that are made with no calls: they are what the calls of a script spell.
use Rattle.std.specs.Prelude.{◌≡◌, ℕ, ◌+◌, ◌≤◌, Bool, List, ◌++◌, None, Result, Ok, Err}
use Rattle.content_tree.specs.Values.Tree.{Tree, Trees, Fields}
use Rattle.content_tree.specs.Values.Value.{tree_of, trees_view, fields_view}
use Rattle.content_tree.specs.declared.cow.CowStr.{CowStr}
use Rattle.content_tree.specs.declared.value.NamedValue.{NamedValue}
use Rattle.content_ser.specs.declared.direct.Unmade.{Unmade}
use Rattle.content_ser.specs.Grammar.Depth.{Keeps, ElementsKeep, MapItemsKeep, FieldsKeep}
use Rattle.content_ser.specs.Grammar.Spells.{MapItem, Spells, SpellsElements, SpellsMapItems, SpellsFields}
use Rattle.content_ser.specs.Grammar.Token.{ItemCall, Token, tokens}
use Rattle.content_ser.specs.Scripts.Script.{Script, calls_of, stop_of}
use Rattle.content_ser.specs.Scripts.Standard.{ScriptOf}

-- without a stop, and its calls read as P before any rest
abbrev pub Reads : (List Token → List Token → Type 0) → Script → Type 0
Reads P sc = (stop_of sc ≡ None) × ((rest : List Token) → P (tokens (calls_of sc) ++ rest) rest)

-- the tree before the rest, with at most so many levels inside it
abbrev pub TheTree : ℕ → Tree → List Token → List Token → Type 0
TheTree room t calls rest = (s : Spells calls t rest) × ((limit depth : ℕ) → depth + room ≤ limit → Keeps s limit depth)

-- elements and the end before the rest
abbrev pub TheElements : ItemCall → ℕ → Trees → List Token → List Token → Type 0
TheElements m room ts calls rest = (s : SpellsElements m calls ts rest) × ((limit depth : ℕ) → depth + room ≤ limit → ElementsKeep s limit depth)

-- the items of a map and the end before the rest
abbrev pub TheMapItems : ℕ → List MapItem → List Token → List Token → Type 0
TheMapItems room items calls rest = (s : SpellsMapItems calls items rest) × ((limit depth : ℕ) → depth + room ≤ limit → MapItemsKeep s limit depth)

-- fields and the end before the rest
abbrev pub TheFields : ℕ → Fields → List Token → List Token → Type 0
TheFields room fs calls rest = (s : SpellsFields calls fs rest) × ((limit depth : ℕ) → depth + room ≤ limit → FieldsKeep s limit depth)

-- the calls of the script spell the tree, which has at most so many levels inside it
abbrev pub Makes : ℕ → Script → Tree → Type 0
Makes room sc t = Reads (TheTree room t) sc

-- what is made of a script: the value that its calls spell, or nothing
pub data Spelled : ℕ → Script → Result NamedValue Unmade → Type 0 where
  made : {room : ℕ} {sc : Script} {v : NamedValue} → Makes room sc (tree_of v) → Spelled room sc (Ok v)
  unmade : {room : ℕ} {sc : Script} {why : Unmade} → Spelled room sc (Err why)

-- the value that the calls of this script spell
abbrev pub IsMadeBy : {A : Type 0} → ScriptOf A → Bool → ℕ → A → NamedValue → Type 0
IsMadeBy f readable room x v = Makes room (f x readable) (tree_of v)

-- the key and the value of this pair
abbrev pub ArePairMadeBy : {K V : Type 0} → ScriptOf K → ScriptOf V → Bool → ℕ → K × V → NamedValue × NamedValue → Type 0
ArePairMadeBy f g readable room p q = IsMadeBy f readable room p.0 q.0 × IsMadeBy g readable room p.1 q.1

-- fields are added, which the calls of the script spell with their end; nothing is said where they aren't made
pub data AddsFields : ℕ → Script → List (CowStr × NamedValue) → List (CowStr × NamedValue) → Result (Unit {0}) Unmade → Type 0 where
  fields_added : {room : ℕ} {sc : Script} {old new : List (CowStr × NamedValue)} {u : Unit {0}} (more : List (CowStr × NamedValue))
      → new ≡ old ++ more
      → Reads (TheFields room (fields_view more)) sc
      → AddsFields room sc old new (Ok u)
  fields_unmade : {room : ℕ} {sc : Script} {old new : List (CowStr × NamedValue)} {why : Unmade} → AddsFields room sc old new (Err why)

-- the same of values by place
pub data AddsItems : ItemCall → ℕ → Script → List NamedValue → List NamedValue → Result (Unit {0}) Unmade → Type 0 where
  items_added : {m : ItemCall} {room : ℕ} {sc : Script} {old new : List NamedValue} {u : Unit {0}} (more : List NamedValue)
      → new ≡ old ++ more
      → Reads (TheElements m room (trees_view more)) sc
      → AddsItems m room sc old new (Ok u)
  items_unmade : {m : ItemCall} {room : ℕ} {sc : Script} {old new : List NamedValue} {why : Unmade} → AddsItems m room sc old new (Err why)
