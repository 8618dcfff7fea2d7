-- What a value is sent by, made from what the values in it are sent by.
use Rattle.std.specs.Prelude.{◌≡◌, Bool, List, Option, string_bytes, refl}
use Rattle.std.proofs.Common.{ap, ◌∙◌}
use Rattle.std.specs.declared.alloc.Global.{Global}
use Rattle.std.specs.declared.string.String.{String}
use Rattle.content_ser.specs.Calls.Event as event
use Rattle.content_ser.specs.Scripts.Script.{Script, IsLawful}
use Rattle.content_ser.specs.Scripts.Standard.{ScriptOf, only, option_script, seq_script, map_script}
use Rattle.content_ser.specs.Laws.StandardScripts.{AllLawful, leaf_lawful, option_lawful, seq_lawful, map_lawful}

-- a script that is lawful
pub record Nested : Type 0 where
  pub script : Bool → Script
  pub lawful : (readable : Bool) → IsLawful (script readable)

-- the script of what equals what has this script
pub told_by : {m n : Nested} {s : Bool → Script} → m ≡ n → n.script ≡ s → m.script ≡ s
told_by e h = ap (λ (p : Nested). p.script) e ∙ h

-- the script of each value
abbrev pub script_by : {A : Type 0} → (A → Nested) → ScriptOf A
script_by f a = (f a).script

-- each is lawful
abbrev pub lawful_by : {A : Type 0} → (f : A → Nested) → AllLawful (script_by f)
lawful_by f a readable = (f a).lawful readable

-- of an optional value
abbrev pub option_nested : {A : Type 0} → (A → Nested) → Option A → Nested
option_nested f o = record { script = option_script (script_by f) o; lawful = option_lawful (lawful_by f) o }

-- of a sequence
abbrev pub seq_nested : {A : Type 0} → (A → Nested) → List A → Nested
seq_nested f xs = record { script = seq_script (script_by f) xs; lawful = seq_lawful (lawful_by f) xs }

-- the calls of a text
abbrev pub text_script : ScriptOf (String Global)
text_script t = only (event.text (string_bytes t))

-- of a map with texts as keys
abbrev pub map_nested : {A : Type 0} → (A → Nested) → List (String Global × A) → Nested
map_nested f es = record { script = map_script text_script (script_by f) es; lawful = map_lawful (λ t readable. leaf_lawful refl) (lawful_by f) es }
