-- What is answered to the lines of an input.
use Rattle.std.specs.Prelude.{◌≡◌, ◌≢◌, ◌⊎◌, ℕ, ◌<◌, true, false, List, [], ◌∷◌, ◌++◌, length}
use Rattle.std.specs.Prelude.{drop, map, codes, Option, Some, None}
use Rattle.std.specs.List.{flat_map}
use Rattle.std.specs.Fmt.{decimal}
use Rattle.std.specs.Io.KnownBytes.{Appends}
use Rattle.serde_content.specs.Names.Words.{Tree, image, printed, kind_text, ErrorKind, Event}
use Rattle.serde_content.specs.Names.Words.{IsRefusal}
use Rattle.serde_content.specs.Names.ErrorKind.{OutOfMemory}
use Rattle.content_tree.specs.Printed.Pretty.{pretty}
use Rattle.content_build.specs.Cuts.{SpellsFirst, NoCut}
use Rattle.content_cbor.specs.Codes.{Codes}
use Rattle.content_cbor.specs.Decoded.{IsPlaced, StopsAt}
use Rattle.content_cbor.specs.Inner.Reading.{whole_at}
use Rattle.content_cbor.specs.Item.{item}
use Rattle.content_cbor.specs.PrintedFault.{error_text}
use Rattle.content_cbor.specs.declared.decode_error.Fault.{Fault}
use Rattle.content_cbor.specs.declared.decode_error.DecodeError.TheVariants as error
use Rattle.content_lines.specs.Lines.{each_line}
use Rattle.content_lines.specs.Numerals.{is_hex, unhex, hex_of}
use Rattle.content_lines.specs.Words.{event_in}
use Rattle.cbor_cli.specs.declared.form.Form.{Form}
use Rattle.cbor_cli.specs.declared.form.Form.TheVariants.{Plain, Pretty}

-- a tree as it prints and, after a tab, the digits of the bytes that are written of it
abbrev pub written : Tree → List ℕ
written t = printed (image t) ++ (codes "\t" ++ hex_of (item t))

-- a tree in a form: so, or as it prints on several lines
abbrev pub shown : Form → Tree → List ℕ
shown Plain t = written t
shown Pretty t = pretty 0 (image t)

-- the bytes code a tree, at most 128 deep, which is shown
pub record IsDecoded (form : Form) (bytes answer : List ℕ) : Type 0 where
  pub tree : Tree
  pub coded : Codes 128 tree bytes
  pub says : answer ≡ shown form tree

-- the bytes code no such tree: the place and the fault are named
pub record IsUndecoded (bytes answer : List ℕ) : Type 0 where
  pub at : ℕ
  pub «fault» : Fault
  pub stops : StopsAt bytes (error.Refused at «fault») (whole_at 128 bytes)
  pub placed : IsPlaced 128 bytes (error.Refused at «fault»)
  pub says : answer ≡ error_text (error.Refused at «fault»)

-- the one or the other
abbrev pub AnswersBytes : Form → List ℕ → List ℕ → Type 0
AnswersBytes form bytes answer = IsDecoded form bytes answer ⊎ IsUndecoded bytes answer

-- a line that is no call: digits, of which the bytes are answered, or none
abbrev pub AnswersOther : Form → List ℕ → List ℕ → Type 0
AnswersOther form line answer =
    ((is_hex line ≡ true) × AnswersBytes form (unhex line) answer)
    ⊎ ((is_hex line ≡ false) × (answer ≡ codes "neither hexadecimal digits nor a call"))

-- the place and the cause of a refusal
abbrev pub refused_line : ℕ → ErrorKind → List ℕ
refused_line at cause = codes "refused at " ++ (decimal at ++ (codes ": " ++ kind_text cause))

-- no beginning of the calls spells a tree: they are refused here for this cause, which isn't memory
abbrev pub IsRefusedFirst : List Event → ℕ → ErrorKind → Type 0
IsRefusedFirst calls at cause = NoCut calls × IsRefusal calls at cause × (cause ≢ OutOfMemory)

-- calls that come together: each tree that they spell is shown, up to a refusal
pub data AnswersCalls (form : Form) : List Event → List (List ℕ) → Type 0 where
  no_call : AnswersCalls form [] []
  tree : {calls : List Event} {answers : List (List ℕ)} (n : ℕ) (t : Tree)
      → SpellsFirst calls n t
      → AnswersCalls form (drop n calls) answers
      → AnswersCalls form calls (shown form t ∷ answers)
  refusal : {calls : List Event} (at : ℕ) (cause : ErrorKind)
      → 0 < length calls
      → IsRefusedFirst calls at cause
      → AnswersCalls form calls (refused_line at cause ∷ [])

-- each of the lines is a call, and these are the calls
abbrev pub SayCalls : List (List ℕ) → List Event → Type 0
SayCalls lines calls = map event_in lines ≡ map Some calls

-- lines: calls to the end; or calls, a line that is no call, and further lines
pub data Answers (form : Form) : List (List ℕ) → List (List ℕ) → Type 0 where
  calls_last : {lines answers : List (List ℕ)} (calls : List Event)
      → SayCalls lines calls
      → AnswersCalls form calls answers
      → Answers form lines answers
  line_next : (lines rest told more : List (List ℕ)) (line answer : List ℕ) (calls : List Event)
      → SayCalls lines calls
      → event_in line ≡ None
      → AnswersCalls form calls told
      → AnswersOther form line answer
      → Answers form rest more
      → Answers form (lines ++ line ∷ rest) (told ++ answer ∷ more)

-- an answer with a line feed after it
abbrev pub ended : List ℕ → List ℕ
ended answer = answer ++ codes "\n"

-- each of these answers with a line feed after it
abbrev pub all_ended : List (List ℕ) → List ℕ
all_ended answers = flat_map ended answers

-- an answer like this is added
abbrev pub Adds : (List ℕ → Type 0) → List ℕ → List ℕ → Type 0
Adds P old new = (answer : List ℕ) × P answer × (new ≡ old ++ ended answer)

-- answers like these are added
abbrev pub AddsAll : (List (List ℕ) → Type 0) → List ℕ → List ℕ → Type 0
AddsAll P old new = (answers : List (List ℕ)) × P answers × (new ≡ old ++ all_ended answers)

-- the first tree that the calls spell is added, with how many calls spell it, or their refusal
abbrev pub AddsFirst : Form → List Event → Option ℕ → List ℕ → List ℕ → Type 0
AddsFirst form calls (Some n) old new =
    (t : Tree) × SpellsFirst calls n t × (new ≡ old ++ ended (shown form t))
AddsFirst form calls None old new =
    (at : ℕ) × (cause : ErrorKind) × IsRefusedFirst calls at cause
    × (new ≡ old ++ ended (refused_line at cause))

-- the text is the answers to the lines of the input, with values in this form
abbrev pub Earns : Form → List ℕ → List ℕ → Type 0
Earns form input text =
    (answers : List (List ℕ)) × Answers form (each_line input) answers × (text ≡ all_ended answers)

-- the answers to the lines of the input are written, and nothing else
abbrev pub Tells : Form → List ℕ → Option (List ℕ) → Option (List ℕ) → Type 0
Tells form input old new = (text : List ℕ) × Earns form input text × Appends old new text
