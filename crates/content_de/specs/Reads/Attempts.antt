-- Types that are tried one after another on the same source: the first that isn't refused.
use Rattle.std.specs.Prelude.{◌≡◌, Option, Some, None, IsSome, IsTrue, Result, Ok, Err}
use Rattle.content_tree.specs.Errors.Cause.{Cause}
use Rattle.content_tree.specs.Errors.Kind.{IsOutOfMemory}
use Rattle.content_tree.specs.Memory.{CopyTakesNoMemory}
use Rattle.content_tree.specs.Values.Ranges.{i8, u8, i16, u16, i32, u32, i64, u64, i128, u128}
use Rattle.content_tree.specs.declared.error.Error.{Error}
use Rattle.content_tree.specs.declared.expected.Expected.{Expected}
use Rattle.content_tree.specs.declared.expected.Expected.TheVariants as want
use Rattle.content_de.specs.Sources.Origin.{Origin, of_tree, of_identifier}
use Rattle.content_de.specs.Outcomes.{refusal_of}
use Rattle.content_de.specs.Requests.Leaves.{bool_from, char_from, unit_from, text_from, bytes_from, name_from}
use Rattle.content_de.specs.Requests.Compounds.{items_from, tuple_from, entries_from}
use Rattle.content_de.specs.Requests.Numbers.{number_from}
use Rattle.content_de.specs.Reads.Read.{Refusal}

-- why the request that expects this refuses what is read, or none; structs, variants and static texts aren't looked for
abbrev pub refusal_by : Expected → Refusal
refusal_by want.Unit s = refusal_of (unit_from s.origin)
refusal_by want.Bool s = refusal_of (bool_from s.origin)
refusal_by want.Char s = refusal_of (char_from s.origin)
refusal_by want.String s = refusal_of (text_from s.origin)
refusal_by want.Bytes s = refusal_of (bytes_from s.origin)
refusal_by want.Identifier s = refusal_of (name_from s.origin)
refusal_by want.Seq s = refusal_of (items_from s.origin)
refusal_by (want.Tuple len) s = refusal_of (tuple_from len s.origin)
refusal_by want.Map s = refusal_of (entries_from s.origin)
refusal_by want.I8 s = refusal_of (number_from i8 s)
refusal_by want.U8 s = refusal_of (number_from u8 s)
refusal_by want.I16 s = refusal_of (number_from i16 s)
refusal_by want.U16 s = refusal_of (number_from u16 s)
refusal_by want.I32 s = refusal_of (number_from i32 s)
refusal_by want.U32 s = refusal_of (number_from u32 s)
refusal_by want.I64 s = refusal_of (number_from i64 s)
refusal_by want.U64 s = refusal_of (number_from u64 s)
refusal_by want.I128 s = refusal_of (number_from i128 s)
refusal_by want.U128 s = refusal_of (number_from u128 s)
refusal_by e s = None

-- there is no refusal, and this value may be given
abbrev pub IsTakenAs : {A : Type 0} → Option Cause → (A → Type 0) → A → Type 0
IsTakenAs refusal gives a = (refusal ≡ None) × gives a

-- one try: refused, taken, or out of memory
abbrev pub Tries : {A : Type 0} → Option Cause → (A → Type 0) → Result (Option A) Error → Type 0
Tries refusal gives (Ok None) = IsSome refusal
Tries refusal gives (Ok (Some a)) = IsTakenAs refusal gives a
Tries refusal gives (Err e) = IsOutOfMemory e

-- no refusal where the first has none, else that of the others
abbrev pub or_next : Option Cause → Option Cause → Option Cause
or_next None others = None
or_next (Some c) others = others

-- a copy of what is read takes no memory
abbrev pub SourceCopyTakesNoMemory : Origin → Type 0
SourceCopyTakesNoMemory (of_tree t) = CopyTakesNoMemory t
SourceCopyTakesNoMemory (of_identifier n i) = IsTrue n.borrowed
