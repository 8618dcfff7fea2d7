-- What reading the parts of a sequence, a map or a variant answers.
use Rattle.std.specs.Prelude.{Option, Some, None, Result, MatchResult, ⊤}
use Rattle.content_tree.specs.Errors.Cause.{Cause}
use Rattle.content_tree.specs.declared.error.Error.{Error}
use Rattle.content_de.specs.Sources.Origin.{Subject}
use Rattle.content_de.specs.Outcomes.{Outcome, refusal_then, IsTaken}
use Rattle.content_de.specs.Accesses.Enum.{EnumLeft, tag_of, TagTakesNoMemory}
use Rattle.content_de.specs.Reads.Read.{Refusal, Gives, Memoryless, Reads, first_of}

-- the end
abbrev pub IsEnd : {A : Type 0} → Option A → Type 0
IsEnd None = ⊤
IsEnd (Some a) = ⊥

-- such a datum, and not the end
abbrev pub IsDatum : {A : Type 0} → (A → Type 0) → Option A → Type 0
IsDatum p None = ⊥
IsDatum p (Some a) = p a

-- what is read where there is a next one, and else the end, without a refusal
abbrev pub ReadsNext : {A B : Type 0} → (B → Option Cause) → (B → A → Type 0) → Option B → Result (Option A) Error → Type 0
ReadsNext refusal gives None r = MatchResult r IsEnd (λ e. ⊥)
ReadsNext refusal gives (Some s) r = Reads (refusal s) (IsDatum (gives s)) r

-- the end, or what is next is read without memory
abbrev pub NextMemoryless : {B : Type 0} → (B → Type 0) → Option B → Type 0
NextMemoryless memoryless None = ⊤
NextMemoryless memoryless (Some s) = memoryless s

-- the first refusal of an entry, its key before its value
abbrev pub entry_refusal : (key value : Refusal) → Subject × Subject → Option Cause
entry_refusal key value e = first_of (key e.0) (value e.1)

-- the key and the value that an entry may give
abbrev pub EntryGives : {K V : Type 0} → Gives K → Gives V → Subject × Subject → K × V → Type 0
EntryGives key value e p = key e.0 p.0 × value e.1 p.1

-- the key and the value are read without memory
abbrev pub EntryMemoryless : (key value : Memoryless) → Subject × Subject → Type 0
EntryMemoryless key value e = key e.0 × value e.1

-- the tag is read without memory, and its name isn't copied
abbrev pub TagMemoryless : Memoryless → EnumLeft → Type 0
TagMemoryless memoryless e = TagTakesNoMemory e.tag × memoryless (tag_of e)

-- what is read of the parts, where the request is taken
abbrev pub ReadsInside : {A : Type 0} → Refusal → Gives A → Outcome Subject → Result A Error → Type 0
ReadsInside refusal gives o r = Reads (refusal_then o refusal) (λ a. IsTaken o (λ s. gives s a)) r
