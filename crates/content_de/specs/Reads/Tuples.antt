-- What tuples read: each part in turn; items that are left over stay unread, but in a buffer they are refused.
use Rattle.std.specs.Prelude.{ℕ, ◌++◌, Option, Some, None, ◌≡◌, codes, if◌then◌else◌, ⊤}
use Rattle.std.specs.Fmt.{decimal}
use Rattle.content_tree.specs.Values.Tree.{no_trees, tree_then}
use Rattle.content_tree.specs.Errors.Cause.{Cause, custom}
use Rattle.content_de.specs.Sources.Origin.{Subject}
use Rattle.content_de.specs.Accesses.Seq.{SeqLeft, first_item, after_item}
use Rattle.content_de.specs.Reads.Read.{Refusal, Gives, Memoryless, first_of}

-- fewer items than were expected
abbrev pub too_few : (expected found : ℕ) → Cause
too_few expected found =
    custom (codes "too few elements: expected " ++ (decimal expected ++ (codes ", found " ++ decimal found)))

-- more items than were expected
abbrev pub too_many : (expected : ℕ) → Cause
too_many expected = custom (codes "too many elements: expected " ++ decimal expected)

-- no item is left after those that were expected
abbrev pub no_more : (expected : ℕ) → SeqLeft → Option Cause
no_more expected s = elim s.items [ no_trees ↦ None | tree_then t ts ↦ Some (too_many expected) ]

-- the refusal of the part at this place
abbrev pub part_refusal : (expected found : ℕ) → Refusal → Option Subject → Option Cause
part_refusal expected found refusal None = Some (too_few expected found)
part_refusal expected found refusal (Some s) = refusal s

-- what the part may give
abbrev pub PartGives : {A : Type 0} → Gives A → Option Subject → A → Type 0
PartGives gives None a = ⊥
PartGives gives (Some s) a = gives s a

-- the part is there, and read without memory
abbrev pub PartMemoryless : Memoryless → Option Subject → Type 0
PartMemoryless memoryless None = ⊥
PartMemoryless memoryless (Some s) = memoryless s

-- one part, and then the others
abbrev pub part_then : (expected found : ℕ) → Refusal → (SeqLeft → Option Cause) → SeqLeft → Option Cause
part_then expected found refusal others s =
    first_of (part_refusal expected found refusal (first_item s)) (others (after_item s))

-- no part is left to read; in a buffer no item may be left over
abbrev pub end_of_parts : (expected : ℕ) → SeqLeft → Option Cause
end_of_parts expected s = if s.flags.buffered then no_more expected s else None

-- this value for one part, and then the others
abbrev pub PartThen : {A : Type 0} → Gives A → A → (SeqLeft → Type 0) → SeqLeft → Type 0
PartThen gives a others s = PartGives gives (first_item s) a × others (after_item s)

-- one part that is read without memory, and then the others
abbrev pub MemorylessThen : Memoryless → (SeqLeft → Type 0) → SeqLeft → Type 0
MemorylessThen memoryless others s = PartMemoryless memoryless (first_item s) × others (after_item s)

-- no part is left to read
abbrev pub NoPart : SeqLeft → Type 0
NoPart s = ⊤

-- what is left over isn't refused
abbrev pub MayEnd : (expected : ℕ) → SeqLeft → Type 0
MayEnd expected s = end_of_parts expected s ≡ None
