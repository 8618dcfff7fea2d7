-- What the standard library's types read.
use Rattle.std.specs.Prelude.{ℕ, List, [], ◌∷◌, true, false, Option, Some, None, ◌≡◌, ⊤, codes}
use Rattle.content_tree.specs.Values.Text.{Text}
use Rattle.content_tree.specs.Values.Tree.{Trees, no_trees, tree_then}
use Rattle.content_tree.specs.Errors.Cause.{Cause, custom}
use Rattle.content_tree.specs.declared.number.Number.{Number}
use Rattle.content_de.specs.Sources.Origin.{Flags, Subject, tree_under}
use Rattle.content_de.specs.Outcomes.{Outcome, taken, refused}
use Rattle.content_de.specs.Accesses.Seq.{SeqLeft}
use Rattle.content_de.specs.Accesses.Node as node
use Rattle.content_de.specs.Accesses.Node.{Shape, shape_at}
use Rattle.content_de.specs.Reads.Read.{Refusal, Gives, Memoryless, first_of}

-- a text of this content
abbrev pub HasContent : List ℕ → Text → Type 0
HasContent bytes t = t.content ≡ bytes

-- a text that isn't borrowed is refused with this
abbrev pub lent_or : List ℕ → Outcome Text → Option Cause
lent_or text (refused c) = Some c
lent_or text (taken t) = elim t.borrowed [ true ↦ None | false ↦ Some (custom text) ]

-- the text of the refusal of an owned text
abbrev pub not_borrowed_text : List ℕ
not_borrowed_text = codes "expected a borrowed string"

-- the text of the refusal of owned bytes
abbrev pub not_borrowed_bytes : List ℕ
not_borrowed_bytes = codes "expected borrowed bytes"

-- a number of any kind
abbrev pub number_in : Shape → Option Number
number_in (node.number n) = Some n
number_in s = None

-- the refusal of anything but a number
abbrev pub number_refusal : Option Number → Option Cause
number_refusal (Some n) = None
number_refusal None = Some (custom (codes "expected a number"))

-- of an option
abbrev pub held_refusal : Refusal → Option Subject → Option Cause
held_refusal refusal None = None
held_refusal refusal (Some s) = refusal s

-- none where nothing is held, and else what may be given of what is held
abbrev pub HeldGives : {A : Type 0} → Gives A → Option Subject → Option A → Type 0
HeldGives gives None None = ⊤
HeldGives gives None (Some a) = ⊥
HeldGives gives (Some s) None = ⊥
HeldGives gives (Some s) (Some a) = gives s a

-- nothing is held, or what is read without memory
abbrev pub HeldMemoryless : Memoryless → Option Subject → Type 0
HeldMemoryless memoryless None = ⊤
HeldMemoryless memoryless (Some s) = memoryless s

-- the first refusal among items
abbrev pub items_refusal : Refusal → Flags → Trees → Option Cause
items_refusal refusal f no_trees = None
items_refusal refusal f (tree_then t ts) = first_of (refusal (tree_under f t)) (items_refusal refusal f ts)

-- as many values as items, each one that may be given
abbrev pub ItemsGive : {A : Type 0} → Gives A → Flags → Trees → List A → Type 0
ItemsGive gives f no_trees [] = ⊤
ItemsGive gives f no_trees (a ∷ rest) = ⊥
ItemsGive gives f (tree_then t ts) [] = ⊥
ItemsGive gives f (tree_then t ts) (a ∷ rest) = gives (tree_under f t) a × ItemsGive gives f ts rest

-- the same of a sequence
abbrev pub seq_refusal : Refusal → SeqLeft → Option Cause
seq_refusal refusal s = items_refusal refusal s.flags s.items

-- the same of a sequence
abbrev pub SeqGives : {A : Type 0} → Gives A → SeqLeft → List A → Type 0
SeqGives gives s values = ItemsGive gives s.flags s.items values

-- a borrowed text or bytes of this content
abbrev pub lent : List ℕ → Text
lent bytes = record { content = bytes; borrowed = true }
