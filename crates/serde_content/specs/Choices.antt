-- What types give that are tried one after another on the same source: each where those before it are refused.
use Rattle.std.specs.Prelude.{◌≡◌, true, Bool, List, ℕ, IsSome, Some}
use Rattle.content_tree.specs.Errors.Cause.{custom}
use Rattle.content_ser.specs.Scripts.Standard.{ScriptOf}
use Rattle.content_de.specs.Sources.Origin.{Flags, Subject, tree_under}
use Rattle.content_de.specs.Reads.Attempts.{IsTakenAs, or_next}
use Rattle.content_de.specs.Reads.Read.{Refusal, Gives}
use Rattle.serde_content.specs.RoundTrip.{GivesOnly, SpellsSuch}
use Rattle.serde_content.specs.declared.one_of.OneOfTwo.{OneOfTwo}
use Rattle.serde_content.specs.declared.one_of.OneOfTwo.TheVariants as of_two
use Rattle.serde_content.specs.declared.one_of.OneOfThree.{OneOfThree}
use Rattle.serde_content.specs.declared.one_of.OneOfThree.TheVariants as of_three
use Rattle.serde_content.specs.declared.one_of.OneOfFour.{OneOfFour}
use Rattle.serde_content.specs.declared.one_of.OneOfFour.TheVariants as of_four

-- the first of two types that isn't refused gives this
abbrev pub TwoGive : {A B : Type 0} → Refusal → Gives A → Refusal → Gives B → Subject → OneOfTwo A B → Type 0
TwoGive a gives_a b gives_b s (of_two.First x) = IsTakenAs (a s) (gives_a s) x
TwoGive a gives_a b gives_b s (of_two.Second x) = IsSome (a s) × IsTakenAs (b s) (gives_b s) x

-- the first of three
abbrev pub ThreeGive : {A B C : Type 0} → Refusal → Gives A → Refusal → Gives B → Refusal → Gives C → Subject → OneOfThree A B C → Type 0
ThreeGive a gives_a b gives_b c gives_c s (of_three.First x) = IsTakenAs (a s) (gives_a s) x
ThreeGive a gives_a b gives_b c gives_c s (of_three.Second x) = IsSome (a s) × IsTakenAs (b s) (gives_b s) x
ThreeGive a gives_a b gives_b c gives_c s (of_three.Third x) = IsSome (a s) × IsSome (b s) × IsTakenAs (c s) (gives_c s) x

-- the first of four
abbrev pub FourGive : {A B C D : Type 0} → Refusal → Gives A → Refusal → Gives B → Refusal → Gives C → Refusal → Gives D → Subject → OneOfFour A B C D → Type 0
FourGive a gives_a b gives_b c gives_c d gives_d s (of_four.First x) = IsTakenAs (a s) (gives_a s) x
FourGive a gives_a b gives_b c gives_c d gives_d s (of_four.Second x) = IsSome (a s) × IsTakenAs (b s) (gives_b s) x
FourGive a gives_a b gives_b c gives_c d gives_d s (of_four.Third x) = IsSome (a s) × IsSome (b s) × IsTakenAs (c s) (gives_c s) x
FourGive a gives_a b gives_b c gives_c d gives_d s (of_four.Fourth x) = IsSome (a s) × IsSome (b s) × IsSome (c s) × IsTakenAs (d s) (gives_d s) x

-- why two types that are tried one after another refuse: with this text where both do
abbrev pub two_refuse : Refusal → Refusal → List ℕ → Refusal
two_refuse a b none s = or_next (a s) (or_next (b s) (Some (custom none)))

-- such a value of the first type
abbrev pub IsFirst : {A B : Type 0} → (A → Type 0) → OneOfTwo A B → Type 0
IsFirst such (of_two.First x) = such x
IsFirst such (of_two.Second y) = ⊥

-- such a value of the second
abbrev pub IsSecond : {A B : Type 0} → (B → Type 0) → OneOfTwo A B → Type 0
IsSecond such (of_two.First x) = ⊥
IsSecond such (of_two.Second y) = such y

-- what was sent of the first of two types comes back as an equal value of the first
abbrev pub FirstComesBack : {A B : Type 0} → (A → Type 0) → ScriptOf A → Refusal → Gives A → (A → A → Bool) → Refusal → Gives B → Type 0
FirstComesBack {A} {B} exists script a gives_a eq b gives_b = (x : A) (none : List ℕ) → exists x → (f : Flags)
    → SpellsSuch (λ t. GivesOnly (two_refuse a b none (tree_under f t))
    (TwoGive a gives_a b gives_b (tree_under f t)) (IsFirst {B = B} (λ y. eq x y ≡ true))) (script x f.human_readable)

-- and what was sent of the second as an equal one of the second, where the first refuses the tree
abbrev pub SecondComesBack : {A B : Type 0} → Refusal → Gives A → (B → Type 0) → ScriptOf B → Refusal → Gives B → (B → B → Bool) → Type 0
SecondComesBack {A} {B} a gives_a exists script b gives_b eq = (x : B) (none : List ℕ) → exists x → (f : Flags)
    → SpellsSuch (λ t. IsSome (a (tree_under f t)) → GivesOnly (two_refuse a b none (tree_under f t))
    (TwoGive a gives_a b gives_b (tree_under f t)) (IsSecond {A = A} (λ y. eq x y ≡ true))) (script x f.human_readable)
