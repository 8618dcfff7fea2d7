-- What is made of a value that comes back comes back, where what is made of an equal value is equal.
use Rattle.std.specs.Prelude.{◌≡◌, Bool, true, false, ◌&&◌, refl}
use Rattle.content_ser.specs.Scripts.Standard.{ScriptOf}
use Rattle.content_de.specs.Reads.Read.{Refusal, Gives}
use Rattle.serde_content.specs.RoundTrip.{ComesBack, CoercionKeeps}

-- of two tests that hold the first holds
pub first_holds : (a b : Bool) → (a && b) ≡ true → a ≡ true
first_holds true b h = refl
first_holds false b h = absurd (cc h)

-- and so does the second
pub second_holds : (a b : Bool) → (a && b) ≡ true → b ≡ true
second_holds true b h = h
second_holds false b h = absurd (cc h)

-- what may be given: what is made so of a value that may be
abbrev pub GivesMade : {A B : Type 0} → Gives A → (A → B → Type 0) → Gives B
GivesMade {A} gives made s b = (a : A) × gives s a × made a b

-- what is made of a value, and sent as it
pub made_back : {A B : Type 0} {exists : A → Type 0} {script : ScriptOf A} {refusal : Refusal} {gives : Gives A} {eq : A → A → Bool}
    (there : B → Type 0) (made : A → B → Type 0) (same : B → B → Bool) (see : B → A) → ComesBack exists script refusal gives eq
    → ((b : B) → there b → exists (see b)) → ((b c : B) (a : A) → there b → eq (see b) a ≡ true → made a c → same b c ≡ true)
    → ComesBack there (λ b. script (see b)) refusal (GivesMade gives made) same
made_back there made same see back real alike = record {
  of_value = λ b is f.
      let sent = back.of_value (see b) (real b is) f in
      record {
        free = sent.free;
        whole = sent.whole;
        spelled = sent.spelled;
        such = record { free = sent.such.free; only = λ c h. alike b c h.0 is (sent.such.only h.0 h.1) h.2 };
      };
}

-- and what it gives without coercion it gives with it
pub made_keeps : {A B : Type 0} {refusal : Refusal} {gives : Gives A} (made : A → B → Type 0) → CoercionKeeps refusal gives → CoercionKeeps refusal (GivesMade gives made)
made_keeps made keeps = record {
  of_origin = λ o h c p.
      let there = keeps.of_origin o h p.given.0 (record { free = p.free; given = p.given.1 }) in
      record { free = there.free; given = (p.given.0, there.given, p.given.2) };
}
