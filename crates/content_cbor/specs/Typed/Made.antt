-- What is made of a value that comes back from CBOR comes back from it, where what is made of an equal value is equal.
use Rattle.std.specs.Prelude.{◌≡◌, Bool, true}
use Rattle.content_ser.specs.Scripts.Standard.{ScriptOf}
use Rattle.content_de.specs.Reads.Read.{Refusal, Gives}
use Rattle.serde_content.specs.Laws.Made.{GivesMade}
use Rattle.content_cbor.specs.Typed.Kept.{FormComesBack}

-- what is made of a value, and sent as it
pub made_kept : {A B : Type 0} {exists : A → Type 0} {script : ScriptOf A} {refusal : Refusal} {gives : Gives A} {eq : A → A → Bool}
    (there : B → Type 0) (made : A → B → Type 0) (same : B → B → Bool) (see : B → A) → FormComesBack exists script refusal gives eq
    → ((b : B) → there b → exists (see b)) → ((b c : B) (a : A) → there b → eq (see b) a ≡ true → made a c → same b c ≡ true)
    → FormComesBack there (λ b. script (see b)) refusal (GivesMade gives made) same
made_kept there made same see kept real alike = record {
  of_value = λ b is.
      let sent = kept.of_value (see b) (real b is) in
      record {
        free = sent.free;
        whole = sent.whole;
        spelled = sent.spelled;
        such = λ fits buffered.
            let read = sent.such fits buffered in
            record { free = read.free; only = λ c h. alike b c h.0 is (read.only h.0 h.1) h.2 };
      };
}
