-- Sets come back from CBOR where their items do.
use Rattle.std.specs.Prelude.{◌≡◌, Bool}
use Rattle.std.specs.Cmp.{IsEquivalence, IsTotalOrder}
use Rattle.std.specs.Cmp.Lexicographic.{pointwise}
use Rattle.std.specs.HashSet as bag
use Rattle.std.specs.HashSet.{HashSet, hash_set_eq}
use Rattle.std.specs.List.{AllByRecursion}
use Rattle.std.specs.Ordering.{is_eq}
use Rattle.std.specs.declared.cmp.Ordering.{Ordering}
use Rattle.content_ser.specs.Scripts.Standard.{ScriptOf, seq_script}
use Rattle.content_de.specs.Outcomes.{refusal_then}
use Rattle.content_de.specs.Accesses.Seq.{seq_at}
use Rattle.content_de.specs.Reads.Hashed.{HashSetGives}
use Rattle.content_de.specs.Reads.Read.{Refusal, Gives}
use Rattle.content_de.specs.Reads.Sets.{SetGives}
use Rattle.content_de.specs.Reads.Standard.{seq_refusal}
use Rattle.serde_content.specs.Laws.Hashed.{set_of_same}
use Rattle.serde_content.specs.Laws.Sets.{KeysExist, MadeKeys, set_of_equal}
use Rattle.content_cbor.specs.Typed.Holders.{seq_kept}
use Rattle.content_cbor.specs.Typed.Kept.{FormComesBack}
use Rattle.content_cbor.specs.Typed.Made.{made_kept}

-- a set in order
pub set_kept : {K : Type 0} {exists : K → Type 0} {script : ScriptOf K} {refusal : Refusal} {gives : Gives K} {order : K → K → Ordering} {eq : K → K → Bool}
    → IsTotalOrder order → ((x y : K) → eq x y ≡ is_eq (order x y)) → FormComesBack exists script refusal gives eq
    → FormComesBack (KeysExist exists order) (seq_script script) (λ s. refusal_then (seq_at s) (seq_refusal refusal)) (SetGives gives order) (pointwise eq)
set_kept {exists} {order} {eq} total ties kept =
    made_kept (KeysExist exists order) (MadeKeys order) (pointwise eq) (λ ks. ks) (seq_kept kept) (λ ks real. real.each)
    (λ ks new items real same made. set_of_equal total ties ks new items real.ascend same made)

-- a hashed set
pub hash_set_kept : {K S : Type 0} {exists : K → Type 0} {script : ScriptOf K} {refusal : Refusal} {gives : Gives K} {eq : K → K → Bool} → IsEquivalence eq → FormComesBack exists script refusal gives eq
    → FormComesBack (λ (s : HashSet K S). AllByRecursion exists s.keys) (λ s. seq_script script s.keys) (λ s. refusal_then (seq_at s) (seq_refusal refusal)) (HashSetGives gives eq) (hash_set_eq eq)
hash_set_kept {exists} {eq} laws kept =
    made_kept (λ s. AllByRecursion exists s.keys) (bag.IsFromIterResult eq) (hash_set_eq eq) (λ s. s.keys) (seq_kept kept) (λ s real. real)
    (λ s new items real same made. set_of_same laws s new items same made)
