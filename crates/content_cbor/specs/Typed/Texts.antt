-- Paths and boxed texts come back from CBOR.
use Rattle.std.specs.Prelude.{refl, ⊤}
use Rattle.std.specs.Box.{boxed_str_bytes}
use Rattle.std.specs.Cmp.Lexicographic.{nat_list_eq_equiv}
use Rattle.std.specs.Path.{path_buf_bytes}
use Rattle.std.specs.declared.alloc.Global.{Global}
use Rattle.std.specs.declared.boxed.BoxedStr.{BoxedStr}
use Rattle.std.specs.declared.path.PathBuf.{PathBuf}
use Rattle.content_tree.specs.Values.Text.{owned_text}
use Rattle.content_tree.specs.Values.Tree as tree
use Rattle.content_ser.specs.Calls.Event as event
use Rattle.content_ser.specs.Scripts.Standard.{only}
use Rattle.content_de.specs.Outcomes.{refusal_of, IsTaken}
use Rattle.content_de.specs.Requests.Leaves.{text_from}
use Rattle.content_de.specs.Reads.Standard.{HasContent}
use Rattle.serde_content.specs.Laws.Leaves.{equal_to_itself}
use Rattle.serde_content.specs.Laws.Texts.{boxed_text_eq, path_eq, same_path}
use Rattle.serde_content.specs.Laws.Spelled.{leaf_such}
use Rattle.content_cbor.specs.Typed.Kept.{FormComesBack}

-- a path
pub path_kept : FormComesBack (λ p. ⊤) (λ (p : PathBuf Global). only (event.text (path_buf_bytes p))) (λ s. refusal_of (text_from s.origin)) (λ s p. IsTaken (text_from s.origin) (HasContent (path_buf_bytes p))) path_eq
path_kept = record { of_value = λ x real. leaf_such (tree.text (owned_text (path_buf_bytes x))) refl (λ fits b. record { free = refl; only = λ y h. same_path x y h }) }

-- a boxed text
pub boxed_text_kept : FormComesBack (λ b. ⊤) (λ (b : BoxedStr Global). only (event.text (boxed_str_bytes b))) (λ s. refusal_of (text_from s.origin)) (λ s b. IsTaken (text_from s.origin) (HasContent (boxed_str_bytes b))) boxed_text_eq
boxed_text_kept = record { of_value = λ x real. leaf_such (tree.text (owned_text (boxed_str_bytes x))) refl (λ fits b. record { free = refl; only = λ y h. equal_to_itself nat_list_eq_equiv (boxed_str_bytes x) (boxed_str_bytes y) h }) }
