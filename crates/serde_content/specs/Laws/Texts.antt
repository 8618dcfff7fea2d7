-- Paths and boxed texts come back: they are sent as texts.
use Rattle.std.specs.Prelude.{◌≡◌, Bool, true, refl, ⊤, nat_eq}
use Rattle.std.specs.Box.{boxed_str_bytes}
use Rattle.std.specs.Cmp.{eq_by_cmp_equiv}
use Rattle.std.specs.Cmp.Lexicographic.{nat_list_eq_equiv, pointwise}
use Rattle.std.specs.Ordering.{is_eq}
use Rattle.std.specs.Path.{path_buf_bytes, path_cmp, path_cmp_total}
use Rattle.std.specs.declared.alloc.Global.{Global}
use Rattle.std.specs.declared.boxed.BoxedStr.{BoxedStr}
use Rattle.std.specs.declared.path.PathBuf.{PathBuf}
use Rattle.std.proofs.Common.{ap, sym, ◌∙◌}
use Rattle.content_tree.specs.Values.Text.{owned_text}
use Rattle.content_tree.specs.Values.Tree as tree
use Rattle.content_ser.specs.Calls.Event as event
use Rattle.content_ser.specs.Scripts.Standard.{only}
use Rattle.content_de.specs.Outcomes.{refusal_of, IsTaken}
use Rattle.content_de.specs.Requests.Leaves.{text_from}
use Rattle.content_de.specs.Reads.Standard.{HasContent}
use Rattle.serde_content.specs.RoundTrip.{ComesBack}
use Rattle.serde_content.specs.Laws.Leaves.{equal_to_itself}
use Rattle.serde_content.specs.Laws.Spelled.{leaf_such}

-- paths are equal where their components are
abbrev pub path_eq : PathBuf Global → PathBuf Global → Bool
path_eq x y = is_eq (path_cmp (path_buf_bytes x) (path_buf_bytes y))

-- paths of one text are equal
pub same_path : (x y : PathBuf Global) → path_buf_bytes x ≡ path_buf_bytes y → path_eq x y ≡ true
same_path x y e = ap (λ t. is_eq (path_cmp (path_buf_bytes x) t)) (sym e) ∙ (eq_by_cmp_equiv (path_cmp_total path_buf_bytes)).refl x

-- a path
pub path_back : ComesBack (λ p. ⊤) (λ (p : PathBuf Global). only (event.text (path_buf_bytes p))) (λ s. refusal_of (text_from s.origin)) (λ s p. IsTaken (text_from s.origin) (HasContent (path_buf_bytes p))) path_eq
path_back = record { of_value = λ x real f. leaf_such (tree.text (owned_text (path_buf_bytes x))) refl (record { free = refl; only = λ y h. same_path x y h }) }

-- boxed texts are equal where their bytes are
abbrev pub boxed_text_eq : BoxedStr Global → BoxedStr Global → Bool
boxed_text_eq x y = pointwise nat_eq (boxed_str_bytes x) (boxed_str_bytes y)

-- a boxed text
pub boxed_text_back : ComesBack (λ b. ⊤) (λ (b : BoxedStr Global). only (event.text (boxed_str_bytes b))) (λ s. refusal_of (text_from s.origin)) (λ s b. IsTaken (text_from s.origin) (HasContent (boxed_str_bytes b))) boxed_text_eq
boxed_text_back = record { of_value = λ x real f. leaf_such (tree.text (owned_text (boxed_str_bytes x))) refl (record { free = refl; only = λ y h. equal_to_itself nat_list_eq_equiv (boxed_str_bytes x) (boxed_str_bytes y) h }) }
