-- Lists that are being printed, item by item.
use Rattle.std.proofs.Common.{◌≡◌, refl, ℕ, suc, ◌+◌, ◌<◌, List, [], ◌∷◌, ◌++◌, codes}
use Rattle.std.proofs.Common.{length, drop, get_or, sym, ap, ◌∙◌, append-nil, append_assoc, add-one}
use Rattle.std.proofs.Common.{drop-cons, Option, Some, None}
use Rattle.std.specs.Fmt.{decimal, HasWrittenStyled, WritesStyledOnOk, DisplaysStyledOnOk}
use Rattle.std.specs.Fmt.{WritesText}
use Rattle.std.specs.declared.fmt.Error.{Error}
use Rattle.std.specs.declared.fmt.Formatter.{Formatter}
use Rattle.std.specs.declared.result.Result.{Result}
use Rattle.std.proofs.Output.{has_written_styled_of_eq, has_written_styled_append}
use Rattle.std.specs.declared.fmt.InlineText.{InlineText}
use Rattle.std.specs.Fmt.InlineText.{inline_text, IsIntact, AppendsIfIntact}
use Rattle.std.specs.List.{concat, FoldsTo}
use Rattle.content_tree.specs.Printed.Images.{printed, printed_list, printed_pairs, printed_fields}
use Rattle.content_tree.specs.Printed.Images.{byte_list}
use Rattle.content_tree.specs.Images.Image.{Image, Images, ImagePairs, ImageFields, image_then}
use Rattle.content_tree.specs.Images.Image.{image_pair_then, image_field_then}

-- what is left begins with the item that is read
pub drop_here : {A : Type 0} (xs : List A) (i : ℕ) (x : A) → i < length xs → x ≡ get_or xs i x → drop i xs ≡ x ∷ drop (i + 1) xs
drop_here xs i x below is = rw (add-one, drop-cons xs i x) (ap (λ y. y ∷ drop (suc i) xs) (sym is))

-- what is left begins with the byte that is read
pub drop_first : {A : Type 0} (xs : List A) (i : ℕ) (d : A) → i < length xs → drop i xs ≡ get_or xs i d ∷ drop (i + 1) xs
drop_first xs i d below = rw (add-one) (drop-cons xs i d below)

-- one more byte of a list that is being printed
pub next_byte : (done lead : List ℕ) (xs : List ℕ) (i x : ℕ) (whole : List ℕ) → drop i xs ≡ x ∷ drop (i + 1) xs
    → done ++ byte_list lead (drop i xs) ≡ whole
    → (done ++ (lead ++ decimal x)) ++ byte_list (codes ", ") (drop (i + 1) xs) ≡ whole
next_byte done lead xs i x whole here so_far =
    append_assoc done _ _ ∙ ap (λ r. done ++ r) (append_assoc lead _ _) ∙ ap (λ r. done ++ byte_list lead r) (sym here) ∙ so_far

-- one more item, of whatever has images
pub next_item : {A : Type 0} (shown : A → Image) (all : List A → Images) (step : (x : A) (xs : List A) → image_then (shown x) (all xs) ≡ all (x ∷ xs))
    (done lead : List ℕ) (xs : List A) (i : ℕ) (x : A) (whole : List ℕ) → drop i xs ≡ x ∷ drop (i + 1) xs
    → done ++ printed_list lead (all (drop i xs)) ≡ whole
    → (done ++ (lead ++ printed (shown x))) ++ printed_list (codes ", ") (all (drop (i + 1) xs)) ≡ whole
next_item shown all step done lead xs i x whole here so_far =
    append_assoc done _ _ ∙ ap (λ r. done ++ r) (append_assoc lead (printed (shown x)) _)
    ∙ ap (λ is. done ++ printed_list lead is) (step x (drop (i + 1) xs) ∙ ap all (sym here)) ∙ so_far

-- one more pair
pub next_pair : {A : Type 0} (shown : A → Image) (all : List (A × A) → ImagePairs)
    (step : (x : A × A) (xs : List (A × A)) → image_pair_then (shown x.0) (shown x.1) (all xs) ≡ all (x ∷ xs))
    (done lead : List ℕ) (xs : List (A × A)) (i : ℕ) (x : A × A) (whole : List ℕ) → drop i xs ≡ x ∷ drop (i + 1) xs
    → done ++ printed_pairs lead (all (drop i xs)) ≡ whole
    → (done ++ ((lead ++ printed (shown x.0)) ++ (codes ": " ++ printed (shown x.1)))) ++ printed_pairs (codes ", ") (all (drop (i + 1) xs)) ≡ whole
next_pair shown all step done lead xs i x whole here so_far =
    let k = printed (shown x.0) in
    let v = printed (shown x.1) in
    let rest = printed_pairs (codes ", ") (all (drop (i + 1) xs)) in
    append_assoc done _ _ ∙ ap (λ r. done ++ r) (append_assoc (lead ++ k) (codes ": " ++ v) rest ∙ append_assoc lead k _ ∙ ap (λ r. lead ++ (k ++ r)) (append_assoc (codes ": ") v rest))
    ∙ ap (λ es. done ++ printed_pairs lead es) (step x (drop (i + 1) xs) ∙ ap all (sym here)) ∙ so_far

-- one more field
pub next_field : {A K : Type 0} (key : K → List ℕ) (shown : A → Image) (all : List (K × A) → ImageFields)
    (step : (x : K × A) (xs : List (K × A)) → image_field_then (key x.0) (shown x.1) (all xs) ≡ all (x ∷ xs))
    (done lead : List ℕ) (xs : List (K × A)) (i : ℕ) (x : K × A) (whole : List ℕ) → drop i xs ≡ x ∷ drop (i + 1) xs
    → done ++ printed_fields lead (all (drop i xs)) ≡ whole
    → (done ++ (lead ++ (key x.0 ++ (codes ": " ++ printed (shown x.1))))) ++ printed_fields (codes ", ") (all (drop (i + 1) xs)) ≡ whole
next_field key shown all step done lead xs i x whole here so_far =
    append_assoc done _ _ ∙ ap (λ r. done ++ r) (append_assoc lead _ _ ∙ ap (λ r. lead ++ r) (append_assoc (key x.0) _ _
    ∙ ap (λ r. key x.0 ++ r) (append_assoc (codes ": ") (printed (shown x.1)) (printed_fields (codes ", ") (all (drop (i + 1) xs))))))
    ∙ ap (λ ms. done ++ printed_fields lead ms) (step x (drop (i + 1) xs) ∙ ap all (sym here)) ∙ so_far

-- two to four writes one after another, under any options
module _ {W : Type 0} (took : W → List ℕ → W → Type 0) where
  pub two_writes : (f g h : Formatter W) (a b all : List ℕ) →
      HasWrittenStyled took f a g → HasWrittenStyled took g b h → a ++ b ≡ all → HasWrittenStyled took f all h
  two_writes f g h a b all p q is = has_written_styled_of_eq took _ _ all _ is (has_written_styled_append took _ _ _ _ _ p q)

  pub three_writes : (f g h i : Formatter W) (a b c all : List ℕ) →
      HasWrittenStyled took f a g → HasWrittenStyled took g b h → HasWrittenStyled took h c i →
      a ++ (b ++ c) ≡ all → HasWrittenStyled took f all i
  three_writes f g h i a b c all p q r is = two_writes f g i a (b ++ c) all p (two_writes g h i b c (b ++ c) q r refl) is

  pub four_writes : (f g h i j : Formatter W) (a b c d all : List ℕ) →
      HasWrittenStyled took f a g → HasWrittenStyled took g b h → HasWrittenStyled took h c i → HasWrittenStyled took i d j →
      a ++ (b ++ (c ++ d)) ≡ all → HasWrittenStyled took f all j
  four_writes f g h i j a b c d all p q r s is =
      two_writes f g j a (b ++ (c ++ d)) all p (three_writes g h i j b c d _ q r s refl) is

-- several writes append what they wrote together
appended : {n : ℕ} (s : InlineText n) (parts : List (List ℕ)) (t : InlineText n) → FoldsTo AppendsIfIntact s parts t → IsIntact s →
    inline_text t ≡ inline_text s ++ concat parts
appended s [] t same intact = ap inline_text (sym same) ∙ sym (append-nil (inline_text s))
appended s (x ∷ parts) t calls intact =
    let first = calls.1 intact in
    appended calls.0 parts t calls.2 first.0 ∙ ap (λ l. l ++ concat parts) first.1 ∙ append_assoc (inline_text s) x (concat parts)

-- what an empty text took, written from it
pub shown_bare : {W : Type 0} {n : ℕ} (took : W → List ℕ → W → Type 0) (o : Option (List ℕ)) (s t : InlineText n) (f g : Formatter W) (r : Result (Unit {0}) Error) →
    IsIntact s → inline_text s ≡ [] → WritesText AppendsIfIntact s o t → WritesStyledOnOk took f r (inline_text t) g →
    DisplaysStyledOnOk took f r o g
shown_bare took None s t f g r intact empty wrote then = tt
shown_bare took (Some bs) s t f g r intact empty wrote then = λ flush ok.
    let text = appended s wrote.parts t wrote.calls intact ∙ (λ i. empty i ++ wrote.whole i) in
    has_written_styled_of_eq took f (inline_text t) bs g text (then flush ok)
