-- What a piece of a path spells, one escape after another.
use Rattle.std.proofs.Common.{◌≡◌, ◌≢◌, ◌<◌, ◌+◌, ◌∙◌, ap, sym, refl, subst, arith, ℕ, zero, suc, false, nat_eq, ne_eqb, length-append}
use Rattle.std.proofs.Common.{List, [], ◌∷◌, ◌++◌, length, get_or, append_assoc, Option, Some, None, option_map, option_and_then, if◌then◌else◌}
use Rattle.std.specs.Option.{is_some}
use Rattle.content_tree.proofs.Pieces.{read_plain}
use Rattle.content_tree.specs.Values.Paths.{unescape, after_tilde}
use Rattle.content_tree.specs.Values.Trades.{HasNoSlash, IsCut}

-- no byte of it is `~`
abbrev pub NoTilde : List ℕ → Type 0
NoTilde bs = (i : ℕ) → i < length bs → get_or bs i 0 ≢ 126

pub map_same : {A : Type 0} (o : Option A) → option_map (λ x. x) o ≡ o
map_same None = refl
map_same (Some x) = refl

map_twice : {A B C : Type 0} (f : B → C) (g : A → B) (o : Option A) → option_map f (option_map g o) ≡ option_map (λ x. f (g x)) o
map_twice f g None = refl
map_twice f g (Some x) = refl

-- what has neither is read as itself
pub plain_all : (bs : List ℕ) → HasNoSlash bs → NoTilde bs → unescape bs ≡ Some bs
plain_all [] slash tilde = refl
plain_all (x ∷ bs) slash tilde =
    read_plain x bs (ne_eqb x 126 (tilde 0 (omega arith))) (ne_eqb x 47 slash.0)
    ∙ ap (option_map (λ part. x ∷ part)) (plain_all bs slash.1 (λ i less. tilde (suc i) (omega arith)))

-- and so before anything else
plain_before : (bs more : List ℕ) → HasNoSlash bs → NoTilde bs → unescape (bs ++ more) ≡ option_map (λ part. bs ++ part) (unescape more)
plain_before [] more slash tilde = sym (map_same (unescape more))
plain_before (x ∷ bs) more slash tilde =
    read_plain x (bs ++ more) (ne_eqb x 126 (tilde 0 (omega arith))) (ne_eqb x 47 slash.0)
    ∙ (ap (option_map (λ part. x ∷ part)) (plain_before bs more slash.1 (λ i less. tilde (suc i) (omega arith)))
    ∙ map_twice (λ part. x ∷ part) (λ part. bs ++ part) (unescape more))

pub front_slash : (bs more : List ℕ) → HasNoSlash (bs ++ more) → HasNoSlash bs
front_slash [] more h = tt
front_slash (x ∷ bs) more h = (h.0, front_slash bs more h.1)

pub back_slash : (bs more : List ℕ) → HasNoSlash (bs ++ more) → HasNoSlash more
back_slash [] more h = h
back_slash (x ∷ bs) more h = back_slash bs more h.1

-- up to the first escape and by it
pub cut_spells : (left before after rest : List ℕ) (character : ℕ) → left ≡ before ++ 126 ∷ after → HasNoSlash left → NoTilde before → IsCut after character rest
    → unescape left ≡ option_map (λ part. before ++ character ∷ part) (unescape rest)
cut_spells left before after rest character e slash tilde cut =
    let whole : HasNoSlash (before ++ 126 ∷ after) = subst HasNoSlash e slash in
    ap unescape e
    ∙ (plain_before before (126 ∷ after) (front_slash before (126 ∷ after) whole) tilde
    ∙ (ap (option_map (λ part. before ++ part)) cut.3 ∙ map_twice (λ part. before ++ part) (λ part. character ∷ part) (unescape rest)))

pub cut_slash : (left before after rest : List ℕ) (character : ℕ) → left ≡ before ++ 126 ∷ after → HasNoSlash left → IsCut after character rest → HasNoSlash rest
cut_slash left before after rest character e slash cut =
    let whole : HasNoSlash (before ++ 126 ∷ after) = subst HasNoSlash e slash in
    let behind = back_slash before (126 ∷ after) whole in cut.2 behind.1

pub cut_shorter : (left before after rest : List ℕ) (character : ℕ) → left ≡ before ++ 126 ∷ after → IsCut after character rest → length rest < length left
cut_shorter left before after rest character e cut = omega (arith, ap length e ∙ length-append before (126 ∷ after), cut.0)

-- where the escape spells nothing, nothing is spelled
pub cut_none : (left before after : List ℕ) → left ≡ before ++ 126 ∷ after → HasNoSlash left → NoTilde before → unescape (126 ∷ after) ≡ None → unescape left ≡ None
cut_none left before after e slash tilde none =
    let whole : HasNoSlash (before ++ 126 ∷ after) = subst HasNoSlash e slash in
    ap unescape e
    ∙ (plain_before before (126 ∷ after) (front_slash before (126 ∷ after) whole) tilde ∙ ap (option_map (λ part. before ++ part)) none)

pub some_mapped : {A B : Type 0} (f : A → B) (o : Option A) → is_some (option_map f o) ≡ is_some o
some_mapped f None = refl
some_mapped f (Some x) = refl

more_text : (text before part : List ℕ) (character : ℕ) → text ++ (before ++ character ∷ part) ≡ ((text ++ before) ++ character ∷ []) ++ part
more_text text before part character = sym (append_assoc (text ++ before) (character ∷ []) part ∙ append_assoc text before (character ∷ part))

pub text_more : (text before : List ℕ) (character : ℕ) (o : Option (List ℕ))
    → option_map (λ part. text ++ part) (option_map (λ part. before ++ character ∷ part) o) ≡ option_map (λ part. ((text ++ before) ++ character ∷ []) ++ part) o
text_more text before character None = refl
text_more text before character (Some part) = ap Some (more_text text before part character)

-- `~` is followed by neither
pub tilde_alone : (after : List ℕ) → ((rest : List ℕ) → after ≢ 48 ∷ rest) → ((rest : List ℕ) → after ≢ 49 ∷ rest) → unescape (126 ∷ after) ≡ None
tilde_alone [] not_zero not_one = refl
tilde_alone (y ∷ ys) not_zero not_one =
    rw (ne_eqb y 48 (λ e. not_zero ys (ap (λ z. z ∷ ys) e)), ne_eqb y 49 (λ e. not_one ys (ap (λ z. z ∷ ys) e))) refl

pub none_is : (o : Option (List ℕ)) → false ≡ is_some o → None ≡ o
none_is None h = refl
none_is (Some part) h = absurd (cc h)
