-- Records that are saved and loaded.
use Rattle.std.proofs.Common.{◌≡◌, ℕ, List, [], ◌∷◌, ◌++◌, length, slice_get, Some, None, Result, Ok, Err, IfErr, IsErrAnd, refl, ap, sym, subst, ◌∙◌}
use Rattle.serde_content.specs.Names.Words.{items_in, Tree}
use Rattle.serde_content.specs.Names.Tree as tree
use Rattle.serde_content.specs.Names.Tree.{Trees, seq, tree_then, unit, boolean, number}
use Rattle.serde_content.specs.Names.Tree.{character, text, octets, absent, present, structure}
use Rattle.serde_content.specs.Names.Tree.{enumeration, tuple}
use Rattle.serde_content.specs.Names.Words.{trees_of}
use Rattle.content_cbor.specs.Decoded.{IsPlaced, StopsAt}
use Rattle.content_cbor.specs.Form.{form, each_form, EachFits, Fits}
use Rattle.content_cbor.specs.Inner.Reading.{whole_at}
use Rattle.content_cbor.specs.declared.decode_error.DecodeError.{DecodeError}
use Rattle.content_cbor.specs.declared.decode_error.DecodeError.TheVariants as decoding
use Rattle.content_uses.specs.Saved.{array_of, forms, IsLoadedAs, IsNoMemory, StopsLoading}
use Rattle.content_uses.specs.declared.load_error.LoadError.{LoadError}
use Rattle.content_uses.specs.declared.load_error.LoadError.TheVariants as load
use Rattle.content_uses.specs.declared.store.Store.{Store}

each_is : (ts : List Tree) → each_form (trees_of ts) ≡ trees_of (forms ts)
each_is [] = refl
each_is (t ∷ ts) = ap (tree_then (form t)) (each_is ts)

-- the form of an array is that of the forms
pub array_form : (ts : List Tree) → form (array_of ts) ≡ array_of (forms ts)
array_form ts = ap seq (each_is ts)

same_records : (ts us : List Tree) → trees_of ts ≡ trees_of us → ts ≡ us
same_records [] [] e = refl
same_records [] (u ∷ us) e = absurd (cc e)
same_records (t ∷ ts) [] e = absurd (cc e)
same_records (t ∷ ts) (u ∷ us) e =
    let head : t ≡ u = cc e in
    let rest : trees_of ts ≡ trees_of us = cc e in
    ap (λ x. x ∷ ts) head ∙ ap (λ xs. u ∷ xs) (same_records ts us rest)

-- what has items is a sequence of them
pub seq_of : (t : Tree) (us : Trees) → Some us ≡ items_in t → seq us ≡ t
seq_of (seq ts) us e = ap seq (cc e)
seq_of unit us e = absurd (cc e)
seq_of (boolean b) us e = absurd (cc e)
seq_of (number n) us e = absurd (cc e)
seq_of (character c) us e = absurd (cc e)
seq_of (text x) us e = absurd (cc e)
seq_of (octets x) us e = absurd (cc e)
seq_of (tree.map ps) us e = absurd (cc e)
seq_of absent us e = absurd (cc e)
seq_of (present t) us e = absurd (cc e)
seq_of (structure n d) us e = absurd (cc e)
seq_of (enumeration n i v d) us e = absurd (cc e)
seq_of (tuple ts) us e = absurd (cc e)

-- an array has its records
pub records_are : (xs ts : List Tree) (t : Tree) → Some (trees_of xs) ≡ items_in t → t ≡ array_of ts → xs ≡ ts
records_are xs ts t items is = same_records xs ts (cc (items ∙ ap items_in is))

-- what is no array is that of no records
pub no_array : (t : Tree) (ts : List Tree) → items_in t ≡ None → t ≡ array_of ts → ⊥
no_array t ts none is = let some : items_in t ≡ Some (trees_of ts) = ap items_in is in absurd (cc (none, some))

-- where decoding answers an error, loading answers it
pub failed_as : (ts : List Tree) (e : DecodeError) (r : Result Store LoadError) → e ≡ decoding.OutOfMemory → IsErrAnd r (λ x. x ≡ load.Decode e) → IsLoadedAs ts r
failed_as ts e (Ok s) out is = absurd is
failed_as ts e (Err x) out is = is ∙ ap load.Decode out

pub stops_as : (limit : ℕ) (bs : List ℕ) (e : DecodeError) (r : Result Store LoadError) → StopsAt bs e (whole_at limit bs)
    → IsPlaced limit bs e → IsErrAnd r (λ x. x ≡ load.Decode e) → IfErr r (λ x. StopsLoading limit bs x)
stops_as limit bs e (Ok s) stops placed is = tt
stops_as limit bs e (Err x) stops placed is = subst (StopsLoading limit bs) (sym is) (stops, placed)

-- out of memory stays that
pub no_memory : {A : Type 0} (e : LoadError) (r : Result A LoadError) → IsNoMemory e → IsErrAnd r (λ x. x ≡ e) → IfErr r (λ x. IsNoMemory x)
no_memory e (Ok y) out is = tt
no_memory e (Err x) out is = is ∙ out

-- what was put last is in what was loaded, as its form
form_placed : (xs : List Tree) (t : Tree) → slice_get (forms (xs ++ t ∷ [])) (length xs) ≡ Some (form t)
form_placed [] t = refl
form_placed (x ∷ xs) t = form_placed xs t

pub loaded_last : (loaded rs old : List Tree) (t : Tree) (n : ℕ) → loaded ≡ forms rs → rs ≡ old ++ t ∷ [] → n ≡ length old → slice_get loaded n ≡ Some (form t)
loaded_last loaded rs old t n are put last =
    ap (λ xs. slice_get xs n) (are ∙ ap forms put) ∙ ap (slice_get (forms (old ++ t ∷ []))) last ∙ form_placed old t

-- and it fits, as all records do
last_fits : (xs : List Tree) (t : Tree) → EachFits (trees_of (xs ++ t ∷ [])) → Fits t
last_fits [] t fits = fits.0
last_fits (x ∷ xs) t fits = last_fits xs t fits.1

pub put_fits : (rs old : List Tree) (t : Tree) → rs ≡ old ++ t ∷ [] → EachFits (trees_of rs) → Fits t
put_fits rs old t put fits = last_fits old t (subst (λ xs. EachFits (trees_of xs)) put fits)
