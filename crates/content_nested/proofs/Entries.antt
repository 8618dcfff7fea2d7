-- What is refused of an entry, where its value is read before its key.
use Rattle.std.proofs.Common.{◌≡◌, ◌≢◌, List, [], ◌∷◌, Option, Some, None, sym, ap, subst, ◌∙◌}
use Rattle.content_tree.specs.Errors.Cause.{Cause, out_of_memory}
use Rattle.content_tree.specs.Values.Tree.{Tree}
use Rattle.content_de.specs.Accesses.Map.{entries_under, first_entry}
use Rattle.content_de.specs.Reads.Maps.{entries_refusal}
use Rattle.content_de.specs.Reads.Read.{Refusal, first_of}
use Rattle.content_de.specs.Sources.Origin.{Origin, Flags, Subject, subject_under, tree_under}

-- a key that may be refused, and then a value that is
first_refused : (key value others : Option Cause) (v r : Cause) → (v ≢ out_of_memory → value ≡ Some v) → (r ≢ out_of_memory → first_of key (Some v) ≡ Some r)
    → r ≢ out_of_memory → first_of key (first_of value others) ≡ Some r
first_refused (Some c) value others v r of_value of_both known = of_both known
first_refused None value others v r of_value of_both known =
    let same : v ≡ r = cc (of_both known) in
    rw (of_value (λ e. known (sym same ∙ e))) (of_both known)

-- the entries that are left begin with this one
pub entries_refused : (key_refusal value_refusal : Refusal) (f : Flags) (es : List (Origin × Tree)) (key value : Subject) (v r : Cause)
    → Some (key, value) ≡ first_entry (entries_under f es) → (v ≢ out_of_memory → value_refusal value ≡ Some v)
    → (r ≢ out_of_memory → first_of (key_refusal key) (Some v) ≡ Some r) → r ≢ out_of_memory → entries_refusal key_refusal value_refusal f es ≡ Some r
entries_refused key_refusal value_refusal f [] key value v r is of_value of_both known = absurd (cc is)
entries_refused key_refusal value_refusal f (e ∷ es) key value v r is of_value of_both known =
    let others = entries_refusal key_refusal value_refusal f es in
    let here : Subject × Subject = (key, value) in
    let there : Subject × Subject = (subject_under f e.0, tree_under f e.1) in
    let same : here ≡ there = cc is in
    let same_key = ap (λ p. p.0) same in
    let same_value = ap (λ p. p.1) same in
    subst (λ s. first_of (key_refusal s) (first_of (value_refusal (tree_under f e.1)) others) ≡ Some r) same_key
    (subst (λ s. first_of (key_refusal key) (first_of (value_refusal s) others) ≡ Some r) same_value
    (first_refused (key_refusal key) (value_refusal value) others v r of_value of_both known))
