-- Hash maps come back from CBOR where their keys and values do.
use Rattle.std.specs.Prelude.{◌≡◌, Bool, true, false, List, [], ◌∷◌}
use Rattle.std.specs.Cmp.{IsEquivalence}
use Rattle.std.specs.Cmp.Lexicographic.{pointwise}
use Rattle.std.specs.HashMap as table
use Rattle.std.specs.HashMap.{hash_map_eq}
use Rattle.std.specs.List.{AllByRecursion}
use Rattle.content_tree.specs.Values.Tree as tree
use Rattle.content_tree.specs.Values.Tree.{Pairs}
use Rattle.content_ser.specs.Grammar.Spells.{pairs, spells_map}
use Rattle.content_ser.specs.Scripts.Standard.{ScriptOf, entries_script, map_script}
use Rattle.content_de.specs.Outcomes.{refusal_then}
use Rattle.content_de.specs.Accesses.Map.{map_at}
use Rattle.content_de.specs.Reads.Hashed.{HashMapGives}
use Rattle.content_de.specs.Reads.Maps.{map_refusal}
use Rattle.content_de.specs.Reads.Pairs.{EachGives}
use Rattle.content_de.specs.Reads.Read.{Refusal, Gives}
use Rattle.serde_content.specs.Laws.Hashed.{PairsBack, TableExists, map_of_same, no_pairs_back, pair_first_back}
use Rattle.serde_content.specs.Laws.Maps.{EntriesSuch, entries_end, entries_more, same_entry}
use Rattle.serde_content.specs.Laws.Spelled.{Spelled, spelled_call, such_spelled}
use Rattle.content_cbor.specs.Decoded.{flags_in}
use Rattle.content_cbor.specs.Form.{form, pair_forms, PairsFit}
use Rattle.content_cbor.specs.Typed.Kept.{FormComesBack, FormGives}
use Rattle.content_cbor.specs.Typed.Made.{made_kept}

-- the forms of pairs are read as entries that equal these
abbrev FormsBack : {K V : Type 0} → (key value : Refusal) → Gives K → Gives V → (K × V → K × V → Bool) → List (K × V) → Pairs → Type 0
FormsBack key value gives_key gives_value same es ps = PairsFit ps → (b : Bool) → PairsBack key value gives_key gives_value same (flags_in b) es (pair_forms ps)

-- entries that exist
forms_back : {K V : Type 0} {key_exists : K → Type 0} {value_exists : V → Type 0} {key_script : ScriptOf K} {value_script : ScriptOf V} {key value : Refusal} {gives_key : Gives K} {gives_value : Gives V}
    {eq_key : K → K → Bool} {eq_value : V → V → Bool} → FormComesBack key_exists key_script key gives_key eq_key → FormComesBack value_exists value_script value gives_value eq_value
    → (es : List (K × V)) → AllByRecursion (λ e. key_exists e.0 × value_exists e.1) es
    → Spelled (EntriesSuch (FormsBack key value gives_key gives_value (same_entry eq_key eq_value) es)) (entries_script key_script value_script es false)
forms_back {key} {value} {gives_key} {gives_value} {eq_key} {eq_value} keys values [] each =
    entries_end (FormsBack key value gives_key gives_value (same_entry eq_key eq_value) []) (λ fits b. no_pairs_back key value gives_key gives_value (same_entry eq_key eq_value) (flags_in b))
forms_back {key} {value} {gives_key} {gives_value} {eq_key} {eq_value} keys values (e ∷ es) each =
    entries_more
    (FormGives key gives_key (λ y. eq_key e.0 y ≡ true))
    (FormGives value gives_value (λ y. eq_value e.1 y ≡ true))
    (FormsBack key value gives_key gives_value (same_entry eq_key eq_value) es)
    (FormsBack key value gives_key gives_value (same_entry eq_key eq_value) (e ∷ es))
    (λ k t ps one two others fits b. pair_first_back key value gives_key gives_value eq_key eq_value (flags_in b) e es (form k) (form t) (pair_forms ps) (one fits.0 b) (two fits.1 b) (others fits.2 b))
    (keys.of_value e.0 each.0.0) (values.of_value e.1 each.0.1) (forms_back keys values es each.1)

-- each entry of a map, in order
entries_each_kept : {K V : Type 0} {key_exists : K → Type 0} {value_exists : V → Type 0} {key_script : ScriptOf K} {value_script : ScriptOf V} {key value : Refusal} {gives_key : Gives K} {gives_value : Gives V}
    {eq_key : K → K → Bool} {eq_value : V → V → Bool} → FormComesBack key_exists key_script key gives_key eq_key → FormComesBack value_exists value_script value gives_value eq_value
    → FormComesBack (AllByRecursion (λ e. key_exists e.0 × value_exists e.1)) (map_script key_script value_script) (λ s. refusal_then (map_at s) (map_refusal key value))
    (EachGives gives_key gives_value) (pointwise (same_entry eq_key eq_value))
entries_each_kept keys values = record {
  of_value = λ es real. such_spelled (spelled_call (λ calls rest e. (
    tree.map (pairs e.0),
    spells_map e.1,
    λ fits b. record { free = (e.3 fits.1 b).free; only = (e.3 fits.1 b).only },
  )) (forms_back keys values es real));
}

-- a map
pub hash_map_kept : {K V S : Type 0} {key_exists : K → Type 0} {value_exists : V → Type 0} {key_script : ScriptOf K} {value_script : ScriptOf V} {key value : Refusal} {gives_key : Gives K} {gives_value : Gives V}
    {eq_key : K → K → Bool} {eq_value : V → V → Bool} → IsEquivalence eq_key
    → FormComesBack key_exists key_script key gives_key eq_key → FormComesBack value_exists value_script value gives_value eq_value
    → FormComesBack (TableExists {S = S} key_exists value_exists eq_key) (λ m. map_script key_script value_script m.entries) (λ s. refusal_then (map_at s) (map_refusal key value))
    (HashMapGives gives_key gives_value eq_key) (hash_map_eq eq_key eq_value)
hash_map_kept {key_exists} {value_exists} {eq_key} {eq_value} laws keys values =
    made_kept (TableExists key_exists value_exists eq_key) (table.IsFromIterResult eq_key) (hash_map_eq eq_key eq_value) (λ m. m.entries) (entries_each_kept keys values) (λ m real. real.each)
    (λ m new ps real same made. map_of_same laws eq_value m new ps real.apart same made)
