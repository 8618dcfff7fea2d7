-- Maps come back from CBOR where their keys and values do.
use Rattle.std.specs.Prelude.{◌≡◌, Bool, true, false, ◌&&◌, List, [], ◌∷◌}
use Rattle.std.specs.Cmp.{IsTotalOrder}
use Rattle.std.specs.Cmp.Lexicographic.{pointwise}
use Rattle.std.specs.List.{AllByRecursion}
use Rattle.std.specs.List.Sorted.{IsStrictlySortedBy}
use Rattle.std.specs.Map.{keys_of}
use Rattle.std.specs.Ordering.{is_eq}
use Rattle.std.specs.declared.cmp.Ordering.{Ordering}
use Rattle.std.proofs.Common.{subst, sym}
use Rattle.content_tree.specs.Values.Tree as tree
use Rattle.content_tree.specs.Values.Tree.{Pairs}
use Rattle.content_ser.specs.Grammar.Spells.{pairs, spells_map}
use Rattle.content_ser.specs.Scripts.Standard.{ScriptOf, entries_script, map_script}
use Rattle.content_de.specs.Outcomes.{refusal_then, IsTaken}
use Rattle.content_de.specs.Accesses.Map.{map_at}
use Rattle.content_de.specs.Reads.Read.{Refusal, Gives}
use Rattle.content_de.specs.Reads.Maps.{map_refusal, MapGives}
use Rattle.serde_content.specs.RoundTrip.{EntriesExist}
use Rattle.serde_content.specs.Laws.Spelled.{Spelled, spelled_call, such_spelled}
use Rattle.serde_content.specs.Laws.Maps.{EntriesSuch, EntriesBack, entries_end, entries_more, no_entries}
use Rattle.serde_content.specs.Laws.Maps.{entry_first, first_below, others_ascend, same_entry}
use Rattle.content_cbor.specs.Decoded.{flags_in}
use Rattle.content_cbor.specs.Form.{form, pair_forms, PairsFit}
use Rattle.content_cbor.specs.Typed.Kept.{FormComesBack, FormGives, RefusesNull}

-- the forms of pairs are read as entries that equal these
abbrev PairsBack : {K V : Type 0} → (key value : Refusal) → Gives K → Gives V → (K → K → Ordering) → (K × V → K × V → Bool) → List (K × V) → Pairs → Type 0
PairsBack key value gives_key gives_value order same es ps = PairsFit ps → (b : Bool) → EntriesBack key value gives_key gives_value order same (flags_in b) es (pair_forms ps)

-- entries that exist
entries_kept : {K V : Type 0} {key_exists : K → Type 0} {value_exists : V → Type 0} {key_script : ScriptOf K} {value_script : ScriptOf V} {key value : Refusal} {gives_key : Gives K} {gives_value : Gives V}
    {order : K → K → Ordering} {eq_key : K → K → Bool} {eq_value : V → V → Bool} → IsTotalOrder order → ((x y : K) → eq_key x y ≡ is_eq (order x y))
    → FormComesBack key_exists key_script key gives_key eq_key → FormComesBack value_exists value_script value gives_value eq_value
    → (es : List (K × V)) → IsStrictlySortedBy order (keys_of es) → AllByRecursion (λ e. key_exists e.0 × value_exists e.1) es
    → Spelled (EntriesSuch (PairsBack key value gives_key gives_value order (same_entry eq_key eq_value) es)) (entries_script key_script value_script es false)
entries_kept {key} {value} {gives_key} {gives_value} {order} {eq_key} {eq_value} total ties keys values [] ascend each =
    entries_end (PairsBack key value gives_key gives_value order (same_entry eq_key eq_value) []) (λ fits b. no_entries)
entries_kept {key} {value} {gives_key} {gives_value} {order} {eq_key} {eq_value} total ties keys values (e ∷ es) ascend each =
    entries_more
    (FormGives key gives_key (λ y. eq_key e.0 y ≡ true))
    (FormGives value gives_value (λ y. eq_value e.1 y ≡ true))
    (PairsBack key value gives_key gives_value order (same_entry eq_key eq_value) es)
    (PairsBack key value gives_key gives_value order (same_entry eq_key eq_value) (e ∷ es))
    (λ k t ps one two others fits b. entry_first {key = key} {value = value} {gives_key = gives_key} {gives_value = gives_value} {order = order} {f = flags_in b} eq_key eq_value total ties e es
    (first_below order e.0 (keys_of es) ascend) (form k) (form t) (pair_forms ps) (one fits.0 b) (two fits.1 b) (others fits.2 b))
    (keys.of_value e.0 each.0.0) (values.of_value e.1 each.0.1) (entries_kept total ties keys values es (others_ascend order e.0 (keys_of es) ascend) each.1)

-- a map
pub map_kept : {K V : Type 0} {key_exists : K → Type 0} {value_exists : V → Type 0} {key_script : ScriptOf K} {value_script : ScriptOf V} {key value : Refusal} {gives_key : Gives K} {gives_value : Gives V}
    {order : K → K → Ordering} {eq_key : K → K → Bool} {eq_value : V → V → Bool} → IsTotalOrder order → ((x y : K) → eq_key x y ≡ is_eq (order x y))
    → FormComesBack key_exists key_script key gives_key eq_key → FormComesBack value_exists value_script value gives_value eq_value
    → FormComesBack (EntriesExist key_exists value_exists order) (map_script key_script value_script) (λ s. refusal_then (map_at s) (map_refusal key value))
    (λ s es. IsTaken (map_at s) (λ l. MapGives gives_key gives_value order l [] es)) (pointwise (λ p q. eq_key p.0 q.0 && eq_value p.1 q.1))
map_kept {eq_key} {eq_value} total ties keys values = record {
  of_value = λ es real. such_spelled (spelled_call (λ calls rest e. (
    tree.map (pairs e.0),
    spells_map e.1,
    λ fits b. record {
      free = (e.3 fits.1 b).free;
      only = λ new h.
          let back = (e.3 fits.1 b).only [] new tt h in
          subst (λ ys. pointwise (same_entry eq_key eq_value) es ys ≡ true) (sym back.1) back.2;
    },
  )) (entries_kept total ties keys values es real.ascend real.each));
}

-- a map isn't read of null
pub map_not_null : (key value : Refusal) → RefusesNull (λ s. refusal_then (map_at s) (map_refusal key value))
map_not_null key value = record { of_null = λ b e. absurd (cc e) }
