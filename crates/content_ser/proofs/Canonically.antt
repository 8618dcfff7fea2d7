-- The script of a tree spells its canonical form, or stops where there is none.
use Rattle.std.proofs.Common.{◌≡◌, List, ℕ, Option, Some, None, IsSome, refl, sym, ap, subst, ◌∙◌}
use Rattle.std.proofs.Common.{inl, inr}
use Rattle.std.specs.Prelude.{◌⊎◌}
use Rattle.content_tree.specs.Values.Tree.{Tree, owned}
use Rattle.content_ser.specs.Sending.Canonical.{IsCanonical, CanonicalSpelled, CanonicalOrStops}
use Rattle.content_ser.specs.Scripts.Script.{calls_of, stop_of}
use Rattle.content_ser.specs.Sending.Loose.{loose}
use Rattle.content_ser.specs.Grammar.Spells.{SpellsWhole}
use Rattle.content_ser.specs.Sending.StaticNames.{HasStaticKeys}
use Rattle.content_ser.specs.Sending.TreeScript.{script_of}
use Rattle.content_ser.proofs.Naming.{loose_names, keys_static, stop_free, built_owned}
use Rattle.content_ser.proofs.Spelling.{script_spells}

pub canonical_spelled : CanonicalSpelled
canonical_spelled t c readable (is, keys) =
    let there = subst HasStaticKeys is keys in
    let free = stop_free (loose t) there in
    let same = built_owned (loose t) (loose_names t) there ∙ ap owned (sym is) in
    (free, subst (SpellsWhole (calls_of (script_of (loose t)))) same (script_spells (loose t) free))

pub canonical_or_stops : CanonicalOrStops
canonical_or_stops t readable = by_stop (stop_of (script_of (loose t))) refl
  where
    by_stop : (stop : Option (List ℕ)) → stop_of (script_of (loose t)) ≡ stop
        → ((c : Tree) × IsCanonical t c) ⊎ (((c : Tree) → ¬ IsCanonical t c) × IsSome (stop_of (script_of (loose t))))
    by_stop None e = inl (loose t, (refl, keys_static (loose t) e))
    by_stop (Some text) e = inr (λ c is. (let x : Some text ≡ None = sym e ∙ (canonical_spelled t c readable is).0 in absurd (cc x)), subst IsSome (sym e) refl)
