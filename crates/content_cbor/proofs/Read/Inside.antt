-- What stands behind the head of an array or a map.
use Rattle.std.proofs.Common.{◌≡◌, ℕ, suc, zero, ◌-◌, ◌<◌, List, Ok, refl, sym, ap, ◌∙◌, arith}
use Rattle.content_tree.specs.Values.Tree as tree
use Rattle.content_tree.specs.Values.Tree.{Tree}
use Rattle.content_tree.specs.Values.Value.{trees_of, pairs_of}
use Rattle.content_cbor.specs.declared.heads.Head.{Head}
use Rattle.content_cbor.specs.declared.heads.Major.TheVariants as major
use Rattle.content_cbor.specs.declared.stop.Stop.{Stop}
use Rattle.content_cbor.specs.declared.stop.Stop.TheVariants as stop
use Rattle.content_cbor.specs.Inner.Steps.{Fails}
use Rattle.content_cbor.specs.Inner.Reading.{head_at, inside_at, item_at, pair_at, parts_at}

one_less : (n : ℕ) → suc n - 1 ≡ n
one_less n = omega arith

step : (limit : ℕ) (bs rest : List ℕ) (h : Head) → head_at limit bs ≡ Ok (h, rest) → item_at (suc limit) bs ≡ inside_at (item_at limit) h.«major» h.number rest
unfolding item_at
step limit bs rest h is = rw is refl

pub behind_head : (limit : ℕ) (bs rest : List ℕ) (h : Head) → 0 < limit → head_at (limit - 1) bs ≡ Ok (h, rest)
    → item_at limit bs ≡ inside_at (item_at (limit - 1)) h.«major» h.number rest
behind_head zero bs rest h lt is = absurd (omega (arith, lt))
behind_head (suc limit) bs rest h lt is = rw one_less (step limit bs rest h (ap (λ k. head_at k bs) (sym (one_less limit)) ∙ is))

pub array_read : (limit : ℕ) (bs rest after : List ℕ) (h : Head) (ts : List Tree) → 0 < limit → head_at (limit - 1) bs ≡ Ok (h, rest) → h.«major» ≡ major.Array
    → parts_at (item_at (limit - 1)) h.number rest ≡ Ok (ts, after) → item_at limit bs ≡ Ok (tree.seq (trees_of ts), after)
array_read limit bs rest after h ts lt is array parts = behind_head limit bs rest h lt is ∙ rw (array, parts) refl

pub map_read : (limit : ℕ) (bs rest after : List ℕ) (h : Head) (ps : List (Tree × Tree)) → 0 < limit → head_at (limit - 1) bs ≡ Ok (h, rest) → h.«major» ≡ major.Map
    → parts_at (pair_at (item_at (limit - 1))) h.number rest ≡ Ok (ps, after) → item_at limit bs ≡ Ok (tree.map (pairs_of ps), after)
map_read limit bs rest after h ps lt is map parts = behind_head limit bs rest h lt is ∙ rw (map, parts) refl

pub array_stops : (limit : ℕ) (bs rest : List ℕ) (h : Head) (e : Stop) → 0 < limit → head_at (limit - 1) bs ≡ Ok (h, rest) → h.«major» ≡ major.Array
    → Fails e (parts_at (item_at (limit - 1)) h.number rest) → Fails e (item_at limit bs)
array_stops limit bs rest h stop.OutOfMemory lt is array parts = tt
array_stops limit bs rest h (stop.Refused r) lt is array parts = behind_head limit bs rest h lt is ∙ rw (array, parts) refl

pub map_stops : (limit : ℕ) (bs rest : List ℕ) (h : Head) (e : Stop) → 0 < limit → head_at (limit - 1) bs ≡ Ok (h, rest) → h.«major» ≡ major.Map
    → Fails e (parts_at (pair_at (item_at (limit - 1))) h.number rest) → Fails e (item_at limit bs)
map_stops limit bs rest h stop.OutOfMemory lt is map parts = tt
map_stops limit bs rest h (stop.Refused r) lt is map parts = behind_head limit bs rest h lt is ∙ rw (map, parts) refl
