-- Laws of plain forms.
use Rattle.std.proofs.Common.{◌≡◌, ℕ, suc, map, refl, ap}
use Rattle.content_tree.specs.Values.Text.{Text}
use Rattle.content_tree.specs.Values.Tree as tree
use Rattle.content_tree.specs.Values.Tree.{Tree, TreeData, Trees, Pairs, Fields}
use Rattle.content_de.specs.Outcomes.{taken}
use Rattle.content_de.specs.Requests.Compounds.{entries_of_pairs, entries_of_fields}
use Rattle.content_de.specs.Accesses.Map.{entries_under}
use Rattle.content_de.specs.Plain.{under_name, variant_form, plain, plain_data, plain_each}
use Rattle.content_de.specs.Plain.{plain_pairs, plain_fields}
use Rattle.content_de.specs.Laws.{PlainVariant, plain_entry}

-- a variant of what is plain is plain
variant_twice : (n : Text) (d : TreeData) (t : Tree) → plain t ≡ t → plain (variant_form n d t) ≡ variant_form n d t
variant_twice n tree.no_data t e = refl
variant_twice n (tree.one u) t e = ap (under_name n) e
variant_twice n (tree.many us) t e = ap (under_name n) e
variant_twice n (tree.named us) t e = ap (under_name n) e

mutual
  pub twice : (t : Tree) → plain (plain t) ≡ plain t
  twice tree.unit = refl
  twice (tree.boolean b) = refl
  twice (tree.number n) = refl
  twice (tree.character c) = refl
  twice (tree.text t) = refl
  twice (tree.octets t) = refl
  twice (tree.seq ts) = ap tree.seq (twice_each ts)
  twice (tree.map ps) = ap tree.map (twice_pairs ps)
  twice tree.absent = refl
  twice (tree.present t) = ap tree.present (twice t)
  twice (tree.structure n d) = twice_data d
  twice (tree.enumeration n i v d) = variant_twice v d (plain_data d) (twice_data d)
  twice (tree.tuple ts) = ap tree.seq (twice_each ts)

  twice_data : (d : TreeData) → plain (plain_data d) ≡ plain_data d
  twice_data tree.no_data = refl
  twice_data (tree.one t) = twice t
  twice_data (tree.many ts) = ap tree.seq (twice_each ts)
  twice_data (tree.named fs) = ap tree.map (twice_fields fs)

  twice_each : (ts : Trees) → plain_each (plain_each ts) ≡ plain_each ts
  twice_each tree.no_trees = refl
  twice_each (tree.tree_then t ts) = rw (twice t, twice_each ts)

  twice_pairs : (ps : Pairs) → plain_pairs (plain_pairs ps) ≡ plain_pairs ps
  twice_pairs tree.no_pairs = refl
  twice_pairs (tree.pair_then k t ps) = rw (twice k, twice t, twice_pairs ps)

  twice_fields : (fs : Fields) → plain_pairs (plain_fields fs) ≡ plain_fields fs
  twice_fields tree.no_fields = refl
  twice_fields (tree.field_then k t fs) = rw (twice t, twice_fields fs)

-- the entries of fields made plain are the entries of the fields, made plain
entries_plain : (place : ℕ) (fs : Fields) → entries_of_pairs (plain_fields fs) ≡ map plain_entry (entries_of_fields place fs)
entries_plain place tree.no_fields = refl
entries_plain place (tree.field_then k t fs) = rw (entries_plain (suc place) fs)

pub variant_stays : PlainVariant
variant_stays requested f n i v tree.no_data = (refl, refl)
variant_stays requested f n i v (tree.one t) = (refl, refl)
variant_stays requested f n i v (tree.many ts) = (refl, refl)
variant_stays requested f n i v (tree.named fs) = (refl, ap (λ es. taken (entries_under f es)) (entries_plain 0 fs))
