-- The scripts of a type of your own are lawful where those of what it holds are.
use Rattle.std.specs.Prelude.{ℕ, List, ◌∷◌, refl}
use Rattle.content_tree.specs.Values.Tree as tree
use Rattle.content_ser.specs.Calls.Event as event
use Rattle.content_ser.specs.Calls.Event.{Event}
use Rattle.content_ser.specs.Grammar.Token as token
use Rattle.content_ser.specs.Grammar.Spells.{spells_wrap, spells_series, spells_record, elements_end}
use Rattle.content_ser.specs.Grammar.Spells.{elements_more, fields_end, fields_more}
use Rattle.content_ser.specs.Scripts.Script.{Script, done, call_then, and_then, IsLawful}
use Rattle.content_ser.specs.Laws.Fits.{ATree, ASeries, AFields, Fits, fits_only, fits_call, fits_then}
use Rattle.content_ser.specs.Laws.Fits.{lawful_from_fits, fits_from_lawful}
use Rattle.content_ser.specs.Laws.StandardScripts.{leaf_lawful}

-- a struct that holds nothing
pub unit_struct_lawful : {n : List ℕ} → IsLawful (call_then (event.unit_struct n) done)
unit_struct_lawful = leaf_lawful refl

-- a variant that holds nothing
pub unit_variant_lawful : {n : List ℕ} {i : ℕ} {v : List ℕ} → IsLawful (call_then (event.unit_variant n i v) done)
unit_variant_lawful = leaf_lawful refl

-- a struct around one value
pub newtype_struct_lawful : {n : List ℕ} {a : Script} → IsLawful a → IsLawful (call_then (event.newtype_struct n) a)
newtype_struct_lawful p = lawful_from_fits (fits_call {Q = ATree} (λ calls rest s. (_, spells_wrap s.1)) (fits_from_lawful p))

-- a variant around one value
pub newtype_variant_lawful : {n : List ℕ} {i : ℕ} {v : List ℕ} {a : Script} → IsLawful a → IsLawful (call_then (event.newtype_variant n i v) a)
newtype_variant_lawful p = lawful_from_fits (fits_call {Q = ATree} (λ calls rest s. (_, spells_wrap s.1)) (fits_from_lawful p))

-- the end of values by place
pub tuple_end_fits : Fits (ASeries token.tuple_field) (call_then event.end done)
tuple_end_fits = fits_only (λ rest. (tree.no_trees, elements_end))

-- a value by place, and then the others
pub tuple_field_fits : {a b : Script} → IsLawful a → Fits (ASeries token.tuple_field) b → Fits (ASeries token.tuple_field) (call_then event.tuple_field (and_then a b))
tuple_field_fits p q = fits_call {Q = λ calls rest. ASeries token.tuple_field (token.item token.tuple_field ∷ calls) rest} (λ calls rest s. s)
    (fits_then (λ calls mid rest s e. (tree.tree_then s.0 e.0, elements_more s.1 e.1)) (fits_from_lawful p) q)

-- a struct of these values by place, whatever length it tells
pub tuple_struct_lawful : {n : List ℕ} {len : ℕ} {b : Script} → Fits (ASeries token.tuple_field) b → IsLawful (call_then (event.tuple_struct n len) b)
tuple_struct_lawful p = lawful_from_fits (fits_call {Q = ASeries token.tuple_field} (λ calls rest e. (_, spells_series e.1)) p)

-- a variant of these values by place, whatever length it tells
pub tuple_variant_lawful : {n : List ℕ} {i : ℕ} {v : List ℕ} {len : ℕ} {b : Script} → Fits (ASeries token.tuple_field) b → IsLawful (call_then (event.tuple_variant n i v len) b)
tuple_variant_lawful p = lawful_from_fits (fits_call {Q = ASeries token.tuple_field} (λ calls rest e. (_, spells_series e.1)) p)

-- the end of fields
pub struct_end_fits : Fits AFields (call_then event.end done)
struct_end_fits = fits_only (λ rest. (tree.no_fields, fields_end))

-- a field, and then the others
pub field_fits : {k : List ℕ} {a b : Script} → IsLawful a → Fits AFields b → Fits AFields (call_then (event.field k) (and_then a b))
field_fits {k} p q = fits_call {Q = λ calls rest. AFields (token.field k ∷ calls) rest} (λ calls rest s. s)
    (fits_then (λ calls mid rest s e. (_, fields_more s.1 e.1)) (fits_from_lawful p) q)

-- a struct of these fields, whatever length it tells
pub struct_lawful : {n : List ℕ} {len : ℕ} {b : Script} → Fits AFields b → IsLawful (call_then (event.structure n len) b)
struct_lawful p = lawful_from_fits (fits_call {Q = AFields} (λ calls rest e. (_, spells_record e.1)) p)

-- a variant of these fields, whatever length it tells
pub struct_variant_lawful : {n : List ℕ} {i : ℕ} {v : List ℕ} {len : ℕ} {b : Script} → Fits AFields b → IsLawful (call_then (event.struct_variant n i v len) b)
struct_variant_lawful p = lawful_from_fits (fits_call {Q = AFields} (λ calls rest e. (_, spells_record e.1)) p)
