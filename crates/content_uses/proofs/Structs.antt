-- Structs put over one another.
use Rattle.std.proofs.Common.{◌≡◌, true, false, List, [], ◌∷◌, Vec, Global, refl, ap, sym, ◌∙◌}
use Rattle.content_tree.proofs.Views.{struct_tree-is, tree_data_of-Struct}
use Rattle.content_tree.specs.Values.Value.{struct_tree}
use Rattle.content_tree.specs.declared.cow.CowStr.{CowStr}
use Rattle.content_tree.specs.declared.value.NamedData as held
use Rattle.content_tree.specs.declared.value.NamedStruct.{NamedStruct, out-NamedStruct}
use Rattle.serde_content.specs.Names.Words.{Tree, Text, NamedValue, fields_view, tree_of, text_of}
use Rattle.serde_content.specs.Names.Tree as tree
use Rattle.serde_content.specs.Names.Tree.{Pairs, pair_then, TreeData}
use Rattle.content_uses.specs.Merged.{as_pairs, as_fields, parts, with_parts, same_sort, merged}
use Rattle.content_uses.specs.Merged.{merged_pairs}
use Rattle.content_uses.specs.Places.{keyed, field_key}
use Rattle.content_uses.proofs.Parts.{fields_back, merged_one, sort_turned}

-- fields as pairs
pub keyed_fields : (xs : List (CowStr × NamedValue)) → keyed field_key xs ≡ as_pairs (fields_view xs)
keyed_fields [] = refl
keyed_fields (x ∷ xs) = ap (pair_then (tree.text (text_of x.0)) (tree_of x.1)) (keyed_fields xs)

-- the fields of a struct are its parts
pub fields_in : (s : NamedStruct) (fields : Vec (CowStr × NamedValue) Global)
    → (out-NamedStruct s).«data» ≡ held.Struct fields
    → keyed field_key fields.items ≡ parts (struct_tree s)
fields_in s fields e =
    keyed_fields fields.items ∙ rw (struct_tree-is s, e, tree_data_of-Struct fields) refl

-- a struct that something is put over has fields
with_struct : (u : Tree) (ps : Pairs) (m : Text) (d : TreeData)
    → same_sort u (tree.structure m d) ≡ true
    → with_parts ps (tree.structure m d) ≡ tree.structure m (tree.named (as_fields ps))
with_struct u ps m (tree.named gs) e = refl
with_struct u ps m tree.no_data e =
    let no : false ≡ true = sym (sort_turned u (tree.structure m tree.no_data)) ∙ e in absurd (cc no)
with_struct u ps m (tree.one t) e =
    let no : false ≡ true = sym (sort_turned u (tree.structure m (tree.one t))) ∙ e in
    absurd (cc no)
with_struct u ps m (tree.many ts) e =
    let no : false ≡ true = sym (sort_turned u (tree.structure m (tree.many ts))) ∙ e in
    absurd (cc no)

-- a struct with the base's name and these fields
pub structs_merged : (u t w : Tree) (m : Text) (d : TreeData)
    (fs gs hs : List (CowStr × NamedValue)) → same_sort u t ≡ true → t ≡ tree.structure m d
    → keyed field_key fs ≡ parts u → keyed field_key gs ≡ parts t
    → keyed field_key hs ≡ merged_pairs (keyed field_key fs) (keyed field_key gs)
    → w ≡ tree.structure m (tree.named (fields_view hs)) → w ≡ merged u t
structs_merged u t w m d fs gs hs e whole over base both is =
    let ps : Pairs = merged_pairs (parts u) (parts t) in
    let named : as_pairs (fields_view hs) ≡ ps
    = sym (keyed_fields hs) ∙ both ∙ ap (λ qs. merged_pairs qs (keyed field_key gs)) over
    ∙ ap (merged_pairs (parts u)) base in
    let same : fields_view hs ≡ as_fields ps = sym (fields_back (fields_view hs)) ∙ ap as_fields named in
    is ∙ ap (λ f. tree.structure m (tree.named f)) same
    ∙ sym (with_struct u ps m d (ap (same_sort u) (sym whole) ∙ e))
    ∙ sym (ap (with_parts ps) whole) ∙ sym (merged_one u t e)
