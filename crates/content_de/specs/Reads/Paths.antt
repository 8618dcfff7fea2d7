-- Where a refused part is, as the path of its error says.
use Rattle.std.specs.Prelude.{ℕ, ◌⊎◌, List, [], Option, Some, None, MatchOption, option_and_then, ◌≡◌, ◌≢◌, encode_utf8}
use Rattle.std.specs.Fmt.{signed_decimal}
use Rattle.content_tree.specs.Errors.Where.{Place, item, under, places, IsInside}
use Rattle.content_tree.specs.Errors.Cause.{out_of_memory}
use Rattle.content_tree.specs.Values.Pointers.{item_of}
use Rattle.content_tree.specs.Values.Ranges.{number_value}
use Rattle.content_tree.specs.Values.Tree.{Tree, text, number, character}
use Rattle.content_tree.specs.declared.error.Error.{Error}
use Rattle.content_de.specs.Sources.Origin.{Origin, of_tree, of_identifier, Subject, tree_under}
use Rattle.content_de.specs.Outcomes.{cause}
use Rattle.content_de.specs.Accesses.Seq.{SeqLeft}
use Rattle.content_de.specs.Reads.Read.{Refusal}

-- the path begins with this place, unless memory ran out
abbrev pub BeginsWith : Place → Error → Type 0
BeginsWith place e = (inner : Option (List Place)) × IsInside place inner (places e)

-- the path is that of the whole
abbrev pub IsWhole : Error → Type 0
IsWhole e = places e ≡ Some []

-- the path begins with the place of what was found; where nothing was, it is that of the whole
abbrev pub IsFoundAt : Place → Option Subject → Error → Type 0
IsFoundAt place found e = MatchOption found (IsWhole e) (λ s. BeginsWith place e)

-- the item of this index is refused so
abbrev pub IsRefusedItem : Refusal → SeqLeft → ℕ → Error → Type 0
IsRefusedItem refusal left n e = cause e ≢ out_of_memory → option_and_then (λ t. refusal (tree_under left.flags t)) (item_of n left.items) ≡ Some (cause e)

-- an item is refused so, and the path begins with its index; or memory ran out before the first
abbrev pub IsItemRefusal : Refusal → SeqLeft → Error → Type 0
IsItemRefusal refusal left e = IsWhole e ⊎ ((n : ℕ) × BeginsWith (item n) e × IsRefusedItem refusal left n e)

-- a key by which a path leads to a value
abbrev pub tree_name : Tree → Option (List ℕ)
tree_name (text t) = Some t.content
tree_name (character c) = Some (encode_utf8 c)
tree_name (number n) = Some (signed_decimal (number_value n))
tree_name t = None

-- the name by which a path leads to the value of this key
abbrev pub key_name : Origin → Option (List ℕ)
key_name (of_tree t) = tree_name t
key_name (of_identifier n i) = Some n.content

-- the path now leads through this key, unless memory ran out; through other keys no path leads
abbrev pub IsUnderKey : Origin → Option (List Place) → Option (List Place) → Type 0
IsUnderKey key before after = MatchOption (key_name key) (after ≡ Some []) (λ name. IsInside (under name) before after)

-- the path leads through this key; or the key is refused so, or no memory was left for it, and the path is that of the whole
abbrev pub IsAtEntry : Refusal → Subject → Option (List Place) → Error → Type 0
IsAtEntry refusal key inner e = IsUnderKey key.origin inner (places e)
    ⊎ (IsWhole e × (cause e ≢ out_of_memory → refusal key ≡ Some (cause e)))
