-- Tokens: what each call is in a list, with no hint and no length.
use Rattle.std.specs.Prelude.{ℕ, List, map}
use Rattle.content_tree.specs.Values.Text.{owned_text}
use Rattle.content_tree.specs.Values.Tree as tree
use Rattle.content_tree.specs.Values.Tree.{Tree, Trees, Fields}
use Rattle.content_ser.specs.Calls.Event as event
use Rattle.content_ser.specs.Calls.Event.{Event}
use Rattle.content_ser.specs.Calls.Head.{Head, of_struct, of_variant, headed}

-- what holds one child
pub data Wrap : Type 0 where
  in_some : Wrap
  in_head : Head → Wrap

-- the tree around a child
abbrev pub wrapped : Wrap → Tree → Tree
wrapped in_some t = tree.present t
wrapped (in_head h) t = headed h (tree.one t)

-- what holds items by place
pub data Series : Type 0 where
  series_seq : Series
  series_tuple : Series
  series_head : Head → Series

-- by which call an item is announced
pub data ItemCall : Type 0 where
  element : ItemCall
  tuple_field : ItemCall

-- by which call the items of a series are announced
abbrev pub item_call : Series → ItemCall
item_call series_seq = element
item_call series_tuple = element
item_call (series_head h) = tuple_field

-- the tree of a series with these items
abbrev pub series_tree : Series → Trees → Tree
series_tree series_seq ts = tree.seq ts
series_tree series_tuple ts = tree.tuple ts
series_tree (series_head h) ts = headed h (tree.many ts)

-- the tree of a head that holds these fields
abbrev pub record_tree : Head → Fields → Tree
record_tree h fs = headed h (tree.named fs)

-- what a call is in a list
pub data Token : Type 0 where
  leaf : Tree → Token
  wrap : Wrap → Token
  open_series : Series → Token
  open_map : Token
  open_record : Head → Token
  item : ItemCall → Token
  field : List ℕ → Token
  key : Token
  value : Token
  entry : Token
  finish : Token

-- the token of each call; names are static, texts and bytes owned
abbrev pub token_of : Event → Token
token_of (event.boolean b) = leaf (tree.boolean b)
token_of (event.number n) = leaf (tree.number n)
token_of (event.character c) = leaf (tree.character c)
token_of (event.text t) = leaf (tree.text (owned_text t))
token_of (event.octets t) = leaf (tree.octets (owned_text t))
token_of event.unit = leaf tree.unit
token_of event.none = leaf tree.absent
token_of event.some = wrap in_some
token_of (event.unit_struct n) = leaf (headed (of_struct n) tree.no_data)
token_of (event.unit_variant n i v) = leaf (headed (of_variant n i v) tree.no_data)
token_of (event.newtype_struct n) = wrap (in_head (of_struct n))
token_of (event.newtype_variant n i v) = wrap (in_head (of_variant n i v))
token_of (event.seq hint) = open_series series_seq
token_of (event.tuple len) = open_series series_tuple
token_of (event.tuple_struct n len) = open_series (series_head (of_struct n))
token_of (event.tuple_variant n i v len) = open_series (series_head (of_variant n i v))
token_of (event.map hint) = open_map
token_of (event.structure n len) = open_record (of_struct n)
token_of (event.struct_variant n i v len) = open_record (of_variant n i v)
token_of event.element = item element
token_of event.tuple_field = item tuple_field
token_of (event.field k) = field k
token_of event.key = key
token_of event.value = value
token_of event.entry = entry
token_of event.end = finish

-- the tokens of calls
abbrev pub tokens : List Event → List Token
tokens calls = map token_of calls
