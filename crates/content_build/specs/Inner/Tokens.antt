-- What the builder's private words for calls mean.
use Rattle.content_tree.specs.Values.Text.{owned_text}
use Rattle.content_tree.specs.Values.Tree as tree
use Rattle.content_tree.specs.Values.Tree.{Tree}
use Rattle.content_ser.specs.Calls.Head.{head_of, headed}
use Rattle.content_ser.specs.Grammar.Token as token
use Rattle.content_build.specs.declared.token.LeafCall.{LeafCall}
use Rattle.content_build.specs.declared.token.LeafCall.TheVariants as leaf
use Rattle.content_build.specs.declared.token.ItemCall.{ItemCall}
use Rattle.content_build.specs.declared.token.ItemCall.TheVariants as item
use Rattle.content_build.specs.declared.token.Token.{Token}
use Rattle.content_build.specs.declared.token.Token.TheVariants as call
use Rattle.content_build.specs.declared.parts.Wrap.{Wrap}
use Rattle.content_build.specs.declared.parts.Wrap.TheVariants as wrap
use Rattle.content_build.specs.declared.parts.Series.{Series}
use Rattle.content_build.specs.declared.parts.Series.TheVariants as series

-- the tree of a call whose tree is whole
abbrev pub leaf_tree : LeafCall → Tree
leaf_tree leaf.Unit = tree.unit
leaf_tree (leaf.Bool b) = tree.boolean b
leaf_tree (leaf.Number n) = tree.number n
leaf_tree (leaf.Char c) = tree.character c
leaf_tree (leaf.Text t) = tree.text (owned_text t.now)
leaf_tree (leaf.Bytes t) = tree.octets (owned_text t.now)
leaf_tree leaf.Absent = tree.absent
leaf_tree (leaf.Head h) = headed (head_of h) tree.no_data

-- what holds one child
abbrev pub wrap_view : Wrap → token.Wrap
wrap_view wrap.Present = token.in_some
wrap_view (wrap.Head h) = token.in_head (head_of h)

-- what holds items by place
abbrev pub series_view : Series → token.Series
series_view series.Seq = token.series_seq
series_view series.Tuple = token.series_tuple
series_view (series.Head h) = token.series_head (head_of h)

-- a call that announces an item
abbrev pub item_call_view : ItemCall → token.Token
item_call_view item.Element = token.item token.element
item_call_view item.TupleField = token.item token.tuple_field
item_call_view (item.Field k) = token.field k.now
item_call_view item.Key = token.key
item_call_view item.Value = token.value
item_call_view item.Entry = token.entry

-- what a call is in a list
abbrev pub token_view : Token → token.Token
token_view (call.Leaf l) = token.leaf (leaf_tree l)
token_view (call.Wrap w) = token.wrap (wrap_view w)
token_view (call.Series r) = token.open_series (series_view r)
token_view call.Map = token.open_map
token_view (call.Record h) = token.open_record (head_of h)
token_view (call.Item i) = item_call_view i
token_view call.End = token.finish
