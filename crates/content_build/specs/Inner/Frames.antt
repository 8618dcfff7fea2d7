-- The cells and openings that a tape in memory represents.
use Rattle.std.specs.Prelude.{List, map, reverse, string_bytes}
use Rattle.content_tree.specs.Values.Text.{owned_text, static_name}
use Rattle.content_tree.specs.declared.number.Number.TheVariants as num
use Rattle.content_ser.specs.Grammar.Token.{element, tuple_field}
use Rattle.content_build.specs.Inner.Cells as cells
use Rattle.content_build.specs.Inner.Cells.{Cell, cell, Open, opened, Wait}
use Rattle.content_build.specs.declared.frame.Leaf.{Leaf}
use Rattle.content_build.specs.declared.frame.Leaf.TheVariants as leaf
use Rattle.content_build.specs.declared.frame.Sort.{Sort}
use Rattle.content_build.specs.declared.frame.Sort.TheVariants as sort
use Rattle.content_build.specs.declared.frame.Label.{Label}
use Rattle.content_build.specs.declared.frame.Label.TheVariants as label
use Rattle.content_build.specs.declared.frame.Frame.{Frame}
use Rattle.content_build.specs.declared.frame.Waits.{Waits}
use Rattle.content_build.specs.declared.frame.Waits.TheVariants as waits
use Rattle.content_build.specs.declared.frame.Opening.{Opening}

-- a leaf
abbrev pub leaf_view : Leaf → cells.Leaf
leaf_view leaf.Unit = cells.unit
leaf_view leaf.Absent = cells.absent
leaf_view (leaf.Bool b) = cells.boolean b
leaf_view (leaf.Char c) = cells.character c
leaf_view (leaf.I8 v) = cells.number (num.I8 v)
leaf_view (leaf.U8 v) = cells.number (num.U8 v)
leaf_view (leaf.I16 v) = cells.number (num.I16 v)
leaf_view (leaf.U16 v) = cells.number (num.U16 v)
leaf_view (leaf.I32 v) = cells.number (num.I32 v)
leaf_view (leaf.U32 v) = cells.number (num.U32 v)
leaf_view (leaf.I64 v) = cells.number (num.I64 v)
leaf_view (leaf.U64 v) = cells.number (num.U64 v)
leaf_view (leaf.Wide v) = cells.number v.value
leaf_view (leaf.Text t) = cells.text (owned_text (string_bytes t))
leaf_view (leaf.Bytes t) = cells.octets (owned_text t.items)

-- what a struct or a variant holds
abbrev pub sort_view : Sort → cells.Sort
sort_view sort.Nothing = cells.nothing
sort_view sort.One = cells.one
sort_view sort.Many = cells.many
sort_view sort.Fields = cells.fields

-- a label
abbrev pub label_view : Label → cells.Label
label_view (label.Leaf l) = cells.leaf (leaf_view l)
label_view label.Present = cells.present
label_view label.Seq = cells.seq
label_view label.Tuple = cells.tuple
label_view label.Map = cells.map
label_view (label.Struct s n) = cells.headed (sort_view s) (cells.of_struct (static_name n.now))
label_view (label.Variant s i n v) = cells.headed (sort_view s) (cells.of_variant (static_name n.now) i (static_name v.now))
label_view (label.Key k) = cells.key (static_name k.now)

-- a frame
abbrev pub frame_view : Frame → Cell
frame_view e = cell (label_view e.label) e.size

-- what an opening waits for
abbrev pub wait_view : Waits → Wait
wait_view waits.Child = cells.child
wait_view waits.Element = cells.item element
wait_view waits.TupleField = cells.item tuple_field
wait_view waits.Key = cells.a_key
wait_view waits.Value = cells.a_value
wait_view waits.EntryKey = cells.entry_key
wait_view waits.EntryValue = cells.entry_value
wait_view waits.Field = cells.field
wait_view waits.InElements = cells.in_series element
wait_view waits.InTupleFields = cells.in_series tuple_field
wait_view waits.InMap = cells.in_map
wait_view waits.InRecord = cells.in_record

-- an opening
abbrev pub open_view : Opening → Open
open_view h = opened h.at h.last (wait_view h.waits)

-- the cells of frames
abbrev pub cells_of : List Frame → List Cell
cells_of es = map frame_view es

-- openings, from the innermost to the outermost: the last first
abbrev pub opens_view : List Opening → List Open
opens_view hs = map open_view (reverse hs)
