-- The script of a tree: the calls that spell it, up to the first field with an owned key.
use Rattle.std.specs.Prelude.{ℕ, suc, Bool, List, ◌++◌, codes, Some, if◌then◌else◌}
use Rattle.content_tree.specs.Values.Text.{Text}
use Rattle.content_tree.specs.Values.Tree as tree
use Rattle.content_tree.specs.Values.Tree.{Tree, TreeData, Trees, Pairs, Fields, count}
use Rattle.content_tree.specs.Printed.Images.{quoted}
use Rattle.content_ser.specs.Calls.Event as event
use Rattle.content_ser.specs.Calls.Event.{Event}
use Rattle.content_ser.specs.Calls.Head.{Head, of_struct, of_variant}
use Rattle.content_ser.specs.Scripts.Script.{Script, done, stop_with, call_then, and_then}
use Rattle.content_ser.specs.Sending.Loose.{loose}

-- the text with which sending stops at a field with an owned key
abbrev pub owned_key_text : List ℕ → List ℕ
owned_key_text k = codes "failed to deserialize; expected a static string slice, found " ++ quoted k

-- a field's key: a call, or a stop where it is owned
abbrev pub key_script : Text → Script
key_script k =
    if k.borrowed then call_then (event.field k.content) done else stop_with (owned_key_text k.content)

-- the calls that open a map of one entry, up to its text key
abbrev pub single_head : Text → Script
single_head k =
    call_then (event.map (Some 1)) (call_then event.entry (call_then (event.text k.content) done))

-- its call where nothing is held
abbrev pub unit_call : Head → Event
unit_call (of_struct n) = event.unit_struct n
unit_call (of_variant n i v) = event.unit_variant n i v

-- its call before one value
abbrev pub newtype_call : Head → Event
newtype_call (of_struct n) = event.newtype_struct n
newtype_call (of_variant n i v) = event.newtype_variant n i v

-- its call before this many values by place
abbrev pub tuple_call : Head → ℕ → Event
tuple_call (of_struct n) len = event.tuple_struct n len
tuple_call (of_variant n i v) len = event.tuple_variant n i v len

-- its call before this many values by key
abbrev pub struct_call : Head → ℕ → Event
struct_call (of_struct n) len = event.structure n len
struct_call (of_variant n i v) len = event.struct_variant n i v len

-- how many pairs there are
abbrev pub count_pairs : Pairs → ℕ
count_pairs tree.no_pairs = 0
count_pairs (tree.pair_then k t ps) = suc (count_pairs ps)

-- how many fields there are
abbrev pub count_fields : Fields → ℕ
count_fields tree.no_fields = 0
count_fields (tree.field_then k t fs) = suc (count_fields fs)

abbrev mutual
  -- the calls that spell a tree: true lengths, one entry a pair, names taken as static
  pub script_of : Tree → Script
  script_of tree.unit = call_then event.unit done
  script_of (tree.boolean b) = call_then (event.boolean b) done
  script_of (tree.number n) = call_then (event.number n) done
  script_of (tree.character c) = call_then (event.character c) done
  script_of (tree.text t) = call_then (event.text t.content) done
  script_of (tree.octets t) = call_then (event.octets t.content) done
  script_of (tree.seq ts) =
      call_then (event.seq (Some (count ts))) (script_of_each event.element ts)
  script_of (tree.map ps) = call_then (event.map (Some (count_pairs ps))) (script_of_pairs ps)
  script_of tree.absent = call_then event.none done
  script_of (tree.present t) = call_then event.some (script_of t)
  script_of (tree.structure n p) = script_of_data (of_struct n.content) p
  script_of (tree.enumeration n i v p) = script_of_data (of_variant n.content i v.content) p
  script_of (tree.tuple ts) = call_then (event.tuple (count ts)) (script_of_each event.element ts)

  -- under these names
  pub script_of_data : Head → TreeData → Script
  script_of_data head tree.no_data = call_then (unit_call head) done
  script_of_data head (tree.one t) = call_then (newtype_call head) (script_of t)
  script_of_data head (tree.many ts) =
      call_then (tuple_call head (count ts)) (script_of_each event.tuple_field ts)
  script_of_data head (tree.named fs) =
      call_then (struct_call head (count_fields fs)) (script_of_fields fs)

  -- each item after this call, and the end
  pub script_of_each : Event → Trees → Script
  script_of_each item_call tree.no_trees = call_then event.end done
  script_of_each item_call (tree.tree_then t ts) =
      call_then item_call (and_then (script_of t) (script_of_each item_call ts))

  -- each pair as an entry, and the end
  pub script_of_pairs : Pairs → Script
  script_of_pairs tree.no_pairs = call_then event.end done
  script_of_pairs (tree.pair_then k t ps) =
      call_then event.entry (and_then (script_of k) (and_then (script_of t) (script_of_pairs ps)))

  -- each field, and the end
  pub script_of_fields : Fields → Script
  script_of_fields tree.no_fields = call_then event.end done
  script_of_fields (tree.field_then k t fs) =
      and_then (key_script k) (and_then (script_of t) (script_of_fields fs))

-- what is sent for a tree, whether the serialiser is human readable or not
abbrev pub loose_script : Tree → Bool → Script
loose_script t readable = script_of (loose t)
