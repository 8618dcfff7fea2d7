-- An encoder: what each call writes of the item of a tree, while the tree's calls come.
use Rattle.std.specs.Prelude.{ℕ, zero, suc, ◌^◌, Bool, true, false, ◌&&◌, nat_lt}
use Rattle.std.specs.Prelude.{if◌then◌else◌, List, [], ◌∷◌, ◌++◌, length, encode_utf8, ◌≡◌}
use Rattle.std.specs.Prelude.{Option, Some, None, option_map, IsSome, Result, Ok, Err}
use Rattle.std.specs.Io.{StartsWith}
use Rattle.std.specs.Str.{is_utf8}
use Rattle.std.specs.declared.alloc.AllocError.{AllocError}
use Rattle.content_tree.specs.Errors.Kind.{kind_of, IsOutOfMemory}
use Rattle.content_tree.specs.Values.Tree as tree
use Rattle.content_tree.specs.Values.Tree.{Tree}
use Rattle.content_tree.specs.declared.error.Error.{Error}
use Rattle.content_tree.specs.declared.error.ErrorKind.TheVariants.{Failed, Misplaced}
use Rattle.content_ser.specs.Calls.Event as event
use Rattle.content_ser.specs.Calls.Event.{Event}
use Rattle.content_ser.specs.Calls.Head.{Head, of_struct, of_variant}
use Rattle.content_ser.specs.Grammar.Token as token
use Rattle.content_ser.specs.Grammar.Token.{Token, Wrap, Series, token_of}
use Rattle.content_ser.specs.Serializers.Step.{Refusal, Seen, after_failure, out_of_place, no_memory}
use Rattle.content_cbor.specs.Form.{in_own_range}
use Rattle.content_cbor.specs.Heads.{head}
use Rattle.content_cbor.specs.Item.{item, text_item}
use Rattle.content_cbor.specs.declared.heads.Major.{Major}
use Rattle.content_cbor.specs.declared.heads.Major.TheVariants as major

-- the bytes, and how many items or pairs are due in each open array or map, the innermost first
pub record Written : Type 0 where
  pub bytes : List ℕ
  pub due : List ℕ

-- an encoder, as contracts see it
pub record Encoding : Type 0 where
  pub written : Written
  pub failed : Bool

-- nothing is written
abbrev pub nothing : Written
nothing = record { bytes = []; due = [] }

-- these bytes more
abbrev pub with_bytes : List ℕ → Written → Written
with_bytes bs w = record { bytes = w.bytes ++ bs; due = w.due }

-- a length that a head can say
abbrev pub is_length : ℕ → Bool
is_length n = nat_lt n (2 ^ 64)

-- a text
abbrev pub is_text : List ℕ → Bool
is_text content = is_utf8 content && is_length (length content)

-- a leaf that some call says
abbrev pub is_leaf : Tree → Bool
is_leaf tree.unit = true
is_leaf (tree.boolean b) = true
is_leaf (tree.number n) = in_own_range n
is_leaf (tree.character c) = is_text (encode_utf8 c)
is_leaf (tree.text t) = is_text t.content
is_leaf (tree.octets t) = is_length (length t.content)
is_leaf tree.absent = true
is_leaf (tree.structure n tree.no_data) = true
is_leaf (tree.enumeration n i v tree.no_data) = is_text v.content
is_leaf _ = false

-- names that some call says
abbrev pub is_head : Head → Bool
is_head (of_struct n) = true
is_head (of_variant n i v) = is_text v

-- what stands before what is under these names: of a variant the head of a map of one pair, and its name
abbrev pub head_bytes : Head → List ℕ
head_bytes (of_struct n) = []
head_bytes (of_variant n i v) = head major.Map 1 ++ text_item v

-- an array or a map of so many is begun, where the length is known
abbrev pub begun : Major → Option ℕ → Written → Option Written
begun m None w = None
begun m (Some n) w =
    if is_length n then Some (record { bytes = w.bytes ++ head m n; due = n ∷ w.due }) else None

-- under these names
abbrev pub begun_under : Head → Major → Option ℕ → Written → Option Written
begun_under h m n w = if is_head h then begun m n (with_bytes (head_bytes h) w) else None

-- one fewer is due
abbrev pub one_fewer : List ℕ → Option (List ℕ)
one_fewer (suc n ∷ due) = Some (n ∷ due)
one_fewer (zero ∷ due) = None
one_fewer [] = None

-- an item or a pair comes
abbrev pub announced : Written → Option Written
announced w = option_map (λ due. record { bytes = w.bytes; due = due }) (one_fewer w.due)

-- all that were due have come
abbrev pub all_came : List ℕ → Option (List ℕ)
all_came (zero ∷ due) = Some due
all_came (suc n ∷ due) = None
all_came [] = None

-- around one child
abbrev pub wrapping : Wrap → Written → Option Written
wrapping token.in_some w = Some w
wrapping (token.in_head h) w = if is_head h then Some (with_bytes (head_bytes h) w) else None

-- of items by place
abbrev pub listing : Series → Option ℕ → Written → Option Written
listing token.series_seq n w = begun major.Array n w
listing token.series_tuple n w = begun major.Array n w
listing (token.series_head h) n w = begun_under h major.Array n w

-- a call that says this length; a key and a value apart from one another are out of place
abbrev pub writes : Token → Option ℕ → Written → Option Written
writes (token.leaf t) n w = if is_leaf t then Some (with_bytes (item t) w) else None
writes (token.wrap x) n w = wrapping x w
writes (token.open_series r) n w = listing r n w
writes token.open_map n w = begun major.Map n w
writes (token.open_record h) n w = begun_under h major.Map n w
writes (token.item m) n w = announced w
writes (token.field k) n w =
    if is_text k then option_map (with_bytes (text_item k)) (announced w) else None
writes token.key n w = None
writes token.value n w = None
writes token.entry n w = announced w
writes token.finish n w =
    option_map (λ due. record { bytes = w.bytes; due = due }) (all_came w.due)

-- the length that a call says
abbrev pub length_said : Event → Option ℕ
length_said (event.seq hint) = hint
length_said (event.map hint) = hint
length_said (event.tuple len) = Some len
length_said (event.tuple_struct n len) = Some len
length_said (event.tuple_variant n i v len) = Some len
length_said (event.structure n len) = Some len
length_said (event.struct_variant n i v len) = Some len
length_said _ = None

-- a call
abbrev pub step : Written → Event → Option Written
step w c = writes (token_of c) (length_said c) w

-- an encoder as a serialiser
abbrev pub seen_of : Encoding → Seen Written
seen_of e = record { state = e.written; failed = e.failed; readable = false }

-- a call that writes nothing
abbrev pub writes_nothing : Event → Bool
writes_nothing event.some = true
writes_nothing (event.newtype_struct n) = true
writes_nothing event.element = true
writes_nothing event.tuple_field = true
writes_nothing event.entry = true
writes_nothing event.end = true
writes_nothing _ = false

-- a call that writes nothing, in place
pub record TakenInPlace (e : Encoding) (c : Event) : Type 0 where
  pub standing : e.failed ≡ false
  pub silent : writes_nothing c ≡ true
  pub in_place : IsSome (step e.written c)

-- with which error a call is refused; what was written stays
abbrev pub refuses : Refusal → Written → Error → Written → Type 0
refuses after_failure old e new = (kind_of e ≡ Failed) × (new ≡ old)
refuses out_of_place old e new = (kind_of e ≡ Misplaced) × (new ≡ old)
refuses no_memory old e new = IsOutOfMemory e × (new.bytes ≡ old.bytes)

-- a call was written; or it is out of place, and nothing was; or an allocation failed, and a part may be written
abbrev pub Wrote : Option Written → Written → Result Bool AllocError → Written → Type 0
Wrote next old (Ok true) new = next ≡ Some new
Wrote next old (Ok false) new = (next ≡ None) × (new ≡ old)
Wrote next old (Err e) new = IsSome next × StartsWith new.bytes old.bytes
