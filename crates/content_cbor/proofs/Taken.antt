-- The calls of a tree that fits are taken by an encoder, and write its item.
use Rattle.std.proofs.Common.{◌≡◌, ℕ, suc, ◌^◌, Bool, true, false, List, ◌∷◌, [], ◌++◌, length, Option, Some, None, refl, sym, ap, ◌∙◌, append_assoc, append-nil, if◌then◌else◌, option_and_then}
use Rattle.std.specs.Prelude.{encode_utf8}
use Rattle.std.proofs.lemmas.Bool.{lt-ltb}
use Rattle.content_tree.specs.Values.Tree as tree
use Rattle.content_tree.specs.Values.Tree.{Tree, TreeData, Trees, Pairs, Fields, count}
use Rattle.content_ser.specs.Calls.Event as event
use Rattle.content_ser.specs.Calls.Event.{Event}
use Rattle.content_ser.specs.Calls.Head.{Head, of_struct, of_variant, headed}
use Rattle.content_ser.specs.Grammar.Token as token
use Rattle.content_ser.specs.Grammar.Token.{ItemCall, token_of}
use Rattle.content_ser.specs.Laws.ScriptsInTurn.{no_stop_first, no_stop_second}
use Rattle.content_ser.specs.Scripts.Script.{Script, done, stop_with, call_then, and_then, calls_of, stop_of}
use Rattle.content_ser.specs.Sending.TreeScript.{count_fields, count_pairs, owned_key_text, script_of, script_of_data, script_of_each, script_of_fields, script_of_pairs}
use Rattle.content_ser.specs.Serializers.Step.{run}
use Rattle.serde_content.proofs.Scripts.{and_then-assoc}
use Rattle.content_cbor.specs.Encoder.{Written, begun, begun_under, head_bytes, is_head, is_length, is_text, nothing, step, with_bytes, wrapping, writes, length_said}
use Rattle.content_cbor.specs.Form.{DataFits, EachFits, FieldsFit, Fits, IsLength, PairsFit, in_own_range}
use Rattle.content_cbor.specs.Heads.{head}
use Rattle.content_cbor.specs.Item.{each_item, field_items, item, pair_items, text_item}
use Rattle.content_cbor.specs.Laws.{FittingTreesAreTaken}
use Rattle.content_cbor.specs.declared.heads.Major.{Major}
use Rattle.content_cbor.specs.declared.heads.Major.TheVariants as major
use Rattle.content_cbor.proofs.Streamed.{at, many_item, named_item, one_item}
use Rattle.content_cbor.proofs.Texts.{passes}

-- the script writes these bytes, whatever comes after it
abbrev Writes : Script → List ℕ → Type 0
Writes sc bs = (w : Written) (b : Script) → run step w (calls_of (and_then sc b)) ≡ run step (with_bytes bs w) (calls_of b)

-- where so many are due it writes them, and ends what they are in
abbrev WritesAll : Script → ℕ → List ℕ → Type 0
WritesAll sc n inside = (bs due : List ℕ) (b : Script) → run step (at bs (n ∷ due)) (calls_of (and_then sc b)) ≡ run step (at (bs ++ inside) due) (calls_of b)

-- ---- single calls

-- a test that is passed
past : (b : Bool) (o : Option Written) (cs : List Event) → b ≡ true
    → option_and_then (λ next. run step next cs) (if b then o else None) ≡ option_and_then (λ next. run step next cs) o
past true o cs e = refl
past false o cs e = absurd (cc e)

-- the bytes, put otherwise
same_bytes : (a b due : List ℕ) (cs : List Event) → a ≡ b → run step (at a due) cs ≡ run step (at b due) cs
same_bytes a b due cs e = ap (λ bs. run step (at bs due) cs) e

-- an array or a map of so many, and what is in it
whole_taken : (m : Major) (n : ℕ) (inside : List ℕ) (sc : Script) → IsLength n → WritesAll sc n inside → (w : Written) (b : Script)
    → option_and_then (λ next. run step next (calls_of (and_then sc b))) (begun m (Some n) w) ≡ run step (with_bytes (head m n ++ inside) w) (calls_of b)
whole_taken m n inside sc fits go w b =
    past (is_length n) (Some (at (w.bytes ++ head m n) (n ∷ w.due))) (calls_of (and_then sc b)) (lt-ltb n (2 ^ 64) fits)
    ∙ go (w.bytes ++ head m n) w.due b
    ∙ same_bytes ((w.bytes ++ head m n) ++ inside) (w.bytes ++ (head m n ++ inside)) w.due (calls_of b) (append_assoc w.bytes (head m n) inside)

-- the same under names
under_taken : (h : Head) (m : Major) (n : ℕ) (inside : List ℕ) (sc : Script) → is_head h ≡ true → IsLength n → WritesAll sc n inside → (w : Written) (b : Script)
    → option_and_then (λ next. run step next (calls_of (and_then sc b))) (begun_under h m (Some n) w) ≡ run step (with_bytes (head_bytes h ++ (head m n ++ inside)) w) (calls_of b)
under_taken h m n inside sc named fits go w b =
    past (is_head h) (begun m (Some n) (with_bytes (head_bytes h) w)) (calls_of (and_then sc b)) named
    ∙ whole_taken m n inside sc fits go (with_bytes (head_bytes h) w) b
    ∙ same_bytes ((w.bytes ++ head_bytes h) ++ (head m n ++ inside)) (w.bytes ++ (head_bytes h ++ (head m n ++ inside))) w.due (calls_of b) (append_assoc w.bytes (head_bytes h) (head m n ++ inside))

-- one value under names
one_taken : (h : Head) (t : Tree) → is_head h ≡ true → Writes (script_of t) (item t) → (w : Written) (b : Script)
    → option_and_then (λ next. run step next (calls_of (and_then (script_of t) b))) (wrapping (token.in_head h) w) ≡ run step (with_bytes (item (headed h (tree.one t))) w) (calls_of b)
one_taken h t named go w b =
    past (is_head h) (Some (with_bytes (head_bytes h) w)) (calls_of (and_then (script_of t) b)) named
    ∙ go (with_bytes (head_bytes h) w) b
    ∙ same_bytes ((w.bytes ++ head_bytes h) ++ item t) (w.bytes ++ item (headed h (tree.one t))) w.due (calls_of b) (append_assoc w.bytes (head_bytes h) (item t) ∙ ap (λ bs. w.bytes ++ bs) (one_item h t))

-- values by place under names
many_taken : (h : Head) (ts : Trees) → is_head h ≡ true → IsLength (count ts) → WritesAll (script_of_each event.tuple_field ts) (count ts) (each_item ts) → (w : Written) (b : Script)
    → option_and_then (λ next. run step next (calls_of (and_then (script_of_each event.tuple_field ts) b))) (begun_under h major.Array (Some (count ts)) w) ≡ run step (with_bytes (item (headed h (tree.many ts))) w) (calls_of b)
many_taken h ts named fits go w b =
    under_taken h major.Array (count ts) (each_item ts) (script_of_each event.tuple_field ts) named fits go w b
    ∙ same_bytes (w.bytes ++ (head_bytes h ++ (head major.Array (count ts) ++ each_item ts))) (w.bytes ++ item (headed h (tree.many ts))) w.due (calls_of b) (ap (λ bs. w.bytes ++ bs) (many_item h ts))

-- values by key under names
named_taken : (h : Head) (fs : Fields) → is_head h ≡ true → IsLength (count_fields fs) → WritesAll (script_of_fields fs) (count_fields fs) (field_items fs) → (w : Written) (b : Script)
    → option_and_then (λ next. run step next (calls_of (and_then (script_of_fields fs) b))) (begun_under h major.Map (Some (count_fields fs)) w) ≡ run step (with_bytes (item (headed h (tree.named fs))) w) (calls_of b)
named_taken h fs named fits go w b =
    under_taken h major.Map (count_fields fs) (field_items fs) (script_of_fields fs) named fits go w b
    ∙ same_bytes (w.bytes ++ (head_bytes h ++ (head major.Map (count_fields fs) ++ field_items fs))) (w.bytes ++ item (headed h (tree.named fs))) w.due (calls_of b) (ap (λ bs. w.bytes ++ bs) (named_item h fs))

-- the end of what holds parts
ended : (bs due : List ℕ) (b : Script) → run step (at bs due) (calls_of b) ≡ run step (at (bs ++ []) due) (calls_of b)
ended bs due b = same_bytes bs (bs ++ []) due (calls_of b) (sym (append-nil bs))

-- an item comes
came : (m : ItemCall) (c : Event) → token_of c ≡ token.item m → (bs due : List ℕ) (n : ℕ) (cs : List Event)
    → run step (at bs (suc n ∷ due)) (c ∷ cs) ≡ run step (at bs (n ∷ due)) cs
came m c is bs due n cs = ap (λ k. option_and_then (λ next. run step next cs) (writes k (length_said c) (at bs (suc n ∷ due)))) is

-- ---- scripts in turn

-- one script and then another, before a third
then_taken : (a b : Script) (front back : List ℕ) (n : ℕ) → Writes a front → WritesAll b n back → WritesAll (and_then a b) n (front ++ back)
then_taken a b front back n first second bs due more =
    ap (λ sc. run step (at bs (n ∷ due)) (calls_of sc)) (and_then-assoc a b more)
    ∙ first (at bs (n ∷ due)) (and_then b more)
    ∙ second (bs ++ front) due more
    ∙ same_bytes ((bs ++ front) ++ back) (bs ++ (front ++ back)) due (calls_of more) (append_assoc bs front back)

-- a key, if it isn't owned, and what comes after it
field_taken : (borrowed : Bool) (k inside : List ℕ) (sc : Script) (n : ℕ) → is_text k ≡ true
    → stop_of (and_then (if borrowed then call_then (event.field k) done else stop_with (owned_key_text k)) sc) ≡ None
    → (stop_of sc ≡ None → WritesAll sc n inside)
    → WritesAll (and_then (if borrowed then call_then (event.field k) done else stop_with (owned_key_text k)) sc) (suc n) (text_item k ++ inside)
field_taken true k inside sc n text free go bs due b =
    past (is_text k) (Some (at (bs ++ text_item k) (n ∷ due))) (calls_of (and_then sc b)) text
    ∙ go free (bs ++ text_item k) due b
    ∙ same_bytes ((bs ++ text_item k) ++ inside) (bs ++ (text_item k ++ inside)) due (calls_of b) (append_assoc bs (text_item k) inside)
field_taken false k inside sc n text free go bs due b = absurd (cc free)

-- ---- trees

mutual
  taken : (t : Tree) → Fits t → stop_of (script_of t) ≡ None → Writes (script_of t) (item t)
  taken tree.unit fits free w b = refl
  taken (tree.boolean x) fits free w b = refl
  taken (tree.number n) fits free w b = past (in_own_range n) (Some (with_bytes (item (tree.number n)) w)) (calls_of b) fits
  taken (tree.character c) fits free w b = past (is_text (encode_utf8 c)) (Some (with_bytes (item (tree.character c)) w)) (calls_of b) (passes (encode_utf8 c) fits)
  taken (tree.text t) fits free w b = past (is_text t.content) (Some (with_bytes (item (tree.text t)) w)) (calls_of b) (passes t.content fits)
  taken (tree.octets t) fits free w b = past (is_length (length t.content)) (Some (with_bytes (item (tree.octets t)) w)) (calls_of b) (lt-ltb (length t.content) (2 ^ 64) fits)
  taken (tree.seq ts) fits free w b = whole_taken major.Array (count ts) (each_item ts) (script_of_each event.element ts) fits.0 (each_taken token.element event.element refl ts fits.1 free) w b
  taken (tree.map ps) fits free w b = whole_taken major.Map (count_pairs ps) (pair_items ps) (script_of_pairs ps) fits.0 (pairs_taken ps fits.1 free) w b
  taken tree.absent fits free w b = refl
  taken (tree.present t) fits free w b = taken t fits free w b
  taken (tree.structure n d) fits free w b = struct_taken n.content d fits free w b
  taken (tree.enumeration n i v d) fits free w b = variant_taken n.content i v.content d (passes v.content fits.0) fits.1 free w b
  taken (tree.tuple ts) fits free w b = whole_taken major.Array (count ts) (each_item ts) (script_of_each event.element ts) fits.0 (each_taken token.element event.element refl ts fits.1 free) w b

  struct_taken : (n : List ℕ) (d : TreeData) → DataFits d → stop_of (script_of_data (of_struct n) d) ≡ None → Writes (script_of_data (of_struct n) d) (item (headed (of_struct n) d))
  struct_taken n tree.no_data fits free w b = refl
  struct_taken n (tree.one t) fits free w b = one_taken (of_struct n) t refl (taken t fits free) w b
  struct_taken n (tree.many ts) fits free w b = many_taken (of_struct n) ts refl fits.0 (each_taken token.tuple_field event.tuple_field refl ts fits.1 free) w b
  struct_taken n (tree.named fs) fits free w b = named_taken (of_struct n) fs refl fits.0 (fields_taken fs fits.1 free) w b

  variant_taken : (n : List ℕ) (i : ℕ) (v : List ℕ) (d : TreeData) → is_text v ≡ true → DataFits d → stop_of (script_of_data (of_variant n i v) d) ≡ None
      → Writes (script_of_data (of_variant n i v) d) (item (headed (of_variant n i v) d))
  variant_taken n i v tree.no_data text fits free w b = past (is_text v) (Some (with_bytes (text_item v) w)) (calls_of b) text
  variant_taken n i v (tree.one t) text fits free w b = one_taken (of_variant n i v) t text (taken t fits free) w b
  variant_taken n i v (tree.many ts) text fits free w b = many_taken (of_variant n i v) ts text fits.0 (each_taken token.tuple_field event.tuple_field refl ts fits.1 free) w b
  variant_taken n i v (tree.named fs) text fits free w b = named_taken (of_variant n i v) fs text fits.0 (fields_taken fs fits.1 free) w b

  each_taken : (m : ItemCall) (c : Event) → token_of c ≡ token.item m → (ts : Trees) → EachFits ts → stop_of (script_of_each c ts) ≡ None → WritesAll (script_of_each c ts) (count ts) (each_item ts)
  each_taken m c is tree.no_trees fits free bs due b = ended bs due b
  each_taken m c is (tree.tree_then t ts) fits free bs due b =
      let one = taken t fits.0 (no_stop_first (script_of t) (script_of_each c ts) free) in
      let others = each_taken m c is ts fits.1 (no_stop_second (script_of t) (script_of_each c ts) free) in
      came m c is bs due (count ts) (calls_of (and_then (and_then (script_of t) (script_of_each c ts)) b))
      ∙ then_taken (script_of t) (script_of_each c ts) (item t) (each_item ts) (count ts) one others bs due b

  pairs_taken : (ps : Pairs) → PairsFit ps → stop_of (script_of_pairs ps) ≡ None → WritesAll (script_of_pairs ps) (count_pairs ps) (pair_items ps)
  pairs_taken tree.no_pairs fits free bs due b = ended bs due b
  pairs_taken (tree.pair_then k t ps) fits free bs due b =
      let rest = and_then (script_of t) (script_of_pairs ps) in
      let free_rest = no_stop_second (script_of k) rest free in
      let key = taken k fits.0 (no_stop_first (script_of k) rest free) in
      let value = taken t fits.1 (no_stop_first (script_of t) (script_of_pairs ps) free_rest) in
      let others = pairs_taken ps fits.2 (no_stop_second (script_of t) (script_of_pairs ps) free_rest) in
      then_taken (script_of k) rest (item k) (item t ++ pair_items ps) (count_pairs ps) key
      (then_taken (script_of t) (script_of_pairs ps) (item t) (pair_items ps) (count_pairs ps) value others) bs due b
      ∙ same_bytes (bs ++ (item k ++ (item t ++ pair_items ps))) (bs ++ ((item k ++ item t) ++ pair_items ps)) due (calls_of b) (ap (λ x. bs ++ x) (sym (append_assoc (item k) (item t) (pair_items ps))))

  fields_taken : (fs : Fields) → FieldsFit fs → stop_of (script_of_fields fs) ≡ None → WritesAll (script_of_fields fs) (count_fields fs) (field_items fs)
  fields_taken tree.no_fields fits free bs due b = ended bs due b
  fields_taken (tree.field_then k t fs) fits free bs due b =
      let sc = and_then (script_of t) (script_of_fields fs) in
      field_taken k.borrowed k.content (item t ++ field_items fs) sc (count_fields fs) (passes k.content fits.0) free
      (λ free_rest.
      then_taken (script_of t) (script_of_fields fs) (item t) (field_items fs) (count_fields fs)
      (taken t fits.1 (no_stop_first (script_of t) (script_of_fields fs) free_rest))
      (fields_taken fs fits.2 (no_stop_second (script_of t) (script_of_fields fs) free_rest))) bs due b
      ∙ same_bytes (bs ++ (text_item k.content ++ (item t ++ field_items fs))) (bs ++ ((text_item k.content ++ item t) ++ field_items fs)) due (calls_of b)
      (ap (λ x. bs ++ x) (sym (append_assoc (text_item k.content) (item t) (field_items fs))))

then_done : (sc : Script) → and_then sc done ≡ sc
then_done done = refl
then_done (stop_with message) = refl
then_done (call_then c sc) = ap (call_then c) (then_done sc)

pub fitting_taken : FittingTreesAreTaken
fitting_taken t fits free =
    ap (λ sc. run step nothing (calls_of sc)) (sym (then_done (script_of t))) ∙ taken t fits free nothing done
