-- Values that are made with no calls, piece by piece.
use Rattle.std.proofs.Common.{◌≡◌, ℕ, suc, Bool, List, [], ◌∷◌, ◌++◌, Some, None, Result, Ok, Err, IsErrAnd}
use Rattle.std.proofs.Common.{IfOk, length, refl, ap, sym, subst, ◌∙◌, arith, string_bytes, Vec, Global, Box, String, append_assoc}
use Rattle.std.specs.List.{AllZip}
use Rattle.std.proofs.lemmas.List.{append-nil}
use Rattle.std.proofs.lemmas.Result.{err_from_is_err_and}
use Rattle.content_tree.specs.Values.Text.{owned_text, static_name, text_of}
use Rattle.content_tree.specs.Values.Tree as tree
use Rattle.content_tree.specs.Values.Tree.{Tree, TreeData, Trees, Fields}
use Rattle.content_tree.specs.Values.Value.{tree_of, tree_data_of, trees_view, pairs_view, fields_view}
use Rattle.content_tree.specs.declared.cow.CowStr.{CowStr}
use Rattle.content_tree.specs.declared.cow.CowStr.TheVariants as cow_str
use Rattle.content_tree.specs.declared.number.Number.{Number}
use Rattle.content_tree.specs.declared.value.NamedData as held
use Rattle.content_tree.specs.declared.value.NamedData.{NamedData}
use Rattle.content_tree.specs.declared.value.NamedValue as value
use Rattle.content_tree.specs.declared.value.NamedValue.{NamedValue}
use Rattle.content_tree.proofs.Views.{tree_of-Unit, tree_of-Bool, tree_of-Number, tree_of-Char, tree_of-String, tree_of-None, tree_of-Some, tree_of-Seq, tree_of-Tuple, tree_of-Map, tree_data_of-Tuple, tree_data_of-Struct}
use Rattle.content_ser.specs.declared.direct.Unmade.{Unmade}
use Rattle.content_ser.specs.Calls.Event as event
use Rattle.content_ser.specs.Calls.Event.{Event}
use Rattle.content_ser.specs.Calls.Head.{Head, headed}
use Rattle.content_ser.specs.Grammar.Spells.{MapItem, entry, pairs, spells_leaf, spells_wrap, spells_series, spells_map, spells_record, fields_end, fields_more, elements_end, elements_more, items_end, items_entry}
use Rattle.content_ser.specs.Grammar.Token as token
use Rattle.content_ser.specs.Grammar.Token.{ItemCall, Token, Series, Wrap, tokens}
use Rattle.content_ser.specs.Laws.Fits.{tokens_append}
use Rattle.content_ser.specs.Laws.ScriptsInTurn.{calls_of_both}
use Rattle.content_ser.specs.Scripts.Direct.{Reads, TheTree, TheElements, TheMapItems, TheFields, Makes, Spelled, IsMadeBy, ArePairMadeBy, made, unmade, AddsFields, AddsItems, fields_added, fields_unmade, items_added, items_unmade}
use Rattle.content_ser.specs.Scripts.Script.{Script, done, call_then, calls_of, stop_of, and_then}
use Rattle.content_ser.specs.Scripts.Standard.{ScriptOf, items_script, seq_script, entries_script, map_script}
use Rattle.content_ser.specs.Scripts.Arrays.{array_script}

-- two scripts, neither of which stops
stops_neither : (a b : Script) → stop_of a ≡ None → stop_of b ≡ None → stop_of (and_then a b) ≡ None
stops_neither done b e f = f
stops_neither (Script.stop_with m) b e f = e
stops_neither (call_then c a) b e f = stops_neither a b e f

-- a script, and then another
pub reads_then : {P Q R : List Token → List Token → Type 0} (a b : Script)
    → ((calls mid rest : List Token) → P calls mid → Q mid rest → R calls rest) → Reads P a → Reads Q b → Reads R (and_then a b)
reads_then {P} {Q} {R} a b f p q = (
  stops_neither a b p.0 q.0,
  λ rest.
      let split = ap (λ cs. tokens cs ++ rest) (calls_of_both a b p.0) ∙ tokens_append (calls_of a) (calls_of b) rest in
      subst (λ ks. R ks rest) (sym split) (f _ _ rest (p.1 (tokens (calls_of b) ++ rest)) (q.1 rest)),
)

-- one call that is a whole tree
pub leaf_makes : (c : Event) {t : Tree} (room : ℕ) → token.token_of c ≡ token.leaf t → Makes room (call_then c done) t
leaf_makes c {t} room is = (
  refl,
  λ rest. subst (λ k. TheTree room t (k ∷ rest) rest) (sym is) (spells_leaf, λ limit depth h. omega (arith, h)),
)

-- a value that is made by one call
leaf_spelled : (c : Event) (v : NamedValue) (room : ℕ) → token.token_of c ≡ token.leaf (tree_of v) → Spelled room (call_then c done) (Ok v)
leaf_spelled c v room is = made (leaf_makes c room is)

-- the unit
pub unit_spelled : {room : ℕ} → Spelled room (call_then event.unit done) (Ok value.Unit)
unit_spelled {room} = leaf_spelled event.unit value.Unit room (ap token.leaf (sym tree_of-Unit))

-- a boolean
pub bool_spelled : {room : ℕ} {b : Bool} → Spelled room (call_then (event.boolean b) done) (Ok (value.Bool b))
bool_spelled {room} {b} = leaf_spelled (event.boolean b) (value.Bool b) room (ap token.leaf (sym (tree_of-Bool b)))

-- a number
pub number_spelled : {room : ℕ} {n : Number} → Spelled room (call_then (event.number n) done) (Ok (value.Number n))
number_spelled {room} {n} = leaf_spelled (event.number n) (value.Number n) room (ap token.leaf (sym (tree_of-Number n)))

-- a character
pub char_spelled : {room : ℕ} {c : ℕ} → Spelled room (call_then (event.character c) done) (Ok (value.Char c))
char_spelled {room} {c} = leaf_spelled (event.character c) (value.Char c) room (ap token.leaf (sym (tree_of-Char c)))

-- a text
pub text_spelled : {room : ℕ} {s : List ℕ} (t : String Global) → string_bytes t ≡ s → Spelled room (call_then (event.text s) done) (Ok (value.String (cow_str.Owned t)))
text_spelled {room} {s} t is = leaf_spelled (event.text s) (value.String (cow_str.Owned t)) room
    (ap (λ b. token.leaf (tree.text (owned_text b))) (sym is) ∙ ap token.leaf (sym (tree_of-String (cow_str.Owned t))))

-- the exit of a `?`
pub unmade_exit : {room : ℕ} {sc : Script} (P : Unmade → Type 0) (r : Result NamedValue Unmade) → IsErrAnd r P → Spelled room sc r
unmade_exit P r is = let p = err_from_is_err_and r is in rw p.1 unmade

-- the absent option
pub none_spelled : {room : ℕ} → Spelled room (call_then event.none done) (Ok (value.Option None))
none_spelled {room} = leaf_spelled event.none (value.Option None) room (ap token.leaf (sym tree_of-None))

-- what is made is made
pub makes : {room : ℕ} {sc : Script} {v : NamedValue} → Spelled room sc (Ok v) → Makes room sc (tree_of v)
makes (made m) = m

-- what holds one tree, after the call that opens it
pub wrap_makes : {w : Wrap} (c : Event) (sc : Script) {t : Tree} {levels room : ℕ} → token.token_of c ≡ token.wrap w → suc levels ≡ room → Makes levels sc t
    → Makes room (call_then c sc) (token.wrapped w t)
wrap_makes {w} c sc {t} {levels} {room} is fits m = subst (λ n. Makes n (call_then c sc) (token.wrapped w t)) fits (
  m.0,
  λ rest. subst (λ k. TheTree (suc levels) (token.wrapped w t) (k ∷ (tokens (calls_of sc) ++ rest)) rest) (sym is)
      (spells_wrap (m.1 rest).0, λ limit depth k. (omega (arith, k), (m.1 rest).1 limit (suc depth) (omega (arith, k)))),
)

-- an optional value
pub some_spelled : {levels room : ℕ} {sc : Script} {v : NamedValue} (b : Box NamedValue Global) → suc levels ≡ room → b.value ≡ v
    → Spelled levels sc (Ok v) → Spelled room (call_then event.some sc) (Ok (value.Option (Some b)))
some_spelled {levels} {room} {sc} {v} b fits is s =
    made (subst (λ t. Makes room (call_then event.some sc) t) (ap (λ w. tree.present (tree_of w)) (sym is) ∙ sym (tree_of-Some b))
    (wrap_makes {w = token.in_some} event.some sc refl fits (makes s)))

-- an item by place, and then the others
item_reads : {m : ItemCall} (c : Event) (a b : Script) {t : Tree} {ts : Trees} (room : ℕ) → token.token_of c ≡ token.item m → Makes room a t
    → Reads (TheElements m room ts) b → Reads (TheElements m room (tree.tree_then t ts)) (call_then c (and_then a b))
item_reads {m} c a b {t} {ts} room is p q =
    let both = reads_then {P = TheTree room t} {Q = TheElements m room ts}
    {R = λ calls rest. TheElements m room (tree.tree_then t ts) (token.item m ∷ calls) rest} a b
    (λ calls mid rest s e. (elements_more s.0 e.0, λ limit depth h. (s.1 limit depth h, e.1 limit depth h))) p q in (
      both.0,
      λ rest. subst (λ k. TheElements m room (tree.tree_then t ts) (k ∷ (tokens (calls_of (and_then a b)) ++ rest)) rest) (sym is) (both.1 rest),
    )

-- the items of a sequence or a tuple, one by one
items_read : {A : Type 0} (f : ScriptOf A) (h : Bool) (room : ℕ) (xs : List A) (vs : List NamedValue)
    → AllZip (IsMadeBy f h room) xs vs → Reads (TheElements token.element room (trees_view vs)) (items_script f xs h)
items_read f h room [] [] each = (refl, λ rest. (elements_end, λ limit depth fits. tt))
items_read f h room [] (v ∷ vs) each = absurd each
items_read f h room (x ∷ xs) [] each = absurd each
items_read f h room (x ∷ xs) (v ∷ vs) each = item_reads event.element _ _ room refl each.0 (items_read f h room xs vs each.1)

-- a sequence or the like of such items, after the call that opens it
series_makes : {r : Series} (c : Event) (sc : Script) {ts : Trees} {levels room : ℕ} → token.token_of c ≡ token.open_series r → suc levels ≡ room
    → Reads (TheElements (token.item_call r) levels ts) sc → Makes room (call_then c sc) (token.series_tree r ts)
series_makes {r} c sc {ts} {levels} {room} is fits items = subst (λ n. Makes n (call_then c sc) (token.series_tree r ts)) fits (
  items.0,
  λ rest. subst (λ k. TheTree (suc levels) (token.series_tree r ts) (k ∷ (tokens (calls_of sc) ++ rest)) rest) (sym is)
      (spells_series (items.1 rest).0, λ limit depth k. (omega (arith, k), (items.1 rest).1 limit (suc depth) (omega (arith, k)))),
)

-- a sequence of these items
pub seq_spelled : {A : Type 0} (f : ScriptOf A) (h : Bool) {levels room : ℕ} (xs : List A) (vs : Vec NamedValue Global) → suc levels ≡ room
    → AllZip (IsMadeBy f h levels) xs vs.items → Spelled room (seq_script f xs h) (Ok (value.Seq vs))
seq_spelled f h {levels} {room} xs vs fits each =
    made (subst (λ t. Makes room (seq_script f xs h) t) (sym (tree_of-Seq vs))
    (series_makes {r = token.series_seq} (event.seq (Some (length xs))) (items_script f xs h) refl fits (items_read f h levels xs vs.items each)))

-- a tuple of these elements
pub tuple_spelled : {n : ℕ} {sc : Script} {levels room : ℕ} (vs : Vec NamedValue Global) → suc levels ≡ room
    → Reads (TheElements token.element levels (trees_view vs.items)) sc → Spelled room (call_then (event.tuple n) sc) (Ok (value.Tuple vs))
tuple_spelled {n} {sc} {levels} {room} vs fits items =
    made (subst (λ t. Makes room (call_then (event.tuple n) sc) t) (sym (tree_of-Tuple vs)) (series_makes {r = token.series_tuple} (event.tuple n) sc refl fits items))

-- an array of these items
pub array_spelled : {A : Type 0} {n : ℕ} (f : ScriptOf A) (h : Bool) {levels room : ℕ} (xs : List A) (vs : Vec NamedValue Global) → suc levels ≡ room
    → AllZip (IsMadeBy f h levels) xs vs.items → Spelled room (array_script n f xs h) (Ok (value.Tuple vs))
array_spelled f h {levels} xs vs fits each = tuple_spelled vs fits (items_read f h levels xs vs.items each)

-- the end of items by place
pub elements_end_read : {m : ItemCall} (levels : ℕ) → Reads (TheElements m levels (trees_view [])) (call_then event.end done)
elements_end_read levels = (refl, λ rest. (elements_end, λ limit depth fits. tt))

-- an element of a tuple, and then the others
pub element_read : (a b : Script) {levels : ℕ} {v : NamedValue} (vs : List NamedValue) → Spelled levels a (Ok v)
    → Reads (TheElements token.element levels (trees_view vs)) b → Reads (TheElements token.element levels (trees_view (v ∷ vs))) (call_then event.element (and_then a b))
element_read a b {levels} vs s others = item_reads event.element a b levels refl (makes s) others

-- a value by place in a struct or variant, and then the others
pub part_read : (a b : Script) {levels : ℕ} {v : NamedValue} (vs : List NamedValue) → Spelled levels a (Ok v)
    → Reads (TheElements token.tuple_field levels (trees_view vs)) b → Reads (TheElements token.tuple_field levels (trees_view (v ∷ vs))) (call_then event.tuple_field (and_then a b))
part_read a b {levels} vs s others = item_reads event.tuple_field a b levels refl (makes s) others

-- an entry, and then the others
entry_reads : (a b c : Script) {k v : Tree} {items : List MapItem} (room : ℕ) → Makes room a k → Makes room b v → Reads (TheMapItems room items) c
    → Reads (TheMapItems room (entry k v ∷ items)) (call_then event.entry (and_then a (and_then b c)))
entry_reads a b c {k} {v} {items} room p q r =
    let second = reads_then {P = TheTree room v} {Q = TheMapItems room items}
    {R = λ calls rest. (mid : List Token) × TheTree room v calls mid × TheMapItems room items mid rest} b c
    (λ calls mid rest s e. (mid, s, e)) q r in
    let both = reads_then {P = TheTree room k} {Q = λ calls rest. (mid : List Token) × TheTree room v calls mid × TheMapItems room items mid rest}
    {R = λ calls rest. TheMapItems room (entry k v ∷ items) (token.entry ∷ calls) rest} a (and_then b c)
    (λ calls mid rest s e. (items_entry s.0 e.1.0 e.2.0, λ limit depth h. (s.1 limit depth h, e.1.1 limit depth h, e.2.1 limit depth h))) p second in
    (both.0, both.1)

-- the entries of these pairs
abbrev entry_items : List (NamedValue × NamedValue) → List MapItem
entry_items [] = []
entry_items (q ∷ qs) = entry (tree_of q.0) (tree_of q.1) ∷ entry_items qs

-- their pairs
pairs_of_entries : (qs : List (NamedValue × NamedValue)) → pairs (entry_items qs) ≡ pairs_view qs
pairs_of_entries [] = refl
pairs_of_entries (q ∷ []) = refl
pairs_of_entries (q ∷ r ∷ qs) = ap (λ ps. tree.pair_then (tree_of q.0) (tree_of q.1) ps) (pairs_of_entries (r ∷ qs))

-- the entries of a map, one by one
entries_read : {K V : Type 0} (f : ScriptOf K) (g : ScriptOf V) (h : Bool) (room : ℕ) (ps : List (K × V)) (qs : List (NamedValue × NamedValue))
    → AllZip (ArePairMadeBy f g h room) ps qs → Reads (TheMapItems room (entry_items qs)) (entries_script f g ps h)
entries_read f g h room [] [] each = (refl, λ rest. (items_end, λ limit depth fits. tt))
entries_read f g h room [] (q ∷ qs) each = absurd each
entries_read f g h room (p ∷ ps) [] each = absurd each
entries_read f g h room (p ∷ ps) (q ∷ qs) each = entry_reads _ _ _ room each.0.0 each.0.1 (entries_read f g h room ps qs each.1)

-- a map of them
pub map_spelled : {K V : Type 0} (f : ScriptOf K) (g : ScriptOf V) (h : Bool) {levels room : ℕ} (ps : List (K × V)) (qs : Vec (NamedValue × NamedValue) Global) → suc levels ≡ room
    → AllZip (ArePairMadeBy f g h levels) ps qs.items → Spelled room (map_script f g ps h) (Ok (value.Map qs))
map_spelled f g h {levels} {room} ps qs fits each =
    let items = entries_read f g h levels ps qs.items each in
    let whole = ap tree.map (pairs_of_entries qs.items) ∙ sym (tree_of-Map qs) in
    made (subst (λ t. Makes room (map_script f g ps h) t) whole (subst (λ n. Makes n (map_script f g ps h) (tree.map (pairs (entry_items qs.items)))) fits
    (items.0, λ rest. (spells_map (items.1 rest).0, λ limit depth k. (omega (arith, k), (items.1 rest).1 limit (suc depth) (omega (arith, k)))))))

-- the end of fields
pub fields_end_read : (levels : ℕ) → Reads (TheFields levels (fields_view [])) (call_then event.end done)
fields_end_read levels = (refl, λ rest. (fields_end, λ limit depth fits. tt))

-- a field, and then the others
pub field_reads : (a b : Script) {t : Tree} {fs : Fields} (room : ℕ) (k : List ℕ) → Makes room a t → Reads (TheFields room fs) b
    → Reads (TheFields room (tree.field_then (static_name k) t fs)) (call_then (event.field k) (and_then a b))
field_reads a b {t} {fs} room k p q =
    let both = reads_then {P = TheTree room t} {Q = TheFields room fs}
    {R = λ calls rest. TheFields room (tree.field_then (static_name k) t fs) (token.field k ∷ calls) rest} a b
    (λ calls mid rest s e. (fields_more s.0 e.0, λ limit depth h. (s.1 limit depth h, e.1 limit depth h))) p q in
    (both.0, both.1)

-- a struct or a variant of these fields, after the call that opens it
pub record_makes : {h : Head} (c : Event) (sc : Script) {fs : Fields} {levels room : ℕ} → token.token_of c ≡ token.open_record h → suc levels ≡ room
    → Reads (TheFields levels fs) sc → Makes room (call_then c sc) (token.record_tree h fs)
record_makes {h} c sc {fs} {levels} {room} is fits m = subst (λ n. Makes n (call_then c sc) (token.record_tree h fs)) fits (
  m.0,
  λ rest. subst (λ k. TheTree (suc levels) (token.record_tree h fs) (k ∷ (tokens (calls_of sc) ++ rest)) rest) (sym is)
      (spells_record (m.1 rest).0, λ limit depth k. (omega (arith, k), (m.1 rest).1 limit (suc depth) (omega (arith, k)))),
)

-- what is made of a head and of what it holds
pub headed_spelled : (h : Head) {room : ℕ} {sc : Script} {held : TreeData} (inside : NamedData) (r : Result NamedValue Unmade) → tree_data_of inside ≡ held
    → Makes room sc (headed h held) → IfOk r (λ v. tree_of v ≡ headed h (tree_data_of inside)) → Spelled room sc r
headed_spelled h {room} {sc} inside (Ok v) is m t = made (subst (λ u. Makes room sc u) (sym (t ∙ ap (headed h) is)) m)
headed_spelled h inside (Err why) is m t = unmade

-- nothing is added after the end of fields
pub fields_end_added : (levels : ℕ) (fs : List (CowStr × NamedValue)) {u : Unit {0}} → AddsFields levels (call_then event.end done) fs fs (Ok u)
fields_end_added levels fs = fields_added [] (sym (append-nil fs)) (fields_end_read levels)

-- nothing is added after the end of values by place
pub items_end_added : {m : ItemCall} (levels : ℕ) (vs : List NamedValue) {u : Unit {0}} → AddsItems m levels (call_then event.end done) vs vs (Ok u)
items_end_added levels vs = items_added [] (sym (append-nil vs)) (elements_end_read levels)

-- a field is added, and then the others
pub field_added : {levels : ℕ} {k : List ℕ} (a b : Script) (f : CowStr) {v : NamedValue} {old mid new : List (CowStr × NamedValue)} {r : Result (Unit {0}) Unmade}
    → text_of f ≡ static_name k → Spelled levels a (Ok v) → mid ≡ old ++ (f, v) ∷ [] → AddsFields levels b mid new r
    → AddsFields levels (call_then (event.field k) (and_then a b)) old new r
field_added {levels} {k} a b f {v} {old} is s one (fields_added more whole reads) =
    fields_added ((f, v) ∷ more) (whole ∙ ap (λ m. m ++ more) one ∙ append_assoc old ((f, v) ∷ []) more)
    (subst (λ n. Reads (TheFields levels (tree.field_then n (tree_of v) (fields_view more))) (call_then (event.field k) (and_then a b))) (sym is)
    (field_reads a b levels k (makes s) reads))
field_added a b f is s one fields_unmade = fields_unmade

-- a value by place is added, and then the others
pub item_added : {m : ItemCall} {levels : ℕ} (c : Event) (a b : Script) {v : NamedValue} {old mid new : List NamedValue} {r : Result (Unit {0}) Unmade}
    → token.token_of c ≡ token.item m → Spelled levels a (Ok v) → mid ≡ old ++ v ∷ [] → AddsItems m levels b mid new r
    → AddsItems m levels (call_then c (and_then a b)) old new r
item_added {m} {levels} c a b {v} {old} is s one (items_added more whole reads) =
    items_added (v ∷ more) (whole ∙ ap (λ us. us ++ more) one ∙ append_assoc old (v ∷ []) more) (item_reads c a b levels is (makes s) reads)
item_added c a b is s one items_unmade = items_unmade

-- the exits of a `?`
pub fields_exit : {room : ℕ} {sc : Script} {old new : List (CowStr × NamedValue)} (P : Unmade → Type 0) (r : Result (Unit {0}) Unmade) → IsErrAnd r P
    → AddsFields room sc old new r
fields_exit P r is = let p = err_from_is_err_and r is in rw p.1 fields_unmade

pub items_exit : {m : ItemCall} {room : ℕ} {sc : Script} {old new : List NamedValue} (P : Unmade → Type 0) (r : Result (Unit {0}) Unmade) → IsErrAnd r P
    → AddsItems m room sc old new r
items_exit P r is = let p = err_from_is_err_and r is in rw p.1 items_unmade

-- what holds the fields that were added where there was none
pub record_spelled : (h : Head) {levels room : ℕ} (c : Event) (sc : Script) (fields : Vec (CowStr × NamedValue) Global) (r : Result NamedValue Unmade) {u : Unit {0}}
    → token.token_of c ≡ token.open_record h → suc levels ≡ room → AddsFields levels sc [] fields.items (Ok u)
    → IfOk r (λ v. tree_of v ≡ headed h (tree_data_of (held.Struct fields))) → Spelled room (call_then c sc) r
record_spelled h c sc fields r is fits (fields_added more whole reads) t =
    headed_spelled h (held.Struct fields) r (tree_data_of-Struct fields ∙ ap (λ fs. tree.named (fields_view fs)) whole) (record_makes {h = h} c sc is fits reads) t

-- the same of values by place
pub series_spelled : (h : Head) {levels room : ℕ} (c : Event) (sc : Script) (values : Vec NamedValue Global) (r : Result NamedValue Unmade) {u : Unit {0}}
    → token.token_of c ≡ token.open_series (token.series_head h) → suc levels ≡ room → AddsItems token.tuple_field levels sc [] values.items (Ok u)
    → IfOk r (λ v. tree_of v ≡ headed h (tree_data_of (held.Tuple values))) → Spelled room (call_then c sc) r
series_spelled h c sc values r is fits (items_added more whole reads) t =
    headed_spelled h (held.Tuple values) r (tree_data_of-Tuple values ∙ ap (λ vs. tree.many (trees_view vs)) whole)
    (series_makes {r = token.series_head h} c sc is fits reads) t

-- and of the elements of a tuple
pub elements_spelled : {levels room : ℕ} (c : Event) (sc : Script) (values : Vec NamedValue Global) {u : Unit {0}}
    → token.token_of c ≡ token.open_series token.series_tuple → suc levels ≡ room → AddsItems token.element levels sc [] values.items (Ok u)
    → Spelled room (call_then c sc) (Ok (value.Tuple values))
elements_spelled {levels} {room} c sc values is fits (items_added more whole reads) =
    made (subst (λ t. Makes room (call_then c sc) t) (sym (tree_of-Tuple values ∙ ap (λ vs. tree.tuple (trees_view vs)) whole))
    (series_makes {r = token.series_tuple} c sc is fits reads))

-- a loop over what is made: what can be added to the rest can be added to all

-- one more
pub zip_next : {A B : Type 0} (R : A → B → Type 0) (xs all : List A) {x : A} {y : B} (ys : List B)
    → ((zs : List B) → AllZip R (x ∷ xs) zs → AllZip R all (ys ++ zs)) → R x y → (zs : List B) → AllZip R xs zs → AllZip R all ((ys ++ y ∷ []) ++ zs)
zip_next R xs all {x} {y} ys before r zs each = rw (append_assoc ys (y ∷ []) zs) (before (y ∷ zs) (r, each))

-- the end
pub zip_end : {A B : Type 0} (R : A → B → Type 0) (all : List A) (ys : List B) → ((zs : List B) → AllZip R [] zs → AllZip R all (ys ++ zs)) → AllZip R all ys
zip_end R all ys before = subst (λ zs. AllZip R all zs) (append-nil ys) (before [] tt)

pub ruleset making = (unit_spelled, bool_spelled, number_spelled, char_spelled, text_spelled, none_spelled, some_spelled, unmade, unmade_exit, fields_unmade, fields_exit, items_unmade, items_exit)
