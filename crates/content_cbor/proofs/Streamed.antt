-- What an encoder has written after the calls of a tree.
use Rattle.std.proofs.Common.{◌≡◌, ℕ, zero, suc, ◌^◌, Bool, true, false, List, [], ◌∷◌, ◌++◌, length, Option, Some, None, refl, sym, ap, subst, ◌∙◌, append_assoc, append-nil, if◌then◌else◌, option_map, option_and_then, Ok}
use Rattle.std.specs.Str.{is_utf8}
use Rattle.std.proofs.lemmas.Str.{IsUtf8-from_is_utf8}
use Rattle.std.proofs.lemmas.Bool.{and_parts, ltb-true}
use Rattle.content_tree.specs.Values.Tree as tree
use Rattle.content_tree.specs.Values.Tree.{Tree, TreeData, Trees, Pairs, Fields, count}
use Rattle.content_ser.specs.Calls.Event.{Event}
use Rattle.content_ser.specs.Calls.Head.{Head, of_struct, of_variant, headed}
use Rattle.content_ser.specs.Grammar.Token as token
use Rattle.content_ser.specs.Grammar.Token.{Token, tokens, token_of, Wrap, wrapped, Series, series_tree, record_tree, ItemCall}
use Rattle.content_ser.specs.Grammar.Spells.{Spells, SpellsElements, SpellsMapItems, SpellsFields, MapItem, pairs, value_among, spells_leaf, spells_wrap, spells_series, spells_map, spells_record, elements_end, elements_more, items_end, items_key, items_value, items_entry, fields_end, fields_more}
use Rattle.content_ser.specs.Serializers.Step.{run}
use Rattle.content_ser.specs.Sending.TreeScript.{count_pairs, count_fields}
use Rattle.content_cbor.specs.Heads.{head}
use Rattle.content_cbor.specs.Item.{item, each_item, pair_items, field_items, text_item}
use Rattle.content_ser.specs.Scripts.Script.{Script, IsLawful, calls_of, stop_of}
use Rattle.content_ser.specs.Grammar.Spells.{SpellsWhole}
use Rattle.std.specs.declared.alloc.Global.{Global}
use Rattle.std.specs.declared.vec.Vec.{Vec}
use Rattle.content_cbor.specs.Encoded.{Encoded}
use Rattle.content_cbor.proofs.Coded.{codes_form}
use Rattle.content_cbor.specs.Form.{CodesForm, Fits, EachFits, PairsFit, FieldsFit, DataFits, IsText, IsLength}
use Rattle.content_cbor.specs.Encoder.{Written, nothing, with_bytes, is_length, is_text, is_leaf, is_head, head_bytes, begun, begun_under, announced, all_came, wrapping, listing, writes, length_said, step}
use Rattle.content_cbor.specs.declared.heads.Major.{Major}
use Rattle.content_cbor.specs.declared.heads.Major.TheVariants as major

-- ---- lists and options

abbrev first_of : Token → List Token → Token
first_of d [] = d
first_of d (k ∷ ks) = k

abbrev after_first : List Token → List Token
after_first [] = []
after_first (k ∷ ks) = ks

same_first : (k l : Token) (ks ls : List Token) → k ∷ ks ≡ l ∷ ls → k ≡ l
same_first k l ks ls e = ap (first_of k) e

same_rest : (k l : Token) (ks ls : List Token) → k ∷ ks ≡ l ∷ ls → ks ≡ ls
same_rest k l ks ls e = ap after_first e

-- the calls lead from the state, if there is one, to this one
abbrev Leads : Option Written → List Event → Written → Type 0
Leads o cs f = option_and_then (λ next. run step next cs) o ≡ Some f

passed : (b : Bool) (o : Option Written) (cs : List Event) (f : Written) → Leads (if b then o else None) cs f → (b ≡ true) × Leads o cs f
passed true o cs f l = (refl, l)
passed false o cs f l = absurd (cc)

-- ---- what fits

text_fits : (content : List ℕ) → is_text content ≡ true → IsText content
text_fits content e =
    let both = and_parts (is_utf8 content) (is_length (length content)) e in
    (IsUtf8-from_is_utf8 content both.0, ltb-true (length content) (2 ^ 64) both.1)

leaf_fits : (t : Tree) → is_leaf t ≡ true → Fits t
leaf_fits tree.unit e = tt
leaf_fits (tree.boolean b) e = tt
leaf_fits (tree.number n) e = e
leaf_fits (tree.character c) e = text_fits _ e
leaf_fits (tree.text t) e = text_fits t.content e
leaf_fits (tree.octets t) e = ltb-true (length t.content) (2 ^ 64) e
leaf_fits tree.absent e = tt
leaf_fits (tree.structure n tree.no_data) e = tt
leaf_fits (tree.enumeration n i v tree.no_data) e = (text_fits v.content e, tt)
leaf_fits (tree.seq ts) e = absurd (cc)
leaf_fits (tree.map ps) e = absurd (cc)
leaf_fits (tree.present t) e = absurd (cc)
leaf_fits (tree.tuple ts) e = absurd (cc)
leaf_fits (tree.structure n (tree.one t)) e = absurd (cc)
leaf_fits (tree.structure n (tree.many ts)) e = absurd (cc)
leaf_fits (tree.structure n (tree.named fs)) e = absurd (cc)
leaf_fits (tree.enumeration n i v (tree.one t)) e = absurd (cc)
leaf_fits (tree.enumeration n i v (tree.many ts)) e = absurd (cc)
leaf_fits (tree.enumeration n i v (tree.named fs)) e = absurd (cc)

head_fits : (h : Head) (d : TreeData) → is_head h ≡ true → DataFits d → Fits (headed h d)
head_fits (of_struct n) d e fits = fits
head_fits (of_variant n i v) d e fits = (text_fits v e, fits)

-- ---- what stands under names

pub one_item : (h : Head) (t : Tree) → head_bytes h ++ item t ≡ item (headed h (tree.one t))
one_item (of_struct n) t = refl
one_item (of_variant n i v) t = refl

pub many_item : (h : Head) (ts : Trees) → head_bytes h ++ (head major.Array (count ts) ++ each_item ts) ≡ item (headed h (tree.many ts))
many_item (of_struct n) ts = refl
many_item (of_variant n i v) ts = refl

pub named_item : (h : Head) (fs : Fields) → head_bytes h ++ (head major.Map (count_fields fs) ++ field_items fs) ≡ item (headed h (tree.named fs))
named_item (of_struct n) fs = refl
named_item (of_variant n i v) fs = refl

-- ---- one call

abbrev pub at : List ℕ → List ℕ → Written
at bs due = record { bytes = bs; due = due }

one_came : (bs : List ℕ) (n : ℕ) (due : List ℕ) (cs : List Event) (f : Written)
    → Leads (announced (at bs (n ∷ due))) cs f
    → (k : ℕ) × (n ≡ suc k) × (run step (at bs (k ∷ due)) cs ≡ Some f)
one_came bs (suc k) due cs f l = (k, refl, l)
one_came bs zero due cs f l = absurd (cc)

field_came : (key : List ℕ) (bs : List ℕ) (n : ℕ) (due : List ℕ) (cs : List Event) (f : Written)
    → Leads (option_map (with_bytes (text_item key)) (announced (at bs (n ∷ due)))) cs f
    → (k : ℕ) × (n ≡ suc k) × (run step (at (bs ++ text_item key) (k ∷ due)) cs ≡ Some f)
field_came key bs (suc k) due cs f l = (k, refl, l)
field_came key bs zero due cs f l = absurd (cc)

all_here : (bs : List ℕ) (n : ℕ) (due : List ℕ) (cs : List Event) (f : Written)
    → Leads (option_map (λ d. at bs d) (all_came (n ∷ due))) cs f
    → (n ≡ 0) × (run step (at (bs ++ []) due) cs ≡ Some f)
all_here bs zero due cs f l = (refl, subst (λ x. run step (at x due) cs ≡ Some f) (sym (append-nil bs)) l)
all_here bs (suc k) due cs f l = absurd (cc)

opens : (m : Major) (o : Option ℕ) (w : Written) (cs : List Event) (f : Written)
    → Leads (begun m o w) cs f
    → (n : ℕ) × IsLength n × (run step (at (w.bytes ++ head m n) (n ∷ w.due)) cs ≡ Some f)
opens m None w cs f l = absurd (cc)
opens m (Some n) w cs f l =
    let both = passed (is_length n) (Some (at (w.bytes ++ head m n) (n ∷ w.due))) cs f l in
    (n, ltb-true n (2 ^ 64) both.0, both.1)

-- ---- the calls of a tree

-- the calls write the tree's item, and those that come after have these tokens
abbrev Writes : List Event → Tree → List Token → Type 0
Writes cs t rest = (more : List Event) × (tokens more ≡ rest)
    × ((w f : Written) → run step w cs ≡ Some f → Fits t × (run step (with_bytes (item t) w) more ≡ Some f))

-- so many trees were due and have come
abbrev Each : Trees → ℕ → List ℕ → List ℕ → List Event → Written → Type 0
Each ts n bs due more f = (n ≡ count ts) × EachFits ts × (run step (at (bs ++ each_item ts) due) more ≡ Some f)

abbrev WritesEach : List Event → Trees → List Token → Type 0
WritesEach cs ts rest = (more : List Event) × (tokens more ≡ rest)
    × ((bs : List ℕ) (n : ℕ) (due : List ℕ) (f : Written) → run step (at bs (n ∷ due)) cs ≡ Some f → Each ts n bs due more f)

abbrev EachPair : Pairs → ℕ → List ℕ → List ℕ → List Event → Written → Type 0
EachPair ps n bs due more f = (n ≡ count_pairs ps) × PairsFit ps × (run step (at (bs ++ pair_items ps) due) more ≡ Some f)

abbrev WritesPairs : List Event → List MapItem → List Token → Type 0
WritesPairs cs items rest = (more : List Event) × (tokens more ≡ rest)
    × ((bs : List ℕ) (n : ℕ) (due : List ℕ) (f : Written) → run step (at bs (n ∷ due)) cs ≡ Some f
    → EachPair (pairs items) n bs due more f × ((v : Tree) → v ≡ value_among v items))

abbrev EachField : Fields → ℕ → List ℕ → List ℕ → List Event → Written → Type 0
EachField fs n bs due more f = (n ≡ count_fields fs) × FieldsFit fs × (run step (at (bs ++ field_items fs) due) more ≡ Some f)

abbrev WritesFields : List Event → Fields → List Token → Type 0
WritesFields cs fs rest = (more : List Event) × (tokens more ≡ rest)
    × ((bs : List ℕ) (n : ℕ) (due : List ℕ) (f : Written) → run step (at bs (n ∷ due)) cs ≡ Some f → EachField fs n bs due more f)

-- what leads on, with the bytes put otherwise
moved : (a b due : List ℕ) (cs : List Event) (f : Written) → a ≡ b → run step (at a due) cs ≡ Some f → run step (at b due) cs ≡ Some f
moved a b due cs f e r = subst (λ x. run step (at x due) cs ≡ Some f) e r

-- an array or a map of so many, where so many have come
whole : (m : Major) (w : Written) (n k : ℕ) (inside : List ℕ) (more : List Event) (f : Written) → n ≡ k
    → run step (at ((w.bytes ++ head m n) ++ inside) w.due) more ≡ Some f
    → run step (with_bytes (head m k ++ inside) w) more ≡ Some f
whole m w n k inside more f e r =
    moved _ _ w.due more f (append_assoc w.bytes (head m n) inside ∙ ap (λ x. w.bytes ++ (head m x ++ inside)) e) r

-- the same under names
whole_under : (h : Head) (m : Major) (w : Written) (n k : ℕ) (inside : List ℕ) (more : List Event) (f : Written) → n ≡ k
    → run step (at (((w.bytes ++ head_bytes h) ++ head m n) ++ inside) w.due) more ≡ Some f
    → run step (with_bytes (head_bytes h ++ (head m k ++ inside)) w) more ≡ Some f
whole_under h m w n k inside more f e r =
    moved _ _ w.due more f (append_assoc w.bytes (head_bytes h) (head m k ++ inside)) (whole m (with_bytes (head_bytes h) w) n k inside more f e r)

wrapped_one : (x : Wrap) (t : Tree) (cs more : List Event) (w f : Written)
    → ((v : Written) → run step v cs ≡ Some f → Fits t × (run step (with_bytes (item t) v) more ≡ Some f))
    → Leads (wrapping x w) cs f
    → Fits (wrapped x t) × (run step (with_bytes (item (wrapped x t)) w) more ≡ Some f)
wrapped_one token.in_some t cs more w f go l = go w l
wrapped_one (token.in_head h) t cs more w f go l =
    let both = passed (is_head h) (Some (with_bytes (head_bytes h) w)) cs f l in
    let inside = go (with_bytes (head_bytes h) w) both.1 in
    (head_fits h (tree.one t) both.0 inside.0, moved _ _ w.due more f (append_assoc w.bytes (head_bytes h) (item t) ∙ ap (λ x. w.bytes ++ x) (one_item h t)) inside.1)

listed : (r : Series) (o : Option ℕ) (ts : Trees) (cs more : List Event) (w f : Written)
    → ((bs : List ℕ) (n : ℕ) (due : List ℕ) → run step (at bs (n ∷ due)) cs ≡ Some f → Each ts n bs due more f)
    → Leads (listing r o w) cs f
    → Fits (series_tree r ts) × (run step (with_bytes (item (series_tree r ts)) w) more ≡ Some f)
listed token.series_seq o ts cs more w f go l =
    let start = opens major.Array o w cs f l in
    let inside = go (w.bytes ++ head major.Array start.0) start.0 w.due start.2 in
    ((subst IsLength inside.0 start.1, inside.1), whole major.Array w start.0 (count ts) (each_item ts) more f inside.0 inside.2)
listed token.series_tuple o ts cs more w f go l =
    let start = opens major.Array o w cs f l in
    let inside = go (w.bytes ++ head major.Array start.0) start.0 w.due start.2 in
    ((subst IsLength inside.0 start.1, inside.1), whole major.Array w start.0 (count ts) (each_item ts) more f inside.0 inside.2)
listed (token.series_head h) o ts cs more w f go l =
    let both = passed (is_head h) (begun major.Array o (with_bytes (head_bytes h) w)) cs f l in
    let start = opens major.Array o (with_bytes (head_bytes h) w) cs f both.1 in
    let inside = go ((w.bytes ++ head_bytes h) ++ head major.Array start.0) start.0 w.due start.2 in (
      head_fits h (tree.many ts) both.0 (subst IsLength inside.0 start.1, inside.1),
      subst (λ x. run step (with_bytes x w) more ≡ Some f) (many_item h ts) (whole_under h major.Array w start.0 (count ts) (each_item ts) more f inside.0 inside.2),
    )

recorded : (h : Head) (o : Option ℕ) (fs : Fields) (cs more : List Event) (w f : Written)
    → ((bs : List ℕ) (n : ℕ) (due : List ℕ) → run step (at bs (n ∷ due)) cs ≡ Some f → EachField fs n bs due more f)
    → Leads (begun_under h major.Map o w) cs f
    → Fits (record_tree h fs) × (run step (with_bytes (item (record_tree h fs)) w) more ≡ Some f)
recorded h o fs cs more w f go l =
    let both = passed (is_head h) (begun major.Map o (with_bytes (head_bytes h) w)) cs f l in
    let start = opens major.Map o (with_bytes (head_bytes h) w) cs f both.1 in
    let inside = go ((w.bytes ++ head_bytes h) ++ head major.Map start.0) start.0 w.due start.2 in (
      head_fits h (tree.named fs) both.0 (subst IsLength inside.0 start.1, inside.1),
      subst (λ x. run step (with_bytes x w) more ≡ Some f) (named_item h fs) (whole_under h major.Map w start.0 (count_fields fs) (field_items fs) more f inside.0 inside.2),
    )

mapped : (o : Option ℕ) (ps : Pairs) (cs more : List Event) (w f : Written)
    → ((bs : List ℕ) (n : ℕ) (due : List ℕ) → run step (at bs (n ∷ due)) cs ≡ Some f → EachPair ps n bs due more f)
    → Leads (begun major.Map o w) cs f
    → Fits (tree.map ps) × (run step (with_bytes (item (tree.map ps)) w) more ≡ Some f)
mapped o ps cs more w f go l =
    let start = opens major.Map o w cs f l in
    let inside = go (w.bytes ++ head major.Map start.0) start.0 w.due start.2 in
    ((subst IsLength inside.0 start.1, inside.1), whole major.Map w start.0 (count_pairs ps) (pair_items ps) more f inside.0 inside.2)

-- the first call has this token
abbrev Begins : Token → Event → List Event → Written → Written → Type 0
Begins k c cs w f = Leads (writes k (length_said c) w) cs f

begins : (k : Token) (c : Event) (cs : List Event) (ks : List Token) (w f : Written) → tokens (c ∷ cs) ≡ k ∷ ks → run step w (c ∷ cs) ≡ Some f → Begins k c cs w f
begins k c cs ks w f e r = subst (λ x. Leads (writes x (length_said c) w) cs f) (same_first _ _ _ _ e) r

mutual
  pub written : {calls rest : List Token} {t : Tree} → Spells calls t rest → (cs : List Event) → tokens cs ≡ calls → Writes cs t rest
  written spells_leaf [] e = absurd (cc)
  written {rest = rest} {t = t} spells_leaf (c ∷ cs) e = (
    cs,
    same_rest _ _ _ _ e,
    λ w f r.
        let both = passed (is_leaf t) (Some (with_bytes (item t) w)) cs f (begins (token.leaf t) c cs rest w f e r) in
        (leaf_fits t both.0, both.1),
  )
  written (spells_wrap s) [] e = absurd (cc)
  written {rest = rest} (spells_wrap {w = x} {calls = calls} {t = t} s) (c ∷ cs) e =
      let inner = written s cs (same_rest _ _ _ _ e) in
      (inner.0, inner.1, λ w f r. wrapped_one x t cs inner.0 w f (λ v. inner.2 v f) (begins (token.wrap x) c cs calls w f e r))
  written (spells_series es) [] e = absurd (cc)
  written (spells_series {r = r} {calls = calls} {ts = ts} es) (c ∷ cs) e =
      let inner = written_each es cs (same_rest _ _ _ _ e) in
      (inner.0, inner.1, λ w f l. listed r (length_said c) ts cs inner.0 w f (λ bs n due. inner.2 bs n due f) (begins (token.open_series r) c cs calls w f e l))
  written (spells_map is) [] e = absurd (cc)
  written (spells_map {calls = calls} {items = items} is) (c ∷ cs) e =
      let inner = written_pairs is cs (same_rest _ _ _ _ e) in
      (inner.0, inner.1, λ w f l. mapped (length_said c) (pairs items) cs inner.0 w f (λ bs n due h. (inner.2 bs n due f h).0) (begins token.open_map c cs calls w f e l))
  written (spells_record fs) [] e = absurd (cc)
  written (spells_record {h = h} {calls = calls} {fs = gs} fs) (c ∷ cs) e =
      let inner = written_fields fs cs (same_rest _ _ _ _ e) in
      (inner.0, inner.1, λ w f l. recorded h (length_said c) gs cs inner.0 w f (λ bs n due. inner.2 bs n due f) (begins (token.open_record h) c cs calls w f e l))

  pub written_each : {m : ItemCall} {calls rest : List Token} {ts : Trees} → SpellsElements m calls ts rest → (cs : List Event) → tokens cs ≡ calls → WritesEach cs ts rest
  written_each elements_end [] e = absurd (cc)
  written_each {rest = rest} elements_end (c ∷ cs) e = (
    cs,
    same_rest _ _ _ _ e,
    λ bs n due f r.
        let last = all_here bs n due cs f (begins token.finish c cs rest (at bs (n ∷ due)) f e r) in
        (last.0, tt, last.1),
  )
  written_each (elements_more s es) [] e = absurd (cc)
  written_each {m = m} (elements_more {calls = calls} {t = t} {ts = ts} s es) (c ∷ cs) e =
      let first = written s cs (same_rest _ _ _ _ e) in
      let others = written_each es first.0 first.1 in (
        others.0,
        others.1,
        λ bs n due f r.
            let one = one_came bs n due cs f (begins (token.item m) c cs calls (at bs (n ∷ due)) f e r) in
            let this = first.2 (at bs (one.0 ∷ due)) f one.2 in
            let those = others.2 (bs ++ item t) one.0 due f this.1 in
            (one.1 ∙ ap suc those.0, (this.0, those.1), moved _ _ due others.0 f (append_assoc bs (item t) (each_item ts)) those.2),
      )

  pub written_pairs : {calls rest : List Token} {items : List MapItem} → SpellsMapItems calls items rest → (cs : List Event) → tokens cs ≡ calls → WritesPairs cs items rest
  written_pairs items_end [] e = absurd (cc)
  written_pairs {rest = rest} items_end (c ∷ cs) e = (
    cs,
    same_rest _ _ _ _ e,
    λ bs n due f r.
        let last = all_here bs n due cs f (begins token.finish c cs rest (at bs (n ∷ due)) f e r) in
        ((last.0, tt, last.1), λ v. refl),
  )
  written_pairs (items_key s is) [] e = absurd (cc)
  written_pairs (items_key {calls = calls} s is) (c ∷ cs) e =
      let key = written s cs (same_rest _ _ _ _ e) in
      let others = written_pairs is key.0 key.1 in
      (others.0, others.1, λ bs n due f r. let l = begins token.key c cs calls (at bs (n ∷ due)) f e r in absurd (cc))
  written_pairs (items_value s is) [] e = absurd (cc)
  written_pairs (items_value {calls = calls} s is) (c ∷ cs) e =
      let value = written s cs (same_rest _ _ _ _ e) in
      let others = written_pairs is value.0 value.1 in
      (others.0, others.1, λ bs n due f r. let l = begins token.value c cs calls (at bs (n ∷ due)) f e r in absurd (cc))
  written_pairs (items_entry sk sv is) [] e = absurd (cc)
  written_pairs (items_entry {calls = calls} {k = k} {v = v} {items = items} sk sv is) (c ∷ cs) e =
      let key = written sk cs (same_rest _ _ _ _ e) in
      let value = written sv key.0 key.1 in
      let others = written_pairs is value.0 value.1 in (
        others.0,
        others.1,
        λ bs n due f r.
            let one = one_came bs n due cs f (begins token.entry c cs calls (at bs (n ∷ due)) f e r) in
            let this = key.2 (at bs (one.0 ∷ due)) f one.2 in
            let its = value.2 (at (bs ++ item k) (one.0 ∷ due)) f this.1 in
            let those = others.2 ((bs ++ item k) ++ item v) one.0 due f its.1 in
            let here : EachPair (tree.pair_then k v (pairs items)) n bs due others.0 f = (
              one.1 ∙ ap suc those.0.0,
              (this.0, its.0, those.0.1),
              moved _ _ due others.0 f (ap (λ x. x ++ pair_items (pairs items)) (append_assoc bs (item k) (item v)) ∙ append_assoc bs (item k ++ item v) (pair_items (pairs items))) those.0.2,
            ) in
            (subst (λ x. EachPair (tree.pair_then k x (pairs items)) n bs due others.0 f) (those.1 v) here, λ u. refl),
      )

  pub written_fields : {calls rest : List Token} {fs : Fields} → SpellsFields calls fs rest → (cs : List Event) → tokens cs ≡ calls → WritesFields cs fs rest
  written_fields fields_end [] e = absurd (cc)
  written_fields {rest = rest} fields_end (c ∷ cs) e = (
    cs,
    same_rest _ _ _ _ e,
    λ bs n due f r.
        let last = all_here bs n due cs f (begins token.finish c cs rest (at bs (n ∷ due)) f e r) in
        (last.0, tt, last.1),
  )
  written_fields (fields_more s more) [] e = absurd (cc)
  written_fields (fields_more {calls = calls} {k = k} {t = t} {fs = fs} s more) (c ∷ cs) e =
      let first = written s cs (same_rest _ _ _ _ e) in
      let others = written_fields more first.0 first.1 in (
        others.0,
        others.1,
        λ bs n due f r.
            let both = passed (is_text k) (option_map (with_bytes (text_item k)) (announced (at bs (n ∷ due)))) cs f (begins (token.field k) c cs calls (at bs (n ∷ due)) f e r) in
            let one = field_came k bs n due cs f both.1 in
            let this = first.2 (at (bs ++ text_item k) (one.0 ∷ due)) f one.2 in
            let those = others.2 ((bs ++ text_item k) ++ item t) one.0 due f this.1 in (
              one.1 ∙ ap suc those.0,
              (text_fits k both.0, this.0, those.1),
              moved _ _ due others.0 f (ap (λ x. x ++ field_items fs) (append_assoc bs (text_item k) (item t)) ∙ append_assoc bs (text_item k ++ item t) (field_items fs)) those.2,
            ),
      )

-- ---- a whole tree

none_left : (more : List Event) → tokens more ≡ [] → more ≡ []
none_left [] e = refl
none_left (c ∷ cs) e = absurd (cc)

ends_as : (w f : Written) → Some w ≡ Some f → f ≡ w
ends_as w f e = cc

pub whole_written : (calls : List Event) (t : Tree) (f : Written) → SpellsWhole calls t → run step nothing calls ≡ Some f
    → (f ≡ record { bytes = item t; due = [] }) × Fits t × CodesForm t f.bytes
whole_written calls t f s r =
    let w = written s calls refl in
    let after = w.2 nothing f r in
    let is = ends_as (at (item t) []) f (subst (λ more. run step (at (item t) []) more ≡ Some f) (none_left w.0 w.1) after.1) in
    (is, after.0, subst (λ x. CodesForm t x.bytes) (sym is) (codes_form t after.0))

-- a script that was sent whole
pub sent_whole : (sc : Script) (f : Written) (v : Vec ℕ Global) → IsLawful sc → stop_of sc ≡ None → run step nothing (calls_of sc) ≡ Some f → v.items ≡ f.bytes → Encoded sc (Ok v)
sent_whole sc f v lawful none r is =
    let whole = lawful.whole none in
    let w = whole_written (calls_of sc) whole.0 f whole.1 r in
    (whole.0, none, whole.1, w.1, is ∙ ap (λ x. x.bytes) w.0, subst (CodesForm whole.0) (sym is) w.2)
