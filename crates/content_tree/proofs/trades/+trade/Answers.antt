use Rattle.std.proofs.Common.{◌≡◌, ◌<◌, ◌≤◌, ◌∙◌, ap, sym, refl, subst, length, set, arith, rules, false, IfSome}
use Rattle.std.specs.Box.{with_value}
use Rattle.content_tree.proofs.Trading.{cut_inside, end_inside}
use Rattle.content_tree.proofs.Views.{tree_of-Struct, tree_of-Enum, struct_tree-is, enum_tree-is}
use Rattle.content_tree.specs.Values.Paths.{index_of}
use Rattle.content_tree.specs.Values.Text.{text_of}
use Rattle.content_tree.specs.declared.value.NamedData.{NamedData}
use Rattle.content_tree.specs.declared.value.NamedStruct.{out-NamedStruct}
use Rattle.content_tree.specs.declared.value.NamedEnum.{out-NamedEnum}
use Rattle.content_tree.proofs.Trading.{trade_cut, item_traded, item_untraded, entry_traded, entry_untraded, field_traded, field_untraded}
use Rattle.content_tree.proofs.Trading.{seq_traded, tuple_traded, map_traded, values_traded, fields_traded, struct_traded, variant_traded, variant_untraded}
use Rattle.content_tree.specs.Values.Trades.{IsTraded, traded, traded_in, traded_part, traded_entry, traded_field, is_one}
use Rattle.content_tree.specs.Values.Value.{tree_of, tree_data_of, struct_tree, enum_tree, pairs_view, fields_view}
use Rattle.content_tree.specs.declared.cow.CowStr.{CowStr}
use Rattle.content_tree.specs.declared.value.NamedValue as value
use Rattle.content_tree.specs.declared.value.NamedValue.{NamedValue}
use Rattle.content_tree.specs.declared.value.NamedData as held
use Rattle.content_tree.proofs.trades.+trade.Goals as goal

pub trade-returns-in-Some : goal.trade-returns-in-Some
trade-returns-in-Some t c =
    let place = c.args.place.now in
    let same = trade_cut c.args.path.now c.in-Some.piece.now c.in-Some.rest.now (tree_of c.args.value) (tree_of place) c.in-Some.ensures.parts in
    subst (λ e. IsTraded e (tree_of place) c.args.value (tree_of c.trade_in.new.place) c.trade_in.result) (sym same) c.trade_in.ensures

pub trade_item-returns-in-Some : goal.trade_item-returns-in-Some
trade_item-returns-in-Some t c =
    let vs = c.args.items.now.items in
    let less : c.in-Some.index < length vs = omega (arith, c.in-Some.ensures.1, c.len.ensures) in
    item_traded c.args.piece.now c.args.rest.now c.args.value vs c.in-Some.index c.index_mut.result.now c.trade.new.place c.trade.result c.in-Some.ensures.0 less
    (subst (λ (x : NamedValue). IsTraded (traded c.args.rest.now (tree_of c.args.value) (tree_of x)) (tree_of x) c.args.value (tree_of c.trade.new.place) c.trade.result)
    c.index_mut.ensures.value c.trade.ensures)

pub trade_item-returns-in-None : goal.trade_item-returns-in-None
trade_item-returns-in-None t c =
    let same : c.len.result ≡ length c.args.items.now.items = omega (arith, c.len.ensures) in
    item_untraded c.args.piece.now c.args.rest.now c.args.value c.args.items.now.items
    (subst (λ n. IfSome (index_of c.args.piece.now) (λ i. n ≤ i)) same c.in-None.ensures)

pub trade_entry-returns-in-Some : goal.trade_entry-returns-in-Some
trade_entry-returns-in-Some t c =
    let ps = c.args.pairs.now.items in
    let v = c.args.value in
    let i = c.in-Some.index in
    let w = c.trade.new.place in
    let r = c.trade.result in
    let last = rw c.deref.ensures.value at c.in-Some.ensures in
    let inner = subst (λ (p : NamedValue × NamedValue). IsTraded (traded c.args.rest.now (tree_of v) (tree_of p.1)) (tree_of p.1) v (tree_of w) r)
    c.index_mut.ensures.value c.trade.ensures in
    subst (λ (p : NamedValue × NamedValue). IsTraded (traded_entry c.args.piece.now c.args.rest.now (tree_of v) (pairs_view ps)) (pairs_view ps) v (pairs_view (set ps i (p.0, w))) r)
    (sym c.index_mut.ensures.value) (entry_traded c.args.piece.now c.args.rest.now v ps i c.index_mut.result.now w r last inner)

pub trade_entry-returns-in-None : goal.trade_entry-returns-in-None
trade_entry-returns-in-None t c =
    let none = rw c.deref.ensures.value at c.in-None.ensures in
    entry_untraded c.args.piece.now c.args.rest.now c.args.value c.args.pairs.now.items none

pub trade_field-returns-in-Some : goal.trade_field-returns-in-Some
trade_field-returns-in-Some t c =
    let fs = c.args.fields.now.items in
    let v = c.args.value in
    let i = c.in-Some.index in
    let w = c.trade.new.place in
    let r = c.trade.result in
    let last = rw c.deref.ensures.value at c.in-Some.ensures in
    let inner = subst (λ (p : CowStr × NamedValue). IsTraded (traded c.args.rest.now (tree_of v) (tree_of p.1)) (tree_of p.1) v (tree_of w) r)
    c.index_mut.ensures.value c.trade.ensures in
    subst (λ (p : CowStr × NamedValue). IsTraded (traded_field c.args.piece.now c.args.rest.now (tree_of v) (fields_view fs)) (fields_view fs) v (fields_view (set fs i (p.0, w))) r)
    (sym c.index_mut.ensures.value) (field_traded c.args.piece.now c.args.rest.now v fs i c.index_mut.result.now w r last inner)

pub trade_field-returns-in-None : goal.trade_field-returns-in-None
trade_field-returns-in-None t c =
    let none = rw c.deref.ensures.value at c.in-None.ensures in
    field_untraded c.args.piece.now c.args.rest.now c.args.value c.args.fields.now.items none

pub trade_in-returns-in-Seq : goal.trade_in-returns-in-Seq
trade_in-returns-in-Seq t c =
    let v = c.args.value in
    let call = c.trade_item-traded in
    let is : c.args.place.now ≡ value.Seq c.in-Seq.items = cc in
    subst (λ (x : NamedValue). IsTraded (traded_in c.args.piece.now c.args.rest.now (tree_of v) (tree_of x)) (tree_of x) v (tree_of (value.Seq call.new.items)) call.result)
    (sym is) (seq_traded c.args.piece.now c.args.rest.now v c.in-Seq.items call.new.items call.result call.ensures)

pub trade_in-returns-in-Tuple : goal.trade_in-returns-in-Tuple
trade_in-returns-in-Tuple t c =
    let v = c.args.value in
    let call = c.trade_item-traded-in-Tuple in
    let is : c.args.place.now ≡ value.Tuple c.in-Tuple.items = cc in
    subst (λ (x : NamedValue). IsTraded (traded_in c.args.piece.now c.args.rest.now (tree_of v) (tree_of x)) (tree_of x) v (tree_of (value.Tuple call.new.items)) call.result)
    (sym is) (tuple_traded c.args.piece.now c.args.rest.now v c.in-Tuple.items call.new.items call.result call.ensures)

pub trade_in-returns-in-Map : goal.trade_in-returns-in-Map
trade_in-returns-in-Map t c =
    let v = c.args.value in
    let call = c.trade_entry-traded in
    let is : c.args.place.now ≡ value.Map c.in-Map.pairs = cc in
    subst (λ (x : NamedValue). IsTraded (traded_in c.args.piece.now c.args.rest.now (tree_of v) (tree_of x)) (tree_of x) v (tree_of (value.Map call.new.pairs)) call.result)
    (sym is) (map_traded c.args.piece.now c.args.rest.now v c.in-Map.pairs call.new.pairs call.result call.ensures)

pub trade_in-returns-in-Struct : goal.trade_in-returns-in-Struct
trade_in-returns-in-Struct t c =
    let v = c.args.value in
    let call = c.trade_struct-traded in
    let before = c.in-Struct.node in
    let after = with_value before call.new.node in
    let is : c.args.place.now ≡ value.Struct before = cc in
    let own = subst (λ x. IsTraded (traded_in c.args.piece.now c.args.rest.now (tree_of v) (struct_tree x)) (struct_tree x) v (struct_tree call.new.node) call.result) c.deref_mut.ensures.value call.ensures in
    subst (λ (x : NamedValue). IsTraded (traded_in c.args.piece.now c.args.rest.now (tree_of v) (tree_of x)) (tree_of x) v (tree_of (value.Struct after)) call.result)
    (sym is) (rw (tree_of-Struct before, tree_of-Struct after) own)

pub trade_in-returns-in-Enum : goal.trade_in-returns-in-Enum
trade_in-returns-in-Enum t c =
    let v = c.args.value in
    let call = c.trade_variant-traded in
    let before = c.in-Enum.node in
    let after = with_value before call.new.node in
    let is : c.args.place.now ≡ value.Enum before = cc in
    let own = subst (λ x. IsTraded (traded_in c.args.piece.now c.args.rest.now (tree_of v) (enum_tree x)) (enum_tree x) v (enum_tree call.new.node) call.result) c.deref_mut-in-Enum.ensures.value call.ensures in
    subst (λ (x : NamedValue). IsTraded (traded_in c.args.piece.now c.args.rest.now (tree_of v) (tree_of x)) (tree_of x) v (tree_of (value.Enum after)) call.result)
    (sym is) (rw (tree_of-Enum before, tree_of-Enum after) own)

pub trade_further-returns-in-Some : goal.trade_further-returns-in-Some
trade_further-returns-in-Some t c =
    let d = tree_data_of c.args.inside.now in
    let other : is_one d ≡ false = first_of (assumption c.requires, cc, search (rules, c.requires)) in
    let same = cut_inside c.args.path.now c.in-Some.piece.now c.in-Some.rest.now (tree_of c.args.value) d other c.in-Some.ensures.parts in
    subst (λ e. IsTraded e d c.args.value (tree_data_of c.trade_part.new.inside) c.trade_part.result) (sym same) c.trade_part.ensures

pub trade_further-returns-in-None : goal.trade_further-returns-in-None
trade_further-returns-in-None t c =
    let other : is_one (tree_data_of c.args.inside.now) ≡ false = first_of (assumption c.requires, cc, search (rules, c.requires)) in
    (end_inside c.args.path.now (tree_of c.args.value) (tree_data_of c.args.inside.now) other c.in-None.ensures.parts, refl, refl)

pub trade_part-returns-in-Tuple : goal.trade_part-returns-in-Tuple
trade_part-returns-in-Tuple t c =
    let v = c.args.value in
    let call = c.trade_item-traded in
    let is : c.args.inside.now ≡ held.Tuple c.in-Tuple.values = cc in
    subst (λ (x : NamedData). IsTraded (traded_part c.args.piece.now c.args.rest.now (tree_of v) (tree_data_of x)) (tree_data_of x) v (tree_data_of (held.Tuple call.new.items)) call.result)
    (sym is) (values_traded c.args.piece.now c.args.rest.now v c.in-Tuple.values call.new.items call.result call.ensures)

pub trade_part-returns-in-Struct : goal.trade_part-returns-in-Struct
trade_part-returns-in-Struct t c =
    let v = c.args.value in
    let call = c.trade_field-traded in
    let is : c.args.inside.now ≡ held.Struct c.in-Struct.fields = cc in
    subst (λ (x : NamedData). IsTraded (traded_part c.args.piece.now c.args.rest.now (tree_of v) (tree_data_of x)) (tree_data_of x) v (tree_data_of (held.Struct call.new.fields)) call.result)
    (sym is) (fields_traded c.args.piece.now c.args.rest.now v c.in-Struct.fields call.new.fields call.result call.ensures)

pub trade_struct-returns : goal.trade_struct-returns
trade_struct-returns t c =
    let node = c.args.node.now in
    rw (struct_tree-is node, struct_tree-is _)
    (struct_traded c.args.piece.now c.args.rest.now c.args.value (text_of (out-NamedStruct node).name) (tree_data_of (out-NamedStruct node).«data») (tree_data_of c.trade_part.new.inside) c.trade_part.result c.trade_part.ensures)

pub trade_variant-returns-then-spells : goal.trade_variant-returns-then-spells
trade_variant-returns-then-spells t c =
    let node = c.args.node.now in
    let e = out-NamedEnum node in
    let is = rw c.as_str.ensures at c.if-spells.ensures in
    rw (enum_tree-is node, enum_tree-is _)
    (variant_traded c.args.piece.now c.args.rest.now c.args.value (text_of e.name) e.variant_index (text_of e.variant) (tree_data_of e.«data») (tree_data_of c.trade_inside.new.inside) c.trade_inside.result
    (sym is) c.trade_inside.ensures)

pub trade_variant-returns-else-spells : goal.trade_variant-returns-else-spells
trade_variant-returns-else-spells t c =
    let node = c.args.node.now in
    let e = out-NamedEnum node in
    let is = rw c.as_str.ensures at c.if-spells.ensures in
    rw (enum_tree-is node)
    (variant_untraded c.args.piece.now c.args.rest.now c.args.value (text_of e.name) e.variant_index (text_of e.variant) (tree_data_of e.«data») (sym is))
