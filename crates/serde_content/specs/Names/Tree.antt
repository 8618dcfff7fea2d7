-- The trees, what a struct or a variant holds, and the lists in them.
pub use Rattle.content_tree.specs.Values.Tree.{unit, boolean, number, character, text, octets, seq}
pub use Rattle.content_tree.specs.Values.Tree.{map, absent, present, structure, enumeration, tuple}
pub use Rattle.content_tree.specs.Values.Tree.{TreeData, no_data, one, many, named}
pub use Rattle.content_tree.specs.Values.Tree.{Trees, no_trees, tree_then}
pub use Rattle.content_tree.specs.Values.Tree.{Pairs, no_pairs, pair_then}
pub use Rattle.content_tree.specs.Values.Tree.{Fields, no_fields, field_then}
