-- What contracts of the crates below are read by.
pub use Rattle.content_tree.specs.Values.Tree.{Tree}
pub use Rattle.content_tree.specs.Values.Value.{tree_of}
pub use Rattle.content_tree.specs.Images.Image.{image}
pub use Rattle.content_tree.specs.Printed.Images.{printed}
pub use Rattle.content_tree.specs.Printed.Errors.{kind_text, error_text}
pub use Rattle.content_tree.specs.Errors.Kind.{kind_of}
pub use Rattle.content_tree.specs.declared.error.Error.{Error}
pub use Rattle.content_tree.specs.declared.error.ErrorKind.{ErrorKind}
pub use Rattle.content_ser.specs.Calls.Call.{event_of, events_of}
pub use Rattle.content_ser.specs.Calls.Event.{Event}
pub use Rattle.content_ser.specs.declared.call.Call.{Call}
pub use Rattle.content_tree.specs.declared.value.NamedValue.{NamedValue}
pub use Rattle.content_ser.specs.Grammar.Spells.{SpellsWhole, IsWhole, IsViable}
pub use Rattle.content_ser.specs.Grammar.Depth.{IsLimit, SpellsWithin, IsWholeWithin, IsViableWithin}
pub use Rattle.content_build.specs.Answers.{IsAnswer, IsRefusal, IsAnswerWithin, IsRefusalWithin}
pub use Rattle.content_build.specs.declared.calls_error.CallsError.{CallsError}
pub use Rattle.content_build.specs.Builder.{seen_of, HasTaken, AnswersNext, AnswersEnd}
pub use Rattle.content_build.specs.declared.builder.Builder.{Builder}
pub use Rattle.content_tree.specs.Errors.Kind.{IsOutOfMemory, IsCustomOrMemory}
pub use Rattle.content_tree.specs.Errors.Cause.{Cause}
pub use Rattle.content_tree.specs.Errors.Where.{places, IsInside, IsNew}
pub use Rattle.content_tree.specs.Values.Value.{trees_view, pairs_view, fields_view}
pub use Rattle.content_tree.specs.Values.Value.{trees_of, pairs_of}
pub use Rattle.content_ser.specs.Scripts.Script.{Script, calls_of, stop_of}
pub use Rattle.content_de.specs.Sources.Deserializer.{subject}
pub use Rattle.content_de.specs.Sources.Origin.{no_flags, tree_under}
pub use Rattle.content_de.specs.Outcomes.{cause}
pub use Rattle.content_de.specs.Reads.Read.{Reads}
pub use Rattle.content_tree.specs.Values.Tree.{unmarked}
pub use Rattle.content_tree.specs.Values.Value.{tree_data_of}
pub use Rattle.content_tree.specs.Values.Text.{Text, text_of, bytes_of, owned_text, static_name}
pub use Rattle.content_tree.specs.Values.Cases.{borrowed_text}
pub use Rattle.content_tree.specs.Values.Lookups.{lookup, lookup_text, or_else}
pub use Rattle.content_tree.specs.Values.Lookups.{boolean_in, number_in, value_in, character_in}
pub use Rattle.content_tree.specs.Values.Lookups.{text_in, bytes_in, items_in, pairs_in}
pub use Rattle.content_tree.specs.Values.Lookups.{last_value, last_field, field_in, is_text}
pub use Rattle.content_tree.specs.Values.Paths.{parts_of, path_of, index_of}
pub use Rattle.content_tree.specs.Values.Pointers.{pointer, leads, follow, lookup_index}
pub use Rattle.content_tree.specs.Values.Edits.{pushed, inserted, removed, entry_value}
pub use Rattle.content_tree.specs.Orders.Trees.{same_tree, tree_cmp}
pub use Rattle.content_ser.specs.Scripts.Script.{and_then}
pub use Rattle.content_ser.specs.Sending.Loose.{loose}
pub use Rattle.content_ser.specs.Sending.TreeScript.{script_of, loose_script}
pub use Rattle.content_ser.specs.Serializers.Step.{Step, run}
