-- What contracts see of a deserializer.
use Rattle.content_tree.specs.Values.Text.{text_of}
use Rattle.content_tree.specs.Values.Value.{tree_of}
use Rattle.content_de.specs.Sources.Origin.{Origin, of_tree, of_identifier, Flags, Subject}
use Rattle.content_de.specs.declared.source.Source.{Source}
use Rattle.content_de.specs.declared.source.Source.TheVariants as source
use Rattle.content_de.specs.declared.source.Flags as read
use Rattle.content_de.specs.declared.deserializer.Deserializer.{Deserializer}

-- what contracts see of a source
abbrev pub origin_of : Source → Origin
origin_of (source.Tree v) = of_tree (tree_of v)
origin_of (source.Identifier n i) = of_identifier (text_of n) i

-- the flags
abbrev pub flags_of : read.Flags → Flags
flags_of s = record { human_readable = s.human_readable; coerces = s.coerces; buffered = s.buffered }

-- what contracts see of a deserializer
abbrev pub subject : Deserializer → Subject
subject d = record { origin = origin_of d.source; flags = flags_of d.flags }
