use Rattle.std.proofs.Common.{◌≡◌, drop}
use Rattle.content_json.specs.Inner.Reading.{word_at}
use Rattle.content_json.proofs.decoding.read_word.Given as goal

abbrev pub invariant-loop-due : goal.invariant-loop-due
invariant-loop-due l = word_at (drop l.due-index l.word) l.rest ≡ word_at l.word l.bytes
