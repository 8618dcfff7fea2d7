use Rattle.std.proofs.Common.{◌≡◌, ◌-◌, length, string_bytes}
use Rattle.content_json.specs.Inner.Strings.{rest_at}
use Rattle.content_json.proofs.read_strings.read_rest.Given as goal

abbrev pub invariant-loop : goal.invariant-loop
invariant-loop l = rest_at (length l.bytes - l.index) (string_bytes l.text) l.rest ≡ rest_at (length l.bytes) l.first l.bytes
