-- What is a text passes the test.
use Rattle.std.proofs.Common.{◌≡◌, ℕ, ◌^◌, true, List, length}
use Rattle.std.specs.Str.{is_utf8}
use Rattle.std.proofs.lemmas.Bool.{and_from, lt-ltb}
use Rattle.std.proofs.lemmas.Str.{is_utf8-from_IsUtf8}
use Rattle.content_cbor.specs.Encoder.{is_text}
use Rattle.content_cbor.specs.Form.{IsText}

pub passes : (content : List ℕ) → IsText content → is_text content ≡ true
passes content is = and_from (is_utf8 content) _ (is_utf8-from_IsUtf8 content is.0) (lt-ltb (length content) (2 ^ 64) is.1)
