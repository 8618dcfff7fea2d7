use Rattle.std.proofs.Common.{◌≡◌, ◌∙◌, ap, string_bytes}
use Rattle.content_ser.specs.Sending.TreeScript.{owned_key_text}
use Rattle.content_ser.proofs.Walking.{stopped}
use Rattle.content_ser.proofs.send.key.send_key.Goals as goal

pub returns-in_ok-message-in-Owned : goal.returns-in_ok-message-in-Owned
returns-in_ok-message-in-Owned g c =
    let message = c.in_ok-message-in-Owned.message in
    let bytes : string_bytes message ≡ owned_key_text (string_bytes c.in-Owned.key) =
    c.in_ok-message-in-Owned.ensures ∙ ap owned_key_text c.as_str.ensures.value in
    rw c.in-Owned.is (stopped (owned_key_text (string_bytes c.in-Owned.key)) (message, c.from.ensures.0, bytes))
