use Rattle.std.proofs.Common.{◌≡◌, ◌++◌, ◌∙◌, ap, sym, length, string_bytes, Ok, Err, drop, rules}
use Rattle.std.specs.Prelude.{encode_utf8}
use Rattle.std.proofs.lemmas.Result.{err_from_is_err_and}
use Rattle.content_json.specs.Inner.Strings.{escape_at}
use Rattle.content_json.proofs.Runs.{rest_ended, rest_ends, rest_escape_fails, rest_goes_on, rest_run_fails, rest_wrong}
use Rattle.content_json.proofs.read_strings.read_rest.Goals as goal

pub returns-in-Some : goal.returns-in-Some
returns-in-Some c =
    let l = c.loop in
    rest_ends (length c.args.bytes.now) l.index (string_bytes l.text) l.rest.now _ c.loop-test.true c.in-Some.ensures.some.0 l.invariant
    ∙ ap (λ r. Ok (string_bytes l.text, r)) (sym c.in-Some.ensures.some.1)

pub returns : goal.returns
returns c =
    let l = c.loop in
    rw c.stop_at-2.ensures (rest_ended (length c.args.bytes.now) l.index (string_bytes l.text) l.rest.now _ c.loop-test.false l.invariant)

pub returns-in_default-after : goal.returns-in_default-after
returns-in_default-after c =
    let l = c.loop in
    rw c.stop_at.ensures (rest_wrong (length c.args.bytes.now) l.index (string_bytes l.text) l.rest.now _ c.loop-test.true (search rules) (search rules) l.invariant)

pub returns-in_err-character : goal.returns-in_err-character
returns-in_err-character c =
    let l = c.loop in
    let p = err_from_is_err_and c.from_residual-in_err-character.result c.from_residual-in_err-character.ensures.1 in
    let stops : escape_at (drop 1 l.rest.now) ≡ Err c.in_err-character.field-0.0 = search rules in
    rw (p.1, p.2) (rest_escape_fails (length c.args.bytes.now) l.index (string_bytes l.text) l.rest.now c.in_err-character.field-0.0 _ c.loop-test.true (search rules) (search rules) stops l.invariant)

pub returns-in_err-plain : goal.returns-in_err-plain
returns-in_err-plain c =
    let l = c.loop in
    let p = err_from_is_err_and c.from_residual-in_err-plain.result c.from_residual-in_err-plain.ensures.1 in
    let read : escape_at (drop 1 l.rest.now) ≡ Ok (c.in_ok-character.character, c.in_ok-character.after_escape.now) = search rules in
    rw (p.1, p.2) (rest_run_fails (length c.args.bytes.now) l.index c.in_ok-character.character (string_bytes l.text) l.rest.now c.in_ok-character.after_escape.now c.in_err-plain.field-0.0 _
    c.loop-test.true (search rules) (search rules) read c.in_err-plain.ensures l.invariant)

pub loop-preserved : goal.loop-preserved
loop-preserved c =
    let l = c.loop in
    let read : escape_at (drop 1 l.rest.now) ≡ Ok (c.in_ok-character.character, c.in_ok-character.after_escape.now) = search rules in
    let wrote : string_bytes c.push_str-in-loop.new.self ≡ (string_bytes l.text ++ encode_utf8 c.in_ok-character.character) ++ c.in_ok-plain.plain.now = search rules in
    rw wrote (rest_goes_on (length c.args.bytes.now) l.index c.in_ok-character.character (string_bytes l.text) l.rest.now c.in_ok-character.after_escape.now c.in_ok-plain.plain.now c.in_ok-plain.after_plain.now _
    c.loop-test.true (search rules) (search rules) read c.in_ok-plain.ensures l.invariant)
