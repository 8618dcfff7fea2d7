use Rattle.std.specs.Prelude.{codes}
use Rattle.std.specs.String.{string_bytes}
use Rattle.std.proofs.Common.{rules}
use Rattle.cbor_cli.proofs.Decoding.{neither_told, pushed, when_ok}
use Rattle.cbor_cli.proofs.answer.write_answer.Goals as goal

pub returns-in-None : goal.returns-in-None
returns-in-None c =
    when_ok c.push_str.result (neither_told c.args.form c.args.line.now (string_bytes c.args.out.now) (string_bytes c.push_str.new.self) (search rules))
    (pushed c.push_str.result (string_bytes c.args.out.now) (codes "neither hexadecimal digits nor a call\n") (string_bytes c.push_str.new.self) (search rules))
