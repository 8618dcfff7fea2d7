use Rattle.std.specs.String.{string_bytes}
use Rattle.cbor_cli.proofs.Decoding.{fault_told}
use Rattle.cbor_cli.proofs.answer.write_decoded.Goals as goal

pub returns-in-Err : goal.returns-in-Err
returns-in-Err c =
    fault_told c.write_fault.result c.args.form c.args.bytes.now (string_bytes c.args.out.now) (string_bytes c.write_fault.new.out) c.in-Err.refusal
    c.in-Err.ensures.fault c.in-Err.ensures.place c.write_fault.ensures.cause c.write_fault.ensures.line
