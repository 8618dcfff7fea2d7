use Rattle.std.proofs.Common.{Err, ap}
use Rattle.std.proofs.lemmas.Result.{err_from_is_err_and}
use Rattle.content_cbor.specs.declared.stop.Stop.TheVariants as stop
use Rattle.content_cbor.proofs.Read.Memory.{handed, whole_front}
use Rattle.content_cbor.proofs.decoding.read_whole.Goals as goal

pub returns-in_err-value-clause-memory : goal.returns-in_err-value-clause-memory
returns-in_err-value-clause-memory c = λ short t read.
    let p = err_from_is_err_and c.from_residual.result c.from_residual.ensures.1 in
    let front = whole_front c.args.limit c.args.bytes.now t read in
    c.in_err-value.ensures.memory (ap Err (handed p.0 stop.OutOfMemory c.in_err-value.field-0.0 c.from_residual.result p.1 p.2 short)) t front.0 front.1
