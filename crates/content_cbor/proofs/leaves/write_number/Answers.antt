use Rattle.std.proofs.Common.{arith}
use Rattle.content_cbor.proofs.Ranges.{signed_in, unsigned_in}
use Rattle.content_cbor.proofs.leaves.write_number.Goals as goal

pub returns-in-U8-clause-fits : goal.returns-in-U8-clause-fits
returns-in-U8-clause-fits c = rw c.in-U8.is (unsigned_in 255 c.in-U8.number (omega arith))

pub returns-in-U16-clause-fits : goal.returns-in-U16-clause-fits
returns-in-U16-clause-fits c = rw c.in-U16.is (unsigned_in 65535 c.in-U16.number (omega arith))

pub returns-in-U32-clause-fits : goal.returns-in-U32-clause-fits
returns-in-U32-clause-fits c = rw c.in-U32.is (unsigned_in 4294967295 c.in-U32.number (omega arith))

pub returns-in-U64-clause-fits : goal.returns-in-U64-clause-fits
returns-in-U64-clause-fits c = rw c.in-U64.is (unsigned_in 18446744073709551615 c.in-U64.number (omega arith))

pub returns-in-U128-clause-fits : goal.returns-in-U128-clause-fits
returns-in-U128-clause-fits c = rw c.in-U128.is (unsigned_in 340282366920938463463374607431768211455 c.in-U128.number (omega arith))

pub returns-in-I8-clause-fits : goal.returns-in-I8-clause-fits
returns-in-I8-clause-fits c = rw c.in-I8.is (signed_in 127 c.in-I8.number (omega arith))

pub returns-in-I16-clause-fits : goal.returns-in-I16-clause-fits
returns-in-I16-clause-fits c = rw c.in-I16.is (signed_in 32767 c.in-I16.number (omega arith))

pub returns-in-I32-clause-fits : goal.returns-in-I32-clause-fits
returns-in-I32-clause-fits c = rw c.in-I32.is (signed_in 2147483647 c.in-I32.number (omega arith))

pub returns-in-I64-clause-fits : goal.returns-in-I64-clause-fits
returns-in-I64-clause-fits c = rw c.in-I64.is (signed_in 9223372036854775807 c.in-I64.number (omega arith))

pub returns-in-I128-clause-fits : goal.returns-in-I128-clause-fits
returns-in-I128-clause-fits c = rw c.in-I128.is (signed_in 170141183460469231731687303715884105727 c.in-I128.number (omega arith))
