use Rattle.content_cbor.proofs.Read.Deeper.{later_front, later_whole}
use Rattle.content_cbor.proofs.laws.deeper_goes_further.Goals as goal

pub returns : goal.returns
returns c = record {
  whole = λ limit greater bytes at later f le deep stops. later_whole limit greater bytes at later f le deep stops;
  front = λ limit greater bytes at later f le deep stops. later_front limit greater bytes at later f le deep stops;
}
