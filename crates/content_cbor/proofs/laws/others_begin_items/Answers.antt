use Rattle.content_cbor.proofs.Read.Told.{begun_front, begun_whole}
use Rattle.content_cbor.proofs.laws.others_begin_items.Goals as goal

pub returns : goal.returns
returns c = record {
  whole = λ limit bytes at f fits plain stops. begun_whole limit bytes at f fits stops plain;
  front = λ limit bytes at f fits plain stops. begun_front limit bytes at f fits stops plain;
}
