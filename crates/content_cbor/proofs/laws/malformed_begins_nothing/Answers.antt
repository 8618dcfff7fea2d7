use Rattle.content_cbor.proofs.Read.Told.{told_front, told_whole}
use Rattle.content_cbor.proofs.laws.malformed_begins_nothing.Goals as goal

pub returns : goal.returns
returns c = record {
  whole = λ limit bytes at f bad stops. told_whole limit bytes at f stops bad;
  front = λ limit bytes at f bad stops. told_front limit bytes at f stops bad;
}
