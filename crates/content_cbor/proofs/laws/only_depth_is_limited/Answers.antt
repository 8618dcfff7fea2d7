use Rattle.content_cbor.proofs.Read.Wider.{alike_front, alike_whole}
use Rattle.content_cbor.proofs.laws.only_depth_is_limited.Goals as goal

pub returns : goal.returns
returns c = record {
  whole = λ limit greater bytes at f le other stops. alike_whole limit greater bytes at f le other stops;
  front = λ limit greater bytes at f le other stops. alike_front limit greater bytes at f le other stops;
}
