use Rattle.content_cbor.proofs.Read.Fits.{fits_front, fits_whole}
use Rattle.content_cbor.proofs.Read.Fronts.{fronts_front, fronts_whole}
use Rattle.content_cbor.proofs.laws.faults_fit_bytes.Goals as goal

pub returns : goal.returns
returns c = record {
  whole = λ limit bytes at f fits stops. fits_whole limit bytes at f fits stops;
  front = λ limit bytes at f fits stops. fits_front limit bytes at f fits stops;
  whole_before = λ limit bytes at f fits stops. fronts_whole limit bytes at f fits stops;
  front_before = λ limit bytes at f fits stops. fronts_front limit bytes at f fits stops;
}
