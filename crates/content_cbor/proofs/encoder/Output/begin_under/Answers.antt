use Rattle.std.proofs.Common.{◌≡◌, ◌^◌, ◌++◌, true, arith}
use Rattle.std.proofs.lemmas.Bool.{lt-ltb}
use Rattle.content_cbor.specs.Encoder.{is_length, is_text}
use Rattle.content_cbor.specs.Heads.{head}
use Rattle.content_cbor.specs.Inner.Output.{written_of}
use Rattle.content_cbor.specs.Item.{text_item}
use Rattle.content_cbor.specs.declared.heads.Major.TheVariants as major
use Rattle.content_cbor.proofs.Front.{begun_named}
use Rattle.content_cbor.proofs.Texts.{passes}
use Rattle.content_cbor.proofs.encoder.Output.begin_under.Goals as goal

pub returns : goal.returns
returns c =
    let name = c.args.name.now in
    let text : is_text name ≡ true = passes name c.in_ok-write_entry_of.ensures.fits in
    let room : is_length c.args.length ≡ true = lt-ltb c.args.length (2 ^ 64) (omega (arith, c.ranges.length.fits)) in
    begun_named (is_text name) c.args.major c.args.length (written_of c.args.self.now) (written_of c.begin.new.self) (head major.Map 1 ++ text_item name) c.write_entry_of.new.out.items c.begin.result
    text room c.in_ok-write_entry_of.ensures.value c.begin.ensures
