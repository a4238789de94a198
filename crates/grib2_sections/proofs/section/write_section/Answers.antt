-- The length, the number and the contents, one after another.
use Rattle.std.proofs.Common.{◌∷◌, []}
use Rattle.grib_bits.proofs.Encoding.{AddsOctets-append, AddsOctets-same, AddsOctets-whole, octets_of-one, StatesItself-section_of}
use Rattle.grib2_sections.proofs.section.write_section.Goals as goal

pub returns : goal.returns
returns c =
    let written = AddsOctets-append (AddsOctets-append c.write_u32.ensures.octets
    (AddsOctets-same _ (c.args.number ∷ []) (octets_of-one c.args.number (c.ranges.number).fits) c.write_u8.ensures.octets))
    c.write_octets.ensures in
    record { itself = StatesItself-section_of c.args.number c.args.contents.now c.requires.most; octets = written; whole = AddsOctets-whole written c.requires.whole }
