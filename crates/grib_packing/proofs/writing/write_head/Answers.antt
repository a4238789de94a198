use Rattle.std.proofs.Common.{◌∷◌, []}
use Rattle.grib_bits.proofs.Encoding.{AddsOctets-append, AddsOctets-same, octets_of-one}
use Rattle.grib_packing.proofs.writing.write_head.Goals as goal

pub returns : goal.returns
returns c =
    AddsOctets-append c.write_u32.ensures.octets
    (AddsOctets-same _ (c.args.number ∷ []) (octets_of-one c.args.number (c.ranges.number).fits) c.write_u8.ensures.octets)
