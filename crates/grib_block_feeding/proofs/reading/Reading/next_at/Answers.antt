use Rattle.std.proofs.Common.{◌++◌, take, arith}
use Rattle.grib_bits.specs.Bits.{bits}
use Rattle.grib_block_feeding.specs.Feeding.{left_at}
use Rattle.grib_block_feeding.proofs.Pieces.{going_left, going_place}
use Rattle.grib_block_feeding.proofs.reading.Reading.next_at.Goals as goal

pub returns-clause-going : goal.returns-clause-going
returns-clause-going g c = λ octets first so.
    let place = c.args.place in
    let self = c.args.self.now in
    let kept = c.args.kept in
    let next = c.next.new.self in
    let after = c.next.result in
    let piece = c.args.piece.now in
    let left = c.bits_to_octet.result in
    going_place g.K.Keeper.kept next.coding next.count next.block (bits octets) (bits piece) place left c.bit_at.result first (left_at next) after.last after.keeper (omega (arith, c.bits_to_octet.ensures.is)) c.bit_at.ensures
    (c.next.ensures.going (bits octets ++ take place (bits piece)) first
    (going_left g.K.Keeper.kept self.coding self.count self.block (bits octets ++ take place (bits piece)) place left first (left_at self) kept.last kept.keeper (omega (arith, c.bits_to_octet.ensures.is)) so))
