use Rattle.std.proofs.Common.{◌<◌, ◌^◌, ℕ, sym, subst, ◌∙◌}
use Rattle.grib_bits.proofs.OctetNumbers.{AreOctets-known}
use Rattle.grib_bits.proofs.Counted.{octets-lt_32, big_number-size}
use Rattle.grib_bits.proofs.reading.uint_at.Goals as goal

pub overflow_cast-result : goal.overflow_cast-result
overflow_cast-result c =
    let s = c.args.octets.now in
    let known = AreOctets-known s c.type_inv.octets in
    let same = big_number-size s c.args.first c.args.size known c.requires.counted c.requires.some c.requires.within in
    let below = octets-lt_32 s c.args.first c.args.size known c.requires.counted c.requires.some c.requires.word c.requires.within in
    record { fits = subst (λ (n : ℕ). n < 2 ^ 32) (sym (c.read_uint.ensures ∙ same)) below }

pub returns : goal.returns
returns c =
    c.read_uint.ensures ∙ big_number-size c.args.octets.now c.args.first c.args.size (AreOctets-known c.args.octets.now c.type_inv.octets) c.requires.counted c.requires.some c.requires.within
