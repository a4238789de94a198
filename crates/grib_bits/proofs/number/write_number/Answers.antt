-- The bits of the number are those of its octets.
use Rattle.std.proofs.Common.{ℕ, ◌*◌, ◌<◌, subst, refl}
use Rattle.grib_bits.proofs.Encoding.{written_octets, num_on-octets_of, pow_256}
use Rattle.grib_bits.proofs.number.write_number.Goals as goal

pub put-requires-clause-fits : goal.put-requires-clause-fits
put-requires-clause-fits c = subst (λ (m : ℕ). c.args.value < m) (pow_256 c.args.octets) c.requires.fits

pub returns : goal.returns
returns c = record {
  octets = written_octets _ _ c.args.octets (8 * c.args.octets) c.args.value refl c.put.ensures.bits c.put.ensures.spare;
  number = num_on-octets_of c.args.octets c.args.value c.requires.fits;
}
