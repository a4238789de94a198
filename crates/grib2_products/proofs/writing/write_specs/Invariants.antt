use Rattle.std.proofs.Common.{ℕ, ◌<◌, take, get_or}
use Rattle.grib_bits.specs.Encoding.{AddsOctets}
use Rattle.grib2_products.specs.Written.{SpecFits, specs_octets}
use Rattle.grib2_products.proofs.Ranges.{no_spec}
use Rattle.grib2_products.proofs.writing.write_specs.Given as goal

abbrev pub invariant-loop-spec : goal.invariant-loop-spec
invariant-loop-spec l = record {
  octets : AddsOctets l.initial.out l.out (specs_octets (take l.spec-index l.specs));
  fit : (k : ℕ) → k < l.spec-index → SpecFits (get_or l.specs k no_spec);
}
