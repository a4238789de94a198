-- Lemmas on what Section 5 says of a field.
use Rattle.std.proofs.Common.{◌≡◌, ◌≤◌, ℕ, List, arith, sym, ◌∙◌}
use Rattle.grib_packing.specs.declared.representation.Simple.{Simple}
use Rattle.grib_packing.specs.Packing.{packing_template, value_count}
use Rattle.grib_packing.proofs.Packings.{most-simple, packing_passes}
use Rattle.grib_complex_reading.specs.declared.representation.Complex.{Complex}
use Rattle.grib_packings.specs.declared.representation.Representation.{Representation}
use Rattle.grib_packings.specs.declared.representation.Representation.TheVariants as field
use Rattle.grib_complex_reading.specs.Descriptors.{IsAccepted}
use Rattle.grib_packings.specs.Field.{Represents}
use Rattle.grib_complex_reading.proofs.Accepting.{accepted_from}

pub simple_width : (numbers : Simple) (s5 : List ℕ) → Represents (field.Simple numbers) s5 → numbers.bits ≤ 48
simple_width numbers s5 read =
    omega (arith, read.numbers.1.bits, (packing_passes s5 read.points read.accepted).narrow, most-simple (packing_template s5) read.numbers.0)

pub complex_accepted : (numbers : Complex) (s5 : List ℕ) → Represents (field.Complex numbers) s5 → IsAccepted numbers
complex_accepted numbers s5 read = accepted_from numbers s5 read.points read.accepted read.numbers.1 read.numbers.0

-- sections of which it says the same have as many values
pub values_alike : (representation : Representation) (s5 other : List ℕ) → Represents representation s5 → Represents representation other → value_count s5 ≡ value_count other
values_alike (field.Simple numbers) s5 other one two = sym one.numbers.1.values ∙ two.numbers.1.values
values_alike (field.Complex numbers) s5 other one two = sym one.numbers.1.simple.values ∙ two.numbers.1.simple.values
values_alike (field.Coded numbers) s5 other one two = sym one.numbers.1.simple.values ∙ two.numbers.1.simple.values
