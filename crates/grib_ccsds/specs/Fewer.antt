-- Sections that are written only where they have fewer octets than some number.
use Rattle.std.specs.Prelude.{ℕ, ◌+◌, ◌<◌, Option, Some, None, length}
use Rattle.grib_packing.specs.declared.written.Packed.{Packed}

-- the sections have fewer octets than the bound, if there is one
abbrev pub AreBelow : Option ℕ → Packed → Type 0
AreBelow None packed = Unit {0}
AreBelow (Some most) packed = length packed.section5 + length packed.section6 + length packed.section7 < most
