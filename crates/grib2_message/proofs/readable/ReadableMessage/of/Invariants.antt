use Rattle.std.proofs.Common.{◌≡◌, ◌<◌, ◌+◌, ℕ, false}
use Rattle.grib_packing.specs.Entries.{is_opaque_packing}
use Rattle.grib2_message.specs.Fields.{part_octets}
use Rattle.grib2_message.proofs.readable.ReadableMessage.of.Given as goal

-- the packings of the fields so far are stated ones
abbrev pub invariant-loop-index : goal.invariant-loop-index
invariant-loop-index l = (j : ℕ) → j < l.index → is_opaque_packing (part_octets l.message (j + 1) 5) ≡ false
