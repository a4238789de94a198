use Rattle.std.proofs.Common.{◌≡◌, ◌+◌, ◌%◌, nat_le}
use Rattle.grib_bits.specs.Octets.{octets}
use Rattle.grib_rescan.specs.Sections.{longitude_at}
use Rattle.grib_rescan.specs.Bounds.{held, east_of}
use Rattle.grib_rescan.specs.Places.{held_of}
use Rattle.grib_rescan.proofs.bounds.columns_between.Given as goal

abbrev pub invariant-loop-place : goal.invariant-loop-place
invariant-loop-place l = l.held ≡ held_of (held (λ k. nat_le (east_of l.west (longitude_at l.section ((l.first + k) % octets l.section 31 34))) l.span) l.place)
