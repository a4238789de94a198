use Rattle.std.proofs.Common.{◌-◌, ◌≡◌, ◌<◌, ◌^◌}
use Rattle.std.specs.Prelude.{vec_len}
use Rattle.grib_io.specs.Reading.{FitsIn, ReadSoFar}
use Rattle.grib_io.proofs.reading.octets_under.Given as goal

-- a front was read, and no fault
abbrev pub invariant-loop-most : goal.invariant-loop-most
invariant-loop-most g l = record {
  read : ReadSoFar (g.H.Shelf.contents l.fn.shelf) (g.H.Shelf.contents l.shelf) l.name l.filled l.octets.items;
  some : 0 < vec_len l.octets;
  fits : FitsIn l.most (vec_len l.octets);
  calm : g.H.Shelf.faults l.shelf ≡ g.H.Shelf.faults l.fn.shelf;
}

abbrev pub decreases-loop-most : goal.decreases-loop-most
decreases-loop-most g l = 2 ^ 64 - l.filled
