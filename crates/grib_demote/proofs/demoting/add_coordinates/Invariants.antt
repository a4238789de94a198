use Rattle.std.proofs.Common.{◌≡◌, ◌++◌, take}
use Rattle.grib_bits.specs.Encoding.{all_octets}
use Rattle.grib_demote.specs.Products.{coordinate_numbers}
use Rattle.grib_demote.proofs.demoting.add_coordinates.Given as goal

abbrev pub invariant-loop-word : goal.invariant-loop-word
invariant-loop-word l = l.out.items ≡ l.initial.out.items ++ all_octets (coordinate_numbers (take l.word-index l.coordinates))
