use Rattle.std.proofs.Common.{◌≡◌, ◌+◌, ℕ, List, length, drop}
use Rattle.grib_packing.specs.Groups.{packed_bits, groups_from}
use Rattle.grib_group_reading.proofs.lists.bits_of_numbers.Given as goal

abbrev pub invariant-loop-index : goal.invariant-loop-index
invariant-loop-index l =
    (references : List ℕ) → length references ≡ length l.widths
    → l.bits + packed_bits (drop l.index (groups_from references l.widths l.lengths)) ≡ packed_bits (groups_from references l.widths l.lengths)
