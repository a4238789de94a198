use Rattle.std.proofs.Common.{◌<◌, ◌^◌, length, take}
use Rattle.std.specs.List.{All}
use Rattle.grib_coding.specs.Reading.{front_sequence}
use Rattle.grib_block_reading.specs.Fronts.{IsAhead}
use Rattle.grib_block_reading.proofs.Fronts.{SoFar}
use Rattle.grib_block_reading.proofs.lists.read_sequences.Given as goal

abbrev pub invariant-loop-number : goal.invariant-loop-number
invariant-loop-number l = record {
  so_far : SoFar front_sequence (length l.initial.numbers) l.fn.bits l.numbers l.number-index l.bits;
  short : All (λ number. number < 2 ^ 35) (take l.number-index l.numbers);
  ahead : IsAhead l.ahead l.bits;
}
