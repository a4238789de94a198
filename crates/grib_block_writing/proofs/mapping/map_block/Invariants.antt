use Rattle.std.proofs.Common.{◌≡◌, ◌≤◌, ◌++◌, take, drop}
use Rattle.std.specs.List.{All}
use Rattle.grib_coding.specs.Mapped.{codes_after}
use Rattle.grib_block_writing.proofs.mapping.map_block.Given as goal

abbrev pub invariant-loop-place : goal.invariant-loop-place
invariant-loop-place l = record {
  codes : take l.place l.codes ++ codes_after l.most l.before (drop l.place l.numbers) ≡ codes_after l.most l.fn.before l.numbers;
  within : All (λ code. code ≤ l.most) (take l.place l.codes);
  last : l.before ≤ l.most;
}
