use Rattle.std.proofs.Common.{◌≡◌}
use Rattle.std.specs.Prelude.{fold}
use Rattle.grib_params.specs.Pairs.{with_row, first_pair}
use Rattle.grib_params.proofs.table.Table.first_pair.Given as goal

-- the rows that are left make of what was found what all make of nothing
abbrev pub invariant-loop-key : goal.invariant-loop-key
invariant-loop-key l =
    fold (with_row l.self l.matching l.centre l.parameter) l.first l.key-iterator ≡ first_pair l.self l.matching l.centre l.parameter
