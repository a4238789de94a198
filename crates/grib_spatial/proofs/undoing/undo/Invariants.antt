use Rattle.std.proofs.Common.{◌≡◌}
use Rattle.grib_packing.specs.Differences.{undone}
use Rattle.grib_spatial.specs.Undoing.{read_with}
use Rattle.grib_spatial.proofs.Whole.{Gave}
use Rattle.grib_spatial.proofs.undoing.undo.Given as goal

abbrev pub invariant-loop-code : goal.invariant-loop-code
invariant-loop-code l = record {
  told : l.running.told ≡ read_with l.order l.differences;
  gave : Gave l.running.told l.running.last l.codes l.code-index l.numbers.items (undone l.running.told l.codes);
}
