use Rattle.std.proofs.Common.{◌≡◌, true, take}
use Rattle.std.specs.List.{list_all}
use Rattle.grib_packing.specs.Groupings.{is_present}
use Rattle.grib_groups.proofs.encoding.has_no_mark.Given as goal

abbrev pub invariant-loop-done : goal.invariant-loop-done
invariant-loop-done l = list_all is_present (take l.done l.run) ≡ true
