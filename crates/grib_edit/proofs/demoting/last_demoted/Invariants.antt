use Rattle.std.proofs.Common.{◌≡◌, None}
use Rattle.grib_base.specs.Rules.{first_among}
use Rattle.grib_edit.specs.Demoting.{field_cause}
use Rattle.grib_edit.proofs.demoting.last_demoted.Given as goal

-- the fields so far have no cause
abbrev pub invariant-loop-index : goal.invariant-loop-index
invariant-loop-index l = record {
  none : first_among (field_cause l.demoting.table.now l.demoting.matching l.demoting.keep_local l.demoting.any_earth l.message) l.index 1 ≡ None;
}
