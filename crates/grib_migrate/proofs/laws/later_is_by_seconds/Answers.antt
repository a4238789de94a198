use Rattle.std.proofs.Common.{◌*◌}
use Rattle.grib1_sections.specs.Keys.{key_in}
use Rattle.grib_keys.specs.declared.key1.Key1.TheVariants.{P2}
use Rattle.grib_migrate.specs.Dates.{reference_time}
use Rattle.grib_migrate.proofs.Seconds.{later_by_seconds, end_by_seconds}
use Rattle.grib_migrate.proofs.laws.later_is_by_seconds.Goals as goal

pub returns-clause-later : goal.returns-clause-later
returns-clause-later c = λ m e n civil. later_by_seconds m e n civil

pub returns-clause-interval : goal.returns-clause-interval
returns-clause-interval c = λ s1 unit_seconds e civil. end_by_seconds (reference_time s1) e (key_in s1 P2 * unit_seconds) civil
