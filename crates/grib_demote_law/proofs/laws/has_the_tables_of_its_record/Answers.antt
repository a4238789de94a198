use Rattle.grib_demote_law.proofs.Keys.{tables_are}
use Rattle.grib_demote_law.proofs.laws.has_the_tables_of_its_record.Goals as goal

pub returns : goal.returns
returns c = tables_are
