use Rattle.grib_demote_law.proofs.Earliest.{record_pair, any_pair}
use Rattle.grib_demote_law.proofs.laws.any_tables_are_those_of_the_record.Goals as goal

pub returns-clause-own : goal.returns-clause-own
returns-clause-own c = record_pair

pub returns-clause-wider : goal.returns-clause-wider
returns-clause-wider c = any_pair
