use Rattle.grib_demote_law.proofs.Keys.{keys_come_back, tables_come_back}
use Rattle.grib_demote_law.proofs.laws.has_its_keys.Goals as goal

pub returns-clause-keys : goal.returns-clause-keys
returns-clause-keys c = keys_come_back

pub returns-clause-tables : goal.returns-clause-tables
returns-clause-tables c = tables_come_back
