use Rattle.grib_rescan.proofs.Within.{is_box, rows_within, columns_within, each_column, nearest_west, no_farther}
use Rattle.grib_rescan.proofs.laws.what_lies_within.Goals as goal

pub returns-clause-lies_in : goal.returns-clause-lies_in
returns-clause-lies_in c = is_box

pub returns-clause-rows : goal.returns-clause-rows
returns-clause-rows c = rows_within

pub returns-clause-columns : goal.returns-clause-columns
returns-clause-columns c = columns_within

pub returns-clause-all_columns : goal.returns-clause-all_columns
returns-clause-all_columns c = each_column

pub returns-clause-from_west : goal.returns-clause-from_west
returns-clause-from_west c = nearest_west

pub returns-clause-to_last : goal.returns-clause-to_last
returns-clause-to_last c = no_farther
