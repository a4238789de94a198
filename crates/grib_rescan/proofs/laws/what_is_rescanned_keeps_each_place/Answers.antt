use Rattle.grib_rescan.proofs.Rows.{rescanned_length, rescanned_at, rescanned_entry}
use Rattle.grib_rescan.proofs.laws.what_is_rescanned_keeps_each_place.Goals as goal

pub returns-clause-length : goal.returns-clause-length
returns-clause-length c = rescanned_length

pub returns-clause-places : goal.returns-clause-places
returns-clause-places c scanning ni nj i j points = rescanned_at scanning ni nj points i j

pub returns-clause-entries : goal.returns-clause-entries
returns-clause-entries c scanning ni nj n m points = rescanned_entry scanning ni nj points n m
