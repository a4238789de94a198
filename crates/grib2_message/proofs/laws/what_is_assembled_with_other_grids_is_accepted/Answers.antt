use Rattle.grib2_message.proofs.PutTogether.{assembled_accepted, assembled_fields, assembled_column, assembled_parts, assembled_grid, assembled_kept}
use Rattle.grib2_message.proofs.laws.what_is_assembled_with_other_grids_is_accepted.Goals as goal

pub returns-clause-accepted : goal.returns-clause-accepted
returns-clause-accepted c = assembled_accepted

pub returns-clause-fields : goal.returns-clause-fields
returns-clause-fields c = assembled_fields

pub returns-clause-columns : goal.returns-clause-columns
returns-clause-columns c = assembled_column

pub returns-clause-parts : goal.returns-clause-parts
returns-clause-parts c profile grid message parts h i part e = let has = assembled_parts profile grid message parts h i part e in (has.packing, has.bitmap, has.values)

pub returns-clause-grids : goal.returns-clause-grids
returns-clause-grids c = assembled_grid

pub returns-clause-kept : goal.returns-clause-kept
returns-clause-kept c = assembled_kept
