use Rattle.grib2_message.specs.Assembled.{as_it_is}
use Rattle.grib2_message.proofs.PutTogether.{as_it_was, assembled_accepted, assembled_fields, assembled_column, assembled_parts, assembled_stays}
use Rattle.grib2_message.proofs.laws.what_is_assembled_is_accepted.Goals as goal

pub returns-clause-accepted : goal.returns-clause-accepted
returns-clause-accepted c profile message parts h = assembled_accepted profile as_it_is message parts (as_it_was profile message parts h)

pub returns-clause-fields : goal.returns-clause-fields
returns-clause-fields c profile message parts h = assembled_fields profile as_it_is message parts (as_it_was profile message parts h)

pub returns-clause-columns : goal.returns-clause-columns
returns-clause-columns c profile message parts h = assembled_column profile as_it_is message parts (as_it_was profile message parts h)

pub returns-clause-parts : goal.returns-clause-parts
returns-clause-parts c profile message parts h i part e = let has = assembled_parts profile as_it_is message parts (as_it_was profile message parts h) i part e in (has.packing, has.bitmap, has.values)

pub returns-clause-kept : goal.returns-clause-kept
returns-clause-kept c = assembled_stays
