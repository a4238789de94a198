use Rattle.grib_items.proofs.Ends.{no_refusal, no_kept}
use Rattle.grib_items.proofs.laws.no_end_at_what_is_passed.Goals as goal

pub returns-clause-refused : goal.returns-clause-refused
returns-clause-refused c = no_refusal

pub returns-clause-kept : goal.returns-clause-kept
returns-clause-kept c = no_kept
