use Rattle.std.proofs.Common.{refl}
use Rattle.grib_params.proofs.laws.the_nearest_record_is_found.Goals as goal

pub returns-clause-of_both : goal.returns-clause-of_both
returns-clause-of_both c = λ table centre version parameter kind level found here. rw here refl

pub returns-clause-of_centre : goal.returns-clause-of_centre
returns-clause-of_centre c = λ table centre version parameter kind level none found here. rw (none, here) refl

pub returns-clause-of_level : goal.returns-clause-of_level
returns-clause-of_level c = λ table centre version parameter kind level none_1 none_2 found here. rw (none_1, none_2, here) refl

pub returns-clause-of_neither : goal.returns-clause-of_neither
returns-clause-of_neither c = λ table centre version parameter kind level none_1 none_2 none_3. rw (none_1, none_2, none_3) refl
