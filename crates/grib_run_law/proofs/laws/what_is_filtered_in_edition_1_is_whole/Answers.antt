use Rattle.std.proofs.Common.{refl}
use Rattle.grib_command.specs.Command.{under}
use Rattle.grib_edit.specs.Filtering1.{filter1_command}
use Rattle.grib_run_law.specs.Answered.{items_of}
use Rattle.grib_run_law.specs.Same.{IsFiltered1}
use Rattle.grib_run_law.proofs.Accepting.{accepted_all, stands}
use Rattle.grib_run_law.proofs.Alone.{filter1_fixed}
use Rattle.grib_run_law.proofs.Each.{filter1_each}
use Rattle.grib_run_law.proofs.Writing.{writes_items}
use Rattle.grib_run_law.proofs.laws.what_is_filtered_in_edition_1_is_whole.Goals as goal

pub returns : goal.returns
returns c = λ profile conditions policy more octets.
    writes_items (IsFiltered1 conditions) (under profile (filter1_command conditions)) policy (λ totals. refl) (filter1_fixed conditions) (filter1_each profile conditions)
    more octets (accepted_all profile more octets (items_of profile policy more octets).items (stands profile c.items_stand.ensures.items policy more octets))
