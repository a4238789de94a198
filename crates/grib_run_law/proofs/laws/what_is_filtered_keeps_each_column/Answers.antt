use Rattle.std.proofs.Common.{refl}
use Rattle.grib_command.specs.Command.{under}
use Rattle.grib_edit.specs.Filtering.{fulfils, filter_command}
use Rattle.grib_edit.specs.FilteringNamed.{fulfils_named, filter_named_command}
use Rattle.grib_run_law.specs.Answered.{items_of}
use Rattle.grib_run_law.specs.Same.{IsFiltered, IsFilteredNamed}
use Rattle.grib_run_law.proofs.Accepting.{accepted_all, stands}
use Rattle.grib_run_law.proofs.Alone.{choosing_fixed}
use Rattle.grib_run_law.proofs.Each.{pick_each}
use Rattle.grib_run_law.proofs.Writing.{writes_items}
use Rattle.grib_run_law.proofs.laws.what_is_filtered_keeps_each_column.Goals as goal

pub returns-clause-keys : goal.returns-clause-keys
returns-clause-keys c =
    let law = c.what_is_cut_out_keeps_its_column.ensures in
    λ profile conditions policy more octets.
    writes_items (IsFiltered profile conditions) (under profile (filter_command conditions)) policy (λ totals. refl) (choosing_fixed (fulfils conditions))
    (pick_each profile
    (λ message i is low high. record { accepted = law.accepted profile message i is low high; one = law.one profile message i is low high; column = law.column profile message i is low high })
    (fulfils conditions))
    more octets (accepted_all profile more octets (items_of profile policy more octets).items (stands profile c.items_stand.ensures.items policy more octets))

pub returns-clause-names : goal.returns-clause-names
returns-clause-names c =
    let law = c.what_is_cut_out_keeps_its_column.ensures in
    λ profile conditions wanted names policy more octets.
    writes_items (IsFilteredNamed profile conditions wanted names) (under profile (filter_named_command conditions wanted names)) policy (λ totals. refl)
    (choosing_fixed (fulfils_named conditions wanted names))
    (pick_each profile
    (λ message i is low high. record { accepted = law.accepted profile message i is low high; one = law.one profile message i is low high; column = law.column profile message i is low high })
    (fulfils_named conditions wanted names))
    more octets (accepted_all profile more octets (items_of profile policy more octets).items (stands profile c.items_stand.ensures.items policy more octets))
