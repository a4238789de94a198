use Rattle.grib_run_law.specs.Answered.{items_of}
use Rattle.grib_run_law.proofs.Accepting.{accepted_all, stands}
use Rattle.grib_run_law.proofs.Shelved.{splits}
use Rattle.grib_run_law.proofs.laws.what_is_split_keeps_each_column.Goals as goal

pub returns : goal.returns
returns c =
    let law = c.what_is_cut_out_keeps_its_column.ensures in
    λ profile edition_1 out policy more octets.
    splits profile
    (λ message i is low high. record { accepted = law.accepted profile message i is low high; one = law.one profile message i is low high; column = law.column profile message i is low high })
    edition_1 out policy more octets (accepted_all profile more octets (items_of profile policy more octets).items (stands profile c.items_stand.ensures.items policy more octets))
