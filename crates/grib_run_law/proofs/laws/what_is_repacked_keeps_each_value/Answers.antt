use Rattle.std.proofs.Common.{refl}
use Rattle.grib_command.proofs.Answers.{target_stands}
use Rattle.grib_command.specs.Command.{under}
use Rattle.grib_edit.specs.Repacking.{repack_command}
use Rattle.grib_run_law.specs.Answered.{items_of}
use Rattle.grib_run_law.specs.Same.{SameValues, IfOctets}
use Rattle.grib_run_law.proofs.Accepting.{accepted_all, stands}
use Rattle.grib_run_law.proofs.Alone.{values_fixed}
use Rattle.grib_run_law.proofs.Each.{repack_each}
use Rattle.grib_run_law.proofs.Writing.{writes_items}
use Rattle.grib_run_law.proofs.laws.what_is_repacked_keeps_each_value.Goals as goal

pub returns : goal.returns
returns c =
    let law = c.what_is_repacked_keeps_each_value.ensures in
    λ profile target policy more octets is has.
    writes_items (IfOctets (SameValues profile)) (under profile (repack_command target)) policy (λ totals. refl) (values_fixed _ _)
    (repack_each profile target (λ message may. record { accepted = law.accepted profile _ message may; fields = law.fields profile _ message may; points = law.meanings profile _ message may }) (target_stands target is) has)
    more octets (accepted_all profile more octets (items_of profile policy more octets).items (stands profile c.items_stand.ensures.items policy more octets))
