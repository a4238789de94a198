use Rattle.std.proofs.Common.{refl}
use Rattle.grib_command.specs.Command.{under}
use Rattle.grib_edit.specs.Setting.{set_command}
use Rattle.grib_run_law.specs.Answered.{items_of}
use Rattle.grib_run_law.specs.Same.{SetsKeys}
use Rattle.grib_run_law.proofs.Accepting.{accepted_all, stands}
use Rattle.grib_run_law.proofs.Alone.{changing_fixed}
use Rattle.grib_run_law.proofs.Each.{set_each}
use Rattle.grib_run_law.proofs.Writing.{writes_items}
use Rattle.grib_run_law.proofs.laws.what_is_set_keeps_each_field.Goals as goal

pub returns : goal.returns
returns c =
    let law = c.what_is_set_keeps_each_column.ensures in
    λ profile dates changes policy more octets can.
    writes_items (SetsKeys profile dates changes) (under profile (set_command dates changes)) policy (λ totals. refl) (changing_fixed _ _)
    (set_each profile dates changes
    (λ message is none valid. record {
      accepted = law.accepted profile message changes is can;
      fields = law.fields profile message changes is can;
      columns = λ i. law.columns profile message changes i is can;
      values = λ once i low high. law.values profile message changes i is can once none low high;
      dated = valid;
    }))
    more octets (accepted_all profile more octets (items_of profile policy more octets).items (stands profile c.items_stand.ensures.items policy more octets))
