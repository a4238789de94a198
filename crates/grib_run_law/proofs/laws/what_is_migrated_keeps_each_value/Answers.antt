use Rattle.std.proofs.Common.{refl}
use Rattle.grib_command.specs.Command.{under}
use Rattle.grib_edit.specs.Migrating.{migrate_command}
use Rattle.grib_run_law.specs.Answered.{items_of}
use Rattle.grib_run_law.specs.Same.{SameMigrated, IfOctets}
use Rattle.grib_run_law.proofs.Accepting.{accepted_all, stands}
use Rattle.grib_run_law.proofs.Alone.{migrate_fixed}
use Rattle.grib_run_law.proofs.Each.{migrate_each}
use Rattle.grib_run_law.proofs.Writing.{writes_items}
use Rattle.grib_run_law.proofs.laws.what_is_migrated_keeps_each_value.Goals as goal

pub returns : goal.returns
returns c = λ profile local table surfaces policy more octets.
    writes_items (IfOctets (SameMigrated profile)) (under profile (migrate_command local table surfaces)) policy (λ totals. refl) (migrate_fixed local table surfaces) (migrate_each profile local table surfaces) more octets
    (accepted_all profile more octets (items_of profile policy more octets).items (stands profile c.items_stand.ensures.items policy more octets))
