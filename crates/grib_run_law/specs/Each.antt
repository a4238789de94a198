-- The jobs that write what becomes of a message by the message alone, wherever it stands.
use Rattle.std.specs.Prelude.{Bool, true, false}
use Rattle.grib_command.specs.declared.job.Job.{Job}
use Rattle.grib_command.specs.declared.job.Job.TheVariants.{Filter, FilterNamed, Filter1, Set, Set1, Repack, RepackLeast, Rescan, Crop, Within, Migrate, Demote}

abbrev pub writes_each : Job → Bool
writes_each (Filter conditions) = true
writes_each (FilterNamed conditions names wanted) = true
writes_each (Filter1 conditions) = true
writes_each (Set changes dates) = true
writes_each (Set1 changes dates) = true
writes_each (Repack target) = true
writes_each (RepackLeast profile) = true
writes_each Rescan = true
writes_each (Crop area) = true
writes_each (Within bounds) = true
writes_each (Migrate params surfaces local) = true
writes_each (Demote params keep_local any_earth matching) = true
writes_each job = false
