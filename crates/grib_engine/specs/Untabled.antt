-- How a run ends that has no tables, or no file, to answer by.
use Rattle.grib_file.specs.declared.stop.FileStop.{FileStop}
use Rattle.grib_file.specs.declared.stop.FileStop.TheVariants as files
use Rattle.grib_table.specs.declared.stop.TablesStop.{TablesStop}
use Rattle.grib_table.specs.declared.stop.TablesStop.TheVariants.{Refused, SurfacesRefused, ShelfFault, Memory}
use Rattle.grib_stream.specs.declared.outcome.Outcome.{Outcome}
use Rattle.grib_stream.specs.declared.outcome.Outcome.TheVariants as outcomes

abbrev pub outcome_untabled : TablesStop → Outcome
outcome_untabled (Refused refusal) = outcomes.TableRefused refusal
outcome_untabled (SurfacesRefused refusal) = outcomes.SurfacesRefused refusal
outcome_untabled ShelfFault = outcomes.ShelfFault
outcome_untabled Memory = outcomes.Memory

abbrev pub outcome_unfiled : FileStop → Outcome
outcome_unfiled (files.Refused refusal) = outcomes.FileRefused refusal
outcome_unfiled files.ShelfFault = outcomes.ShelfFault
outcome_unfiled files.Memory = outcomes.Memory
