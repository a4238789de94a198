use Rattle.std.proofs.Common.{◌≡◌, drop}
use Rattle.grib2_message.specs.Assembled.{IsShort}
use Rattle.grib2_message.specs.Fields.{column_of}
use Rattle.grib_repack.specs.Repacked.{kind_of}
use Rattle.grib_least.specs.Earlier.{trials}
use Rattle.grib_least.specs.Least.{form_of, least_form}
use Rattle.grib_least.proofs.Tried.{AreTrials, tried}
use Rattle.grib_least.proofs.choosing.least_form.Given as goal

-- the packings that are left lead from the best so far to the form
abbrev pub invariant-loop-target : goal.invariant-loop-target
invariant-loop-target l =
    let left = drop l.target-index (trials l.fn.profile) in
    record {
      form : tried (form_of (column_of l.message l.field) (kind_of l.message l.field)) l.limit left l.best ≡ least_form l.fn.profile l.message l.field;
      left : AreTrials left;
      short : IsShort l.best;
    }
