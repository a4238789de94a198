use Rattle.std.proofs.Common.{◌≡◌, true, refl}
use Rattle.grib_rescan.specs.Causes.{is_lat_lon}
use Rattle.grib_rescan.proofs.laws.what_lies_outside.Goals as goal

pub returns-clause-outside : goal.returns-clause-outside
returns-clause-outside c bounds s is order steps none =
    let kind : is_lat_lon s ≡ true = rw (is.source, is.template, is.list) refl in
    rw (kind, order, steps, none) refl

pub returns-clause-inside : goal.returns-clause-inside
returns-clause-inside c bounds s area is order steps found =
    let kind : is_lat_lon s ≡ true = rw (is.source, is.template, is.list) refl in
    rw (kind, order, steps, found) refl
