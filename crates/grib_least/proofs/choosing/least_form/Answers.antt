use Rattle.std.proofs.Common.{sym, subst}
use Rattle.grib_base.specs.declared.profile.Profile.TheVariants.{Open}
use Rattle.grib2_message.specs.Assembled.{IsShort}
use Rattle.grib_repack.proofs.Columns.{packable}
use Rattle.grib_least.proofs.Tried.{own_short, are_trials, form_is}
use Rattle.grib_least.proofs.choosing.least_form.Goals as goal

pub size-limit-requires : goal.size-limit-requires
size-limit-requires c =
    subst IsShort (sym c.in_ok-own.ensures) (own_short Open c.args.message.now c.args.field c.requires.message c.requires.first c.requires.last)

pub loop-target-init : goal.loop-target-init
loop-target-init c = record {
  form = form_is c.args.profile c.args.message.now c.args.field c.size-limit.result c.in_ok-own.own c.in_ok-own.ensures c.size-limit.ensures;
  left = are_trials c.args.profile;
  short = subst IsShort (sym c.in_ok-own.ensures) (own_short Open c.args.message.now c.args.field c.requires.message c.requires.first c.requires.last);
}

pub or_packed-requires-clause-column : goal.or_packed-requires-clause-column
or_packed-requires-clause-column c =
    let e = c.in_ok-column.ensures in
    packable c.args.message.now c.args.field c.in_ok-column.column e.column e.passes e.some e.few
