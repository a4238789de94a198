use Rattle.std.proofs.Common.{◌≡◌, ℕ, ◌+◌, ◌%◌, ◌^◌, ◌∙◌, refl, ap, sym}
use Rattle.grib_complex_reading.specs.declared.values.Values.{Values}
use Rattle.grib_complex_reading.specs.Tells.{telling_of}
use Rattle.grib_complex_reading.proofs.AtOnce.{values_run}
use Rattle.grib_complex_reading.proofs.values.ValuesRunTaker.take_run.Goals as goal

pub returns : goal.returns
returns g c =
    let before = c.args.self in
    let codes = g.R.CodeRun.codes c.args.run in
    let taken = c.keep_steadily-steady.ensures in
    let is_run : c.into_steady-steady.result.run ≡ before.teller.running = c.into_steady-steady.ensures.run in
    let last : Values _ = record {
      teller = record {
        running = c.into_running.result;
        place = (before.teller.place + c.from.result) % 2 ^ 64;
        beyond = before.teller.beyond;
      };
      keeper = c.keep_steadily-steady.result.keeper;
    } in
    values_run g.K.Keeper.kept before last codes (telling_of c.into_steady-steady.result.run)
    (ap telling_of (sym is_run))
    (ap (λ (n : ℕ). (before.teller.place + n) % 2 ^ 64) (c.from.ensures ∙ c.count-count.ensures))
    refl
    taken.within
    (ap telling_of c.into_running.ensures ∙ taken.telling)
    taken.keeps
