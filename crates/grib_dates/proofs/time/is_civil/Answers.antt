use Rattle.std.proofs.Common.{◌≡◌, ℤ, pos, arith, sym, ◌∙◌, w8, w16, w32, to_z, to_z-of_z, SFits, ap}
use Rattle.std.proofs.lemmas.Int.{ints, to_z_pos}
use Rattle.std.proofs.Common.{of_z}
use Rattle.jiff_core.proofs.SignedLemmas.{fits_between}
use Rattle.std.proofs.lemmas.Bool.Decides.{same_from_decides}
use Rattle.grib_dates.specs.Times.{is_civil}
use Rattle.grib_dates.proofs.Civil.{civil_decides, few_days, not_civil, from_date, to_date}
use Rattle.grib_dates.proofs.time.is_civil.Goals as goal
use Rattle.grib_dates.proofs.time.is_civil.Goals.{then-hour-gt23-via-then-hour-gt23, then-hour-gt23-via-else-hour-gt23+then-minute-gt59, then-hour-gt23-via-else-hour-gt23+else-minute-gt59+then-second-gt59}

pub returns-then-hour-gt23 : goal.returns-then-hour-gt23
returns-then-hour-gt23 c =
    not_civil c.args.time
    (λ h. elim c.then-hour-gt23.branch [
      | then-hour-gt23-via-then-hour-gt23 w ↦ (let x = w.if-hour-gt23.true in omega (arith, h.hour_high))
      | then-hour-gt23-via-else-hour-gt23+then-minute-gt59 w ↦ (let x = w.if-minute-gt59.true in omega (arith, h.minute_high))
      | then-hour-gt23-via-else-hour-gt23+else-minute-gt59+then-second-gt59 w ↦ (let x = w.if-second-gt59.true in omega (arith, h.second_high))
    ])

pub returns : goal.returns
returns c =
    let t = c.args.time in
    let low = c.if-year-ltminus9999.false in
    let high = c.if-year-gt9999.false in
    let fits_32 : SFits w32 t.year = fits_between w32 t.year (omega (arith, ints, low, high), omega (arith, ints, low, high)) in
    let fits_16 : SFits w16 t.year = fits_between w16 t.year (omega (arith, ints, low, high), omega (arith, ints, low, high)) in
    let ey : to_z w16 (of_z w16 (to_z w32 (of_z w32 t.year))) ≡ t.year =
    ap (λ (y : ℤ). to_z w16 (of_z w16 y)) (to_z-of_z fits_32) ∙ to_z-of_z fits_16 in
    let emo : to_z w8 t.month ≡ pos t.month = to_z_pos w8 t.month (omega arith) in
    let ed : to_z w8 t.day ≡ pos t.day = to_z_pos w8 t.day (omega arith) in
    let eh : to_z w8 t.hour ≡ pos t.hour = to_z_pos w8 t.hour (omega arith) in
    let emi : to_z w8 t.minute ≡ pos t.minute = to_z_pos w8 t.minute (omega arith) in
    let es : to_z w8 t.second ≡ pos t.second = to_z_pos w8 t.second (omega arith) in
    same_from_decides c.is_ok.result (is_civil t) (
      λ e. from_date t _ _ _ _ _ _ ey emo ed eh emi es (c.new.ensures.succeeds.0 (sym c.is_ok.ensures.value ∙ e)),
      λ h. c.is_ok.ensures.value ∙ c.new.ensures.succeeds.1 (to_date t _ _ _ _ _ _ ey emo ed eh emi es h),
    )
    (civil_decides t)
