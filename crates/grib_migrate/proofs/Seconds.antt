-- The moment some seconds later is the one date and time of the calendar that is by as many seconds later.
use Rattle.std.proofs.Common.{◌≡◌, ℕ, ◌+◌, ◌*◌, ◌/◌, ◌%◌, ◌<◌, ◌≤◌, ◌⊎◌, ◌↔◌, Bool, true, false, cond, Some, None, nat_lt, pos, ◌+ℤ◌, ◌<ℤ◌, nat_abs, refl, sym, ap, ◌∙◌, subst, arith, inl, inr, le-ltb}
use Rattle.std.proofs.lemmas.Bool.{ltb-false}
use Rattle.std.proofs.lemmas.Int.{ints}
use Rattle.jiff_core.specs.declared.civil.date.Date.{Date}
use Rattle.jiff_core.specs.Calendar.{days_from_civil}
use Rattle.jiff.proofs.Family.{epoch_day_range, epoch_day_injective}
use Rattle.grib_migrate.specs.declared.date.Moment.{Moment}
use Rattle.grib_migrate.specs.Dates.{moment, IsCivil, time_of_day, seconds_of, later, within_9999, later_in}
use Rattle.grib_migrate.proofs.Dates.{IsDay, later_is_day, later_time}
use Rattle.grib_migrate.proofs.Later.{civil_is}

-- the time of day some seconds later, on the same day
abbrev at_time : Moment → ℕ → Moment
at_time m total = moment m.year m.month m.day (total % 86400 / 3600) (total % 3600 / 60) (total % 60)

module _ (m : Moment) (n : ℕ) (civil : IsCivil m) where
  begins : IsDay (at_time m (time_of_day m + n)) (days_from_civil (pos m.year) m.month m.day)
  begins = record {
    year_low = civil.0;
    month_low = civil.2;
    month_high = civil.3;
    day_low = civil.4;
    day_high = civil.5;
    number_is = refl;
    far = inl civil.1;
  }

  ends : IsDay (later m n) (days_from_civil (pos m.year) m.month m.day +ℤ pos ((time_of_day m + n) / 86400))
  ends = later_is_day ((time_of_day m + n) / 86400) (at_time m (time_of_day m + n)) (days_from_civil (pos m.year) m.month m.day) begins

  record IsClock : Type 0 where
    hour_in : (later m n).hour < 24
    minute_in : (later m n).minute < 60
    second_in : (later m n).second < 60
    time_is : time_of_day (later m n) ≡ (time_of_day m + n) % 86400

  clock : IsClock
  clock =
      let same = later_time ((time_of_day m + n) / 86400) (at_time m (time_of_day m + n)) in
      let h = same.hour in
      let mi = same.minute in
      let s = same.second in
      record { hour_in = omega arith; minute_in = omega arith; second_in = omega arith; time_is = omega arith }

  seconds_later : seconds_of (later m n) ≡ seconds_of m +ℤ pos n
  seconds_later =
      let days = ends.number_is in
      let time = clock.time_is in
      let total = time_of_day m + n in
      let whole : total / 86400 * 86400 + total % 86400 ≡ total = omega arith in
      omega (arith, ints)

  civil_later : (later m n).year ≤ 9999 → IsCivil (later m n)
  civil_later high = (
    ends.year_low,
    high,
    ends.month_low,
    ends.month_high,
    ends.day_low,
    ends.day_high,
    clock.hour_in,
    clock.minute_in,
    clock.second_in,
  )

-- the calendar's date
date_of : (m : Moment) → IsCivil m → Date
date_of m civil = record {
  year = pos m.year;
  month = m.month;
  day = m.day;
  year_in = (let low = civil.0 in omega (arith, ints), let high = civil.1 in omega (arith, ints));
  month_in = (civil.2, civil.3);
  day_in = (civil.4, civil.5);
}

time_few : (m : Moment) → IsCivil m → time_of_day m < 86400
time_few m civil = let h = civil.6 in let mi = civil.7 in let s = civil.8 in omega arith

-- two moments of the calendar with the same seconds are one
module _ (a b : Moment) (civil_a : IsCivil a) (civil_b : IsCivil b) (same : seconds_of a ≡ seconds_of b) where
  same_day : days_from_civil (pos a.year) a.month a.day ≡ days_from_civil (pos b.year) b.month b.day
  same_day = let x = time_few a civil_a in let y = time_few b civil_b in omega (arith, ints)

  same_time : time_of_day a ≡ time_of_day b
  same_time = let d = same_day in omega (arith, ints)

  only_one : a ≡ b
  unfolding date_of
  only_one =
      let date = epoch_day_injective (date_of a civil_a) (date_of b civil_b) same_day in
      let time = same_time in
      let ha = civil_a.6 in
      let ma = civil_a.7 in
      let sa = civil_a.8 in
      let hb = civil_b.6 in
      let mb = civil_b.7 in
      let sb = civil_b.8 in
      let hour : a.hour ≡ b.hour = omega arith in
      let minute : a.minute ≡ b.minute = omega arith in
      let second : a.second ≡ b.second = omega arith in
      ap (λ x. moment x a.month a.day a.hour a.minute a.second) (ap nat_abs date.0) ∙ ap (λ x. moment b.year x a.day a.hour a.minute a.second) date.1
      ∙ ap (λ x. moment b.year b.month x a.hour a.minute a.second) date.2 ∙ ap (λ x. moment b.year b.month b.day x a.minute a.second) hour
      ∙ ap (λ x. moment b.year b.month b.day b.hour x a.second) minute ∙ ap (λ x. moment b.year b.month b.day b.hour b.minute x) second

-- ---- what is later

-- a moment of the calendar by as many seconds later
abbrev IsLater : Moment → ℕ → Moment → Type 0
IsLater m n e = IsCivil e × (seconds_of e ≡ seconds_of m +ℤ pos n)

module _ (m e : Moment) (n : ℕ) (civil : IsCivil m) where
  in_range : later_in m n ≡ within_9999 (later m n)
  in_range = ap (λ b. cond b (within_9999 (later m n)) None) (civil_is m civil)

  found_by : (b : Bool) → nat_lt 9999 (later m n).year ≡ b → within_9999 (later m n) ≡ Some e → IsLater m n e
  found_by true far is = let lost : None ≡ Some e = sym (ap (λ b. cond b None (Some (later m n))) far) ∙ is in absurd (cc)
  found_by false near is =
      let answer : Some (later m n) ≡ Some e = sym (ap (λ b. cond b None (Some (later m n))) near) ∙ is in
      let same : later m n ≡ e = cc in
      subst (λ x. IsLater m n x) same (civil_later m n civil (ltb-false 9999 (later m n).year near), seconds_later m n civil)

  not_far : IsLater m n e → ((later m n).year ≤ 9999) ⊎ (pos 2932896 <ℤ (days_from_civil (pos m.year) m.month m.day +ℤ pos ((time_of_day m + n) / 86400)))
      → (later m n).year ≤ 9999
  unfolding date_of
  not_far is (inl near) = near
  not_far is (inr far) =
      let range = epoch_day_range (date_of e is.0) in
      let few = time_few e is.0 in
      let seconds = is.1 in
      absurd (omega (arith, ints, range.0, range.1))

  pub end_by_seconds : (within_9999 (later m n) ≡ Some e) ↔ IsLater m n e
  end_by_seconds = (
    found_by (nat_lt 9999 (later m n).year) refl,
    λ is.
        let high = not_far is (ends m n civil).far in
        let same = only_one (later m n) e (civil_later m n civil high) is.0 (seconds_later m n civil ∙ sym is.1) in
        ap (λ b. cond b None (Some (later m n))) (le-ltb 9999 (later m n).year high) ∙ ap Some same,
  )

  pub later_by_seconds : (later_in m n ≡ Some e) ↔ IsLater m n e
  later_by_seconds = (λ is. end_by_seconds.0 (sym in_range ∙ is), λ is. in_range ∙ end_by_seconds.1 is)
