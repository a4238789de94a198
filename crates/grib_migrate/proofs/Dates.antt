-- Days and seconds after a date.
use Rattle.std.proofs.Common.{◌≡◌, ℕ, zero, suc, ◌+◌, ◌<◌, ◌≤◌, ◌⊎◌, ◌==◌, ◌||◌, Bool, true, false, cond, nat_lt, ℤ, pos, ◌+ℤ◌, ◌<ℤ◌, refl, sym, ap, ◌∙◌, subst, arith, inl, inr}
use Rattle.std.proofs.lemmas.Bool.{ltb-true, ltb-false, cases_lt}
use Rattle.std.proofs.lemmas.Int.{ints}
use Rattle.jiff_core.specs.Calendar.{days_in_month, days_from_civil, is_leap_year}
use Rattle.jiff.proofs.Family.{days_from_civil-day, days_from_civil-next_month, days_from_civil-next_year, days_from_civil-max}
use Rattle.grib_migrate.specs.declared.date.Moment.{Moment}
use Rattle.grib_migrate.specs.Dates.{moment, next_day, days_later}

-- a date of the calendar with this day number
pub record IsDay (m : Moment) (number : ℤ) : Type 0 where
  pub year_low : 1 ≤ m.year
  pub month_low : 1 ≤ m.month
  pub month_high : m.month ≤ 12
  pub day_low : 1 ≤ m.day
  pub day_high : m.day ≤ days_in_month (pos m.year) m.month
  pub number_is : days_from_civil (pos m.year) m.month m.day ≡ number
  pub far : (m.year ≤ 9999) ⊎ (pos 2932896 <ℤ number)

some_days_by : (a b c : Bool) → 1 ≤ cond a (cond b 29 28) (cond c 30 31)
some_days_by true true c = omega arith
some_days_by true false c = omega arith
some_days_by false b true = omega arith
some_days_by false b false = omega arith

some_days : (y : ℤ) (m : ℕ) → 1 ≤ days_in_month y m
some_days y m = some_days_by (m == 2) (is_leap_year y) ((m == 4) || (m == 6) || (m == 9) || (m == 11))

module _ (m : Moment) (number : ℤ) (is : IsDay m number) where
  far_on : (m.year ≤ 9999) ⊎ (pos 2932896 <ℤ number) → (m.year ≤ 9999) ⊎ (pos 2932896 <ℤ (number +ℤ pos 1))
  far_on (inl x) = inl x
  far_on (inr x) = inr (omega (arith, ints))

  same_month : m.day < days_in_month (pos m.year) m.month → IsDay (moment m.year m.month (m.day + 1) m.hour m.minute m.second) (number +ℤ pos 1)
  same_month lt =
      let low = is.day_low in
      let step = days_from_civil-day (pos m.year) m.month m.day (m.day + 1) low (omega arith) in
      let e = is.number_is in
      record {
        year_low = is.year_low;
        month_low = is.month_low;
        month_high = is.month_high;
        day_low = omega arith;
        day_high = omega arith;
        number_is = omega (arith, ints);
        far = far_on is.far;
      }

  next_month : m.day ≡ days_in_month (pos m.year) m.month → m.month < 12 → IsDay (moment m.year (m.month + 1) 1 m.hour m.minute m.second) (number +ℤ pos 1)
  next_month last lt =
      let step = days_from_civil-next_month (pos m.year) m.month m.day is.month_low last in
      let e = is.number_is in
      record {
        year_low = is.year_low;
        month_low = omega arith;
        month_high = omega arith;
        day_low = omega arith;
        day_high = some_days (pos m.year) (m.month + 1);
        number_is = step ∙ ap (λ z. z +ℤ pos 1) e;
        far = far_on is.far;
      }

  year_far : m.month ≡ 12 → m.day ≡ 31 → (m.year ≤ 9999) ⊎ (pos 2932896 <ℤ number) → (m.year + 1 ≤ 9999) ⊎ (pos 2932896 <ℤ (number +ℤ pos 1))
  year_far is_12 is_31 (inr x) = inr (omega (arith, ints))
  year_far is_12 is_31 (inl x) = by (cases_lt m.year 9999)
    where
      by : (m.year < 9999) ⊎ (9999 ≤ m.year) → (m.year + 1 ≤ 9999) ⊎ (pos 2932896 <ℤ (number +ℤ pos 1))
      by (inl l) = inl (omega arith)
      by (inr g) =
          let e : m.year ≡ 9999 = omega arith in
          let n : number ≡ pos 2932896 =
          sym is.number_is ∙ ap (λ y. days_from_civil (pos y) m.month m.day) e ∙ ap (λ k. days_from_civil (pos 9999) k m.day) is_12
          ∙ ap (λ k. days_from_civil (pos 9999) 12 k) is_31 ∙ days_from_civil-max in
          inr (omega (arith, ints))

  next_year : m.day ≡ days_in_month (pos m.year) m.month → m.month ≡ 12 → IsDay (moment (m.year + 1) 1 1 m.hour m.minute m.second) (number +ℤ pos 1)
  next_year last is_12 =
      let is_31 : m.day ≡ 31 = last ∙ ap (λ k. days_in_month (pos m.year) k) is_12 in
      let step = days_from_civil-next_year (pos m.year) (pos (m.year + 1)) (omega (arith, ints)) (omega (arith, ints)) in
      let e : days_from_civil (pos m.year) 12 31 ≡ number = sym (ap (λ k. days_from_civil (pos m.year) k m.day) is_12 ∙ ap (λ k. days_from_civil (pos m.year) 12 k) is_31) ∙ is.number_is in
      record {
        year_low = omega arith;
        month_low = omega arith;
        month_high = omega arith;
        day_low = omega arith;
        day_high = some_days (pos (m.year + 1)) 1;
        number_is = step ∙ ap (λ z. z +ℤ pos 1) e;
        far = year_far is_12 is_31 is.far;
      }

abbrev next_by : Moment → Bool → Bool → Moment
next_by m b c =
    cond b (moment m.year m.month (m.day + 1) m.hour m.minute m.second)
    (cond c (moment m.year (m.month + 1) 1 m.hour m.minute m.second) (moment (m.year + 1) 1 1 m.hour m.minute m.second))

next_is_day_by : (m : Moment) (number : ℤ) → IsDay m number → (b c : Bool) → nat_lt m.day (days_in_month (pos m.year) m.month) ≡ b → nat_lt m.month 12 ≡ c
    → IsDay (next_by m b c) (number +ℤ pos 1)
next_is_day_by m number is true c e f = same_month m number is (ltb-true m.day (days_in_month (pos m.year) m.month) e)
next_is_day_by m number is false true e f =
    let ge = ltb-false m.day (days_in_month (pos m.year) m.month) e in
    let le = is.day_high in
    next_month m number is (omega arith) (ltb-true m.month 12 f)
next_is_day_by m number is false false e f =
    let ge = ltb-false m.day (days_in_month (pos m.year) m.month) e in
    let le = is.day_high in
    let high = is.month_high in
    let low = ltb-false m.month 12 f in
    next_year m number is (omega arith) (omega arith)

next_is_day : (m : Moment) (number : ℤ) → IsDay m number → IsDay (next_day m) (number +ℤ pos 1)
next_is_day m number is = next_is_day_by m number is (nat_lt m.day (days_in_month (pos m.year) m.month)) (nat_lt m.month 12) refl refl

pub later_is_day : (n : ℕ) (m : Moment) (number : ℤ) → IsDay m number → IsDay (days_later n m) (number +ℤ pos n)
later_is_day zero m number is = let e : number ≡ number +ℤ pos 0 = omega (arith, ints) in subst (λ z. IsDay m z) e is
later_is_day (suc n) m number is =
    let e : (number +ℤ pos n) +ℤ pos 1 ≡ number +ℤ pos (suc n) = omega (arith, ints) in
    subst (λ z. IsDay (next_day (days_later n m)) z) e (next_is_day (days_later n m) (number +ℤ pos n) (later_is_day n m number is))

-- the time of day stays
pub record SameTime (m e : Moment) : Type 0 where
  pub hour : e.hour ≡ m.hour
  pub minute : e.minute ≡ m.minute
  pub second : e.second ≡ m.second

next_time_by : (m : Moment) (b c : Bool) → SameTime m (next_by m b c)
next_time_by m true c = record { hour = refl; minute = refl; second = refl }
next_time_by m false true = record { hour = refl; minute = refl; second = refl }
next_time_by m false false = record { hour = refl; minute = refl; second = refl }

pub later_time : (n : ℕ) (m : Moment) → SameTime m (days_later n m)
later_time zero m = record { hour = refl; minute = refl; second = refl }
later_time (suc n) m =
    let before = later_time n m in
    let e = days_later n m in
    let next = next_time_by e (nat_lt e.day (days_in_month (pos e.year) e.month)) (nat_lt e.month 12) in
    record { hour = next.hour ∙ before.hour; minute = next.minute ∙ before.minute; second = next.second ∙ before.second }
