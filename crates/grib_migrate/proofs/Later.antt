-- A moment of the calendar some seconds later.
use Rattle.std.proofs.Common.{◌≡◌, ℕ, ◌+◌, ◌*◌, ◌/◌, ◌%◌, ◌<◌, ◌≤◌, ◌⊎◌, ◌&&◌, Bool, true, false, not, cond, Some, None, nat_lt, ℤ, pos, ◌+ℤ◌, ◌*ℤ◌, ◌≤ℤ◌, ◌<ℤ◌, refl, sym, ap, ap₂, ◌∙◌, subst, arith, inl, inr, le-ltb, lt-ltb}
use Rattle.std.proofs.lemmas.Bool.{ltb-true, ltb-false, cases_lt, and_parts, not-true}
use Rattle.std.proofs.lemmas.Int.{ints}
use Rattle.std.specs.Prelude.{Result, Ok, Err, IfOk, nat_abs}
use Rattle.std.specs.Result.{result_ok}
use Rattle.jiff_core.specs.declared.civil.date.Date.{Date}
use Rattle.jiff_core.specs.declared.civil.datetime.DateTime.{DateTime}
use Rattle.jiff_core.specs.Calendar.{days_in_month, days_from_civil, IsDate}
use Rattle.jiff_core.specs.Date.{epoch_day}
use Rattle.jiff_core.specs.DateTime.{civil_nanos, IsCivilNanos}
use Rattle.jiff_core.specs.Time.{time_nanos, IsTime}
use Rattle.jiff.proofs.Family.{civil_nanos-parts, civil_nanos_range, time_nanos_bound, epoch_day_range, epoch_day_injective}
use Rattle.grib_migrate.specs.declared.date.Moment.{Moment}
use Rattle.grib_migrate.specs.Dates.{moment, is_within, is_civil, IsCivil, time_of_day, later, IsAt, within_9999, later_in}
use Rattle.grib_migrate.proofs.Dates.{IsDay, later_is_day, later_time}

within_true : (low high n : ℕ) → is_within low high n ≡ true → (low ≤ n) × (n ≤ high)
within_true low high n e =
    let both = and_parts (not (nat_lt n low)) (not (nat_lt high n)) e in
    (ltb-false n low (not-true (nat_lt n low) both.0), ltb-false high n (not-true (nat_lt high n) both.1))

and_6 : (a b c d e f : Bool) → (a && b && c && d && e && f) ≡ true → (a ≡ true) × (b ≡ true) × (c ≡ true) × (d ≡ true) × (e ≡ true) × (f ≡ true)
and_6 false b c d e f h = cc
and_6 true false c d e f h = cc
and_6 true true false d e f h = cc
and_6 true true true false e f h = cc
and_6 true true true true false f h = cc
and_6 true true true true true f h = (refl, refl, refl, refl, refl, h)

within_is : (low high n : ℕ) → low ≤ n → n ≤ high → is_within low high n ≡ true
within_is low high n le ge = ap₂ (λ a b. not a && not b) (le-ltb n low le) (le-ltb high n ge)

pub civil_parts : (m : Moment) → is_civil m ≡ true → IsCivil m
civil_parts m e =
    let p = and_6 (is_within 1 9999 m.year) (is_within 1 12 m.month) (is_within 1 (days_in_month (pos m.year) m.month) m.day) (nat_lt m.hour 24) (nat_lt m.minute 60) (nat_lt m.second 60) e in
    let yr = within_true 1 9999 m.year p.0 in
    let mr = within_true 1 12 m.month p.1 in
    let dr = within_true 1 (days_in_month (pos m.year) m.month) m.day p.2 in
    (yr.0, yr.1, mr.0, mr.1, dr.0, dr.1, ltb-true m.hour 24 p.3, ltb-true m.minute 60 p.4, ltb-true m.second 60 p.5)

pub civil_is : (m : Moment) → IsCivil m → is_civil m ≡ true
civil_is m p =
    let a = within_is 1 9999 m.year p.0 p.1 in
    let b = within_is 1 12 m.month p.2 p.3 in
    let c = within_is 1 (days_in_month (pos m.year) m.month) m.day p.4 p.5 in
    let d = lt-ltb m.hour 24 p.6 in
    let e = lt-ltb m.minute 60 p.7 in
    let f = lt-ltb m.second 60 p.8 in
    all_6 (is_within 1 9999 m.year) (is_within 1 12 m.month) (is_within 1 (days_in_month (pos m.year) m.month) m.day) (nat_lt m.hour 24) (nat_lt m.minute 60) (nat_lt m.second 60) a b c d e f
  where
    all_6 : (a b c d e f : Bool) → a ≡ true → b ≡ true → c ≡ true → d ≡ true → e ≡ true → f ≡ true → (a && b && c && d && e && f) ≡ true
    all_6 a b c d e f ea eb ec ed ee ef = rw (ea, eb, ec, ed, ee, ef) refl

-- the calendar's date of a moment
date_of : (m : Moment) (number : ℤ) → IsDay m number → m.year ≤ 9999 → Date
date_of m number is high = record {
  year = pos m.year;
  month = m.month;
  day = m.day;
  year_in = (omega (arith, ints), omega (arith, ints));
  month_in = (is.month_low, is.month_high);
  day_in = (is.day_low, is.day_high);
}

module _ (at : DateTime) (m : Moment) (seconds : ℕ) (parts : IsAt at m) (whole : at.time.subsec_nanosecond ≡ 0) (civil_m : is_civil m ≡ true) where
  total : ℕ
  total = time_of_day m + seconds

  start : Moment
  start = moment m.year m.month m.day (total % 86400 / 3600) (total % 3600 / 60) (total % 60)

  number : ℤ
  number = days_from_civil (pos m.year) m.month m.day

  start_is_day : IsDay start number
  unfolding start number
  start_is_day =
      let p = civil_parts m civil_m in
      record {
        year_low = p.0;
        month_low = p.2;
        month_high = p.3;
        day_low = p.4;
        day_high = p.5;
        number_is = refl;
        far = inl p.1;
      }

  end_is_day : IsDay (later m seconds) (number +ℤ pos (total / 86400))
  unfolding start number total
  end_is_day = later_is_day (total / 86400) start number start_is_day

  end_time : time_of_day (later m seconds) ≡ total % 86400
  unfolding start total
  end_time =
      let same = later_time (total / 86400) start in
      let h = same.hour in
      let mi = same.minute in
      let s = same.second in
      omega arith

  at_nanos : civil_nanos at ≡ number *ℤ pos 86400000000000 +ℤ pos (time_of_day m * 1000000000)
  unfolding number
  at_nanos =
      let day : epoch_day at.date ≡ days_from_civil (pos m.year) m.month m.day =
      ap (λ y. days_from_civil y at.date.month at.date.day) parts.year ∙ ap (λ k. days_from_civil (pos m.year) k at.date.day) parts.month
      ∙ ap (λ k. days_from_civil (pos m.year) m.month k) parts.day in
      let h = parts.hour in
      let mi = parts.minute in
      let s = parts.second in
      let w = whole in
      let time : time_nanos at.time ≡ time_of_day m * 1000000000 = omega arith in
      civil_nanos-parts at ∙ ap₂ (λ z n. z *ℤ pos 86400000000000 +ℤ pos n) day time

  end_nanos : civil_nanos at +ℤ pos (seconds * 1000000000) ≡ (number +ℤ pos (total / 86400)) *ℤ pos 86400000000000 +ℤ pos (time_of_day (later m seconds) * 1000000000)
  unfolding total
  end_nanos =
      let a = at_nanos in
      let t = end_time in
      let low : total / 86400 * 86400 + total % 86400 ≡ total = omega arith in
      omega (arith, ints)

  -- what the calendar has at that many nanoseconds is the moment that is sought, and not after year 9999
  pub end_within : (end : DateTime) → civil_nanos end ≡ civil_nanos at +ℤ pos (seconds * 1000000000) → (later m seconds).year ≤ 9999
  unfolding number total
  end_within end e = high is.far
    where
      is : IsDay (later m seconds) (number +ℤ pos (total / 86400))
      is = end_is_day

      days_same : epoch_day end.date ≡ number +ℤ pos (total / 86400)
      days_same =
          let a = civil_nanos-parts end in
          let b = end_nanos in
          let t = end_time in
          let bound = time_nanos_bound end.time in
          omega (arith, ints)

      high : ((later m seconds).year ≤ 9999) ⊎ (pos 2932896 <ℤ (number +ℤ pos (total / 86400))) → (later m seconds).year ≤ 9999
      high (inl x) = x
      high (inr x) = let r = epoch_day_range end.date in let s = days_same in absurd (omega (arith, ints, r.0, r.1))

  record IsClock : Type 0 where
    hour_in : (later m seconds).hour < 24
    minute_in : (later m seconds).minute < 60
    second_in : (later m seconds).second < 60

  end_clock : IsClock
  unfolding start total
  end_clock =
      let same = later_time (total / 86400) start in
      let h = same.hour in
      let mi = same.minute in
      let s = same.second in
      record { hour_in = omega arith; minute_in = omega arith; second_in = omega arith }

  pub end_parts : (end : DateTime) → civil_nanos end ≡ civil_nanos at +ℤ pos (seconds * 1000000000) → IsAt end (later m seconds)
  unfolding number total date_of
  end_parts end e =
      let is = end_is_day in
      let d = date_of (later m seconds) (number +ℤ pos (total / 86400)) is (end_within end e) in
      let a = civil_nanos-parts end in
      let b = end_nanos in
      let t = end_time in
      let bound = time_nanos_bound end.time in
      let days : epoch_day end.date ≡ number +ℤ pos (total / 86400) = omega (arith, ints) in
      let nanos : time_nanos end.time ≡ time_of_day (later m seconds) * 1000000000 = omega (arith, ints) in
      let same = epoch_day_injective end.date d (days ∙ sym is.number_is) in
      let ch = end_clock.hour_in in
      let cm = end_clock.minute_in in
      let cs = end_clock.second_in in
      let h1 = end.time.hour_in in
      let h2 = end.time.minute_in in
      let h3 = end.time.second_in in
      let h4 = end.time.subsec_in in
      record {
        year = same.0;
        month = same.1;
        day = same.2;
        hour = omega arith;
        minute = omega arith;
        second = omega arith;
      }

  -- what it does not have is after year 9999
  pub end_after : (IsCivilNanos (civil_nanos at +ℤ pos (seconds * 1000000000)) → ⊥) → 9999 < (later m seconds).year
  unfolding number total date_of
  end_after none = by (cases_lt 9999 (later m seconds).year)
    where
      by : (9999 < (later m seconds).year) ⊎ ((later m seconds).year ≤ 9999) → 9999 < (later m seconds).year
      by (inl x) = x
      by (inr x) =
          let is = end_is_day in
          let d = date_of (later m seconds) (number +ℤ pos (total / 86400)) is x in
          let r = epoch_day_range d in
          let n = is.number_is in
          let b = end_nanos in
          let t = end_time in
          let low = civil_nanos_range at in
          absurd (none (omega (arith, ints, low.0, low.1), omega (arith, ints, r.0, r.1)))

-- ---- what is answered

ok_value : {E : Type 0} (result : Result DateTime E) (P : DateTime → Type 0) (end : DateTime) → IfOk result P → Some end ≡ result_ok result → P end
ok_value (Ok d) P end h e = let same : d ≡ end = cc in subst P same h
ok_value (Err x) P end h e = cc

moment_same : (a b : Moment) → a.year ≡ b.year → a.month ≡ b.month → a.day ≡ b.day → a.hour ≡ b.hour → a.minute ≡ b.minute → a.second ≡ b.second → a ≡ b
moment_same a b e1 e2 e3 e4 e5 e6 =
    ap (λ x. moment x a.month a.day a.hour a.minute a.second) e1 ∙ ap (λ x. moment b.year x a.day a.hour a.minute a.second) e2
    ∙ ap (λ x. moment b.year b.month x a.hour a.minute a.second) e3 ∙ ap (λ x. moment b.year b.month b.day x a.minute a.second) e4
    ∙ ap (λ x. moment b.year b.month b.day b.hour x a.second) e5 ∙ ap (λ x. moment b.year b.month b.day b.hour b.minute x) e6

at_same : (end : DateTime) (a b : Moment) → IsAt end a → IsAt end b → a ≡ b
at_same end a b p q =
    moment_same a b (ap nat_abs (sym p.year ∙ q.year)) (sym p.month ∙ q.month) (sym p.day ∙ q.day) (sym p.hour ∙ q.hour) (sym p.minute ∙ q.minute) (sym p.second ∙ q.second)

module _ {E : Type 0} (at : DateTime) (m : Moment) (seconds : ℕ) (shift : ℤ) (result : Result DateTime E) (parts : IsAt at m) (whole : at.time.subsec_nanosecond ≡ 0) (civil_m : IsCivil m)
    (shift_is : shift ≡ pos (seconds * 1000000000)) (value : IfOk result (λ dt. civil_nanos dt ≡ civil_nanos at +ℤ shift)) where
  nanos_at : (end : DateTime) → Some end ≡ result_ok result → civil_nanos end ≡ civil_nanos at +ℤ pos (seconds * 1000000000)
  nanos_at end e =
      ok_value result (λ dt. civil_nanos dt ≡ civil_nanos at +ℤ shift) end value e ∙ ap (λ z. civil_nanos at +ℤ z) shift_is

  pub end_year : (end : DateTime) → Some end ≡ result_ok result → pos 1 ≤ℤ end.date.year
  end_year end e =
      let p = end_parts at m seconds parts whole (civil_is m civil_m) end (nanos_at end e) in
      let is = end_is_day at m seconds parts whole (civil_is m civil_m) in
      let low = is.year_low in
      let y = p.year in
      omega (arith, ints)

  pub later_found : (end : DateTime) (answer : Moment) → Some end ≡ result_ok result → IsAt end answer → Some answer ≡ later_in m seconds
  later_found end answer e is_answer =
      let c = civil_is m civil_m in
      let p = end_parts at m seconds parts whole c end (nanos_at end e) in
      let high = end_within at m seconds parts whole c end (nanos_at end e) in
      ap Some (at_same end answer (later m seconds) is_answer p)
      ∙ sym (ap (λ b. cond b (within_9999 (later m seconds)) None) c ∙ ap (λ b. cond b None (Some (later m seconds))) (le-ltb 9999 (later m seconds).year high))

  pub later_none : (IsCivilNanos (civil_nanos at +ℤ shift) → ⊥) → None ≡ later_in m seconds
  later_none none =
      let c = civil_is m civil_m in
      let far = end_after at m seconds parts whole c (λ range. none (subst (λ z. IsCivilNanos (civil_nanos at +ℤ z)) (sym shift_is) range)) in
      sym (ap (λ b. cond b (within_9999 (later m seconds)) None) c ∙ ap (λ b. cond b None (Some (later m seconds))) (lt-ltb 9999 (later m seconds).year far))

-- ---- the parts that the calendar takes

module _ (m : Moment) (y mo d h mi s : ℤ) (ey : y ≡ pos m.year) (emo : mo ≡ pos m.month) (ed : d ≡ pos m.day) (eh : h ≡ pos m.hour) (emi : mi ≡ pos m.minute) (es : s ≡ pos m.second) where
  same_days : days_in_month y (nat_abs mo) ≡ days_in_month (pos m.year) m.month
  same_days = ap₂ (λ a b. days_in_month a b) ey (ap nat_abs emo)

  pub from_date : 1 ≤ m.year → IsDate y mo d × IsTime h mi s (pos 0) → IsCivil m
  from_date low is =
      let days = same_days in
      let a = is.0 in
      let b = is.1 in (
        low,
        omega (arith, ints, a.0.1),
        omega (arith, ints, a.1.0),
        omega (arith, ints, a.1.1),
        omega (arith, ints, a.2.0),
        omega (arith, ints, a.2.1),
        omega (arith, ints, b.0.1),
        omega (arith, ints, b.1.1),
        omega (arith, ints, b.2.1),
      )

  pub to_date : IsCivil m → IsDate y mo d × IsTime h mi s (pos 0)
  to_date p =
      let days = same_days in (
        (
          (omega (arith, ints, p.0), omega (arith, ints, p.1)),
          (omega (arith, ints, p.2), omega (arith, ints, p.3)),
          (omega (arith, ints, p.4), omega (arith, ints, p.5)),
        ),
        (
          (omega (arith, ints), omega (arith, ints, p.6)),
          (omega (arith, ints), omega (arith, ints, p.7)),
          (omega (arith, ints), omega (arith, ints, p.8)),
          (omega (arith, ints), omega (arith, ints)),
        ),
      )
