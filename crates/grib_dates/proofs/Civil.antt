-- What it is that the calendar has a time.
use Rattle.std.proofs.Common.{◌≡◌, ℕ, ◌+◌, ◌≤◌, ◌<◌, ◌==◌, ◌||◌, Bool, true, false, not, cond, ◌&&◌, nat_lt, int_le, ℤ, pos, negsuc, neg_ℤ, ◌≤ℤ◌, nat_abs, refl, sym, ap, ap₂, ◌∙◌, arith, ltb-false, le-ltb}
use Rattle.std.specs.Bool.{Decides}
use Rattle.std.proofs.lemmas.Int.{ints}
use Rattle.std.proofs.lemmas.Bool.Decides.{Decides-and, Decides-ltb}
use Rattle.jiff_core.specs.Calendar.{days_in_month, is_leap_year, IsDate}
use Rattle.jiff_core.specs.Time.{IsTime}
use Rattle.grib_dates.specs.declared.time.ReferenceTime.{ReferenceTime}
use Rattle.grib_dates.specs.Times.{is_within, is_civil}

pub record IsCivil (t : ReferenceTime) : Type 0 where
  pub year_low : neg_ℤ (pos 9999) ≤ℤ t.year
  pub year_high : t.year ≤ℤ pos 9999
  pub month_low : 1 ≤ t.month
  pub month_high : t.month ≤ 12
  pub day_low : 1 ≤ t.day
  pub day_high : t.day ≤ days_in_month t.year t.month
  pub hour_high : t.hour < 24
  pub minute_high : t.minute < 60
  pub second_high : t.second < 60

int_le_decides : (a b : ℤ) → Decides (int_le a b) (a ≤ℤ b)
int_le_decides a b = (λ e. grind (arith, ints), λ e. grind (arith, ints))

at_least : (low n : ℕ) → Decides (not (nat_lt n low)) (low ≤ n)
at_least low n = (λ e. ltb-false n low (from_not (nat_lt n low) e), λ h. ap not (le-ltb n low h))
  where
    from_not : (b : Bool) → not b ≡ true → b ≡ false
    from_not true e = cc
    from_not false e = refl

within_decides : (low high n : ℕ) → Decides (is_within low high n) ((low ≤ n) × (n ≤ high))
within_decides low high n = Decides-and (not (nat_lt n low)) (not (nat_lt high n)) (at_least low n) (at_least n high)

and_7 : (a b c d e f g : Bool) → (a && b && c && d && e && f && g) ≡ true
    → (a ≡ true) × (b ≡ true) × (c ≡ true) × (d ≡ true) × (e ≡ true) × (f ≡ true) × (g ≡ true)
and_7 false b c d e f g h = cc
and_7 true false c d e f g h = cc
and_7 true true false d e f g h = cc
and_7 true true true false e f g h = cc
and_7 true true true true false f g h = cc
and_7 true true true true true false g h = cc
and_7 true true true true true true g h = (refl, refl, refl, refl, refl, refl, h)

all_7 : (a b c d e f g : Bool) → a ≡ true → b ≡ true → c ≡ true → d ≡ true → e ≡ true → f ≡ true → g ≡ true
    → (a && b && c && d && e && f && g) ≡ true
all_7 a b c d e f g ea eb ec ed ee ef eg = rw (ea, eb, ec, ed, ee, ef, eg) refl

pub civil_decides : (t : ReferenceTime) → Decides (is_civil t) (IsCivil t)
civil_decides t =
    let low = int_le_decides (neg_ℤ (pos 9999)) t.year in
    let high = int_le_decides t.year (pos 9999) in
    let month = within_decides 1 12 t.month in
    let day = within_decides 1 (days_in_month t.year t.month) t.day in
    let hour = Decides-ltb t.hour 24 in
    let minute = Decides-ltb t.minute 60 in
    let second = Decides-ltb t.second 60 in (
      λ e. (let p = and_7 (int_le (neg_ℤ (pos 9999)) t.year) (int_le t.year (pos 9999)) (is_within 1 12 t.month) (is_within 1 (days_in_month t.year t.month) t.day)
          (nat_lt t.hour 24) (nat_lt t.minute 60) (nat_lt t.second 60) e in record {
            year_low = low.0 p.0;
            year_high = high.0 p.1;
            month_low = (month.0 p.2).0;
            month_high = (month.0 p.2).1;
            day_low = (day.0 p.3).0;
            day_high = (day.0 p.3).1;
            hour_high = hour.0 p.4;
            minute_high = minute.0 p.5;
            second_high = second.0 p.6;
          }),
      λ h. all_7 (int_le (neg_ℤ (pos 9999)) t.year) (int_le t.year (pos 9999)) (is_within 1 12 t.month) (is_within 1 (days_in_month t.year t.month) t.day)
          (nat_lt t.hour 24) (nat_lt t.minute 60) (nat_lt t.second 60)
          (low.1 h.year_low) (high.1 h.year_high) (month.1 (h.month_low, h.month_high)) (day.1 (h.day_low, h.day_high))
          (hour.1 h.hour_high) (minute.1 h.minute_high) (second.1 h.second_high),
    )

few_days_by : (a b c : Bool) → cond a (cond b 29 28) (cond c 30 31) ≤ 31
few_days_by true true c = omega arith
few_days_by true false c = omega arith
few_days_by false b true = omega arith
few_days_by false b false = omega arith

pub few_days : (y : ℤ) (m : ℕ) → days_in_month y m ≤ 31
few_days y m = few_days_by (m == 2) (is_leap_year y) ((m == 4) || (m == 6) || (m == 9) || (m == 11))

-- a time that is beyond a limit is none that the calendar has
pub not_civil : (t : ReferenceTime) → (IsCivil t → ⊥) → false ≡ is_civil t
not_civil t never = by (is_civil t) refl
  where
    by : (b : Bool) → is_civil t ≡ b → false ≡ is_civil t
    by true e = absurd (never ((civil_decides t).0 e))
    by false e = sym e

-- ---- the parts that the calendar takes

module _ (t : ReferenceTime) (y mo d h mi s : ℤ) (ey : y ≡ t.year) (emo : mo ≡ pos t.month) (ed : d ≡ pos t.day) (eh : h ≡ pos t.hour) (emi : mi ≡ pos t.minute) (es : s ≡ pos t.second) where
  same_days : days_in_month y (nat_abs mo) ≡ days_in_month t.year t.month
  same_days = ap₂ (λ a b. days_in_month a b) ey (ap nat_abs emo)

  pub from_date : IsDate y mo d × IsTime h mi s (pos 0) → IsCivil t
  from_date is =
      let days = same_days in
      let a = is.0 in
      let b = is.1 in record {
        year_low = omega (arith, ints, a.0.0);
        year_high = omega (arith, ints, a.0.1);
        month_low = omega (arith, ints, a.1.0);
        month_high = omega (arith, ints, a.1.1);
        day_low = omega (arith, ints, a.2.0);
        day_high = omega (arith, ints, a.2.1);
        hour_high = omega (arith, ints, b.0.1);
        minute_high = omega (arith, ints, b.1.1);
        second_high = omega (arith, ints, b.2.1);
      }

  pub to_date : IsCivil t → IsDate y mo d × IsTime h mi s (pos 0)
  to_date p =
      let days = same_days in (
        (
          (omega (arith, ints, p.year_low), omega (arith, ints, p.year_high)),
          (omega (arith, ints, p.month_low), omega (arith, ints, p.month_high)),
          (omega (arith, ints, p.day_low), omega (arith, ints, p.day_high)),
        ),
        (
          (omega (arith, ints), omega (arith, ints, p.hour_high)),
          (omega (arith, ints), omega (arith, ints, p.minute_high)),
          (omega (arith, ints), omega (arith, ints, p.second_high)),
          (omega (arith, ints), omega (arith, ints)),
        ),
      )
