-- The end of an interval and its time range come back.
use Rattle.std.proofs.Common.{◌≡◌, ℕ, ◌+◌, ◌-◌, ◌*◌, ◌<◌, ◌≤◌, ◌^◌, ◌&&◌, ◌||◌, ◌==◌, Bool, true, false, not, cond, Option, Some, None, List, [], ◌++◌, length, nat_lt, refl, sym, ap, ap₂, ◌∙◌, subst, arith, eqb-true}
use Rattle.std.specs.Prelude.{is_none, option_map, unwrap_or}
use Rattle.std.specs.Option.{option_map_or}
use Rattle.grib_bits.specs.Octets.{octets}
use Rattle.grib_bits.specs.Encoding.{section_of, all_octets}
use Rattle.grib_bits.proofs.Encoding.{num_on-octets_of}
use Rattle.grib_bits.proofs.OctetBits.{AreOctets}
use Rattle.grib_bits.proofs.OctetNumbers.{octets-lt}
use Rattle.grib_params.specs.declared.row.Target.{Target}
use Rattle.grib2_sections.specs.Template.{least_length}
use Rattle.grib2_products.specs.Opaque.{is_opaque_product}
use Rattle.grib2_products.specs.Product.{product_template, product_templates, product_length, time_ranges, coordinate_count}
use Rattle.grib1_sections.specs.Keys.{key_in}
use Rattle.grib_keys.specs.declared.key1.Key1.TheVariants.{P1, P2, TimeRange, Unit as TimeUnit}
use Rattle.grib_migrate.specs.declared.date.Moment.{Moment}
use Rattle.grib_migrate.specs.declared.level.Surfaces.{Surfaces}
use Rattle.grib_migrate.specs.declared.time.Unit.{Unit as UnitOfTime}
use Rattle.grib_migrate.specs.Dates as dates
use Rattle.grib_migrate.specs.Dates.{later, is_civil}
use Rattle.grib_migrate.specs.Levels.{surfaces_of}
use Rattle.grib_migrate.specs.Migrated.{no_unit, no_surfaces}
use Rattle.grib_migrate.specs.Products.{product_octets, instant_numbers, interval_numbers, coordinate_numbers}
use Rattle.grib_migrate.specs.Times as times
use Rattle.grib_keys.specs.declared.key.Key.TheVariants.{EndYear, EndMonth, EndDay, EndHour, EndMinute, EndSecond, RangeProcess, RangeIncrementType, RangeUnit, RangeLength}
use Rattle.grib_keys.specs.declared.table.Layout.{Layout}
use Rattle.grib_keys.specs.declared.table.Octets.{Octets}
use Rattle.grib_keys.specs.Keys.{unsigned, interval_place, range_place}
use Rattle.grib_select.specs.Values.{value_at, value_in, layout_of}
use Rattle.grib_demote.specs.declared.product.Told.{Told}
use Rattle.grib_demote.specs.Dates.{reference_time, loses_date, is_after, is_same, moment_at}
use Rattle.grib_demote.specs.Times.{unit_of, range, forecast_time, is_interval, is_statistic, statistic, range_length, end_time, missing, has_range, loses_interval, indicator_of, instant_range, process, time_range}
use Rattle.grib_demote_law.proofs.Identification.{section_1}
use Rattle.grib_demote_law.proofs.Front.{has_unit, unit_is, interval_here, interval_kept, ranged, range_is, p1_is, p2_is, date_is}
use Rattle.grib_demote_law.proofs.Times.{unit_code}
use Rattle.grib_demote_law.proofs.KeyValues.{plain_key}

abbrev layout : List ℕ → ℕ → ℕ → Layout
layout x t r = record { template = t; is_opaque = is_opaque_product x; ranges = r }

in_layout : (place : Layout → Option Octets) (x : List ℕ) (t r : ℕ) → octets x 8 9 ≡ t → time_ranges x ≡ r
    → option_map (value_at unsigned x) (place (layout_of 4 x)) ≡ option_map (value_at unsigned x) (place (layout x t r))
in_layout place x t r is_t is_r = ap₂ (λ (m n : ℕ). option_map (value_at unsigned x) (place (layout x m n))) is_t is_r

-- ---- the end

same_moment : (end m : Moment) → is_same end m ≡ true → m ≡ end
same_moment end m e = by (end.year == m.year) (end.month == m.month) (end.day == m.day) (end.hour == m.hour) (end.minute == m.minute) (end.second == m.second) refl refl refl refl refl refl e
  where
    by : (a b c d f g : Bool) → (end.year == m.year) ≡ a → (end.month == m.month) ≡ b → (end.day == m.day) ≡ c → (end.hour == m.hour) ≡ d → (end.minute == m.minute) ≡ f
        → (end.second == m.second) ≡ g → (a && b && c && d && f && g) ≡ true → m ≡ end
    by true true true true true true ya yb yc yd yf yg e =
        let year = sym (eqb-true end.year m.year ya) in
        let month = sym (eqb-true end.month m.month yb) in
        let day = sym (eqb-true end.day m.day yc) in
        let hour = sym (eqb-true end.hour m.hour yd) in
        let minute = sym (eqb-true end.minute m.minute yf) in
        let second = sym (eqb-true end.second m.second yg) in
        λ i. record { year = year i; month = month i; day = day i; hour = hour i; minute = minute i; second = second i }
    by true true true true true false ya yb yc yd yf yg e = let no : ⊥ = cc e in absurd no
    by true true true true false g ya yb yc yd yf yg e = let no : ⊥ = cc e in absurd no
    by true true true false f g ya yb yc yd yf yg e = let no : ⊥ = cc e in absurd no
    by true true false d f g ya yb yc yd yf yg e = let no : ⊥ = cc e in absurd no
    by true false c d f g ya yb yc yd yf yg e = let no : ⊥ = cc e in absurd no
    by false b c d f g ya yb yc yd yf yg e = let no : ⊥ = cc e in absurd no

after_is : (start : Moment) (seconds : ℕ) (end : Moment) → is_after start seconds end ≡ true → later start seconds ≡ end
after_is start seconds end e = by (is_civil start) (nat_lt 9999 (later start seconds).year) e
  where
    by : (a b : Bool) → option_map_or (is_same end) (cond a (cond b None (Some (later start seconds))) None) false ≡ true → later start seconds ≡ end
    by true true e = let no : ⊥ = cc e in absurd no
    by true false e = same_moment end (later start seconds) e
    by false b e = let no : ⊥ = cc e in absurd no

-- ---- the time range

-- what is told of the one time range
record IsRange (s4 : List ℕ) : Type 0 where
  count : octets s4 42 42 ≡ 1
  known : is_statistic (statistic s4) ≡ true
  increment : octets s4 48 48 ≡ 2
  unit : octets s4 49 49 ≡ octets s4 18 18

range_parts : (s4 : List ℕ) → has_range s4 ≡ true → IsRange s4
range_parts s4 e =
    by (octets s4 42 42 == 1) (is_statistic (statistic s4)) (octets s4 48 48 == 2) (octets s4 49 49 == octets s4 18 18) (octets s4 55 58 == 0)
    (not (nat_lt 255 (end_time s4))) (not (nat_lt 255 (missing s4))) refl refl refl refl e
  where
    by : (a b c d x y z : Bool) → (octets s4 42 42 == 1) ≡ a → is_statistic (statistic s4) ≡ b → (octets s4 48 48 == 2) ≡ c → (octets s4 49 49 == octets s4 18 18) ≡ d
        → (a && b && c && d && x && y && z) ≡ true → IsRange s4
    by true true true true x y z pa pb pc pd e =
        record { count = eqb-true (octets s4 42 42) 1 pa; known = pb; increment = eqb-true (octets s4 48 48) 2 pc; unit = eqb-true (octets s4 49 49) (octets s4 18 18) pd }
    by false b c d x y z pa pb pc pd e = let no : ⊥ = cc e in absurd no
    by true false c d x y z pa pb pc pd e = let no : ⊥ = cc e in absurd no
    by true true false d x y z pa pb pc pd e = let no : ⊥ = cc e in absurd no
    by true true true false x y z pa pb pc pd e = let no : ⊥ = cc e in absurd no

statistic_back : (p : ℕ) → is_statistic p ≡ true → times.statistic (indicator_of p) ≡ p
statistic_back p e = by (0 == p) (1 == p) (4 == p) refl refl refl e
  where
    at : (n : ℕ) → times.statistic (indicator_of n) ≡ n → n ≡ p → times.statistic (indicator_of p) ≡ p
    at n is same = subst (λ (m : ℕ). times.statistic (indicator_of m) ≡ m) same is

    by : (a b c : Bool) → (0 == p) ≡ a → (1 == p) ≡ b → (4 == p) ≡ c → (a || (b || (c || false))) ≡ true → times.statistic (indicator_of p) ≡ p
    by true b c pa pb pc e = at 0 refl (eqb-true 0 p pa)
    by false true c pa pb pc e = at 1 refl (eqb-true 1 p pb)
    by false false true pa pb pc e = at 4 refl (eqb-true 4 p pc)
    by false false false pa pb pc e = let no : ⊥ = cc e in absurd no

-- ---- the keys

pub record SameInterval (w s : List ℕ) : Type 0 where
  pub end_year : value_in EndYear w ≡ value_in EndYear s
  pub end_month : value_in EndMonth w ≡ value_in EndMonth s
  pub end_day : value_in EndDay w ≡ value_in EndDay s
  pub end_hour : value_in EndHour w ≡ value_in EndHour s
  pub end_minute : value_in EndMinute w ≡ value_in EndMinute s
  pub end_second : value_in EndSecond w ≡ value_in EndSecond s
  pub range_process : value_in RangeProcess w ≡ value_in RangeProcess s
  pub range_increment : value_in RangeIncrementType w ≡ value_in RangeIncrementType s
  pub range_unit : value_in RangeUnit w ≡ value_in RangeUnit s
  pub range_length_is : value_in RangeLength w ≡ value_in RangeLength s

-- sections without one
pub no_interval : (w s : List ℕ) → octets w 8 9 ≡ 0 → octets s 8 9 ≡ 0 → SameInterval w s
no_interval w s is_w is_s =
    let none_w : time_ranges w ≡ 0 = ap (λ (t : ℕ). cond (t == 8) (octets w 42 42) (cond (t == 11) (octets w 45 45) 0)) is_w in
    let none_s : time_ranges s ≡ 0 = ap (λ (t : ℕ). cond (t == 8) (octets s 42 42) (cond (t == 11) (octets s 45 45) 0)) is_s in
    record {
      end_year = in_layout (interval_place 35 36) w 0 0 is_w none_w ∙ sym (in_layout (interval_place 35 36) s 0 0 is_s none_s);
      end_month = in_layout (interval_place 37 37) w 0 0 is_w none_w ∙ sym (in_layout (interval_place 37 37) s 0 0 is_s none_s);
      end_day = in_layout (interval_place 38 38) w 0 0 is_w none_w ∙ sym (in_layout (interval_place 38 38) s 0 0 is_s none_s);
      end_hour = in_layout (interval_place 39 39) w 0 0 is_w none_w ∙ sym (in_layout (interval_place 39 39) s 0 0 is_s none_s);
      end_minute = in_layout (interval_place 40 40) w 0 0 is_w none_w ∙ sym (in_layout (interval_place 40 40) s 0 0 is_s none_s);
      end_second = in_layout (interval_place 41 41) w 0 0 is_w none_w ∙ sym (in_layout (interval_place 41 41) s 0 0 is_s none_s);
      range_process = in_layout (range_place 47 47) w 0 0 is_w none_w ∙ sym (in_layout (range_place 47 47) s 0 0 is_s none_s);
      range_increment = in_layout (range_place 48 48) w 0 0 is_w none_w ∙ sym (in_layout (range_place 48 48) s 0 0 is_s none_s);
      range_unit = in_layout (range_place 49 49) w 0 0 is_w none_w ∙ sym (in_layout (range_place 49 49) s 0 0 is_s none_s);
      range_length_is = in_layout (range_place 50 53) w 0 0 is_w none_w ∙ sym (in_layout (range_place 50 53) s 0 0 is_s none_s);
    }

seconds_of : (o : Option UnitOfTime) → (unwrap_or o no_unit).seconds ≡ option_map_or (λ u. u.seconds) o 0
seconds_of None = refl
seconds_of (Some u) = refl

code_of : (o : Option UnitOfTime) → (unwrap_or o no_unit).code ≡ option_map_or (λ u. u.code) o 0
code_of None = refl
code_of (Some u) = refl

module _ (told : Told) (bitmapped : Bool) (s1 s4 s5 local words : List ℕ) (target : Target) (kept : loses_interval s1 s4 ≡ false) where
  abbrev a : List ℕ
  a = section_1 told bitmapped s1 s4 s5 local

  abbrev unit : UnitOfTime
  unit = unwrap_or (times.unit_of a) no_unit

  abbrev surfaces : Surfaces
  surfaces = unwrap_or (surfaces_of a) no_surfaces

  abbrev w : List ℕ
  w = section_of 4 (product_octets target a words unit surfaces)

  abbrev written : List ℕ
  written = section_of 4 (all_octets (instant_numbers target a unit surfaces (length words)) ++ (all_octets (interval_numbers a unit) ++ all_octets (coordinate_numbers words)))

  -- the template is known, and Section 4 is whole
  module _ (small_1 : AreOctets s1) (long_1 : 21 ≤ length s1) (small : AreOctets s4) (whole : product_length s4 ≤ length s4) (date : loses_date s1 ≡ false) (some : is_none (unit_of s4) ≡ false)
      (here : told.unit ≡ unwrap_or (option_map (λ r. r.old) (unit_of s4)) 0) (template : octets w 8 9 ≡ octets s4 8 9) (on : is_interval s4 ≡ true) where
    is_8 : octets s4 8 9 ≡ 8
    is_8 = eqb-true (product_template s4) 8 on

    parts : IsRange s4
    parts = range_parts s4 (interval_kept s1 s4 kept on).ranged

    ranges : time_ranges s4 ≡ 1
    ranges = ap (λ (t : ℕ). cond (t == 8) (octets s4 42 42) (cond (t == 11) (octets s4 45 45) 0)) is_8 ∙ parts.count

    long : 58 ≤ length s4
    long =
        let one = ranges in
        let le : 46 + 12 * time_ranges s4 + 4 * coordinate_count s4 ≤ length s4 =
        subst (λ (t : ℕ). least_length product_templates t + 12 * time_ranges s4 + 4 * coordinate_count s4 ≤ length s4) is_8 whole in
        omega (arith, le, one)

    one : (n : ℕ) → 1 ≤ n → n ≤ 58 → octets s4 n n < 256
    one n low high =
        let within = long in
        let few : octets s4 n n < 2 ^ (8 * 1) = octets-lt s4 n n 1 small (omega (arith, low)) (omega arith) (omega (arith, high, within)) in
        omega (arith, few)

    w_is : w ≡ written
    w_is =
        ap (λ (b : Bool). section_of 4 (all_octets (instant_numbers target a unit surfaces (length words)) ++ (all_octets (cond b (interval_numbers a unit) []) ++ all_octets (coordinate_numbers words))))
        (interval_here told bitmapped s1 s4 s5 local kept ∙ on)

    template_w : octets w 8 9 ≡ 8
    template_w = template ∙ is_8

    ranges_w : time_ranges w ≡ 1
    ranges_w = ap (λ (t : ℕ). cond (t == 8) (octets w 42 42) (cond (t == 11) (octets w 45 45) 0)) template_w ∙ ap (λ (x : List ℕ). octets x 42 42) w_is

    range_is_told : time_range s4 ≡ range (indicator_of (statistic s4)) (forecast_time s4) (end_time s4) (missing s4)
    range_is_told = ap (λ b. cond b (range (indicator_of (statistic s4)) (forecast_time s4) (end_time s4) (missing s4)) (instant_range (process s4) (forecast_time s4))) on

    first : key_in a P1 ≡ forecast_time s4
    first = p1_is told bitmapped s1 s4 s5 local ((ranged told bitmapped s1 s4 s5 local kept).p1_small on) ∙ ap (λ r. r.p1) range_is_told

    last : key_in a P2 ≡ end_time s4
    last = p2_is told bitmapped s1 s4 s5 local ((ranged told bitmapped s1 s4 s5 local kept).p2_small on) ∙ ap (λ r. r.p2) range_is_told

    last_small : end_time s4 < 256
    last_small = let low = (ranged told bitmapped s1 s4 s5 local kept).p2_small on in let same = ap (λ r. r.p2) range_is_told in omega (arith, low, same)

    key_here : key_in a TimeUnit ≡ unwrap_or (option_map (λ r. r.old) (unit_of s4)) 0
    key_here = let few = (has_unit s4 some).small in unit_is told bitmapped s1 s4 s5 local (omega (arith, here, few)) ∙ here

    seconds_are : unit.seconds ≡ option_map_or (λ r. r.unit.seconds) (unit_of s4) 0
    seconds_are = seconds_of (times.unit_of a) ∙ ap (λ (n : ℕ). option_map_or (λ u. u.seconds) (times.unit_at n) 0) key_here ∙ (has_unit s4 some).seconds

    code_is : unit.code ≡ octets s4 18 18
    code_is = code_of (times.unit_of a) ∙ ap (λ (n : ℕ). option_map_or (λ u. u.code) (times.unit_at n) 0) key_here ∙ (has_unit s4 some).code ∙ unit_code s4 some

    abbrev end : Moment
    end = dates.end_of a unit.seconds

    end_is : end ≡ moment_at s4 35
    end_is =
        ap₂ (λ (m : Moment) (n : ℕ). later m n) (date_is told bitmapped s1 s4 s5 local small_1 long_1 date) (ap₂ ◌*◌ last seconds_are)
        ∙ after_is (reference_time s1) (end_time s4 * option_map_or (λ r. r.unit.seconds) (unit_of s4) 0) (moment_at s4 35) (interval_kept s1 s4 kept on).ends

    year : octets written 35 36 ≡ octets s4 35 36
    year =
        let is : end.year ≡ octets s4 35 36 = ap (λ (m : Moment). m.year) end_is in
        let within = long in
        let few : octets s4 35 36 < 2 ^ (8 * 2) = octets-lt s4 35 36 2 small (omega arith) (omega arith) (omega (arith, within)) in
        num_on-octets_of 2 end.year (omega (arith, is, few)) ∙ is

    month : octets written 37 37 ≡ octets s4 37 37
    month = let is : end.month ≡ octets s4 37 37 = ap (λ (m : Moment). m.month) end_is in let few = one 37 (omega arith) (omega arith) in num_on-octets_of 1 end.month (omega (arith, is, few)) ∙ is

    day : octets written 38 38 ≡ octets s4 38 38
    day = let is : end.day ≡ octets s4 38 38 = ap (λ (m : Moment). m.day) end_is in let few = one 38 (omega arith) (omega arith) in num_on-octets_of 1 end.day (omega (arith, is, few)) ∙ is

    hour : octets written 39 39 ≡ octets s4 39 39
    hour = let is : end.hour ≡ octets s4 39 39 = ap (λ (m : Moment). m.hour) end_is in let few = one 39 (omega arith) (omega arith) in num_on-octets_of 1 end.hour (omega (arith, is, few)) ∙ is

    minute : octets written 40 40 ≡ octets s4 40 40
    minute = let is : end.minute ≡ octets s4 40 40 = ap (λ (m : Moment). m.minute) end_is in let few = one 40 (omega arith) (omega arith) in num_on-octets_of 1 end.minute (omega (arith, is, few)) ∙ is

    second : octets written 41 41 ≡ octets s4 41 41
    second = let is : end.second ≡ octets s4 41 41 = ap (λ (m : Moment). m.second) end_is in let few = one 41 (omega arith) (omega arith) in num_on-octets_of 1 end.second (omega (arith, is, few)) ∙ is

    range_process : octets written 47 47 ≡ octets s4 47 47
    range_process =
        let indicator : key_in a TimeRange ≡ indicator_of (statistic s4) =
        range_is told bitmapped s1 s4 s5 local (ranged told bitmapped s1 s4 s5 local kept).indicator_small ∙ ap (λ r. r.indicator) range_is_told in
        let is : times.statistic (key_in a TimeRange) ≡ statistic s4 = ap times.statistic indicator ∙ statistic_back (statistic s4) parts.known in
        let few = one 47 (omega arith) (omega arith) in
        num_on-octets_of 1 (times.statistic (key_in a TimeRange)) (omega (arith, is, few)) ∙ is

    range_unit : octets written 49 49 ≡ octets s4 49 49
    range_unit =
        let is = code_is in
        let few = one 18 (omega arith) (omega arith) in
        num_on-octets_of 1 unit.code (omega (arith, is, few)) ∙ is ∙ sym parts.unit

    range_length_back : octets written 50 53 ≡ octets s4 50 53
    range_length_back =
        let p1 = first in
        let p2 = last in
        let few = last_small in
        let is : key_in a P2 - key_in a P1 ≡ range_length s4 = omega (arith, p1, p2) in
        num_on-octets_of 4 (key_in a P2 - key_in a P1) (omega (arith, p2, few)) ∙ is

    pub with_interval : SameInterval w s4
    with_interval = record {
      end_year = in_layout (interval_place 35 36) w 8 1 template_w ranges_w ∙ plain_key w written s4 35 36 w_is year ∙ sym (in_layout (interval_place 35 36) s4 8 1 is_8 ranges);
      end_month = in_layout (interval_place 37 37) w 8 1 template_w ranges_w ∙ plain_key w written s4 37 37 w_is month ∙ sym (in_layout (interval_place 37 37) s4 8 1 is_8 ranges);
      end_day = in_layout (interval_place 38 38) w 8 1 template_w ranges_w ∙ plain_key w written s4 38 38 w_is day ∙ sym (in_layout (interval_place 38 38) s4 8 1 is_8 ranges);
      end_hour = in_layout (interval_place 39 39) w 8 1 template_w ranges_w ∙ plain_key w written s4 39 39 w_is hour ∙ sym (in_layout (interval_place 39 39) s4 8 1 is_8 ranges);
      end_minute = in_layout (interval_place 40 40) w 8 1 template_w ranges_w ∙ plain_key w written s4 40 40 w_is minute ∙ sym (in_layout (interval_place 40 40) s4 8 1 is_8 ranges);
      end_second = in_layout (interval_place 41 41) w 8 1 template_w ranges_w ∙ plain_key w written s4 41 41 w_is second ∙ sym (in_layout (interval_place 41 41) s4 8 1 is_8 ranges);
      range_process = in_layout (range_place 47 47) w 8 1 template_w ranges_w ∙ plain_key w written s4 47 47 w_is range_process ∙ sym (in_layout (range_place 47 47) s4 8 1 is_8 ranges);
      range_increment = in_layout (range_place 48 48) w 8 1 template_w ranges_w ∙ plain_key w written s4 48 48 w_is (sym parts.increment) ∙ sym (in_layout (range_place 48 48) s4 8 1 is_8 ranges);
      range_unit = in_layout (range_place 49 49) w 8 1 template_w ranges_w ∙ plain_key w written s4 49 49 w_is range_unit ∙ sym (in_layout (range_place 49 49) s4 8 1 is_8 ranges);
      range_length_is = in_layout (range_place 50 53) w 8 1 template_w ranges_w ∙ plain_key w written s4 50 53 w_is range_length_back ∙ sym (in_layout (range_place 50 53) s4 8 1 is_8 ranges);
    }
