-- Section 1 as it is written loses nothing when it is migrated.
use Rattle.std.proofs.Common.{◌≡◌, ℕ, ◌*◌, ◌/◌, ◌%◌, ◌<◌, ◌≤◌, ◌&&◌, ◌||◌, ◌==◌, Bool, true, false, not, cond, Option, Some, None, List, length, nat_lt, refl, sym, ap, ap₂, ◌∙◌, subst, arith, eqb-true, le-ltb}
use Rattle.std.specs.Prelude.{is_none, option_map, unwrap_or}
use Rattle.std.specs.Option.{option_map_or}
use Rattle.std.proofs.lemmas.Bool.{ltb-false, not-false, or_parts}
use Rattle.grib_bits.specs.Octets.{octets}
use Rattle.grib_bits.proofs.Encoding.{num_on-octets_of}
use Rattle.grib_bits.proofs.OctetBits.{AreOctets}
use Rattle.grib_bits.proofs.OctetNumbers.{octets-lt}
use Rattle.grib_base.specs.Rules.{choose}
use Rattle.grib_params.specs.declared.matching.TableMatch.{TableMatch}
use Rattle.grib_params.specs.Table.{Entries, lookup_in}
use Rattle.grib_params.specs.Pairs.{first_pair}
use Rattle.grib_params.specs.declared.row.Target.{Target}
use Rattle.grib1_sections.specs.Keys.{key_in}
use Rattle.grib_keys.specs.declared.key1.Key1.TheVariants.{Version, Centre, Parameter, LevelType, Level as LevelNumber, YearOfCentury, Month, Day, Hour, Minute, Unit as TimeUnit, P1, P2, TimeRange, AverageCount, AverageMissing, Century}
use Rattle.grib_migrate.specs.declared.date.Moment.{Moment}
use Rattle.grib_migrate.specs.Dates as dates
use Rattle.grib_migrate.specs.Dates.{is_civil, later, later_in, within_9999}
use Rattle.grib_migrate.specs.Levels.{surfaces_of, surfaces_at, lacks_number}
use Rattle.grib_migrate.specs.Times as times
use Rattle.grib_migrate.specs.Times.{unit_row}
use Rattle.grib_migrate.specs.Source.{target_in, has_local}
use Rattle.grib_migrate.specs.Losses as migrate
use Rattle.grib_migrate.proofs.Later.{civil_parts}
use Rattle.grib_demote.specs.declared.product.Told.{Told}
use Rattle.grib_demote.specs.Dates.{reference_time, loses_date, century, year_of_century, is_after, is_same, moment_at}
use Rattle.grib_demote.specs.Times.{unit_of, range, process, forecast_time, is_interval, statistic, end_time, missing, has_range, has_end, loses_interval, is_statistic, indicator_of, instant_range, time_range}
use Rattle.grib_demote.specs.Products.{centre, local_octets}
use Rattle.grib_demote_law.proofs.Identification.{section_1}
use Rattle.grib_demote_law.proofs.Levels.{IsFound}
use Rattle.grib_demote_law.proofs.Pairs.{first_finds}

-- ---- the unit of time

abbrev unit_by : Bool → Bool → Bool → Bool → Bool → Bool → Bool → Option times.UnitRow
unit_by a b c d e f g =
    cond a (Some (unit_row 0 0 60)) (cond b (Some (unit_row 1 1 3600)) (cond c (Some (unit_row 2 2 86400)) (cond d (Some (unit_row 10 10 10800))
    (cond e (Some (unit_row 11 11 21600)) (cond f (Some (unit_row 12 12 43200)) (cond g (Some (unit_row 254 13 1)) None))))))

-- a unit and its code in edition 1
pub record IsUnit (found : Option times.UnitRow) : Type 0 where
  pub small : unwrap_or (option_map (λ r. r.old) found) 0 < 256
  pub known : is_none (times.unit_at (unwrap_or (option_map (λ r. r.old) found) 0)) ≡ false
  pub code : option_map_or (λ u. u.code) (times.unit_at (unwrap_or (option_map (λ r. r.old) found) 0)) 0 ≡ option_map_or (λ r. r.unit.code) found 0
  pub seconds : option_map_or (λ u. u.seconds) (times.unit_at (unwrap_or (option_map (λ r. r.old) found) 0)) 0 ≡ option_map_or (λ r. r.unit.seconds) found 0

unit_known : (a b c d e f g : Bool) → is_none (unit_by a b c d e f g) ≡ false → IsUnit (unit_by a b c d e f g)
unit_known true b c d e f g some = record { small = omega arith; known = refl; code = refl; seconds = refl }
unit_known false true c d e f g some = record { small = omega arith; known = refl; code = refl; seconds = refl }
unit_known false false true d e f g some = record { small = omega arith; known = refl; code = refl; seconds = refl }
unit_known false false false true e f g some = record { small = omega arith; known = refl; code = refl; seconds = refl }
unit_known false false false false true f g some = record { small = omega arith; known = refl; code = refl; seconds = refl }
unit_known false false false false false true g some = record { small = omega arith; known = refl; code = refl; seconds = refl }
unit_known false false false false false false true some = record { small = omega arith; known = refl; code = refl; seconds = refl }
unit_known false false false false false false false some = let no : ⊥ = cc in absurd no

pub has_unit : (s4 : List ℕ) → is_none (unit_of s4) ≡ false → IsUnit (unit_of s4)
has_unit s4 some =
    let code = octets s4 18 18 in
    unit_known (0 == code) (1 == code) (2 == code) (10 == code) (11 == code) (12 == code) (13 == code) some

-- ---- the time range

-- a time range of edition 1 that loses nothing
pub record IsRange (indicator p1 p2 gone : ℕ) (interval : Bool) : Type 0 where
  pub indicator_small : indicator < 256
  pub p2_small : interval ≡ true → p2 < 256
  pub p1_small : interval ≡ true → p1 < 256
  pub gone_small : gone < 256
  pub instant_is : times.is_instant indicator ≡ not interval
  pub interval_is : times.is_interval indicator ≡ interval
  pub ordered : interval ≡ true → p1 ≤ p2
  pub none_gone : interval ≡ false → gone ≡ 0

indicator_by : (a b : Bool) → (times.is_instant (cond a 3 (cond b 4 5)) ≡ false) × (times.is_interval (cond a 3 (cond b 4 5)) ≡ true) × (cond a 3 (cond b 4 5) < 256)
indicator_by true b = (refl, refl, omega arith)
indicator_by false true = (refl, refl, omega arith)
indicator_by false false = (refl, refl, omega arith)

last_two : (a b c d e f g : Bool) → (a && b && c && d && e && f && g) ≡ true → (f ≡ true) × (g ≡ true)
last_two false b c d e f g h = let no : ⊥ = cc in absurd no
last_two true false c d e f g h = let no : ⊥ = cc in absurd no
last_two true true false d e f g h = let no : ⊥ = cc in absurd no
last_two true true true false e f g h = let no : ⊥ = cc in absurd no
last_two true true true true false f g h = let no : ⊥ = cc in absurd no
last_two true true true true true false g h = let no : ⊥ = cc in absurd no
last_two true true true true true true g h = (refl, h)

over_interval : (s4 : List ℕ) → is_interval s4 ≡ true → has_range s4 ≡ true → IsRange (time_range s4).indicator (time_range s4).p1 (time_range s4).p2 (time_range s4).missing true
over_interval s4 on ranged =
    let last = last_two (octets s4 42 42 == 1) (is_statistic (statistic s4)) (octets s4 48 48 == 2) (octets s4 49 49 == octets s4 18 18) (octets s4 55 58 == 0)
    (not (nat_lt 255 (end_time s4))) (not (nat_lt 255 (missing s4))) ranged in
    let few = ltb-false 255 (end_time s4) (not-true (nat_lt 255 (end_time s4)) last.0) in
    let gone = ltb-false 255 (missing s4) (not-true (nat_lt 255 (missing s4)) last.1) in
    let known = indicator_by (statistic s4 == 0) (statistic s4 == 1) in
    let is : time_range s4 ≡ range (indicator_of (statistic s4)) (forecast_time s4) (end_time s4) (missing s4) =
    ap (λ b. cond b (range (indicator_of (statistic s4)) (forecast_time s4) (end_time s4) (missing s4)) (instant_range (process s4) (forecast_time s4))) on in
    subst (λ r. IsRange r.indicator r.p1 r.p2 r.missing true) (sym is) (record {
      indicator_small = known.2;
      p2_small = λ _. omega (arith, few);
      p1_small = λ _. omega (arith, few);
      gone_small = omega (arith, gone);
      instant_is = known.0;
      interval_is = known.1;
      ordered = λ _. omega arith;
      none_gone = λ off. (let no : ⊥ = cc in absurd no);
    })
  where
    not-true : (b : Bool) → not b ≡ true → b ≡ false
    not-true true e = let no : ⊥ = cc in absurd no
    not-true false e = refl

at_instant : (p time : ℕ) → (let r = instant_range p time in IsRange r.indicator r.p1 r.p2 r.missing false)
at_instant p time = by (p == 1) ((p == 2) && ((time == 0) || nat_lt 255 time))
  where
    by : (a b : Bool) → (let r = cond a (range 1 time 0 0) (cond b (range 10 (time / 256) (time % 256) 0) (range 0 time 0 0)) in IsRange r.indicator r.p1 r.p2 r.missing false)
    by true b = record {
      indicator_small = omega arith;
      p2_small = λ on. (let no : ⊥ = cc in absurd no);
      p1_small = λ on. (let no : ⊥ = cc in absurd no);
      gone_small = omega arith;
      instant_is = refl;
      interval_is = refl;
      ordered = λ on. (let no : ⊥ = cc in absurd no);
      none_gone = λ _. refl;
    }
    by false true = record {
      indicator_small = omega arith;
      p2_small = λ on. (let no : ⊥ = cc in absurd no);
      p1_small = λ on. (let no : ⊥ = cc in absurd no);
      gone_small = omega arith;
      instant_is = refl;
      interval_is = refl;
      ordered = λ on. (let no : ⊥ = cc in absurd no);
      none_gone = λ _. refl;
    }
    by false false = record {
      indicator_small = omega arith;
      p2_small = λ on. (let no : ⊥ = cc in absurd no);
      p1_small = λ on. (let no : ⊥ = cc in absurd no);
      gone_small = omega arith;
      instant_is = refl;
      interval_is = refl;
      ordered = λ on. (let no : ⊥ = cc in absurd no);
      none_gone = λ _. refl;
    }

-- the parts of an interval that is not lost
pub record HasInterval (s1 s4 : List ℕ) : Type 0 where
  pub ranged : has_range s4 ≡ true
  pub ends : has_end s1 s4 ≡ true

pub interval_kept : (s1 s4 : List ℕ) → loses_interval s1 s4 ≡ false → is_interval s4 ≡ true → HasInterval s1 s4
interval_kept s1 s4 kept on = by (has_range s4) (has_end s1 s4) refl refl (sym (ap (λ b. choose b (λ _. choose (has_range s4) (λ _. not (has_end s1 s4)) (λ _. true)) (λ _. false)) on) ∙ kept)
  where
    by : (a b : Bool) → has_range s4 ≡ a → has_end s1 s4 ≡ b → choose a (λ _. not b) (λ _. true) ≡ false → HasInterval s1 s4
    by true true r e none = record { ranged = r; ends = e }
    by true false r e none = let no : ⊥ = cc in absurd no
    by false b r e none = let no : ⊥ = cc in absurd no

pub range_known : (s1 s4 : List ℕ) → loses_interval s1 s4 ≡ false
    → IsRange (time_range s4).indicator (time_range s4).p1 (time_range s4).p2 (time_range s4).missing (is_interval s4)
range_known s1 s4 kept = by (is_interval s4) refl
  where
    by : (b : Bool) → is_interval s4 ≡ b → IsRange (time_range s4).indicator (time_range s4).p1 (time_range s4).p2 (time_range s4).missing b
    by true on = over_interval s4 on (interval_kept s1 s4 kept on).ranged
    by false off =
        subst (λ r. IsRange r.indicator r.p1 r.p2 r.missing false)
        (sym (ap (λ b. cond b (range (indicator_of (statistic s4)) (forecast_time s4) (end_time s4) (missing s4)) (instant_range (process s4) (forecast_time s4))) off))
        (at_instant (process s4) (forecast_time s4))

-- ---- the date

pub record DateKept (s1 : List ℕ) : Type 0 where
  pub civil : is_civil (reference_time s1) ≡ true
  pub whole : (reference_time s1).second ≡ 0

pub date_kept : (s1 : List ℕ) → loses_date s1 ≡ false → DateKept s1
date_kept s1 kept =
    let parts = or_parts (not (is_civil (reference_time s1))) (not ((reference_time s1).second == 0)) kept in
    record {
      civil = not-false (is_civil (reference_time s1)) parts.0;
      whole = eqb-true (reference_time s1).second 0 (not-false ((reference_time s1).second == 0) parts.1);
    }

-- what ends an interval is not after year 9999
end_within : (start : Moment) (seconds : ℕ) (end : Moment) → is_after start seconds end ≡ true → nat_lt 9999 (later start seconds).year ≡ false
end_within start seconds end is = by (is_civil start) (nat_lt 9999 (later start seconds).year) refl is
  where
    by : (a b : Bool) → nat_lt 9999 (later start seconds).year ≡ b → option_map_or (is_same end) (cond a (cond b None (Some (later start seconds))) None) false ≡ true
        → nat_lt 9999 (later start seconds).year ≡ false
    by true true e is = let no : ⊥ = cc in absurd no
    by true false e is = e
    by false b e is = let no : ⊥ = cc in absurd no

-- ---- Section 1 as it is read again

module _ (told : Told) (bitmapped : Bool) (s1 s4 s5 local : List ℕ) where
  abbrev a : List ℕ
  a = section_1 told bitmapped s1 s4 s5 local

  pub version_is : told.version < 256 → key_in a Version ≡ told.version
  version_is few = num_on-octets_of 1 told.version (omega arith)

  pub parameter_is : told.parameter < 256 → key_in a Parameter ≡ told.parameter
  parameter_is few = num_on-octets_of 1 told.parameter (omega arith)

  pub centre_is : centre s1 < 256 → key_in a Centre ≡ centre s1
  centre_is few = num_on-octets_of 1 (centre s1) (omega arith)

  pub type_is : told.level.level_type < 256 → key_in a LevelType ≡ told.level.level_type
  type_is few = num_on-octets_of 1 told.level.level_type (omega arith)

  pub number_is : told.level.number < 65536 → key_in a LevelNumber ≡ told.level.number
  number_is few = num_on-octets_of 2 told.level.number (omega arith)

  pub unit_is : told.unit < 256 → key_in a TimeUnit ≡ told.unit
  unit_is few = num_on-octets_of 1 told.unit (omega arith)

  pub p1_is : (time_range s4).p1 < 256 → key_in a P1 ≡ (time_range s4).p1
  p1_is few = num_on-octets_of 1 (time_range s4).p1 (omega arith)

  pub p2_is : (time_range s4).p2 < 256 → key_in a P2 ≡ (time_range s4).p2
  p2_is few = num_on-octets_of 1 (time_range s4).p2 (omega arith)

  pub range_is : (time_range s4).indicator < 256 → key_in a TimeRange ≡ (time_range s4).indicator
  range_is few = num_on-octets_of 1 (time_range s4).indicator (omega arith)

  count_is : key_in a AverageCount ≡ 0
  count_is = num_on-octets_of 2 0 (omega arith)

  pub missing_is : (time_range s4).missing < 256 → key_in a AverageMissing ≡ (time_range s4).missing
  missing_is few = num_on-octets_of 1 (time_range s4).missing (omega arith)

  -- the date
  pub date_is : AreOctets s1 → 21 ≤ length s1 → loses_date s1 ≡ false → dates.reference_time a ≡ reference_time s1
  date_is small long kept =
      let day_small : (reference_time s1).day < 256 = octets-lt s1 16 16 1 small (omega arith) (omega arith) (omega arith) in
      let date = date_kept s1 kept in
      let civil = civil_parts (reference_time s1) date.civil in
      let year_low = civil.0 in
      let year_high = civil.1 in
      let month_high = civil.3 in
      let c : key_in a Century ≡ century s1 = num_on-octets_of 1 (century s1) (omega arith) in
      let y : key_in a YearOfCentury ≡ year_of_century s1 = num_on-octets_of 1 (year_of_century s1) (omega arith) in
      let year : dates.year_of a ≡ (reference_time s1).year = omega (arith, c, y) in
      let month : key_in a Month ≡ (reference_time s1).month = num_on-octets_of 1 (reference_time s1).month (omega arith) in
      let day : key_in a Day ≡ (reference_time s1).day = num_on-octets_of 1 (reference_time s1).day (omega arith) in
      let hour : key_in a Hour ≡ (reference_time s1).hour = num_on-octets_of 1 (reference_time s1).hour (omega arith) in
      let minute : key_in a Minute ≡ (reference_time s1).minute = num_on-octets_of 1 (reference_time s1).minute (omega arith) in
      let second : 0 ≡ (reference_time s1).second = sym date.whole in
      λ i. record { year = year i; month = month i; day = day i; hour = hour i; minute = minute i; second = second i }

  -- ---- nothing of it is lost

  no_date : AreOctets s1 → 21 ≤ length s1 → loses_date s1 ≡ false → not (is_civil (dates.reference_time a)) ≡ false
  no_date small long kept = ap (λ m. not (is_civil m)) (date_is small long kept) ∙ ap not (date_kept s1 kept).civil

  module _ (kept : loses_interval s1 s4 ≡ false) where
    pub ranged : IsRange (time_range s4).indicator (time_range s4).p1 (time_range s4).p2 (time_range s4).missing (is_interval s4)
    ranged = range_known s1 s4 kept

    instant_here : times.is_instant (key_in a TimeRange) ≡ not (is_interval s4)
    instant_here = ap times.is_instant (range_is ranged.indicator_small) ∙ ranged.instant_is

    pub interval_here : times.is_interval (key_in a TimeRange) ≡ is_interval s4
    interval_here = ap times.is_interval (range_is ranged.indicator_small) ∙ ranged.interval_is

    pub no_range : times.loses_range a ≡ false
    no_range = ap₂ (λ p q. not (p || q) || (q && nat_lt (key_in a P2) (key_in a P1))) instant_here interval_here ∙ by (is_interval s4) refl
      where
        by : (b : Bool) → is_interval s4 ≡ b → (not (not (is_interval s4) || is_interval s4) || (is_interval s4 && nat_lt (key_in a P2) (key_in a P1))) ≡ false
        by true on =
            let first = p1_is (ranged.p1_small on) in
            let second = p2_is (ranged.p2_small on) in
            let order = ranged.ordered on in
            ap (λ q. not (not q || q) || (q && nat_lt (key_in a P2) (key_in a P1))) on ∙ le-ltb (key_in a P2) (key_in a P1) (omega (arith, first, second, order))
        by false off = ap (λ q. not (not q || q) || (q && nat_lt (key_in a P2) (key_in a P1))) off

    pub no_average : migrate.loses_average a ≡ false
    no_average =
        ap₂ (λ n q. nat_lt 1 n || (not (key_in a AverageMissing == 0) && q)) count_is instant_here ∙ by (is_interval s4) refl
      where
        by : (b : Bool) → is_interval s4 ≡ b → (not (key_in a AverageMissing == 0) && not (is_interval s4)) ≡ false
        by true on = ap (λ q. not (key_in a AverageMissing == 0) && not q) on ∙ never (not (key_in a AverageMissing == 0))
          where
            never : (b : Bool) → (b && false) ≡ false
            never true = refl
            never false = refl
        by false off =
            let none : key_in a AverageMissing ≡ 0 = missing_is ranged.gone_small ∙ ranged.none_gone off in
            ap (λ n. not (n == 0) && not (is_interval s4)) none

    module _ (small : AreOctets s1) (long : 21 ≤ length s1) (date : loses_date s1 ≡ false) (unit : is_none (unit_of s4) ≡ false)
        (unit_here : told.unit ≡ unwrap_or (option_map (λ r. r.old) (unit_of s4)) 0) where
      pub unit_stands : IsUnit (unit_of s4)
      unit_stands = has_unit s4 unit

      pub unit_key : key_in a TimeUnit ≡ unwrap_or (option_map (λ r. r.old) (unit_of s4)) 0
      unit_key = unit_is (let few = unit_stands.small in omega (arith, unit_here)) ∙ unit_here

      pub no_unit : is_none (times.unit_of a) ≡ false
      no_unit = ap (λ n. is_none (times.unit_at n)) unit_key ∙ unit_stands.known

      -- an interval ends by year 9999
      ends_in_time : is_interval s4 ≡ true → (o : Option _) → times.unit_of a ≡ o → option_map_or (λ u. nat_lt 9999 (dates.end_of a u.seconds).year) o false ≡ false
      ends_in_time on None e = refl
      ends_in_time on (Some u) e =
          let seconds : u.seconds ≡ option_map_or (λ r. r.unit.seconds) (unit_of s4) 0 =
          sym (ap (λ o. option_map_or (λ u. u.seconds) o 0) e) ∙ ap (λ n. option_map_or (λ u. u.seconds) (times.unit_at n) 0) unit_key ∙ unit_stands.seconds in
          let parts = interval_kept s1 s4 kept on in
          let second = p2_is (ranged.p2_small on) in
          let p2 : (time_range s4).p2 ≡ end_time s4 =
          ap (λ b. (cond b (range (indicator_of (statistic s4)) (forecast_time s4) (end_time s4) (missing s4)) (instant_range (process s4) (forecast_time s4))).p2) on in
          ap₂ (λ m n. nat_lt 9999 (later m n).year) (date_is small long date) (ap₂ ◌*◌ (second ∙ p2) seconds)
          ∙ end_within (reference_time s1) (end_time s4 * option_map_or (λ r. r.unit.seconds) (unit_of s4) 0) (moment_at s4 35) parts.ends

      no_end : (times.is_interval (key_in a TimeRange) && option_map_or (λ u. nat_lt 9999 (dates.end_of a u.seconds).year) (times.unit_of a) false) ≡ false
      no_end = ap (λ q. q && option_map_or (λ u. nat_lt 9999 (dates.end_of a u.seconds).year) (times.unit_of a) false) interval_here ∙ by (is_interval s4) refl
        where
          by : (b : Bool) → is_interval s4 ≡ b → (is_interval s4 && option_map_or (λ u. nat_lt 9999 (dates.end_of a u.seconds).year) (times.unit_of a) false) ≡ false
          by true on = ap (λ q. q && option_map_or (λ u. nat_lt 9999 (dates.end_of a u.seconds).year) (times.unit_of a) false) on ∙ ends_in_time on (times.unit_of a) refl
          by false off = ap (λ q. q && option_map_or (λ u. nat_lt 9999 (dates.end_of a u.seconds).year) (times.unit_of a) false) off

      pub no_date_lost : migrate.loses_date a ≡ false
      no_date_lost = ap₂ ◌||◌ (no_date small long date) no_end

  -- the parameter
  pub no_parameter : (table : Entries) (matching : TableMatch) (parameter : Target) → told.version < 256 → told.parameter < 256 → centre s1 < 256
      → first_pair table matching (centre s1) parameter ≡ Some (told.version, told.parameter) → is_none (target_in table a) ≡ false
  no_parameter table matching parameter v p c pair =
      ap₂ (λ x y. is_none (lookup_in table (key_in a Centre) x y)) (version_is v) (parameter_is p)
      ∙ ap (λ x. is_none (lookup_in table x told.version told.parameter)) (centre_is c)
      ∙ ap is_none (first_finds table matching (centre s1) parameter (told.version, told.parameter) pair).found

  -- the level
  pub surfaces_here : IsFound told.level → surfaces_of a ≡ surfaces_at told.level.level_type (key_in a LevelNumber) (octets a 11 11) (octets a 12 12)
  surfaces_here found =
      let type_here = type_is found.type_small in
      let number_here = number_is found.number_few in
      let plain : (lacks_number (key_in a LevelType) && not (key_in a LevelNumber == 0)) ≡ false =
      ap₂ (λ t n. lacks_number t && not (n == 0)) type_here number_here ∙ lacking (lacks_number told.level.level_type) refl found.none_lacking in
      ap (λ b. cond b None (surfaces_at (key_in a LevelType) (key_in a LevelNumber) (octets a 11 11) (octets a 12 12))) plain
      ∙ ap (λ t. surfaces_at t (key_in a LevelNumber) (octets a 11 11) (octets a 12 12)) type_here
    where
      lacking : (b : Bool) → lacks_number told.level.level_type ≡ b → (lacks_number told.level.level_type ≡ true → told.level.number ≡ 0)
          → (lacks_number told.level.level_type && not (told.level.number == 0)) ≡ false
      lacking true e none = ap₂ (λ l n. l && not (n == 0)) e (none e)
      lacking false e none = ap (λ l. l && not (told.level.number == 0)) e

  pub no_level : IsFound told.level → is_none (surfaces_of a) ≡ false
  no_level found = ap is_none (surfaces_here found) ∙ found.surfaces_there (key_in a LevelNumber) (octets a 11 11) (octets a 12 12)

-- octets for local use are there only where they are kept
pub no_local : (told : Told) (bitmapped keep : Bool) (s1 s2 s4 s5 : List ℕ)
    → (has_local (section_1 told bitmapped s1 s4 s5 (local_octets keep s2)) && not keep) ≡ false
no_local told bitmapped true s1 s2 s4 s5 = by (has_local (section_1 told bitmapped s1 s4 s5 (local_octets true s2)))
  where
    by : (b : Bool) → (b && false) ≡ false
    by true = refl
    by false = refl
no_local told bitmapped false s1 s2 s4 s5 = refl
