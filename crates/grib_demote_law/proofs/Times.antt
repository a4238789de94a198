-- The type of generating process, the forecast time and the unit of time come back as they were.
use Rattle.std.proofs.Common.{◌≡◌, ◌⊎◌, ℕ, ◌+◌, ◌*◌, ◌/◌, ◌%◌, ◌<◌, ◌≤◌, ◌&&◌, ◌||◌, ◌==◌, Bool, true, false, not, cond, Option, Some, None, List, ◌++◌, nat_lt, refl, sym, ap, ap₂, ◌∙◌, subst, arith, inl, inr, eqb-true}
use Rattle.std.specs.Prelude.{is_none}
use Rattle.std.specs.Option.{option_map_or}
use Rattle.std.proofs.lemmas.Bool.{ltb-false}
use Rattle.grib_bits.specs.Encoding.{octets_of}
use Rattle.grib_bits.specs.Octets.{octets, num_on}
use Rattle.grib_bits.proofs.Encoding.{octets_of-one}
use Rattle.grib_bits.proofs.Logic.{or_false, found_passes}
use Rattle.grib1_sections.specs.Keys.{key_in}
use Rattle.grib_keys.specs.declared.key1.Key1.TheVariants.{P1, TimeRange}
use Rattle.grib_migrate.specs.Times as times
use Rattle.grib_migrate.specs.Times.{UnitRow, unit_rows}
use Rattle.grib_demote.specs.declared.product.Told.{Told}
use Rattle.grib_demote.specs.Times.{unit_of, range, process, forecast_time, is_interval, statistic, end_time, missing, has_process, loses_interval, indicator_of, instant_range, time_range}
use Rattle.grib_demote_law.proofs.Identification.{section_1}
use Rattle.grib_demote_law.proofs.Front.{range_known, p1_is, range_is, ranged}

-- ---- what a time range tells

record Tells (indicator p1 p2 p time : ℕ) : Type 0 where
  p1_small : p1 < 256
  p2_small : p2 < 256
  process_is : cond (indicator == 1) 1 (cond ((indicator == 0) && (p1 == 0)) 0 2) ≡ p
  time_is : cond (indicator == 10) (256 * p1 + p2) p1 ≡ time

abbrev has_instant : ℕ → ℕ → Bool
has_instant p time = ((p == 0) && (time == 0)) || ((p == 1) && not (nat_lt 255 time)) || ((p == 2) && not (nat_lt 65535 time))

not_over : (limit time : ℕ) → (not (nat_lt limit time)) ≡ true → time ≤ limit
not_over limit time e = ltb-false limit time (by (nat_lt limit time) refl e)
  where
    by : (b : Bool) → nat_lt limit time ≡ b → not b ≡ true → nat_lt limit time ≡ false
    by true is e = let no : ⊥ = cc e in absurd no
    by false is e = is

first_of : (b : Bool) → ((b || false) || false) ≡ true → b ≡ true
first_of true e = refl
first_of false e = e

tells_0 : (time : ℕ) → has_instant 0 time ≡ true → (let r = instant_range 0 time in Tells r.indicator r.p1 r.p2 0 time)
tells_0 time e =
    let zero : time ≡ 0 = eqb-true time 0 (first_of (time == 0) e) in
    subst (λ (t : ℕ). (let r = instant_range 0 t in Tells r.indicator r.p1 r.p2 0 t)) (sym zero) (record { p1_small = omega arith; p2_small = omega arith; process_is = refl; time_is = refl })

tells_1 : (time : ℕ) → has_instant 1 time ≡ true → (let r = instant_range 1 time in Tells r.indicator r.p1 r.p2 1 time)
tells_1 time e =
    let few = not_over 255 time (or_false (not (nat_lt 255 time)) e) in
    record { p1_small = omega (arith, few); p2_small = omega arith; process_is = refl; time_is = refl }

tells_2 : (time : ℕ) → has_instant 2 time ≡ true → (let r = instant_range 2 time in Tells r.indicator r.p1 r.p2 2 time)
tells_2 time e = by (time == 0) (nat_lt 255 time) refl refl
  where
    few : time ≤ 65535
    few = not_over 65535 time e

    by : (a b : Bool) → (time == 0) ≡ a → nat_lt 255 time ≡ b
        → (let r = cond (a || b) (range 10 (time / 256) (time % 256) 0) (range 0 time 0 0) in Tells r.indicator r.p1 r.p2 2 time)
    by true b is lt = let le = few in record { p1_small = omega (arith, le); p2_small = omega arith; process_is = refl; time_is = omega arith }
    by false true is lt = let le = few in record { p1_small = omega (arith, le); p2_small = omega arith; process_is = refl; time_is = omega arith }
    by false false is lt =
        let low = ltb-false 255 time lt in
        record { p1_small = omega (arith, low); p2_small = omega arith; process_is = ap (λ (z : Bool). cond z 0 2) is; time_is = refl }

known_process : (p time : ℕ) → has_instant p time ≡ true → (p ≡ 0) ⊎ ((p ≡ 1) ⊎ (p ≡ 2))
known_process p time e = by (p == 0) (p == 1) (p == 2) refl refl refl e
  where
    by : (a b c : Bool) → (p == 0) ≡ a → (p == 1) ≡ b → (p == 2) ≡ c
        → ((a && (time == 0)) || (b && not (nat_lt 255 time)) || (c && not (nat_lt 65535 time))) ≡ true → (p ≡ 0) ⊎ ((p ≡ 1) ⊎ (p ≡ 2))
    by true b c is_0 is_1 is_2 e = inl (eqb-true p 0 is_0)
    by false true c is_0 is_1 is_2 e = inr (inl (eqb-true p 1 is_1))
    by false false true is_0 is_1 is_2 e = inr (inr (eqb-true p 2 is_2))
    by false false false is_0 is_1 is_2 e = let no : ⊥ = cc e in absurd no

at_instant : (p time : ℕ) → has_instant p time ≡ true → (let r = instant_range p time in Tells r.indicator r.p1 r.p2 p time)
at_instant p time e = by (known_process p time e)
  where
    by : (p ≡ 0) ⊎ ((p ≡ 1) ⊎ (p ≡ 2)) → (let r = instant_range p time in Tells r.indicator r.p1 r.p2 p time)
    by (inl is) = subst (λ (q : ℕ). (let r = instant_range q time in Tells r.indicator r.p1 r.p2 q time)) (sym is) (tells_0 time (sym (ap (λ (q : ℕ). has_instant q time) is) ∙ e))
    by (inr (inl is)) = subst (λ (q : ℕ). (let r = instant_range q time in Tells r.indicator r.p1 r.p2 q time)) (sym is) (tells_1 time (sym (ap (λ (q : ℕ). has_instant q time) is) ∙ e))
    by (inr (inr is)) = subst (λ (q : ℕ). (let r = instant_range q time in Tells r.indicator r.p1 r.p2 q time)) (sym is) (tells_2 time (sym (ap (λ (q : ℕ). has_instant q time) is) ∙ e))

abbrev process_by : ℕ → ℕ → ℕ
process_by indicator p1 = cond (indicator == 1) 1 (cond ((indicator == 0) && (p1 == 0)) 0 2)

abbrev time_by : ℕ → ℕ → ℕ → ℕ
time_by indicator p1 p2 = cond (indicator == 10) (256 * p1 + p2) p1

interval_process : (a b : Bool) (p1 : ℕ) → process_by (cond a 3 (cond b 4 5)) p1 ≡ 2
interval_process true b p1 = refl
interval_process false true p1 = refl
interval_process false false p1 = refl

interval_time : (a b : Bool) (p1 p2 : ℕ) → time_by (cond a 3 (cond b 4 5)) p1 p2 ≡ p1
interval_time true b p1 p2 = refl
interval_time false true p1 p2 = refl
interval_time false false p1 p2 = refl

range_tells : (s1 s4 : List ℕ) → loses_interval s1 s4 ≡ false → has_process s4 ≡ true
    → Tells (time_range s4).indicator (time_range s4).p1 (time_range s4).p2 (process s4) (forecast_time s4)
range_tells s1 s4 kept has = by (is_interval s4) refl
  where
    by : (b : Bool) → is_interval s4 ≡ b → Tells (time_range s4).indicator (time_range s4).p1 (time_range s4).p2 (process s4) (forecast_time s4)
    by true on =
        let known = range_known s1 s4 kept in
        let is : time_range s4 ≡ range (indicator_of (statistic s4)) (forecast_time s4) (end_time s4) (missing s4) =
        ap (λ b. cond b (range (indicator_of (statistic s4)) (forecast_time s4) (end_time s4) (missing s4)) (instant_range (process s4) (forecast_time s4))) on in
        let two : process s4 ≡ 2 = eqb-true (process s4) 2 (sym (ap (λ b. cond b (process s4 == 2) (has_instant (process s4) (forecast_time s4))) on) ∙ has) in
        let low = known.p1_small on in
        let high = known.p2_small on in
        let same_1 : (time_range s4).p1 ≡ forecast_time s4 = ap (λ r. r.p1) is in
        let same_2 : (time_range s4).p2 ≡ end_time s4 = ap (λ r. r.p2) is in
        subst (λ r. Tells r.indicator r.p1 r.p2 (process s4) (forecast_time s4)) (sym is) (record {
          p1_small = omega (arith, low, same_1);
          p2_small = omega (arith, high, same_2);
          process_is = interval_process (statistic s4 == 0) (statistic s4 == 1) (forecast_time s4) ∙ sym two;
          time_is = interval_time (statistic s4 == 0) (statistic s4 == 1) (forecast_time s4) (end_time s4);
        })
    by false off =
        let is : time_range s4 ≡ instant_range (process s4) (forecast_time s4) =
        ap (λ b. cond b (range (indicator_of (statistic s4)) (forecast_time s4) (end_time s4) (missing s4)) (instant_range (process s4) (forecast_time s4))) off in
        subst (λ r. Tells r.indicator r.p1 r.p2 (process s4) (forecast_time s4)) (sym is)
        (at_instant (process s4) (forecast_time s4) (sym (ap (λ b. cond b (process s4 == 2) (has_instant (process s4) (forecast_time s4))) off) ∙ has))

-- ---- Section 1 as it is read again

two_octets : (x y : ℕ) → x < 256 → y < 256 → num_on 0 (octets_of 1 x ++ octets_of 1 y) ≡ 256 * x + y
two_octets x y low high = ap₂ (λ (xs ys : List ℕ). num_on 0 (xs ++ ys)) (octets_of-one x low) (octets_of-one y high) ∙ omega arith

module _ (told : Told) (bitmapped : Bool) (s1 s4 s5 local : List ℕ) (kept : loses_interval s1 s4 ≡ false) (has : has_process s4 ≡ true) where
  abbrev a : List ℕ
  a = section_1 told bitmapped s1 s4 s5 local

  tells : Tells (time_range s4).indicator (time_range s4).p1 (time_range s4).p2 (process s4) (forecast_time s4)
  tells = range_tells s1 s4 kept has

  indicator_here : key_in a TimeRange ≡ (time_range s4).indicator
  indicator_here = range_is told bitmapped s1 s4 s5 local (ranged told bitmapped s1 s4 s5 local kept).indicator_small

  p1_here : key_in a P1 ≡ (time_range s4).p1
  p1_here = p1_is told bitmapped s1 s4 s5 local tells.p1_small

  pub process_back : times.process_of a ≡ process s4
  process_back = ap₂ (λ (r p : ℕ). cond (r == 1) 1 (cond ((r == 0) && (p == 0)) 0 2)) indicator_here p1_here ∙ tells.process_is

  pub forecast_back : times.forecast_time a ≡ forecast_time s4
  forecast_back =
      let both : octets a 19 20 ≡ 256 * (time_range s4).p1 + (time_range s4).p2 = two_octets (time_range s4).p1 (time_range s4).p2 tells.p1_small tells.p2_small in
      ap₂ (λ (r p : ℕ). cond (r == 10) (octets a 19 20) p) indicator_here p1_here
      ∙ ap (λ (n : ℕ). cond ((time_range s4).indicator == 10) n (time_range s4).p1) both ∙ tells.time_is

-- ---- the unit of time

pub unit_code : (s4 : List ℕ) → is_none (unit_of s4) ≡ false → option_map_or (λ r. r.unit.code) (unit_of s4) 0 ≡ octets s4 18 18
unit_code s4 some = by (unit_of s4) refl some
  where
    by : (o : Option UnitRow) → unit_of s4 ≡ o → is_none o ≡ false → option_map_or (λ r. r.unit.code) o 0 ≡ octets s4 18 18
    by None is some = let no : ⊥ = cc some in absurd no
    by (Some r) is some = eqb-true r.unit.code (octets s4 18 18) (found_passes (λ row. row.unit.code == octets s4 18 18) unit_rows r is)
