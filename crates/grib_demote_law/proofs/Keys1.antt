-- The keys of Section 1 come back.
use Rattle.std.proofs.Common.{◌≡◌, ℕ, ◌<◌, ◌≤◌, Bool, false, List, length, ap, ◌∙◌, arith}
use Rattle.grib_bits.specs.Octets.{octets}
use Rattle.grib_bits.proofs.Encoding.{num_on-octets_of}
use Rattle.grib_bits.proofs.OctetBits.{AreOctets}
use Rattle.grib_params.specs.declared.row.Target.{Target}
use Rattle.grib1_sections.specs.Keys.{key_in}
use Rattle.grib_keys.specs.declared.key1.Key1.TheVariants.{Centre, SubCentre, Process}
use Rattle.grib_migrate.specs.declared.date.Moment.{Moment}
use Rattle.grib_migrate.specs.Dates as dates
use Rattle.grib_migrate.proofs.Later.{civil_parts}
use Rattle.grib_migrate_law.proofs.Migrated.{written_1}
use Rattle.grib_demote.specs.declared.product.Told.{Told}
use Rattle.grib_demote.specs.Dates.{reference_time, loses_date}
use Rattle.grib_demote.specs.Products.{centre, sub_centre}
use Rattle.grib_demote_law.proofs.Identification.{section_1}
use Rattle.grib_demote_law.proofs.Front.{centre_is, date_is, date_kept}

module _ (told : Told) (bitmapped : Bool) (s1 s4 s5 local : List ℕ) (target : Target) where
  abbrev a : List ℕ
  a = section_1 told bitmapped s1 s4 s5 local

  abbrev w : List ℕ
  w = written_1 target a

  pub centre_back : centre s1 < 256 → octets w 6 7 ≡ octets s1 6 7
  centre_back few =
      let is = centre_is told bitmapped s1 s4 s5 local few in
      num_on-octets_of 2 (key_in a Centre) (omega (arith, few, is)) ∙ is

  pub sub_centre_back : sub_centre s1 < 256 → octets w 8 9 ≡ octets s1 8 9
  sub_centre_back few =
      let is : key_in a SubCentre ≡ sub_centre s1 = num_on-octets_of 1 (sub_centre s1) (omega arith) in
      num_on-octets_of 2 (key_in a SubCentre) (omega (arith, few, is)) ∙ is

  pub process_number : octets s4 14 14 < 256 → key_in a Process ≡ octets s4 14 14
  process_number few = num_on-octets_of 1 (octets s4 14 14) (omega arith)

  pub master_is : target.master < 256 → octets w 10 10 ≡ target.master
  master_is few = num_on-octets_of 1 target.master (omega (arith, few))

  pub local_is : target.local < 256 → octets w 11 11 ≡ target.local
  local_is few = num_on-octets_of 1 target.local (omega (arith, few))

  pub master_back : target.master ≡ octets s1 10 10 → octets s1 10 10 < 256 → octets w 10 10 ≡ octets s1 10 10
  master_back is few = master_is (omega (arith, is, few)) ∙ is

  pub local_back : target.local ≡ octets s1 11 11 → octets s1 11 11 < 256 → octets w 11 11 ≡ octets s1 11 11
  local_back is few = local_is (omega (arith, is, few)) ∙ is

  -- ---- the reference time

  module _ (small : AreOctets s1) (long : 21 ≤ length s1) (kept : loses_date s1 ≡ false) where
    abbrev m : Moment
    m = dates.reference_time a

    same : m ≡ reference_time s1
    same = date_is told bitmapped s1 s4 s5 local small long kept

    pub year_back : octets w 13 14 ≡ octets s1 13 14
    year_back =
        let is : m.year ≡ (reference_time s1).year = ap (λ (x : Moment). x.year) same in
        let high = (civil_parts (reference_time s1) (date_kept s1 kept).civil).1 in
        num_on-octets_of 2 m.year (omega (arith, is, high)) ∙ is

    pub month_back : octets w 15 15 ≡ octets s1 15 15
    month_back =
        let is : m.month ≡ (reference_time s1).month = ap (λ (x : Moment). x.month) same in
        let high = (civil_parts (reference_time s1) (date_kept s1 kept).civil).3 in
        num_on-octets_of 1 m.month (omega (arith, is, high)) ∙ is

    pub day_back : octets s1 16 16 < 256 → octets w 16 16 ≡ octets s1 16 16
    day_back few =
        let is : m.day ≡ (reference_time s1).day = ap (λ (x : Moment). x.day) same in
        num_on-octets_of 1 m.day (omega (arith, is, few)) ∙ is

    pub hour_back : octets s1 17 17 < 256 → octets w 17 17 ≡ octets s1 17 17
    hour_back few =
        let is : m.hour ≡ (reference_time s1).hour = ap (λ (x : Moment). x.hour) same in
        num_on-octets_of 1 m.hour (omega (arith, is, few)) ∙ is

    pub minute_back : octets s1 18 18 < 256 → octets w 18 18 ≡ octets s1 18 18
    minute_back few =
        let is : m.minute ≡ (reference_time s1).minute = ap (λ (x : Moment). x.minute) same in
        num_on-octets_of 1 m.minute (omega (arith, is, few)) ∙ is

    pub second_back : octets w 19 19 ≡ octets s1 19 19
    second_back =
        let is : m.second ≡ (reference_time s1).second = ap (λ (x : Moment). x.second) same in
        let none = (date_kept s1 kept).whole in
        num_on-octets_of 1 m.second (omega (arith, is, none)) ∙ is
