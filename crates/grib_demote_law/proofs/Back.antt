-- Of Section 2 as it is written nothing is lost when it is migrated.
use Rattle.std.proofs.Common.{◌≡◌, ◌⊎◌, ℕ, ◌*◌, ◌^◌, ◌<◌, ◌≤◌, ◌||◌, ◌==◌, Bool, true, false, cond, Some, None, List, [], ◌∷◌, ◌++◌, length, refl, sym, ap, ◌∙◌, subst, arith, inl, inr, eqb-true}
use Rattle.std.specs.Prelude.{is_none, unwrap_or}
use Rattle.grib_bits.specs.Octets.{octets}
use Rattle.grib_bits.proofs.Encoding.{num_on-octets_of}
use Rattle.grib_bits.proofs.OctetBits.{AreOctets}
use Rattle.grib_bits.proofs.OctetNumbers.{octets-lt}
use Rattle.grib2_sections.specs.Template.{least_length}
use Rattle.grib2_grids.specs.Grid.{grid_template, grid_templates}
use Rattle.grib2_grids.specs.Whole.{IsWhole}
use Rattle.grib_migrate.specs.Grids as migrate
use Rattle.grib_bits.specs.declared.adding.Number.{Number}
use Rattle.grib_bits.specs.declared.adding.Number.TheVariants.{One, Two, Four}
use Rattle.grib_migrate.specs.Grids.{true_latitude}
use Rattle.grib_demote.specs.declared.tested.Tested.{Tested}
use Rattle.grib_bits.specs.Encoding.{all_octets}
use Rattle.grib_demote.specs.Grids.{type_of, four, scanning, angle, longitude, angle_fits, longitude_fits, old_flags, are_given, increment, last_number, angle_at, longitude_at, increment_at, mercator, polar, polar_end, lambert, lat_lon, lat_lon_tested, mercator_tested, polar_tested, lambert_tested, grid_loss}
use Rattle.grib_demote_law.proofs.Grids.{section_2}
use Rattle.grib_demote_law.proofs.Template.{NoneLost, first_fits, numbers_by}
use Rattle.grib_demote_law.proofs.Flags.{old_flags_known}
use Rattle.grib_demote_law.proofs.Numbers.{angle_fits as angle_small, longitude_fits_too as longitude_small, mercator_kept, polar_kept, lambert_kept, lat_lon_with, lat_lon_kept}

-- ---- numbers that all fit

abbrev pub AllFit : List Tested → Type 0
AllFit [] = Unit {0}
AllFit (x ∷ xs) = (x.fits ≡ true) × AllFit xs

pub all_fit : (xs : List Tested) → NoneLost xs → AllFit xs
all_fit [] none = tt
all_fit (x ∷ xs) none = let first = first_fits x xs none in (first.0, all_fit xs first.1)

-- ---- the five templates

pub by_template : (P : ℕ → Type 0) → P 0 → P 10 → P 20 → P 30 → P 40 → (t : ℕ) → is_none (type_of t) ≡ false → P t
by_template P p0 p10 p20 p30 p40 t some = by (0 == t) (10 == t) (20 == t) (30 == t) (40 == t) refl refl refl refl refl some where
  by : (a b c d e : Bool) → (0 == t) ≡ a → (10 == t) ≡ b → (20 == t) ≡ c → (30 == t) ≡ d → (40 == t) ≡ e
      → is_none {T = ℕ} (cond a (Some 0) (cond b (Some 1) (cond c (Some 5) (cond d (Some 3) (cond e (Some 4) None))))) ≡ false → P t
  by true b c d e is_0 is_10 is_20 is_30 is_40 some = subst P (eqb-true 0 t is_0) p0
  by false true c d e is_0 is_10 is_20 is_30 is_40 some = subst P (eqb-true 10 t is_10) p10
  by false false true d e is_0 is_10 is_20 is_30 is_40 some = subst P (eqb-true 20 t is_20) p20
  by false false false true e is_0 is_10 is_20 is_30 is_40 some = subst P (eqb-true 30 t is_30) p30
  by false false false false true is_0 is_10 is_20 is_30 is_40 some = subst P (eqb-true 40 t is_40) p40
  by false false false false false is_0 is_10 is_20 is_30 is_40 some = let no : ⊥ = cc some in absurd no

-- ---- each template

-- the octets of La1 and of Lo1, by the template
abbrev pub la_place : ℕ → ℕ
la_place t = cond ((t == 0) || (t == 40)) 47 39

abbrev pub lo_place : ℕ → ℕ
lo_place t = cond ((t == 0) || (t == 40)) 51 43

-- what is known of a Section 2
pub record IsBack (s s3 : List ℕ) : Type 0 where
  pub flags_are : migrate.flags s ≡ old_flags s3
  pub scanning_is : migrate.scanning s ≡ scanning s3
  pub la1_is : migrate.three s 11 ≡ angle (four s3 (la_place (grid_template s3)))
  pub lo1_is : migrate.three s 14 ≡ longitude (four s3 (lo_place (grid_template s3)))
  pub la1_fits : angle_fits (four s3 (la_place (grid_template s3))) ≡ true
  pub lo1_fits : longitude_fits (four s3 (lo_place (grid_template s3))) ≡ true
  pub none_lost : migrate.grid_loss s ≡ None

module _ (count place columns rows : ℕ) (coordinates list s3 : List ℕ) (small : AreOctets s3) where
  abbrev section_with : ℕ → List Number → List ℕ
  section_with t numbers = section_2 count place t columns rows (all_octets numbers) coordinates list

  flags_fit : old_flags s3 < 256
  flags_fit = (old_flags_known s3).0

  scanning_fits : (n : ℕ) → scanning s3 ≡ octets s3 n n → 1 ≤ n → n ≤ length s3 → scanning s3 < 256
  scanning_fits n is low long =
      let few : octets s3 n n < 2 ^ (8 * 1) = octets-lt s3 n n 1 small (omega arith) (omega arith) (omega arith) in
      omega (arith, is, few)

  mercator_back : grid_template s3 ≡ 10 → 72 ≤ length s3 → NoneLost (mercator_tested s3) → IsBack (section_with 1 (mercator s3)) s3
  mercator_back at long none =
      let fit = all_fit (mercator_tested s3) none in
      let scan : scanning s3 ≡ octets s3 60 60 =
      ap (λ (n : ℕ). cond ((n == 0) || (n == 40)) (octets s3 72 72) (cond (n == 10) (octets s3 60 60) (octets s3 65 65))) at in
      record {
        flags_are = num_on-octets_of 1 (old_flags s3) (omega (arith, flags_fit));
        scanning_is = num_on-octets_of 1 (scanning s3) (omega (arith, scanning_fits 60 scan (omega arith) (omega arith)));
        la1_is = num_on-octets_of 3 (angle (four s3 39)) (angle_small (four s3 39)).small ∙ ap (λ (n : ℕ). angle (four s3 n)) (sym (ap la_place at));
        lo1_is = num_on-octets_of 3 (longitude (four s3 43)) (longitude_small (four s3 43) fit.1.1.1.0).small ∙ ap (λ (n : ℕ). longitude (four s3 n)) (sym (ap lo_place at));
        la1_fits = ap (λ (n : ℕ). angle_fits (four s3 n)) (ap la_place at) ∙ fit.1.1.0;
        lo1_fits = ap (λ (n : ℕ). longitude_fits (four s3 n)) (ap lo_place at) ∙ fit.1.1.1.0;
        none_lost = mercator_kept count place 1 columns rows coordinates list s3 small long fit.1.1.1.0 fit.1.1.1.1.1.1.0;
      }

  polar_back : grid_template s3 ≡ 20 → 65 ≤ length s3 → NoneLost (polar_tested s3 (true_latitude (octets s3 64 64))) → IsBack (section_with 5 (polar s3 ++ polar_end)) s3
  polar_back at long none =
      let fit = all_fit (polar_tested s3 (true_latitude (octets s3 64 64))) none in
      let scan : scanning s3 ≡ octets s3 65 65 =
      ap (λ (n : ℕ). cond ((n == 0) || (n == 40)) (octets s3 72 72) (cond (n == 10) (octets s3 60 60) (octets s3 65 65))) at in
      record {
        flags_are = num_on-octets_of 1 (old_flags s3) (omega (arith, flags_fit));
        scanning_is = num_on-octets_of 1 (scanning s3) (omega (arith, scanning_fits 65 scan (omega arith) (omega arith)));
        la1_is = num_on-octets_of 3 (angle (four s3 39)) (angle_small (four s3 39)).small ∙ ap (λ (n : ℕ). angle (four s3 n)) (sym (ap la_place at));
        lo1_is = num_on-octets_of 3 (longitude (four s3 43)) (longitude_small (four s3 43) fit.1.1.1.0).small ∙ ap (λ (n : ℕ). longitude (four s3 n)) (sym (ap lo_place at));
        la1_fits = ap (λ (n : ℕ). angle_fits (four s3 n)) (ap la_place at) ∙ fit.1.1.0;
        lo1_fits = ap (λ (n : ℕ). longitude_fits (four s3 n)) (ap lo_place at) ∙ fit.1.1.1.0;
        none_lost = polar_kept count place 5 columns rows coordinates list s3 small long fit.1.1.1.0 fit.1.1.1.1.1.0;
      }

  lambert_back : grid_template s3 ≡ 30 → 81 ≤ length s3 → NoneLost (polar_tested s3 (four s3 66) ++ lambert_tested s3) → IsBack (section_with 3 (polar s3 ++ lambert s3)) s3
  lambert_back at long none =
      let fit = all_fit (polar_tested s3 (four s3 66) ++ lambert_tested s3) none in
      let scan : scanning s3 ≡ octets s3 65 65 =
      ap (λ (n : ℕ). cond ((n == 0) || (n == 40)) (octets s3 72 72) (cond (n == 10) (octets s3 60 60) (octets s3 65 65))) at in
      record {
        flags_are = num_on-octets_of 1 (old_flags s3) (omega (arith, flags_fit));
        scanning_is = num_on-octets_of 1 (scanning s3) (omega (arith, scanning_fits 65 scan (omega arith) (omega arith)));
        la1_is = num_on-octets_of 3 (angle (four s3 39)) (angle_small (four s3 39)).small ∙ ap (λ (n : ℕ). angle (four s3 n)) (sym (ap la_place at));
        lo1_is = num_on-octets_of 3 (longitude (four s3 43)) (longitude_small (four s3 43) fit.1.1.1.0).small ∙ ap (λ (n : ℕ). longitude (four s3 n)) (sym (ap lo_place at));
        la1_fits = ap (λ (n : ℕ). angle_fits (four s3 n)) (ap la_place at) ∙ fit.1.1.0;
        lo1_fits = ap (λ (n : ℕ). longitude_fits (four s3 n)) (ap lo_place at) ∙ fit.1.1.1.0;
        none_lost = lambert_kept count place 3 columns rows coordinates list s3 small long fit.1.1.1.0 fit.1.1.1.1.1.0 fit.1.1.1.1.1.1.1.1.1.1.1.0;
      }

  lat_lon_back : (t last : ℕ) → t ≡ 0 ⊎ t ≡ 4 → la_place (grid_template s3) ≡ 47 → lo_place (grid_template s3) ≡ 51 → scanning s3 ≡ octets s3 72 72 → 72 ≤ length s3 → NoneLost (lat_lon_tested s3) → IsBack (section_with t (lat_lon_with s3 last)) s3
  lat_lon_back t last type la lo scan long none =
      let fit = all_fit (lat_lon_tested s3) none in
      record {
        flags_are = num_on-octets_of 1 (old_flags s3) (omega (arith, flags_fit));
        scanning_is = num_on-octets_of 1 (scanning s3) (omega (arith, scanning_fits 72 scan (omega arith) (omega arith)));
        la1_is = num_on-octets_of 3 (angle (four s3 47)) (angle_small (four s3 47)).small ∙ ap (λ (n : ℕ). angle (four s3 n)) (sym la);
        lo1_is = num_on-octets_of 3 (longitude (four s3 51)) (longitude_small (four s3 51) fit.1.1.1.1.0).small ∙ ap (λ (n : ℕ). longitude (four s3 n)) (sym lo);
        la1_fits = ap (λ (n : ℕ). angle_fits (four s3 n)) la ∙ fit.1.1.1.0;
        lo1_fits = ap (λ (n : ℕ). longitude_fits (four s3 n)) lo ∙ fit.1.1.1.1.0;
        none_lost = by type;
      }
    where
      by : t ≡ 0 ⊎ t ≡ 4 → migrate.grid_loss (section_with t (lat_lon_with s3 last)) ≡ None
      by (inl e) =
          let fit = all_fit (lat_lon_tested s3) none in
          subst (λ (n : ℕ). migrate.grid_loss (section_with n (lat_lon_with s3 last)) ≡ None) (sym e)
          (lat_lon_kept count place 0 columns rows coordinates list s3 small last long fit.1.1.1.1.0 fit.1.1.1.1.1.1.0)
      by (inr e) =
          let fit = all_fit (lat_lon_tested s3) none in
          subst (λ (n : ℕ). migrate.grid_loss (section_with n (lat_lon_with s3 last)) ≡ None) (sym e)
          (lat_lon_kept count place 4 columns rows coordinates list s3 small last long fit.1.1.1.1.0 fit.1.1.1.1.1.1.0)

  -- ---- by the template of Section 3

  abbrev tested_by : ℕ → List Tested
  tested_by t =
      cond (t == 10) (mercator_tested s3)
      (cond (t == 20) (polar_tested s3 (true_latitude (octets s3 64 64))) (cond (t == 30) (polar_tested s3 (four s3 66) ++ lambert_tested s3) (lat_lon_tested s3)))

  abbrev section_by : ℕ → List ℕ
  section_by t = section_with (unwrap_or (type_of t) 0) (numbers_by t s3)

  last_of : ℕ → Number
  last_of n = cond (n == 40) (Two (four s3 68)) (increment_at s3 68)

  with_last : (last : ℕ) → last_number s3 ≡ Two last → lat_lon s3 ≡ lat_lon_with s3 last
  with_last last e =
      ap (λ (x : Number). angle_at s3 47 ∷ longitude_at s3 51 ∷ One (old_flags s3) ∷ angle_at s3 56 ∷ longitude_at s3 60 ∷ increment_at s3 64 ∷ x ∷ One (scanning s3) ∷ Four 0 ∷ []) e

  pub lat_lon_at : (t : ℕ) → (t ≡ 0) ⊎ (t ≡ 40) → grid_template s3 ≡ t → (last : ℕ) × (lat_lon s3 ≡ lat_lon_with s3 last)
  lat_lon_at t (inl e) at =
      (increment (are_given s3) (four s3 68), with_last (increment (are_given s3) (four s3 68)) (ap (λ (n : ℕ). cond (n == 40) (Two (four s3 68)) (increment_at s3 68)) (at ∙ e)))
  lat_lon_at t (inr e) at = (four s3 68, with_last (four s3 68) (ap (λ (n : ℕ). cond (n == 40) (Two (four s3 68)) (increment_at s3 68)) (at ∙ e)))

  scanning_at : (t : ℕ) → (t ≡ 0) ⊎ (t ≡ 40) → grid_template s3 ≡ t → scanning s3 ≡ octets s3 72 72
  scanning_at t (inl e) at = ap (λ (n : ℕ). cond ((n == 0) || (n == 40)) (octets s3 72 72) (cond (n == 10) (octets s3 60 60) (octets s3 65 65))) (at ∙ e)
  scanning_at t (inr e) at = ap (λ (n : ℕ). cond ((n == 0) || (n == 40)) (octets s3 72 72) (cond (n == 10) (octets s3 60 60) (octets s3 65 65))) (at ∙ e)

  pub is_back : is_none (type_of (grid_template s3)) ≡ false → IsWhole s3 → grid_loss s3 ≡ None → IsBack (section_by (grid_template s3)) s3
  is_back some whole none =
      by_template (λ (t : ℕ). grid_template s3 ≡ t → least_length grid_templates t ≤ length s3 → NoneLost (tested_by t) → IsBack (section_by t) s3)
      (λ at long fits.
      let last = lat_lon_at 0 (inl refl) at in
      subst (λ (ns : List Number). IsBack (section_with 0 ns) s3) (sym last.1) (lat_lon_back 0 last.0 (inl refl) (ap la_place at) (ap lo_place at) (scanning_at 0 (inl refl) at) long fits))
      (λ at long fits. mercator_back at long fits)
      (λ at long fits. polar_back at long fits)
      (λ at long fits. lambert_back at long fits)
      (λ at long fits.
      let last = lat_lon_at 40 (inr refl) at in
      subst (λ (ns : List Number). IsBack (section_with 4 ns) s3) (sym last.1) (lat_lon_back 4 last.0 (inr refl) (ap la_place at) (ap lo_place at) (scanning_at 40 (inr refl) at) long fits))
      (grid_template s3) some refl whole.long none
