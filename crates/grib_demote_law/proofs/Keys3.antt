-- The keys of Section 3 come back.
use Rattle.std.proofs.Common.{◌≡◌, ℕ, ◌*◌, ◌<◌, ◌≤◌, ◌^◌, ◌||◌, ◌==◌, Bool, false, cond, Option, List, ◌++◌, length, refl, sym, ap, ap₂, ◌∙◌, arith}
use Rattle.std.specs.Prelude.{is_none, option_map, unwrap_or}
use Rattle.grib_bits.specs.Octets.{octets}
use Rattle.grib_bits.specs.Bits.{bits_of, signed}
use Rattle.grib_bits.specs.Encoding.{section_of, all_octets}
use Rattle.grib_bits.proofs.Encoding.{num_on-octets_of}
use Rattle.grib_bits.proofs.OctetBits.{AreOctets}
use Rattle.grib_bits.proofs.OctetNumbers.{octets-lt}
use Rattle.grib2_sections.specs.Template.{least_length}
use Rattle.grib2_grids.specs.Grid.{grid_template, grid_templates, nj}
use Rattle.grib2_grids.specs.Opaque.{is_opaque_grid}
use Rattle.grib2_grids.specs.Whole.{IsWhole}
use Rattle.grib1_sections.specs.Grid as grid1
use Rattle.grib_keys.specs.declared.key.Key.TheVariants.{Scanning, La1, Lo1}
use Rattle.grib_keys.specs.declared.table.Kind.{Kind}
use Rattle.grib_keys.specs.declared.table.Layout.{Layout}
use Rattle.grib_keys.specs.declared.table.Octets.{Octets}
use Rattle.grib_keys.specs.Keys.{unsigned, signed as with_sign, scanning_place, first_point}
use Rattle.grib_select.specs.Values.{value_at, value_in, layout_of}
use Rattle.grib_bits.specs.declared.adding.Number.{Number}
use Rattle.grib_migrate.specs.Grids as migrate
use Rattle.grib_migrate.specs.Grids.{header, common, template_numbers, row_octets, grid_octets, three}
use Rattle.grib_demote.specs.Grids.{type_of, four, scanning, angle, longitude, angle_fits, longitude_fits}
use Rattle.grib_demote_law.proofs.Angles.{angle_back, longitude_back}
use Rattle.grib_demote_law.proofs.KeyValues.{plain_key, signed_key, signed_written}
use Rattle.grib_demote_law.proofs.Back.{IsBack, by_template, la_place, lo_place}

abbrev layout_with : ℕ → Layout
layout_with t = record { template = t; is_opaque = false; ranges = 0 }

in_layout : (kind : Kind) (place : Layout → Option Octets) (x : List ℕ) (t : ℕ) → octets x 13 14 ≡ t → is_opaque_grid x ≡ false
    → option_map (value_at kind x) (place (layout_of 3 x)) ≡ option_map (value_at kind x) (place (layout_with t))
in_layout kind place x t is stated =
    ap₂ (λ (n : ℕ) (b : Bool). option_map (value_at kind x) (place (record { template = n; is_opaque = b; ranges = 0 }))) is stated

-- keys of a section with this template that is not opaque
scanning_in : (x : List ℕ) (t : ℕ) → octets x 13 14 ≡ t → is_opaque_grid x ≡ false → value_in Scanning x ≡ option_map (value_at unsigned x) (scanning_place (layout_with t))
scanning_in x t is stated = in_layout unsigned scanning_place x t is stated

la1_in : (x : List ℕ) (t : ℕ) → octets x 13 14 ≡ t → is_opaque_grid x ≡ false → value_in La1 x ≡ option_map (value_at with_sign x) (first_point 47 39 (layout_with t))
la1_in x t is stated = in_layout with_sign (first_point 47 39) x t is stated

lo1_in : (x : List ℕ) (t : ℕ) → octets x 13 14 ≡ t → is_opaque_grid x ≡ false → value_in Lo1 x ≡ option_map (value_at unsigned x) (first_point 51 43 (layout_with t))
lo1_in x t is stated = in_layout unsigned (first_point 51 43) x t is stated

-- what is known of the keys of two sections
pub record SameGrid (w s : List ℕ) : Type 0 where
  pub template : octets w 13 14 ≡ octets s 13 14
  pub scanning_key : value_in Scanning w ≡ value_in Scanning s
  pub la1_key : value_in La1 w ≡ value_in La1 s
  pub lo1_key : value_in Lo1 w ≡ value_in Lo1 s

module _ (n : ℕ) (g s3 : List ℕ) (back : IsBack g s3) (small : AreOctets s3) where
  abbrev pub w : List ℕ
  w = section_of 3 (grid_octets n g)

  abbrev with_numbers : List Number → List ℕ
  with_numbers numbers = section_of 3 (all_octets (header n g) ++ (all_octets (common g) ++ (all_octets numbers ++ row_octets g)))

  pub points_back : n < 2 ^ 32 → octets w 7 10 ≡ n
  points_back few = num_on-octets_of 4 n (omega (arith, few))

  pub nj_back : grid1.nj g ≡ nj s3 → nj s3 < 65536 → octets w 35 38 ≡ octets s3 35 38
  nj_back is few = num_on-octets_of 4 (grid1.nj g) (omega (arith, is, few)) ∙ is

  -- La1 and Lo1 as they are written, at octet `first` of Section 3
  module _ (la : la_place (grid_template s3) ≡ 47) (lo : lo_place (grid_template s3) ≡ 51) (long : 54 ≤ length s3) where
    angles_la1 : signed (bits_of 32 (migrate.angle (three g 11))) ≡ signed (bits_of 32 (octets s3 47 50))
    angles_la1 =
        let v = four s3 47 in
        let lt : v < 2 ^ 32 = octets-lt s3 47 50 4 small (omega arith) (omega arith) (omega (arith, long)) in
        ap (λ (x : ℕ). signed (bits_of 32 (migrate.angle x))) (back.la1_is ∙ ap (λ (p : ℕ). angle (four s3 p)) la)
        ∙ angle_back v lt (sym (ap (λ (p : ℕ). angle_fits (four s3 p)) la) ∙ back.la1_fits)

    angles_lo1 : (migrate.longitude (three g 14) ≡ octets s3 51 54) × (octets s3 51 54 < 2 ^ 31)
    angles_lo1 =
        let v = four s3 51 in
        let known = longitude_back v (sym (ap (λ (p : ℕ). longitude_fits (four s3 p)) lo) ∙ back.lo1_fits) in
        (ap migrate.longitude (back.lo1_is ∙ ap (λ (p : ℕ). longitude (four s3 p)) lo) ∙ known.0, known.1)

  module _ (la : la_place (grid_template s3) ≡ 39) (lo : lo_place (grid_template s3) ≡ 43) (long : 46 ≤ length s3) where
    plane_la1 : signed (bits_of 32 (migrate.angle (three g 11))) ≡ signed (bits_of 32 (octets s3 39 42))
    plane_la1 =
        let v = four s3 39 in
        let lt : v < 2 ^ 32 = octets-lt s3 39 42 4 small (omega arith) (omega arith) (omega (arith, long)) in
        ap (λ (x : ℕ). signed (bits_of 32 (migrate.angle x))) (back.la1_is ∙ ap (λ (p : ℕ). angle (four s3 p)) la)
        ∙ angle_back v lt (sym (ap (λ (p : ℕ). angle_fits (four s3 p)) la) ∙ back.la1_fits)

    plane_lo1 : (migrate.longitude (three g 14) ≡ octets s3 43 46) × (octets s3 43 46 < 2 ^ 31)
    plane_lo1 =
        let v = four s3 43 in
        let known = longitude_back v (sym (ap (λ (p : ℕ). longitude_fits (four s3 p)) lo) ∙ back.lo1_fits) in
        (ap migrate.longitude (back.lo1_is ∙ ap (λ (p : ℕ). longitude (four s3 p)) lo) ∙ known.0, known.1)

  -- a number that is written is that of the other section
  scanning_there : (p : ℕ) → scanning s3 ≡ octets s3 p p → 1 ≤ p → p ≤ length s3 → (migrate.scanning g ≡ octets s3 p p) × (migrate.scanning g < 256)
  scanning_there p is low long =
      let few : octets s3 p p < 2 ^ (8 * 1) = octets-lt s3 p p 1 small (omega arith) (omega arith) (omega (arith, long)) in
      let same = back.scanning_is ∙ is in
      (same, omega (arith, same, few))

  abbrev scanning_by : ℕ → ℕ
  scanning_by t = cond ((t == 0) || (t == 40)) (octets s3 72 72) (cond (t == 10) (octets s3 60 60) (octets s3 65 65))

  scanning_at : (t : ℕ) → grid_template s3 ≡ t → scanning s3 ≡ scanning_by t
  scanning_at t at = ap scanning_by at

  abbrev numbers_for : ℕ → List Number
  numbers_for k =
      cond (k == 1) (migrate.mercator g)
      (cond (k == 3) (migrate.polar g (migrate.angle (three g 29)) ++ migrate.lambert g)
      (cond (k == 4) (migrate.lat_lon g (octets g 26 27)) (cond (k == 5) (migrate.polar g (migrate.true_latitude (migrate.centre g))) (migrate.lat_lon g (migrate.increment g 26)))))

  w_is : (k : ℕ) → grid1.grid_type g ≡ k → w ≡ with_numbers (numbers_for k)
  w_is k is = ap (λ (j : ℕ). with_numbers (numbers_for j)) is

  template_is : (k t : ℕ) → grid1.grid_type g ≡ k → migrate.template_of k ≡ t → t < 65536 → octets w 13 14 ≡ t
  template_is k t type is few =
      let there : migrate.template_of (grid1.grid_type g) ≡ t = ap migrate.template_of type ∙ is in
      num_on-octets_of 2 (migrate.template_of (grid1.grid_type g)) (omega (arith, there, few)) ∙ there

  -- ---- by the template, where neither section is opaque

  module _ (w_stated : is_opaque_grid w ≡ false) (stated : is_opaque_grid s3 ≡ false) where
    mercator_same : grid_template s3 ≡ 10 → grid1.grid_type g ≡ 1 → 72 ≤ length s3 → SameGrid w s3
    mercator_same at type long =
        let written = with_numbers (migrate.mercator g) in
        let t = template_is 1 10 type refl (omega arith) in
        let is = w_is 1 type in
        let la = plane_la1 (ap la_place at) (ap lo_place at) (omega (arith, long)) in
        let lo = plane_lo1 (ap la_place at) (ap lo_place at) (omega (arith, long)) in
        let high = lo.1 in
        let same = lo.0 in
        let scan = scanning_there 60 (scanning_at 10 at) (omega arith) (omega (arith, long)) in
        let few = scan.1 in
        record {
          template = t ∙ sym at;
          scanning_key = scanning_in w 10 t w_stated ∙ plain_key w written s3 60 60 is (num_on-octets_of 1 (migrate.scanning g) (omega (arith, few)) ∙ scan.0) ∙ sym (scanning_in s3 10 at stated);
          la1_key = la1_in w 10 t w_stated
              ∙ signed_key w written s3 39 42 is (signed_written written s3 39 42 (migrate.angle (three g 11)) small (omega arith) (omega arith) (omega (arith, long)) refl la) ∙ sym (la1_in s3 10 at stated);
          lo1_key = lo1_in w 10 t w_stated
              ∙ plain_key w written s3 43 46 is (num_on-octets_of 4 (migrate.longitude (three g 14)) (omega (arith, same, high)) ∙ same) ∙ sym (lo1_in s3 10 at stated);
        }

    polar_same : grid_template s3 ≡ 20 → grid1.grid_type g ≡ 5 → 65 ≤ length s3 → SameGrid w s3
    polar_same at type long =
        let written = with_numbers (migrate.polar g (migrate.true_latitude (migrate.centre g))) in
        let t = template_is 5 20 type refl (omega arith) in
        let is = w_is 5 type in
        let la = plane_la1 (ap la_place at) (ap lo_place at) (omega (arith, long)) in
        let lo = plane_lo1 (ap la_place at) (ap lo_place at) (omega (arith, long)) in
        let high = lo.1 in
        let same = lo.0 in
        let scan = scanning_there 65 (scanning_at 20 at) (omega arith) (omega (arith, long)) in
        let few = scan.1 in
        record {
          template = t ∙ sym at;
          scanning_key = scanning_in w 20 t w_stated ∙ plain_key w written s3 65 65 is (num_on-octets_of 1 (migrate.scanning g) (omega (arith, few)) ∙ scan.0) ∙ sym (scanning_in s3 20 at stated);
          la1_key = la1_in w 20 t w_stated
              ∙ signed_key w written s3 39 42 is (signed_written written s3 39 42 (migrate.angle (three g 11)) small (omega arith) (omega arith) (omega (arith, long)) refl la) ∙ sym (la1_in s3 20 at stated);
          lo1_key = lo1_in w 20 t w_stated
              ∙ plain_key w written s3 43 46 is (num_on-octets_of 4 (migrate.longitude (three g 14)) (omega (arith, same, high)) ∙ same) ∙ sym (lo1_in s3 20 at stated);
        }

    lambert_same : grid_template s3 ≡ 30 → grid1.grid_type g ≡ 3 → 81 ≤ length s3 → SameGrid w s3
    lambert_same at type long =
        let written = with_numbers (migrate.polar g (migrate.angle (three g 29)) ++ migrate.lambert g) in
        let t = template_is 3 30 type refl (omega arith) in
        let is = w_is 3 type in
        let la = plane_la1 (ap la_place at) (ap lo_place at) (omega (arith, long)) in
        let lo = plane_lo1 (ap la_place at) (ap lo_place at) (omega (arith, long)) in
        let high = lo.1 in
        let same = lo.0 in
        let scan = scanning_there 65 (scanning_at 30 at) (omega arith) (omega (arith, long)) in
        let few = scan.1 in
        record {
          template = t ∙ sym at;
          scanning_key = scanning_in w 30 t w_stated ∙ plain_key w written s3 65 65 is (num_on-octets_of 1 (migrate.scanning g) (omega (arith, few)) ∙ scan.0) ∙ sym (scanning_in s3 30 at stated);
          la1_key = la1_in w 30 t w_stated
              ∙ signed_key w written s3 39 42 is (signed_written written s3 39 42 (migrate.angle (three g 11)) small (omega arith) (omega arith) (omega (arith, long)) refl la) ∙ sym (la1_in s3 30 at stated);
          lo1_key = lo1_in w 30 t w_stated
              ∙ plain_key w written s3 43 46 is (num_on-octets_of 4 (migrate.longitude (three g 14)) (omega (arith, same, high)) ∙ same) ∙ sym (lo1_in s3 30 at stated);
        }

    lat_lon_same : grid_template s3 ≡ 0 → grid1.grid_type g ≡ 0 → 72 ≤ length s3 → SameGrid w s3
    lat_lon_same at type long =
        let written = with_numbers (migrate.lat_lon g (migrate.increment g 26)) in
        let t = template_is 0 0 type refl (omega arith) in
        let is = w_is 0 type in
        let la = angles_la1 (ap la_place at) (ap lo_place at) (omega (arith, long)) in
        let lo = angles_lo1 (ap la_place at) (ap lo_place at) (omega (arith, long)) in
        let high = lo.1 in
        let same = lo.0 in
        let scan = scanning_there 72 (scanning_at 0 at) (omega arith) (omega (arith, long)) in
        let few = scan.1 in
        record {
          template = t ∙ sym at;
          scanning_key = scanning_in w 0 t w_stated ∙ plain_key w written s3 72 72 is (num_on-octets_of 1 (migrate.scanning g) (omega (arith, few)) ∙ scan.0) ∙ sym (scanning_in s3 0 at stated);
          la1_key = la1_in w 0 t w_stated
              ∙ signed_key w written s3 47 50 is (signed_written written s3 47 50 (migrate.angle (three g 11)) small (omega arith) (omega arith) (omega (arith, long)) refl la) ∙ sym (la1_in s3 0 at stated);
          lo1_key = lo1_in w 0 t w_stated
              ∙ plain_key w written s3 51 54 is (num_on-octets_of 4 (migrate.longitude (three g 14)) (omega (arith, same, high)) ∙ same) ∙ sym (lo1_in s3 0 at stated);
        }

    gaussian_same : grid_template s3 ≡ 40 → grid1.grid_type g ≡ 4 → 72 ≤ length s3 → SameGrid w s3
    gaussian_same at type long =
        let written = with_numbers (migrate.lat_lon g (octets g 26 27)) in
        let t = template_is 4 40 type refl (omega arith) in
        let is = w_is 4 type in
        let la = angles_la1 (ap la_place at) (ap lo_place at) (omega (arith, long)) in
        let lo = angles_lo1 (ap la_place at) (ap lo_place at) (omega (arith, long)) in
        let high = lo.1 in
        let same = lo.0 in
        let scan = scanning_there 72 (scanning_at 40 at) (omega arith) (omega (arith, long)) in
        let few = scan.1 in
        record {
          template = t ∙ sym at;
          scanning_key = scanning_in w 40 t w_stated ∙ plain_key w written s3 72 72 is (num_on-octets_of 1 (migrate.scanning g) (omega (arith, few)) ∙ scan.0) ∙ sym (scanning_in s3 40 at stated);
          la1_key = la1_in w 40 t w_stated
              ∙ signed_key w written s3 47 50 is (signed_written written s3 47 50 (migrate.angle (three g 11)) small (omega arith) (omega arith) (omega (arith, long)) refl la) ∙ sym (la1_in s3 40 at stated);
          lo1_key = lo1_in w 40 t w_stated
              ∙ plain_key w written s3 51 54 is (num_on-octets_of 4 (migrate.longitude (three g 14)) (omega (arith, same, high)) ∙ same) ∙ sym (lo1_in s3 40 at stated);
        }

    pub grid_same : is_none (type_of (grid_template s3)) ≡ false → IsWhole s3 → grid1.grid_type g ≡ unwrap_or (type_of (grid_template s3)) 0 → SameGrid w s3
    grid_same some whole type =
        by_template (λ (t : ℕ). grid_template s3 ≡ t → grid1.grid_type g ≡ unwrap_or (type_of t) 0 → least_length grid_templates t ≤ length s3 → SameGrid w s3) lat_lon_same mercator_same polar_same lambert_same
        gaussian_same (grid_template s3) some refl type whole.long
