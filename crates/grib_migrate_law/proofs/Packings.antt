-- Sections 5, 6 and 7 as they are written pass their rules, and give the numbers that were moved.
use Rattle.std.proofs.Common.{◌≡◌, ℕ, ◌+◌, ◌*◌, ◌^◌, ◌<◌, ◌≤◌, ◌==◌, Bool, true, false, not, Option, Some, None, List, [], ◌∷◌, length, drop, map, pos, nat_lt, replicate, refl, sym, ap, ap₂, ◌∙◌, arith, le-ltb, eq-eqb, ne_eqb, length-drop}
use Rattle.grib_bits.specs.Bits.{bits}
use Rattle.grib_bits.specs.Binary32.{ieee_exponent}
use Rattle.grib_bits.specs.Plain.{plain}
use Rattle.grib_bits.specs.Octets.{StatesItself}
use Rattle.grib_bits.specs.Encoding.{section_of, all_octets}
use Rattle.grib_bits.proofs.Encoding.{num_on-octets_of, StatesItself-section_of}
use Rattle.grib_base.specs.Rules.{first_fault}
use Rattle.grib_base.proofs.Passing.{none_from_passes}
use Rattle.grib_base.specs.declared.limits.TheConstants.{MOST_POINTS}
use Rattle.grib_dyadic.specs.Reference.{IsFinite}
use Rattle.grib_bitmap.specs.Mask.{bitmap_rules, mask_of, present_count}
use Rattle.grib_base.specs.declared.profile.Profile.TheVariants.{Stated}
use Rattle.grib_packing.specs.declared.column.Point.TheVariants.{Scaled}
use Rattle.grib_packing.specs.Packing.{value_count, reference_word, binary_scale, decimal_scale, bit_width}
use Rattle.grib_packing.specs.Simple.{simple_rules}
use Rattle.grib_packing.specs.Entries.{packing_rules, packing_fault_under, data_fault, entries_of}
use Rattle.grib_packing.proofs.OpaquePackings.{accepted_stated}
use Rattle.grib_packing.proofs.Packings.{packing_fault-simple}
use Rattle.grib1_sections.specs.Bitmap as bitmap1
use Rattle.grib_bits.specs.declared.adding.Number.TheVariants.{One, Two, Four}
use Rattle.grib_migrate.specs.Held.{HoldsBits}
use Rattle.grib_migrate.specs.Values.{front_octets, bitmap_octets}
use Rattle.grib_migrate.proofs.Fronts.{front-length}
use Rattle.grib_migrate_law.proofs.FirstBits.{first_bits, plain_first}

-- ---- Section 5

abbrev pub packing_with : ℕ → ℕ → ℕ → ℕ → ℕ → ℕ → List ℕ
packing_with values reference e d width kind =
    section_of 5 (all_octets (Four values ∷ Two 0 ∷ Four reference ∷ Two e ∷ Two d ∷ One width ∷ One kind ∷ []))

pub record MayBeWritten (values reference e d width : ℕ) : Type 0 where
  pub values_fit : values < 2 ^ 32
  pub reference_fits : reference < 2 ^ 32
  pub finite : IsFinite reference
  pub e_fits : e < 65536
  pub d_fits : d < 65536
  pub few_bits : width ≤ 48

module _ (values reference e d width kind : ℕ) (may : MayBeWritten values reference e d width) where
  pub values_stand : value_count (packing_with values reference e d width kind) ≡ values
  values_stand = num_on-octets_of 4 values may.values_fit

  pub reference_stands : reference_word (packing_with values reference e d width kind) ≡ reference
  reference_stands = num_on-octets_of 4 reference may.reference_fits

  pub e_stands : binary_scale (packing_with values reference e d width kind) ≡ e
  e_stands = num_on-octets_of 2 e may.e_fits

  pub d_stands : decimal_scale (packing_with values reference e d width kind) ≡ d
  d_stands = num_on-octets_of 2 d may.d_fits

  pub width_stands : bit_width (packing_with values reference e d width kind) ≡ width
  width_stands = num_on-octets_of 1 width (omega (arith, may.few_bits))

  finite_stands : (ieee_exponent (reference_word (packing_with values reference e d width kind)) == 255) ≡ false
  finite_stands =
      let finite = may.finite in
      ap (λ (w : ℕ). ieee_exponent w == 255) reference_stands ∙ ne_eqb (ieee_exponent reference) 255 (λ same. omega (arith, finite, same))

  rules_pass : (points : ℕ) → values ≤ points → first_fault (packing_rules (packing_with values reference e d width kind) points) ≡ None
  rules_pass points few = none_from_passes (packing_rules (packing_with values reference e d width kind) points) (
    refl,
    (
      refl,
      (
        refl,
        (
          ap (nat_lt points) values_stand ∙ le-ltb points values few,
          (finite_stands, (ap (nat_lt 48) width_stands ∙ le-ltb 48 width may.few_bits, tt)),
        ),
      ),
    ),
  )

  pub packing_passes : (points : ℕ) → values ≤ points → packing_fault_under Stated (packing_with values reference e d width kind) points ≡ None
  packing_passes points few =
      let s = packing_with values reference e d width kind in
      accepted_stated Stated s points refl (packing_fault-simple s points (rules_pass points few) refl)

  pub packing_itself : StatesItself 5 (packing_with values reference e d width kind)
  packing_itself = StatesItself-section_of 5 (all_octets (Four values ∷ Two 0 ∷ Four reference ∷ Two e ∷ Two d ∷ One width ∷ One kind ∷ [])) (omega arith)

-- ---- Section 6

module _ (points : ℕ) (few : points ≤ MOST_POINTS) where
  pub bitmap_short : (s3 : Option (List ℕ)) → HoldsBits s3 points → length (section_of 6 (bitmap_octets s3 points)) ≤ 4194310
  bitmap_short None holds = omega arith
  bitmap_short (Some s) holds = omega (arith, front-length (drop 6 s) points (omega (arith, holds, length-drop 6 s)))

  pub bitmap_itself : (s3 : Option (List ℕ)) → HoldsBits s3 points → StatesItself 6 (section_of 6 (bitmap_octets s3 points))
  bitmap_itself None holds = StatesItself-section_of 6 (bitmap_octets None points) (omega arith)
  bitmap_itself (Some s) holds =
      StatesItself-section_of 6 (bitmap_octets (Some s) points) (omega (arith, front-length (drop 6 s) points (omega (arith, holds, length-drop 6 s))))

  pub mask_stands : (s3 : Option (List ℕ)) → HoldsBits s3 points → (earlier : Option (List Bool))
      → mask_of (section_of 6 (bitmap_octets s3 points)) points earlier ≡ bitmap1.mask_of s3 points
  mask_stands None holds earlier = refl
  mask_stands (Some s) holds earlier = first_bits (drop 6 s) points (omega (arith, holds, length-drop 6 s))

  pub bitmap_passes : (s3 : Option (List ℕ)) → HoldsBits s3 points → (values : ℕ) → values ≡ present_count (bitmap1.mask_of s3 points) → (earlier : Option (List Bool))
      → first_fault (bitmap_rules (section_of 6 (bitmap_octets s3 points)) points values earlier) ≡ None
  bitmap_passes None holds values is earlier =
      let n = present_count (replicate points true) in
      none_from_passes (bitmap_rules (section_of 6 (bitmap_octets None points)) points values earlier) (
        refl,
        (refl, (refl, (refl, (refl, (ap not (eq-eqb n values (sym is)), tt))))),
      )
  bitmap_passes (Some s) holds values is earlier =
      let s6 = section_of 6 (bitmap_octets (Some s) points) in
      let long = front-length (drop 6 s) points (omega (arith, holds, length-drop 6 s)) in
      let n = present_count (mask_of s6 points earlier) in
      let same : n ≡ values = ap present_count (mask_stands (Some s) holds earlier) ∙ sym is in
      none_from_passes (bitmap_rules s6 points values earlier) (
        le-ltb (length s6) 6 (omega arith),
        (refl, (refl, (le-ltb (8 * length s6) (points + 48) (omega (arith, long)), (refl, (ap not (eq-eqb n values same), tt))))),
      )

-- ---- Section 7

module _ (values reference e d width kind : ℕ) (from : List ℕ) (may : MayBeWritten values reference e d width) (within : values * width ≤ 8 * length from) where
  pub data_passes : data_fault (packing_with values reference e d width kind) (section_of 7 (front_octets from (values * width))) ≡ None
  data_passes =
      let s5 = packing_with values reference e d width kind in
      let s7 = section_of 7 (front_octets from (values * width)) in
      let long = front-length from (values * width) within in
      none_from_passes (simple_rules s5 (length s7)) (
        ap₂ (λ (n m : ℕ). nat_lt (8 * length s7) (n * m + 40)) (values_stand values reference e d width kind may) (width_stands values reference e d width kind may)
            ∙ le-ltb (8 * length s7) (values * width + 40) (omega (arith, long)),
        tt,
      )

  pub entries_stand : entries_of (packing_with values reference e d width kind) (section_of 7 (front_octets from (values * width)))
      ≡ map (λ x. Scaled (pos x)) (plain (bits from) width values)
  entries_stand =
      let moved = front_octets from (values * width) in
      ap₂ (λ (w n : ℕ). map (λ x. Scaled (pos x)) (plain (bits moved) w n)) (width_stands values reference e d width kind may) (values_stand values reference e d width kind may)
      ∙ ap (map (λ x. Scaled (pos x))) (plain_first (bits moved) (bits from) width values (first_bits from (values * width) within))

  pub data_short : length (section_of 7 (front_octets from (values * width))) ≤ 5 + length from
  data_short = omega (arith, front-length from (values * width) within)

  pub data_itself : length from < 2 ^ 24 → StatesItself 7 (section_of 7 (front_octets from (values * width)))
  data_itself few = StatesItself-section_of 7 (front_octets from (values * width)) (omega (arith, few, front-length from (values * width) within))
