-- The mask of a field, by its Section 6 or an earlier one.
use Rattle.std.proofs.Common.{◌≡◌, ◌≢◌, ℕ, suc, ◌+◌, ◌*◌, ◌<◌, ◌≤◌, Bool, true, false, not, cond, Option, Some, None, List, [], ◌∷◌, length, drop, replicate, nat_lt, ◌==◌, is_none, unwrap_or, inl, inr, refl, sym, ap, ◌∙◌, arith, subst, eq-eqb, eqb-true, ltb-false, lt-ltb, length-drop, length-take-le}
use Rattle.std.proofs.lemmas.Bool.{not-false, cases_eq}
use Rattle.std.proofs.lemmas.List.{length-replicate}
use Rattle.grib_bits.specs.Bits.{bits}
use Rattle.grib_bits.proofs.OctetBits.{length-bits}
use Rattle.grib_base.specs.declared.profile.Profile.{Profile}
use Rattle.grib_base.specs.Rules.{first_fault}
use Rattle.grib2_grids.specs.Grid.{grid_points}
use Rattle.grib2_grids.specs.Opaque.{grid_rules_under}
use Rattle.grib2_grids.proofs.Under.{grid_point_bounds}
use Rattle.grib_bitmap.specs.Mask.{bitmap_indicator, bitmap_rules, mask_of, own_mask, present_count}
use Rattle.grib_packing.specs.declared.column.Point.{Point}
use Rattle.grib_packing.specs.Column.{points_with_mask}
use Rattle.grib_packing.specs.Packing.{value_count}
use Rattle.grib2_sections.specs.Frame.{Placed, section_at, section_number}
use Rattle.grib2_message.specs.View.{octets_in_force, points_in_force, earlier_bitmap, bitmap_mask, earlier_mask, mask_in_force}
use Rattle.grib2_message.specs.Kept.{StandsAt, IsBitmap, KeepsBitmap, IsField}
use Rattle.grib2_message.specs.declared.in_force.Bitmap.{Bitmap}
use Rattle.grib2_message.specs.declared.places.Places.{Places}
use Rattle.grib2_message.proofs.Latest.{earlier_stands}
use Rattle.grib2_message.proofs.Passed.{passes_from_none}
use Rattle.grib2_message.proofs.Walk.{second_fails}
use Rattle.grib2_message.proofs.Bitmaps.{mask_alone, rules_alone, mask_from_own}

-- what the code asks of a mask
pub record IsFieldMask (before : List Placed) (mask : List Bool) : Type 0 where
  pub is : mask ≡ mask_in_force before
  pub long : length mask ≡ points_in_force before
  pub values : present_count mask ≡ value_count (octets_in_force 5 before)

-- ---- a Section 6 that asks for no earlier bitmap

long_own : (s : List ℕ) (points : ℕ) → points + 48 ≤ 8 * length s → length (own_mask s points) ≡ points
long_own s points room =
    let long : length (bits (drop 6 s)) ≡ 8 * length (drop 6 s) = length-bits (drop 6 s) in
    length-take-le points (bits (drop 6 s)) (omega (arith, long, length-drop 6 s))

pub long_alone : (s : List ℕ) (points values : ℕ) (earlier : Option (List Bool)) → bitmap_indicator s < 256 → bitmap_indicator s ≢ 254 → first_fault (bitmap_rules s points values earlier) ≡ None
    → length (mask_of s points earlier) ≡ points
long_alone s points values earlier small other none =
    let p = passes_from_none (bitmap_rules s points values earlier) none in
    let i = bitmap_indicator s in
    elim (cases_eq i 0) [
      | inl own ↦
          let size : nat_lt (8 * length s) (points + 48) ≡ false = second_fails (i == 0) (nat_lt (8 * length s) (points + 48)) p.1.1.1.0 (eq-eqb i 0 own) in
          ap length (mask_from_own s points own earlier) ∙ long_own s points (ltb-false (8 * length s) (points + 48) size)
      | inr some ↦
          let high : 254 ≤ i = ltb-false i 254 (second_fails (nat_lt 0 i) (nat_lt i 254) p.1.0 (lt-ltb 0 i (omega arith))) in
          let all : i ≡ 255 = omega arith in
          ap (λ (b : Bool). length (cond b (replicate points true) (cond (i == 254) (unwrap_or earlier []) (own_mask s points)))) (eq-eqb i 255 all)
          ∙ length-replicate points true
    ]

pub present_of : (s : List ℕ) (points values : ℕ) (earlier : Option (List Bool)) → first_fault (bitmap_rules s points values earlier) ≡ None
    → present_count (mask_of s points earlier) ≡ values
present_of s points values earlier none =
    let p = passes_from_none (bitmap_rules s points values earlier) none in
    eqb-true (present_count (mask_of s points earlier)) values (not-false (present_count (mask_of s points earlier) == values) p.1.1.1.1.1.0)

module _ (m : List ℕ) (before : List Placed) (places : Places) (h : IsField m before places) where
  rules : first_fault (bitmap_rules (octets_in_force 6 before) (points_in_force before) (value_count (octets_in_force 5 before)) (earlier_mask before)) ≡ None
  rules = h.stand.force.sound.bitmap (omega (arith, h.ends))

  mask : mask_in_force before ≡ mask_of (octets_in_force 6 before) (points_in_force before) (earlier_mask before)
  mask = h.stand.force.sound.mask (omega (arith, h.ends))

  present : present_count (mask_in_force before) ≡ value_count (octets_in_force 5 before)
  present = ap present_count mask ∙ present_of (octets_in_force 6 before) (points_in_force before) (value_count (octets_in_force 5 before)) (earlier_mask before) rules

  is_field_mask : (found : List Bool) → found ≡ mask_in_force before → length (mask_in_force before) ≡ points_in_force before → IsFieldMask before found
  is_field_mask found is long = record { is = is; long = ap length is ∙ long; values = ap present_count is ∙ present }

  pub rules_without : bitmap_indicator (octets_in_force 6 before) ≢ 254
      → first_fault (bitmap_rules (octets_in_force 6 before) (points_in_force before) (value_count (octets_in_force 5 before)) None) ≡ None
  rules_without other =
      rules_alone (octets_in_force 6 before) (points_in_force before) (value_count (octets_in_force 5 before)) other None (earlier_mask before) ∙ rules

  pub mask_without : (found : List Bool) → bitmap_indicator (octets_in_force 6 before) < 256 → bitmap_indicator (octets_in_force 6 before) ≢ 254
      → found ≡ mask_of (octets_in_force 6 before) (points_in_force before) None → IsFieldMask before found
  mask_without found small other is =
      is_field_mask found
      (is ∙ mask_alone (octets_in_force 6 before) (points_in_force before) 0 other None (earlier_mask before) ∙ sym mask)
      (ap length mask ∙ long_alone (octets_in_force 6 before) (points_in_force before) (value_count (octets_in_force 5 before)) (earlier_mask before) small other rules)

  -- ---- one that does

  earlier_there : bitmap_indicator (octets_in_force 6 before) ≡ 254 → earlier_mask before ≢ None
  earlier_there repeats none =
      let p = passes_from_none (bitmap_rules (octets_in_force 6 before) (points_in_force before) (value_count (octets_in_force 5 before)) (earlier_mask before)) rules in
      let off : is_none (earlier_mask before) ≡ false = second_fails (bitmap_indicator (octets_in_force 6 before) == 254) (is_none (earlier_mask before)) p.1.1.0 (eq-eqb _ 254 repeats) in
      let on : is_none (earlier_mask before) ≡ true = ap is_none none in
      absurd (cc)

  pub bitmap_there : bitmap_indicator (octets_in_force 6 before) ≡ 254 → places.force.bitmap ≡ None → ⊥
  bitmap_there repeats none =
      earlier_there repeats (none_kept (earlier_bitmap before) (subst (λ (b : Option Bitmap). KeepsBitmap b (earlier_bitmap before)) none h.stand.force.bitmap))
    where
      none_kept : (earlier : List Placed) → KeepsBitmap None earlier → bitmap_mask earlier ≡ None
      none_kept [] k = refl
      none_kept (s ∷ rest) k = absurd k

  -- the section with its bits
  pub record Repeated (bitmap : Bitmap) : Type 0 where
    pub section : Placed
    pub others : List Placed
    pub is : earlier_bitmap before ≡ section ∷ others
    pub kept : IsBitmap bitmap section others
    pub stands : StandsAt m bitmap.start 6
    pub octets_are : section_at m bitmap.start ≡ section.octets

  pub repeated : (bitmap : Bitmap) → places.force.bitmap ≡ Some bitmap → Repeated bitmap
  repeated bitmap some =
      go (earlier_bitmap before) refl (subst (λ (b : Option Bitmap). KeepsBitmap b (earlier_bitmap before)) some h.stand.force.bitmap)
    where
      go : (earlier : List Placed) → earlier_bitmap before ≡ earlier → KeepsBitmap (Some bitmap) earlier → Repeated bitmap
      go [] is k = absurd k
      go (s ∷ rest) is k =
          let stands = earlier_stands m before s rest h.stand.placed is in
          record {
            section = s;
            others = rest;
            is = is;
            kept = k;
            stands = subst (λ (n : ℕ). StandsAt m bitmap.start n) k.numbered (subst (λ (x : ℕ). StandsAt m x (section_number s.octets)) (sym k.start) stands.0);
            octets_are = ap (section_at m) k.start ∙ sym stands.1;
          }

  pub mask_repeated : (bitmap : Bitmap) (found : List Bool) → bitmap_indicator (octets_in_force 6 before) ≡ 254 → Repeated bitmap
      → found ≡ mask_of (section_at m bitmap.start) bitmap.points None → IsFieldMask before found
  mask_repeated bitmap found repeats r is =
      let s = octets_in_force 6 before in
      let points = points_in_force before in
      let p = passes_from_none (bitmap_rules s points (value_count (octets_in_force 5 before)) (earlier_mask before)) rules in
      let force : mask_in_force before ≡ unwrap_or (earlier_mask before) [] =
      mask ∙ ap (λ (i : ℕ). cond (i == 255) (replicate points true) (cond (i == 254) (unwrap_or (earlier_mask before) []) (own_mask s points))) repeats in
      let same : mask_in_force before ≡ own_mask r.section.octets (points_in_force r.others) = force ∙ ap (λ (xs : List Placed). unwrap_or (bitmap_mask xs) []) r.is in
      let size : length (unwrap_or (earlier_mask before) []) ≡ points =
      eqb-true _ points (not-false (length (unwrap_or (earlier_mask before) []) == points)
      (second_fails (bitmap_indicator s == 254) (not (length (unwrap_or (earlier_mask before) []) == points)) p.1.1.1.1.0 (eq-eqb _ 254 repeats))) in
      is_field_mask found
      (is
      ∙ mask_from_own (section_at m bitmap.start) bitmap.points (ap bitmap_indicator r.octets_are ∙ r.kept.own) None
      ∙ (λ i. own_mask (r.octets_are i) (r.kept.points i))
      ∙ sym same)
      (ap length force ∙ size)

-- the number of points of a grid that is accepted
pub points_bounds : (profile : Profile) (s : List ℕ) → first_fault (grid_rules_under profile s) ≡ None → (1 ≤ grid_points s) × (grid_points s ≤ 33554432)
points_bounds profile s none = grid_point_bounds profile s none

-- a column has a point for each bit of its mask
pub points_of_mask : (presence : List Bool) (entries : List Point) → length (points_with_mask presence entries) ≡ length presence
points_of_mask [] entries = refl
points_of_mask (false ∷ presence) entries = ap suc (points_of_mask presence entries)
points_of_mask (true ∷ presence) [] = ap suc (points_of_mask presence [])
points_of_mask (true ∷ presence) (entry ∷ entries) = ap suc (points_of_mask presence entries)
