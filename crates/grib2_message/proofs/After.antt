-- What is in force after one more section, and where it begins.
use Rattle.std.proofs.Common.{◌≡◌, ◌≢◌, ℕ, ◌+◌, ◌<◌, ◌≤◌, IsTrue, Option, Some, None, List, ◌∷◌, length, get_or, set, inl, inr, refl, sym, ap, ◌∙◌, arith, subst}
use Rattle.std.specs.Option.{option_map_or}
use Rattle.std.proofs.lemmas.Bool.{cases_eq}
use Rattle.std.proofs.lemmas.List.{length-set, get_or-set_same, get_or-set_other}
use Rattle.grib_base.specs.declared.profile.Profile.{Profile}
use Rattle.grib_base.specs.Rules.{first_fault}
use Rattle.grib2_sections.specs.Frame.{Placed, placed_at, section_number, may_follow}
use Rattle.grib2_grids.specs.Grid.{grid_points}
use Rattle.grib_bitmap.specs.Mask.{bitmap_indicator, bitmap_rules}
use Rattle.grib_packing.specs.Packing.{value_count}
use Rattle.grib_packings.specs.Field.{IsDataOf}
use Rattle.grib_packings.specs.declared.data_representation.DataRepresentation.{DataRepresentation}
use Rattle.grib2_message.specs.View.{last_number, section_in_force, octets_in_force, points_in_force, earlier_bitmap, earlier_mask, section_count}
use Rattle.grib2_message.specs.Acceptance.{section_fault_under, contents_faults, no_rules}
use Rattle.grib2_message.specs.Kept.{AreSound, StandsAt, start_in_force, KeepsRepresentation, KeepsBitmap, HasInForce, HasPlaces, Comes}
use Rattle.grib2_message.specs.declared.in_force.Bitmap.{Bitmap}
use Rattle.grib2_message.specs.declared.in_force.InForce.{InForce}
use Rattle.grib2_message.specs.declared.places.Places.{Places}
use Rattle.grib2_message.proofs.Latest.{in_force_same, in_force_other, octets_same}
use Rattle.grib2_message.proofs.Order.{Follows, follows_tells, in_range, one_below}
use Rattle.grib2_message.proofs.Sound.{none_located, fault_of, points_kept as same_points, bitmap_own as own_list, bitmap_kept as kept_list, bitmap_not_own as not_own_list, count_same, count_other, sound_after}
use Rattle.grib2_message.proofs.Bitmaps.{rules_alone}

module _ (before : List Placed) (s : Placed) (number : ℕ) (numbered : section_number s.octets ≡ number) where
  not_here : (n : ℕ) → number ≢ n → section_number s.octets ≢ n
  not_here n other e = other (sym numbered ∙ e)

  -- its refusal
  pub fault_by_number : (profile : Profile) (n : ℕ) → number ≡ n → section_fault_under profile before s ≡ get_or (contents_faults profile) n no_rules before s
  fault_by_number profile n e = fault_of profile before s n (numbered ∙ e)

  -- ---- the last Section 6 with bits of its own

  module _ (force : InForce) (h : HasInForce before force) where
    bitmap_other : number ≢ 6 → KeepsBitmap force.bitmap (earlier_bitmap (s ∷ before))
    bitmap_other other = subst (λ (xs : List Placed). KeepsBitmap force.bitmap xs) (sym (kept_list s before (not_here 6 other))) h.bitmap

    pub bitmap_again : number ≡ 6 → bitmap_indicator s.octets ≢ 0 → KeepsBitmap force.bitmap (earlier_bitmap (s ∷ before))
    bitmap_again six other = subst (λ (xs : List Placed). KeepsBitmap force.bitmap xs) (sym (not_own_list s before (numbered ∙ six) other)) h.bitmap

    pub bitmap_new : number ≡ 6 → bitmap_indicator s.octets ≡ 0 → section_fault_under force.profile before s ≡ None → (bitmap : Bitmap) → bitmap.start ≡ s.start → bitmap.points ≡ force.points
        → bitmap.present ≡ value_count (octets_in_force 5 before) → KeepsBitmap (Some bitmap) (earlier_bitmap (s ∷ before))
    bitmap_new six own accepted bitmap is_start is_points is_present =
        let points = is_points ∙ h.points in
        let values = value_count (octets_in_force 5 before) in
        let none = none_located s.start (first_fault (bitmap_rules s.octets (points_in_force before) values (earlier_mask before))) (sym (fault_by_number force.profile 6 six) ∙ accepted) in
        let not_254 : bitmap_indicator s.octets ≢ 254 = λ e. absurd (omega arith) in
        subst (λ (xs : List Placed). KeepsBitmap (Some bitmap) xs) (sym (own_list s before (numbered ∙ six) own))
        (record {
          start = is_start;
          points = points;
          numbered = numbered ∙ six;
          own = own;
          rules = (λ i. first_fault (bitmap_rules s.octets (points i) (is_present i) None))
              ∙ rules_alone s.octets (points_in_force before) values not_254 None (earlier_mask before) ∙ none;
        })

  -- ---- the order

  module _ (follows : IsTrue (may_follow (last_number before) number)) where
    in_order : Follows (last_number before) number
    in_order = follows_tells (last_number before) number follows

    pub number_in_range : (1 ≤ number) × (number ≤ 7)
    number_in_range = in_range (last_number before) number in_order

    pub number_below : 5 ≤ number → last_number before + 1 ≡ number
    number_below high = sym (one_below (last_number before) number in_order high)

    -- ---- what is in force

    module _ (force : InForce) (h : HasInForce before force) (accepted : section_fault_under force.profile before s ≡ None) where
      after : (later : InForce) → later.profile ≡ force.profile → later.points ≡ points_in_force (s ∷ before) → KeepsRepresentation later.representation (section_in_force 5 (s ∷ before))
          → KeepsBitmap later.bitmap (earlier_bitmap (s ∷ before)) → later.fields ≡ section_count 7 (s ∷ before) → HasInForce (s ∷ before) later
      after later profile points representation bitmap fields = record {
        points = points;
        representation = representation;
        bitmap = bitmap;
        fields = fields;
        sound = subst (λ (p : Profile). AreSound p (s ∷ before)) (sym profile)
            (sound_after force.profile s before h.sound (subst (λ (n : ℕ). Follows (last_number before) n) (sym numbered) in_order) accepted);
      }

      points_other : number ≢ 3 → force.points ≡ points_in_force (s ∷ before)
      points_other other = h.points ∙ sym (same_points s before (not_here 3 other))

      read_other : number ≢ 5 → KeepsRepresentation force.representation (section_in_force 5 (s ∷ before))
      read_other other = subst (λ (o : Option Placed). KeepsRepresentation force.representation o) (sym (in_force_other s before 5 (not_here 5 other))) h.representation

      fields_other : number ≢ 7 → force.fields ≡ section_count 7 (s ∷ before)
      fields_other other = h.fields ∙ sym (count_other s before 7 (not_here 7 other))

      pub force_other : number ≢ 3 → number ≢ 5 → number ≢ 6 → number ≢ 7 → HasInForce (s ∷ before) force
      force_other n3 n5 n6 n7 = after force refl (points_other n3) (read_other n5) (bitmap_other force h n6) (fields_other n7)

      pub force_grid : number ≡ 3 → (points : ℕ) → points ≡ grid_points s.octets → HasInForce (s ∷ before) (record force { points = points })
      force_grid e points is =
          after (record force { points = points }) refl (is ∙ ap grid_points (sym (octets_same s before 3 (numbered ∙ e)))) (read_other (λ x. absurd (omega arith)))
          (bitmap_other force h (λ x. absurd (omega arith))) (fields_other (λ x. absurd (omega arith)))

      pub force_read : number ≡ 5 → (representation : DataRepresentation) → IsDataOf representation s.octets → HasInForce (s ∷ before) (record force { representation = Some representation })
      force_read e representation is =
          after (record force { representation = Some representation }) refl (points_other (λ x. absurd (omega arith)))
          (subst (λ (o : Option Placed). KeepsRepresentation (Some representation) o) (sym (in_force_same s before 5 (numbered ∙ e))) is)
          (bitmap_other force h (λ x. absurd (omega arith))) (fields_other (λ x. absurd (omega arith)))

      pub force_bitmap : number ≡ 6 → (bitmap : Option Bitmap) → KeepsBitmap bitmap (earlier_bitmap (s ∷ before)) → HasInForce (s ∷ before) (record force { bitmap = bitmap })
      force_bitmap e bitmap is =
          after (record force { bitmap = bitmap }) refl (points_other (λ x. absurd (omega arith))) (read_other (λ x. absurd (omega arith)))
          is (fields_other (λ x. absurd (omega arith)))

      pub force_ended : number ≡ 7 → (fields : ℕ) → fields ≡ force.fields + 1 → HasInForce (s ∷ before) (record force { fields = fields })
      force_ended e fields is =
          let more = count_same s before 7 (numbered ∙ e) in
          after (record force { fields = fields }) refl (points_other (λ x. absurd (omega arith))) (read_other (λ x. absurd (omega arith)))
          (bitmap_other force h (λ x. absurd (omega arith))) (omega (arith, is, h.fields, more))

-- ---- where it begins

module _ (m : List ℕ) (before : List Placed) (number start : ℕ) (s : List ℕ) (comes : Comes m before number start s) where
  starts_after : (starts : List ℕ) → length starts ≡ 8 → ((k : ℕ) → k < 8 → get_or starts k 0 ≡ start_in_force k before)
      → (k : ℕ) → k < 8 → get_or (set starts number start) k 0 ≡ start_in_force k (placed_at start s ∷ before)
  starts_after starts eight each k low = elim (cases_eq number k) [
    | inl same ↦
        let within : number < length starts = (let r = number_in_range before (placed_at start s) number comes.itself.number_stands comes.follows in omega arith) in
        let here : section_number s ≡ k = comes.itself.number_stands ∙ same in
        ap (λ (i : ℕ). get_or (set starts number start) i 0) (sym same)
        ∙ get_or-set_same starts number start 0 within
        ∙ sym (ap (λ (o : Option Placed). option_map_or (λ t. t.start) o 0) (in_force_same (placed_at start s) before k here))
    | inr other ↦
        let away : k ≢ number = λ e. other (sym e) in
        let elsewhere : section_number s ≢ k = λ e. other (sym comes.itself.number_stands ∙ e) in
        get_or-set_other starts number k start 0 away
        ∙ each k low
        ∙ sym (ap (λ (o : Option Placed). option_map_or (λ t. t.start) o 0) (in_force_other (placed_at start s) before k elsewhere))
  ]

  pub places_after : (places after : Places) → HasPlaces m before places → after.starts ≡ set places.starts number start
      → HasInForce (placed_at start s ∷ before) after.force → HasPlaces m (placed_at start s ∷ before) after
  places_after places after h is force = record {
    eight = ap length is ∙ length-set places.starts number start ∙ h.eight;
    starts = λ k low. ap (λ (xs : List ℕ). get_or xs k 0) is ∙ starts_after places.starts h.eight h.starts k low;
    placed = (subst (λ (n : ℕ). StandsAt m start n) (sym comes.itself.number_stands) comes.stands, comes.octets_are, h.placed);
    force = force;
  }
