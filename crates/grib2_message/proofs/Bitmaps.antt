-- The rules of Section 6 and the mask, where it repeats no earlier bitmap.
use Rattle.std.proofs.Common.{◌≡◌, ◌≢◌, ℕ, ◌+◌, ◌*◌, ◌≤◌, Bool, true, false, not, cond, ◌&&◌, Option, None, List, [], ◌∷◌, length, drop, replicate, nat_lt, ◌==◌, is_none, unwrap_or, sym, ap, ◌∙◌, arith, eq-eqb, ne_eqb, eqb-true, ltb-false, length-drop, length-take-le}
use Rattle.std.proofs.lemmas.Bool.{not-false}
use Rattle.grib_bits.specs.Bits.{bits}
use Rattle.grib_bits.proofs.OctetBits.{length-bits}
use Rattle.grib_base.specs.declared.fault.Fault.{Fault}
use Rattle.grib_base.specs.declared.fault.Reason.TheVariants.{SectionLength, BitmapIndicator, NoEarlierBitmap, BitmapSize, ValueCount}
use Rattle.grib_base.specs.Rules.{rule, first_fault}
use Rattle.grib_bitmap.specs.Mask.{bitmap_indicator, bitmap_rules, mask_of, own_mask, present_count}
use Rattle.grib2_message.proofs.Passed.{passes_from_none}
use Rattle.grib2_message.proofs.Walk.{second_fails}

-- the mask and the rules, with the test of the indicator that asks for an earlier bitmap as a value of its own
mask_by : Bool → ℕ → ℕ → List Bool → Option (List Bool) → List Bool
mask_by repeats indicator points own earlier =
    cond (indicator == 255) (replicate points true) (cond repeats (unwrap_or earlier []) own)

fault_by : Bool → ℕ → ℕ → ℕ → ℕ → List Bool → Option (List Bool) → Option Fault
fault_by repeats indicator l points values own earlier =
    let earlier_length = length (unwrap_or earlier []) in
    let present = present_count (mask_by repeats indicator points own earlier) in
    first_fault (
    rule (nat_lt l 6) 1 SectionLength l
    ∷ rule (nat_lt 0 indicator && nat_lt indicator 254) 6 BitmapIndicator indicator
    ∷ rule (repeats && is_none earlier) 6 NoEarlierBitmap 254
    ∷ rule (indicator == 0 && nat_lt (8 * l) (points + 48)) 1 BitmapSize l
    ∷ rule (repeats && not (earlier_length == points)) 6 BitmapSize earlier_length
    ∷ rule (not (present == values)) 6 ValueCount present
    ∷ [])

module _ (s : List ℕ) (points values : ℕ) (other : bitmap_indicator s ≢ 254) (earlier later : Option (List Bool)) where
  pub mask_alone : mask_of s points earlier ≡ mask_of s points later
  unfolding mask_by
  mask_alone =
      let i = bitmap_indicator s in
      let own = own_mask s points in
      let no : (i == 254) ≡ false = ne_eqb i 254 other in
      ap (λ (b : Bool). mask_by b i points own earlier) no ∙ sym (ap (λ (b : Bool). mask_by b i points own later) no)

  pub rules_alone : first_fault (bitmap_rules s points values earlier) ≡ first_fault (bitmap_rules s points values later)
  unfolding mask_by fault_by
  rules_alone =
      let i = bitmap_indicator s in
      let own = own_mask s points in
      let no : (i == 254) ≡ false = ne_eqb i 254 other in
      ap (λ (b : Bool). fault_by b i (length s) points values own earlier) no
      ∙ sym (ap (λ (b : Bool). fault_by b i (length s) points values own later) no)

-- the mask of a section with bits of its own
pub mask_from_own : (s : List ℕ) (points : ℕ) → bitmap_indicator s ≡ 0 → (earlier : Option (List Bool)) → mask_of s points earlier ≡ own_mask s points
mask_from_own s points own earlier =
    ap (λ (i : ℕ). cond (i == 255) (replicate points true) (cond (i == 254) (unwrap_or earlier []) (own_mask s points))) own

-- a section with bits of its own that passes has as many as points, and as many present as values
pub own_tells : (s : List ℕ) (points values : ℕ) → bitmap_indicator s ≡ 0 → first_fault (bitmap_rules s points values None) ≡ None
    → (length (own_mask s points) ≡ points) × (present_count (own_mask s points) ≡ values)
own_tells s points values own none =
    let p = passes_from_none (bitmap_rules s points values None) none in
    let mask = mask_from_own s points own None in
    let size : nat_lt (8 * length s) (points + 48) ≡ false = second_fails (bitmap_indicator s == 0) _ p.1.1.1.0 (eq-eqb (bitmap_indicator s) 0 own) in
    let room : points + 48 ≤ 8 * length s = ltb-false (8 * length s) (points + 48) size in
    let long : length (bits (drop 6 s)) ≡ 8 * length (drop 6 s) = length-bits (drop 6 s) in
    let present : present_count (mask_of s points None) ≡ values = eqb-true _ _ (not-false _ p.1.1.1.1.1.0) in (
      length-take-le points (bits (drop 6 s)) (omega (arith, long, length-drop 6 s)),
      sym (ap present_count mask) ∙ present,
    )
