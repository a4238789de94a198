-- Lemmas on the column of a message.
use Rattle.std.proofs.Common.{◌≡◌, ℕ, suc, ◌+◌, ◌*◌, ◌≤◌, Bool, true, false, Option, Some, None, MatchOption, option_copied, List, [], ◌∷◌, length, take, drop, map, pos, replicate, refl, sym, ap, ap₂, ◌∙◌, arith, ltb-false, length-drop, length-take-le, Bor}
use Rattle.std.proofs.lemmas.List.{length-replicate}
use Rattle.grib_bits.specs.Bits.{bits}
use Rattle.grib_bits.specs.Plain.{plain}
use Rattle.grib_bits.proofs.OctetBits.{length-bits}
use Rattle.grib_base.specs.Rules.{first_fault}
use Rattle.grib_bitmap.specs.Mask.{present_count}
use Rattle.grib_bitmap.proofs.Runs.{present_count-replicate}
use Rattle.grib_packing.specs.Column.{points_with_mask}
use Rattle.grib_packing.specs.declared.column.Point.{Point}
use Rattle.grib_packing.specs.declared.column.Point.TheVariants.{Scaled}
use Rattle.grib_packing.specs.declared.column.Column.{Column}
use Rattle.grib_simple_reading.proofs.Masked.{with_full_mask}
use Rattle.grib1_sections.specs.Bitmap.{bitmap_rules, mask_of}
use Rattle.grib1_sections.specs.Grammar.{IsBitmap}
use Rattle.grib1_sections.specs.Acceptance.{bitmap, points_of}
use Rattle.grib1_sections.specs.Message.{SectionsPass}
use Rattle.grib1_sections.specs.Column.{column_from, entries_of}
use Rattle.grib_base.proofs.Passing.{passes_from_none}

-- a point with a number
abbrev pub scaled : ℕ → Point
scaled x = Scaled (pos x)

-- the points of a mask in these bits
abbrev pub points_in : List Bool → ℕ → List Bool → List Point
points_in xs width presence = points_with_mask presence (map scaled (plain xs width (present_count presence)))

-- without a bitmap the numbers are the points
pub points_in-all : (xs : List Bool) (width points : ℕ) → map scaled (plain xs width points) ≡ points_in xs width (replicate points true)
points_in-all xs width points =
    let count = present_count-replicate points true in
    sym (with_full_mask (replicate points true) scaled xs width points count (sym (length-replicate points true)))
    ∙ ap (λ (n : ℕ). points_with_mask (replicate points true) (map scaled (plain xs width n))) (sym count)

-- ---- how many points there are

length-own : (s : List ℕ) (points : ℕ) → points + 48 ≤ 8 * length s → length (take points (bits (drop 6 s))) ≡ points
length-own s points room = length-take-le points (bits (drop 6 s)) (omega (arith, length-bits (drop 6 s), length-drop 6 s))

-- a Section 3 that is not refused has a bit for each point
room_in : (points : ℕ) (s : List ℕ) → first_fault (bitmap_rules points s) ≡ None → points + 48 ≤ 8 * length s
room_in points s none = ltb-false (8 * length s) (points + 48) (passes_from_none (bitmap_rules points s) none).1.0

-- so has the mask
pub length-mask : (points : ℕ) (s : Option (List ℕ)) → IsBitmap points s → length (mask_of s points) ≡ points
length-mask points None h = length-replicate points true
length-mask points (Some s) h = length-own s points (room_in points s h.rules_hold)

-- and the column
length-points_with_mask : (presence : List Bool) (entries : List Point) → length (points_with_mask presence entries) ≡ length presence
length-points_with_mask [] entries = refl
length-points_with_mask (false ∷ presence) entries = ap suc (length-points_with_mask presence entries)
length-points_with_mask (true ∷ presence) [] = ap suc (length-points_with_mask presence [])
length-points_with_mask (true ∷ presence) (entry ∷ entries) = ap suc (length-points_with_mask presence entries)

-- Section 3 as it was found
found_bitmap : (expected : Option (List ℕ)) (found : Option (Bor (List ℕ))) → MatchOption found (expected ≡ None) (λ s. expected ≡ Some s.now) → option_copied found ≡ expected
found_bitmap expected None h = sym h
found_bitmap expected (Some s) h = sym h

-- a column by the sections of a message has its points
pub length-column : (m s1 s4 : List ℕ) (s3 : Option (Bor (List ℕ))) (points : ℕ) → SectionsPass m → MatchOption s3 (bitmap m ≡ None) (λ s. bitmap m ≡ Some s.now) → points ≡ points_of m
    → (column : Column) → column ≡ column_from s1 (mask_of (option_copied s3) points) s4 → length column.points ≡ points_of m
length-column m s1 s4 s3 points pass found is_points column is =
    let presence = mask_of (option_copied s3) points in
    ap (λ (x : Column). length x.points) is ∙ length-points_with_mask presence (entries_of s4 (present_count presence))
    ∙ ap₂ (λ (s : Option (List ℕ)) (n : ℕ). length (mask_of s n)) (found_bitmap (bitmap m) s3 found) is_points
    ∙ length-mask (points_of m) (bitmap m) pass.bitmap_stands
