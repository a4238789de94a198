-- Values whose numbers have a place in simple packing, and the points that a mask gives them to.
use Rattle.std.proofs.Common.{◌≡◌, ℕ, ◌-◌, ◌^◌, ◌<◌, ◌||◌, Bool, true, false, cond, Some, None, pos, negsuc, nat_abs, nat_lt, List, [], ◌∷◌, length, map, refl, ap, ap₂, arith, le-ltb}
use Rattle.std.specs.List.{list_any}
use Rattle.grib_base.specs.Rules.{first_place}
use Rattle.grib_bitmap.specs.Mask.{present_count}
use Rattle.grib_bitmap.proofs.Runs.{present_count-cons}
use Rattle.grib_packing.specs.declared.column.Point.{Point}
use Rattle.grib_packing.specs.declared.column.Point.TheVariants.{Scaled, Missing, Missing2}
use Rattle.grib_packing.specs.Column.{points_with_mask}
use Rattle.grib_packing.specs.Groupings.{greatest}
use Rattle.grib_packing.specs.Misfits.{ToSimple, SecondaryMissing, OutOfRange, first_misfit, first_of, is_missing, is_missing2, is_scaled_outside}
use Rattle.grib_packing.specs.Packed.{present_bits, simple_numbers}
use Rattle.grib_simple.proofs.Fitting.{few_numbers}
use Rattle.grib_simple_values.specs.declared.seen.Seen.{Seen}
use Rattle.grib_simple_values.specs.Kept.{IsSeen, SeenKept, reach_of}

abbrev reach : List Point → ℕ
reach points = greatest (map reach_of points)

-- ---- one value

not_secondary : (point : Point) → reach_of point < 2 ^ 48 → is_missing2 point ≡ false
not_secondary (Scaled x) small = refl
not_secondary Missing small = refl
not_secondary Missing2 small = absurd (omega arith)

inside : (point : Point) → reach_of point < 2 ^ 48 → is_scaled_outside (2 ^ 48 - 1) point ≡ false
inside (Scaled (pos n)) small =
    let never : nat_lt n 0 ≡ false = le-ltb n 0 (omega arith) in
    let within = rw never at small in
    ap₂ (λ (a b : Bool). a || b) never (le-ltb (2 ^ 48 - 1) n (omega (arith, within)))
inside (Scaled (negsuc n)) small = absurd (omega arith)
inside Missing small = refl
inside Missing2 small = refl

-- ---- the points

none_secondary : (mask : List Bool) (entries : List Point) → reach entries < 2 ^ 48 → list_any is_missing2 (points_with_mask mask entries) ≡ false
none_secondary [] entries small = refl
none_secondary (false ∷ mask) entries small = none_secondary mask entries small
none_secondary (true ∷ mask) [] small = none_secondary mask [] small
none_secondary (true ∷ mask) (entry ∷ entries) small =
    ap₂ (λ (a b : Bool). a || b) (not_secondary entry (omega (arith, small))) (none_secondary mask entries (omega (arith, small)))

none_outside : (mask : List Bool) (entries : List Point) → reach entries < 2 ^ 48 → list_any (is_scaled_outside (2 ^ 48 - 1)) (points_with_mask mask entries) ≡ false
none_outside [] entries small = refl
none_outside (false ∷ mask) entries small = none_outside mask entries small
none_outside (true ∷ mask) [] small = none_outside mask [] small
none_outside (true ∷ mask) (entry ∷ entries) small =
    ap₂ (λ (a b : Bool). a || b) (inside entry (omega (arith, small))) (none_outside mask entries (omega (arith, small)))

-- nothing of them fails to fit
pub no_misfit : (mask : List Bool) (entries : List Point) → reach entries < 2 ^ 48 → first_misfit ToSimple (points_with_mask mask entries) ≡ None
no_misfit mask entries small =
    let points = points_with_mask mask entries in
    ap₂ (λ (a b : Bool). first_of (cond a (Some (SecondaryMissing (first_place is_missing2 points))) None) (cond b (Some (OutOfRange (first_place (is_scaled_outside (2 ^ 48 - 1)) points))) None))
    (none_secondary mask entries small) (none_outside mask entries small)

-- their numbers are those of the values
pub numbers_with_mask : (mask : List Bool) (entries : List Point) → present_count mask ≡ length entries → simple_numbers (points_with_mask mask entries) ≡ simple_numbers entries
numbers_with_mask [] [] e = refl
numbers_with_mask [] (entry ∷ entries) e = absurd (omega arith)
numbers_with_mask (false ∷ mask) entries e = numbers_with_mask mask entries (omega (arith, present_count-cons false mask))
numbers_with_mask (true ∷ mask) [] e = absurd (omega (arith, present_count-cons true mask))
numbers_with_mask (true ∷ mask) (Scaled x ∷ entries) e =
    ap (λ (ns : List ℕ). nat_abs x ∷ ns) (numbers_with_mask mask entries (omega (arith, present_count-cons true mask)))
numbers_with_mask (true ∷ mask) (Missing ∷ entries) e = numbers_with_mask mask entries (omega (arith, present_count-cons true mask))
numbers_with_mask (true ∷ mask) (Missing2 ∷ entries) e = numbers_with_mask mask entries (omega (arith, present_count-cons true mask))

-- where each value has a number, the mask tells the points that are missing
pub bits_with_mask : (mask : List Bool) (entries : List Point) → present_count mask ≡ length entries → length (simple_numbers entries) ≡ length entries
    → present_bits (points_with_mask mask entries) ≡ mask
bits_with_mask [] entries e all = refl
bits_with_mask (false ∷ mask) entries e all = ap (λ (bs : List Bool). false ∷ bs) (bits_with_mask mask entries (omega (arith, present_count-cons false mask)) all)
bits_with_mask (true ∷ mask) [] e all = absurd (omega (arith, present_count-cons true mask))
bits_with_mask (true ∷ mask) (Scaled x ∷ entries) e all =
    ap (λ (bs : List Bool). true ∷ bs) (bits_with_mask mask entries (omega (arith, present_count-cons true mask)) (omega (arith, all)))
bits_with_mask (true ∷ mask) (Missing ∷ entries) e all = absurd (omega (arith, all, few_numbers entries))
bits_with_mask (true ∷ mask) (Missing2 ∷ entries) e all = absurd (omega (arith, all, few_numbers entries))

-- and the greatest that is seen is the greatest number
pub reach_is : (entries : List Point) → reach entries < 2 ^ 48 → greatest (simple_numbers entries) ≡ reach entries
reach_is [] small = refl
reach_is (Scaled (pos n) ∷ entries) small =
    let never : nat_lt n 0 ≡ false = le-ltb n 0 (omega arith) in
    let within = rw never at small in
    let rest = reach_is entries (omega (arith, within)) in
    rw never (omega (arith, rest))
reach_is (Scaled (negsuc n) ∷ entries) small = absurd (omega (arith, small))
reach_is (Missing ∷ entries) small = let rest = reach_is entries (omega (arith, small)) in omega (arith, rest)
reach_is (Missing2 ∷ entries) small = absurd (omega (arith, small))

-- where a value has no number, it is missing
pub some_missing : (entries : List Point) → reach entries < 2 ^ 48 → length (simple_numbers entries) < length entries → list_any is_missing entries ≡ true
some_missing [] small less = absurd (omega (arith, less))
some_missing (Scaled x ∷ entries) small less = some_missing entries (omega (arith, small)) (omega (arith, less))
some_missing (Missing ∷ entries) small less = refl
some_missing (Missing2 ∷ entries) small less = absurd (omega (arith, small))

-- ---- what is seen

pub all_seen : (points : List Point) (start seen : Seen) → IsSeen [] start → SeenKept start points seen → IsSeen points seen
all_seen points start seen none kept = record {
  greatest_is = omega (arith, kept.reach, none.greatest_is);
  present_is = λ few.
      let nothing = none.present_is (omega arith) in
      let counted = kept.counted (omega (arith, nothing, few, few_numbers points)) in
      omega (arith, counted, nothing);
}
