-- A field whose values are packed simply as they come.
use Rattle.std.proofs.Common.{◌≡◌, ℕ, ◌^◌, ◌<◌, Bool, List, [], length, map, sym, ap, arith, subst₂}
use Rattle.grib_bitmap.specs.Mask.{present_count}
use Rattle.grib_packing.specs.declared.column.Point.{Point}
use Rattle.grib_packing.specs.Column.{points_with_mask}
use Rattle.grib_packing.specs.Groupings.{greatest}
use Rattle.grib_packing.specs.Packed.{simple_numbers}
use Rattle.grib_simple_values.specs.declared.numbers.NumberWriter.{NumberWriter}
use Rattle.grib_simple_values.specs.declared.seen.Seen.{Seen}
use Rattle.grib_simple_values.specs.Kept.{IsSeen, reach_of}
use Rattle.grib_simple_values.specs.Written.{HasWritten, NumbersKept}
use Rattle.grib_simple_values.proofs.Fits.{reach_is, numbers_with_mask}

module _ (entries : List Point) (seen : Seen) (is : IsSeen entries seen) (few : length entries < 2 ^ 32) (fits : seen.greatest < 2 ^ 48) where
  pub reach_small : greatest (map reach_of entries) < 2 ^ 48
  reach_small = omega (arith, is.greatest_is, fits)

  greatest_is : greatest (simple_numbers entries) ≡ seen.greatest
  greatest_is = omega (arith, reach_is entries reach_small, is.greatest_is)

  -- all numbers are written
  pub all_written : (before after : NumberWriter) → HasWritten seen.present seen.greatest [] before → NumbersKept before entries after
      → HasWritten seen.present (greatest (simple_numbers entries)) (simple_numbers entries) after
  all_written before after begun written =
      let all = written.keeps seen.present seen.greatest [] (omega (arith, is.present_is few)) (omega (arith, greatest_is)) begun in
      rw greatest_is all

  -- of the points that the mask gives them to
  pub all_masked : (mask : List Bool) (before after : NumberWriter) → present_count mask ≡ length entries
      → HasWritten seen.present seen.greatest [] before → NumbersKept before entries after
      → HasWritten seen.present (greatest (simple_numbers (points_with_mask mask entries))) (simple_numbers (points_with_mask mask entries)) after
  all_masked mask before after present begun written =
      let numbers = sym (numbers_with_mask mask entries present) in
      subst₂ (λ (most : ℕ) (ns : List ℕ). HasWritten seen.present most ns after) (ap greatest numbers) numbers (all_written before after begun written)
