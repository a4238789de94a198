-- A Section 7 of simple packing whose numbers are written as they come (WMO-No. 306, Volume I.2, FM 92 GRIB edition 2,
-- data template 7.0).
use Rattle.std.specs.Prelude.{◌≡◌, ℕ, ◌+◌, ◌*◌, ◌/◌, ◌≤◌, List, [], ◌∷◌, ◌++◌, length}
use Rattle.std.proofs.Common.{ap, sym, ◌∙◌, arith, append_assoc}
use Rattle.std.proofs.lemmas.List.{append-nil, length-append}
use Rattle.grib_bits.specs.Bits.{bits}
use Rattle.grib_bits.specs.Encoding.{octets_of}
use Rattle.grib_packing.specs.declared.column.Point.{Point}
use Rattle.grib_packing.specs.Groupings.{digits, greatest}
use Rattle.grib_packing.specs.Packed.{fields, simple_numbers}
use Rattle.grib_simple_values.specs.declared.numbers.NumberWriter.{NumberWriter}
use Rattle.grib_simple_values.specs.Kept.{greatest-append, numbers-append}

-- octets 1 to 5 of a Section 7 with this many numbers, of which this is the greatest
abbrev pub values_head : ℕ → ℕ → List ℕ
values_head count most = octets_of 4 (5 + (count * digits most + 7) / 8) ++ 7 ∷ []

-- these are the first of that many numbers, none of which is greater than that
pub record HasWritten (count most : ℕ) (numbers : List ℕ) (writer : NumberWriter) : Type 0 where
  pub most_is : writer.greatest ≡ most
  pub width_is : writer.width ≡ digits most
  pub left_are : writer.left + length numbers ≡ count
  pub written : writer.out.bits ≡ bits (values_head count most) ++ fields (digits most) numbers

-- these points came, where there was room for their numbers
pub record NumbersKept (before : NumberWriter) (added : List Point) (after : NumberWriter) : Type 0 where
  pub keeps : (count most : ℕ) (numbers : List ℕ) → length numbers + length (simple_numbers added) ≤ count → greatest (simple_numbers added) ≤ most
      → HasWritten count most numbers before → HasWritten count most (numbers ++ simple_numbers added) after

pub numbers-none : (keeper : NumberWriter) → NumbersKept keeper [] keeper
numbers-none keeper = record {
  keeps = λ count most numbers room small has. rw (append-nil numbers) has;
}

pub numbers-more : (before between after : NumberWriter) (points more_points : List Point) → NumbersKept before points between → NumbersKept between more_points after
    → NumbersKept before (points ++ more_points) after
numbers-more before between after points more_points first second =
    let both = numbers-append points more_points in
    let long = ap length both ∙ length-append (simple_numbers points) (simple_numbers more_points) in
    let most_both = ap greatest both ∙ greatest-append (simple_numbers points) (simple_numbers more_points) in
    record {
      keeps = λ count most numbers room small has.
          let one = first.keeps count most numbers (omega (arith, room, long)) (omega (arith, small, most_both)) has in
          let two = second.keeps count most (numbers ++ simple_numbers points) (omega (arith, room, long, length-append numbers (simple_numbers points))) (omega (arith, small, most_both)) one in
          rw (both, sym (append_assoc numbers (simple_numbers points) (simple_numbers more_points))) two;
    }
