-- A Section 6 whose bits are written as values come (WMO-No. 306, Volume I.2, FM 92 GRIB edition 2, code table 6.0).
use Rattle.std.specs.Prelude.{◌≡◌, ℕ, ◌+◌, ◌/◌, ◌≤◌, List, [], ◌∷◌, ◌++◌, length}
use Rattle.std.proofs.Common.{sym, arith, append_assoc}
use Rattle.std.proofs.lemmas.List.{append-nil, length-append}
use Rattle.grib_bits.specs.Bits.{bits, bits_of}
use Rattle.grib_bits.specs.Encoding.{octets_of}
use Rattle.grib_packing.specs.declared.column.Point.{Point}
use Rattle.grib_packing.specs.Packed.{present_bits}
use Rattle.grib_simple_values.specs.declared.bitmap_writer.BitmapWriter.{BitmapWriter}
use Rattle.grib_simple_values.specs.declared.marked.MarkedWriter.{MarkedWriter}
use Rattle.grib_simple_values.specs.Written.{NumbersKept, numbers-none, numbers-more}

-- octets 1 to 5 of a Section 6 with this many bits
abbrev pub bitmap_head : ℕ → List ℕ
bitmap_head count = octets_of 4 (6 + (count + 7) / 8) ++ 6 ∷ []

-- these are the first of that many values
pub record HasBitmap (count : ℕ) (points : List Point) (writer : BitmapWriter) : Type 0 where
  pub left_are : writer.left + length points ≡ count
  pub written : writer.out.bits ≡ bits (bitmap_head count) ++ (bits_of 8 0 ++ present_bits points)

-- these came, where there was room for their bits
pub record BitmapKept (before : BitmapWriter) (added : List Point) (after : BitmapWriter) : Type 0 where
  pub keeps : (count : ℕ) (points : List Point) → length points + length added ≤ count → HasBitmap count points before → HasBitmap count (points ++ added) after

bitmap-none : (keeper : BitmapWriter) → BitmapKept keeper [] keeper
bitmap-none keeper = record {
  keeps = λ count points room has. rw (append-nil points) has;
}

bitmap-more : (before between after : BitmapWriter) (points more_points : List Point) → BitmapKept before points between → BitmapKept between more_points after
    → BitmapKept before (points ++ more_points) after
bitmap-more before between after points more_points first second =
    let long = length-append points more_points in
    record {
      keeps = λ count seen room has.
          let one = first.keeps count seen (omega (arith, room, long)) has in
          let two = second.keeps count (seen ++ points) (omega (arith, room, long, length-append seen points)) one in
          rw (sym (append_assoc seen points more_points)) two;
    }

-- numbers and bits of values
pub record MarkedKept (before : MarkedWriter) (added : List Point) (after : MarkedWriter) : Type 0 where
  pub numbers : NumbersKept before.numbers added after.numbers
  pub bitmap : BitmapKept before.bitmap added after.bitmap

pub marked-none : (keeper : MarkedWriter) → MarkedKept keeper [] keeper
marked-none keeper = record {
  numbers = numbers-none keeper.numbers;
  bitmap = bitmap-none keeper.bitmap;
}

pub marked-more : (before between after : MarkedWriter) (points more_points : List Point) → MarkedKept before points between → MarkedKept between more_points after
    → MarkedKept before (points ++ more_points) after
marked-more before between after points more_points first second = record {
  numbers = numbers-more before.numbers between.numbers after.numbers points more_points first.numbers second.numbers;
  bitmap = bitmap-more before.bitmap between.bitmap after.bitmap points more_points first.bitmap second.bitmap;
}
