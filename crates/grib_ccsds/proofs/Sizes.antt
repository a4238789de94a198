-- How many octets the sections of CCSDS packing have.
use Rattle.std.proofs.Common.{◌≡◌, ℕ, ◌+◌, ◌/◌, ◌<◌, ◌≤◌, Bool, true, false, not, cond, Option, Some, None, List, ◌++◌, length, drop, ap, ◌∙◌, arith, IfSome, IsSomeAnd}
use Rattle.std.specs.List.{list_any}
use Rattle.std.proofs.lemmas.List.{length-append, length-map, length-drop}
use Rattle.grib_bits.specs.Bits.{bits_of}
use Rattle.grib_bits.proofs.Numbers.{length-bits_of}
use Rattle.grib_bits.proofs.OctetBits.{length-bits}
use Rattle.grib_packing.specs.declared.column.Column.{Column}
use Rattle.grib_packing.specs.declared.column.Point.{Point}
use Rattle.grib_packing.specs.declared.written.Packed.{Packed}
use Rattle.grib_packing.specs.Below.{IsNoFewer}
use Rattle.grib_packing.specs.Misfits.{ToCoded, is_missing}
use Rattle.grib_packing.specs.Packed.{HasContents, IsBitmap, IsCoded, blocks_written, coding_to, present_bits, simple_numbers}
use Rattle.grib_ccsds.specs.Fewer.{AreBelow}
use Rattle.grib_packing.proofs.Fields.{length-padded8}

contents_long : (number : ℕ) (s : List ℕ) (contents : List Bool) → HasContents number s contents → length s ≡ 5 + (length contents + 7) / 8
contents_long number s contents h =
    omega (arith, length-bits (drop 5 s), ap length h.contents_stand, length-padded8 contents, length-drop 5 s, h.itself.least)

bitmap_long : (points : List Point) (s : List ℕ) → IsBitmap s points → length s ≡ cond (list_any is_missing points) (6 + (length points + 7) / 8) 6
bitmap_long points s h = go (list_any is_missing points) h where
  go : (b : Bool) → HasContents 6 s (cond b (bits_of 8 0 ++ present_bits points) (bits_of 8 255)) → length s ≡ cond b (6 + (length points + 7) / 8) 6
  go true own =
      omega (
        arith,
        contents_long 6 s (bits_of 8 0 ++ present_bits points) own,
        length-append (bits_of 8 0) (present_bits points),
        length-bits_of 8 0,
        length-map points (λ point. not (is_missing point)),
      )
  go false none = omega (arith, contents_long 6 s (bits_of 8 255) none, length-bits_of 8 255)

-- the octets of a Section 6
pub bitmap_octets : (points others : List Point) (missing : Bool) (octets : ℕ) → points ≡ others → missing ≡ list_any is_missing points
    → octets ≡ cond missing (6 + (length points + 7) / 8) 6 → octets ≡ cond (list_any is_missing others) (6 + (length others + 7) / 8) 6
bitmap_octets points others missing octets same is_missing_too is =
    is ∙ ap (λ (b : Bool). cond b (6 + (length points + 7) / 8) 6) is_missing_too
    ∙ ap (λ (ps : List Point). cond (list_any is_missing ps) (6 + (length ps + 7) / 8) 6) same

-- what has these octets is below no bound that they reach
pub no_fewer : (block interval : ℕ) (column : Column) (kind octets octets6 octets7 : ℕ) (below : Option ℕ)
    → octets6 ≡ cond (list_any is_missing column.points) (6 + (length column.points + 7) / 8) 6
    → octets7 ≡ 5 + (length (blocks_written (coding_to block interval column.points) (simple_numbers column.points)) + 7) / 8
    → octets ≡ 25 + octets6 + octets7 → IsSomeAnd below (λ most. most ≤ octets) → IsNoFewer (ToCoded block interval) column kind below
no_fewer block interval column kind octets octets6 octets7 None six seven all reached = reached
no_fewer block interval column kind octets octets6 octets7 (Some most) six seven all reached = λ s5 s6 s7 h.
    omega (
      arith,
      reached,
      all,
      six,
      seven,
      h.as_long,
      bitmap_long column.points s6 h.bitmap,
      contents_long 7 s7 (blocks_written (coding_to block interval column.points) (simple_numbers column.points)) h.values,
    )

-- and what does not is
pub fewer : (block interval : ℕ) (column : Column) (kind octets octets6 octets7 : ℕ) (below : Option ℕ) (packed : Packed)
    → octets6 ≡ cond (list_any is_missing column.points) (6 + (length column.points + 7) / 8) 6
    → octets7 ≡ 5 + (length (blocks_written (coding_to block interval column.points) (simple_numbers column.points)) + 7) / 8
    → octets ≡ 25 + octets6 + octets7 → IsCoded block interval column kind packed.section5 packed.section6 packed.section7
    → IfSome below (λ most. octets < most) → AreBelow below packed
fewer block interval column kind octets octets6 octets7 None packed six seven all h less = tt
fewer block interval column kind octets octets6 octets7 (Some most) packed six seven all h less =
    omega (
      arith,
      less,
      all,
      six,
      seven,
      h.as_long,
      bitmap_long column.points packed.section6 h.bitmap,
      contents_long 7 packed.section7 (blocks_written (coding_to block interval column.points) (simple_numbers column.points)) h.values,
    )
