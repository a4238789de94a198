-- The words of codes of points as these come: it is not known yet how many codes are reserved.
use Rattle.std.specs.Prelude.{◌≡◌, ℕ, ◌+◌, ◌-◌, ◌^◌, ◌≤◌, Bool, cond, nat_abs, nat_lt, int_lt, pos, None, All, List, [], ◌++◌, length, map, vec_len, vec_capacity}
use Rattle.std.specs.List.{list_any}
use Rattle.std.proofs.Common.{sym, arith, append_assoc}
use Rattle.std.proofs.lemmas.List.{append-nil, length-append}
use Rattle.grib_packing.specs.declared.column.Point.{Point}
use Rattle.grib_packing.specs.declared.column.Point.TheVariants.{Scaled, Missing, Missing2}
use Rattle.grib_packing.specs.Misfits.{ToComplex, first_misfit, greatest_code, is_scaled_outside, management_of}
use Rattle.grib_packing.specs.Packed.{target_codes}
use Rattle.grib_codes.specs.Span.{IsTold}
use Rattle.grib_base.specs.declared.code.Code.{Code}
use Rattle.grib_codes.specs.declared.point_words.PointWords.{PointWords}

-- how great the number of a point is, more than 32 bits where it is negative
abbrev pub reach_of : Point → ℕ
reach_of (Scaled x) = cond (int_lt x (pos 0)) (2 ^ 64 - 1) (nat_abs x)
reach_of Missing = 0
reach_of Missing2 = 0

-- the word of a point, and 0 for a number that has none
abbrev pub word_for : Point → ℕ
word_for (Scaled x) = cond (nat_lt (2 ^ 32 - 1) (reach_of (Scaled x))) 0 (nat_abs x)
word_for Missing = 2 ^ 32 - 1
word_for Missing2 = 2 ^ 32 - 2

-- whether a number has no code
abbrev pub has_outside : List Point → Bool
has_outside points = list_any (is_scaled_outside (greatest_code (management_of points))) points

-- these codes, of which k are reserved, tell points that all have one
pub record TellPoints (points : List Point) (k : ℕ) (codes : List Code) : Type 0 where
  pub few : k ≤ 2
  pub each : All (IsTold k) codes
  pub none : first_misfit ToComplex points ≡ None
  pub management : k ≡ management_of points
  pub codes_are : codes ≡ target_codes ToComplex points

-- this is told of these points
pub record AreWords (points : List Point) (kept : PointWords) : Type 0 where
  pub words : kept.words.items ≡ map word_for points
  pub management : kept.management ≡ management_of points
  pub outside : (k : ℕ) → k ≤ 2 → nat_lt (greatest_code k) kept.greatest ≡ list_any (is_scaled_outside (greatest_code k)) points

-- these points came, for which there was memory
pub record WordsKept (before : PointWords) (added : List Point) (after : PointWords) : Type 0 where
  pub keeps : (seen : List Point) → vec_len before.words + length added ≤ vec_capacity before.words → AreWords seen before → AreWords (seen ++ added) after
  pub grows : vec_len before.words + length added ≤ vec_capacity before.words → vec_len after.words ≡ vec_len before.words + length added
  pub capacity : vec_capacity before.words ≤ vec_capacity after.words

pub words-none : (keeper : PointWords) → WordsKept keeper [] keeper
words-none keeper = record {
  keeps = λ seen room are. rw (append-nil seen) are;
  grows = λ room. omega arith;
  capacity = omega arith;
}

pub words-more : (before between after : PointWords) (points more : List Point) → WordsKept before points between → WordsKept between more after → WordsKept before (points ++ more) after
words-more before between after points more first second =
    let both = length-append points more in
    record {
      keeps = λ seen room are.
          let one = first.keeps seen (omega (arith, both)) are in
          let grown = first.grows (omega (arith, both)) in
          let two = second.keeps (seen ++ points) (omega (arith, both, grown, first.capacity)) one in
          rw (sym (append_assoc seen points more)) two;
      grows = λ room.
          let grown = first.grows (omega (arith, both)) in
          omega (arith, both, grown, second.grows (omega (arith, both, grown, first.capacity)));
      capacity = omega (arith, first.capacity, second.capacity);
    }
