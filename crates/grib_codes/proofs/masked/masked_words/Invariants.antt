use Rattle.std.proofs.Common.{◌≡◌, ◌+◌, ◌-◌, ◌≤◌, List, length, map, drop}
use Rattle.grib_bitmap.specs.Mask.{present_count}
use Rattle.grib_packing.specs.declared.column.Point.{Point}
use Rattle.grib_codes.specs.KeptWords.{word_for}
use Rattle.grib_codes.proofs.Placed.{PlacedWords}
use Rattle.grib_codes.proofs.masked.masked_words.Given as goal

abbrev pub invariant-loop-place : goal.invariant-loop-place
invariant-loop-place l = record {
  within : l.place ≤ length l.mask;
  taken : l.taken + present_count (drop l.place l.mask) ≡ length l.words;
  placed : (entries : List Point) → l.words ≡ map word_for entries → PlacedWords l.mask entries l.place l.taken l.all.items;
}

abbrev pub decreases-loop-place : goal.decreases-loop-place
decreases-loop-place l = length l.mask - l.place
