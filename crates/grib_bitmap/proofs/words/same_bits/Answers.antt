use Rattle.std.proofs.Common.{◌-◌, ◌*◌, ◌%◌, ◌^◌, ℕ, min, ap, ◌∙◌}
use lib.Count.{count_leading_zeros}
use Rattle.grib_bitmap.proofs.WordBits.{zeros_in_word, one_after, ones_in_word, zero_after}
use Rattle.grib_bitmap.proofs.words.same_bits.Goals as goal
use Rattle.grib_bitmap.proofs.words.same_bits.Goals.{then-bit, else-bit}

pub returns-clause-same : goal.returns-clause-same
returns-clause-same c =
    let skip = c.args.skip in
    elim c.if-bit.branch [
      | then-bit w ↦ rw w.if-bit.true (ones_in_word c.args.word c.if-bit.other skip c.min.result c.requires c.ranges.word.fits w.other-is c.min.ensures)
      | else-bit w ↦ rw w.if-bit.false (zeros_in_word c.args.word skip c.min.result c.requires c.ranges.word.fits
          (c.min.ensures ∙ ap (λ (n : ℕ). min (count_leading_zeros 64 (n * 2 ^ skip % 2 ^ 64)) (64 - skip)) w.other-is))
    ]

pub returns-clause-longest : goal.returns-clause-longest
returns-clause-longest c =
    let skip = c.args.skip in
    elim c.if-bit.branch [
      | then-bit w ↦ rw w.if-bit.true (zero_after c.args.word c.if-bit.other skip c.min.result c.requires c.ranges.word.fits w.other-is c.min.ensures)
      | else-bit w ↦ rw w.if-bit.false (one_after c.args.word skip c.min.result c.requires c.ranges.word.fits
          (c.min.ensures ∙ ap (λ (n : ℕ). min (count_leading_zeros 64 (n * 2 ^ skip % 2 ^ 64)) (64 - skip)) w.other-is))
    ]
