use Rattle.std.proofs.Common.{ℕ, ◌+◌, ◌<◌, ◌^◌, sym, subst}
use Rattle.grib_coding.specs.Reading.{coded_of}
use Rattle.grib_coding.specs.Written.{highs, lows}
use Rattle.grib_block_writing.proofs.Adding.{both}
use Rattle.grib_block_writing.proofs.Heads.{first_room, second_room, both_are, split_parts, low_bits_few}
use Rattle.grib_block_writing.proofs.writing.write_split_block.Goals as goal
use Rattle.std.proofs.Common.{◌≡◌, ◌++◌, List, Bool, refl}
use Rattle.grib_bits.specs.Bits.{bits_of}
use Rattle.grib_coding.specs.Items.{sequence, all_bits, Split}
use Rattle.grib_coding.specs.declared.coding.Coding.{Coding}
use Rattle.std.proofs.Common.{Option}
use Rattle.grib_coding.specs.Written.{coded_bits}
use Rattle.grib_block_writing.specs.Steps.{head_bits}
use Rattle.grib_coding.specs.Coding.{identifier_width}

parts : (c : Coding) (k width : ℕ) (reference : Option ℕ) (kept : List ℕ) → width ≡ identifier_width c
    → coded_bits c (coded_of reference (Split k (highs k kept) (lows k kept)))
    ≡ (head_bits c (k + 1) width reference ++ all_bits sequence (highs k kept)) ++ all_bits (bits_of k) (lows k kept)
parts c k width reference kept is = split_parts c reference k (highs k kept) (lows k kept) width is

pub write_head-requires-clause-fits : goal.write_head-requires-clause-fits
write_head-requires-clause-fits c =
    let P : ℕ → Type 0 = λ (n : ℕ). c.args.k + 1 < 2 ^ n in
    subst P (sym c.identifier_width.ensures.is) (low_bits_few c.args.coding.now _ c.requires.k).1

pub write_head-requires-clause-room : goal.write_head-requires-clause-room
write_head-requires-clause-room c =
    first_room _ _ _ _ refl (first_room _ _ _ _ (parts c.args.coding.now c.args.k _ c.args.reference c.args.kept.now c.identifier_width.ensures.is) c.requires.room)

pub write_high-requires-clause-k : goal.write_high-requires-clause-k
write_high-requires-clause-k c = (low_bits_few c.args.coding.now _ c.requires.k).0

pub write_high-requires-clause-room : goal.write_high-requires-clause-room
write_high-requires-clause-room c =
    second_room _ _ _ _ _ refl
    (first_room _ _ _ _ (parts c.args.coding.now c.args.k _ c.args.reference c.args.kept.now c.identifier_width.ensures.is) c.requires.room)
    c.write_head.ensures

pub write_low-requires-clause-k : goal.write_low-requires-clause-k
write_low-requires-clause-k c = (low_bits_few c.args.coding.now _ c.requires.k).0

pub write_low-requires-clause-room : goal.write_low-requires-clause-room
write_low-requires-clause-room c =
    second_room _ _ _ _ _ (parts c.args.coding.now c.args.k _ c.args.reference c.args.kept.now c.identifier_width.ensures.is) c.requires.room
    (both _ _ _ _ _ c.write_head.ensures c.write_high.ensures)

pub returns : goal.returns
returns c =
    both_are _ _ _ _ _ _ (parts c.args.coding.now c.args.k _ c.args.reference c.args.kept.now c.identifier_width.ensures.is)
    (both _ _ _ _ _ c.write_head.ensures c.write_high.ensures) c.write_low.ensures
