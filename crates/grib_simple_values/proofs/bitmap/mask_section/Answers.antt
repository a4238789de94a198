use Rattle.std.proofs.Common.{◌≡◌, ℕ, ◌++◌, List, sym, ◌∙◌}
use Rattle.std.proofs.lemmas.Result.{IfOk-weaker}
use Rattle.grib_bits.specs.Bits.{bits_of}
use Rattle.grib_packing.specs.declared.column.Point.{Point}
use Rattle.grib_packing.specs.Packed.{HasContents, IsBitmap, present_bits}
use Rattle.grib_simple_values.proofs.InPlace.{full_bitmap, part_bitmap}
use Rattle.grib_simple_values.proofs.bitmap.mask_section.Goals as goal

pub returns-in_ok-room_for : goal.returns-in_ok-room_for
returns-in_ok-room_for c points is =
    full_bitmap c.no_bitmap.result c.args.mask.now points (c.requires.present ∙ c.if-present-len.true ∙ c.len.ensures) c.no_bitmap.ensures.has is

pub returns-else-present-len : goal.returns-else-present-len
returns-else-present-len c =
    let mask = c.args.mask.now in
    IfOk-weaker c.own_mask.result
    (λ (section : List ℕ). HasContents 6 section (bits_of 8 0 ++ mask))
    (λ (section : List ℕ). (points : List Point) → present_bits points ≡ mask → IsBitmap section points)
    (λ section has points is. part_bitmap section mask points
    (λ full. c.if-present-len.false (sym c.requires.present ∙ full ∙ sym c.len.ensures)) has is)
    c.own_mask.ensures
