use Rattle.std.proofs.Common.{ℕ, List, Bool, ap}
use Rattle.grib_coding.specs.Reading.{coded_of}
use Rattle.grib_coding.specs.Written.{coded_bits, chosen_item}
use Rattle.grib_block_writing.proofs.Adding.{same_bits}
use Rattle.grib_block_writing.proofs.Options.{room_as}
use Rattle.grib_block_writing.proofs.writer.write_block_at.Goals as goal

pub write_block-requires-clause-room : goal.write_block-requires-clause-room
write_block-requires-clause-room c =
    let F : List ℕ → List Bool = λ (codes : List ℕ). coded_bits c.args.coding.now (coded_of c.args.reference (chosen_item c.args.coding.now c.args.reference codes)) in
    room_as _ _ _ (ap F c.fill_codes.ensures.is) c.requires.room

pub returns : goal.returns
returns c =
    let F : List ℕ → List Bool = λ (codes : List ℕ). coded_bits c.args.coding.now (coded_of c.args.reference (chosen_item c.args.coding.now c.args.reference codes)) in
    same_bits _ _ _ _ (ap F c.fill_codes.ensures.is) c.write_block.ensures
