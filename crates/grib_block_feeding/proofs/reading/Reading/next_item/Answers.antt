use Rattle.std.proofs.Common.{◌-◌, ◌%◌, ◌++◌, take, drop, refl, sym, ◌∙◌, arith}
use Rattle.grib_bits.specs.Bits.{bits}
use Rattle.grib_block_feeding.specs.Feeding.{left_at, left_by}
use Rattle.grib_block_feeding.proofs.Pieces.{going_same}
use Rattle.grib_block_feeding.proofs.Ahead.{ahead, whole_same, reads_same, going_fresh, going_ahead, going_after, at_item, less_same}
use Rattle.grib_block_feeding.proofs.reading.Reading.next_item.Goals as goal

pub returns-in_default-clause-going : goal.returns-in_default-clause-going
returns-in_default-clause-going g c = λ octets first so.
    let self = c.args.self.now in
    let read = c.read_whole.new.self in
    let new = c.begin.new.self in
    let kept = c.args.kept in
    let place = c.args.place in
    let after = (8 - place % 8) % 8 in
    let start = bits octets ++ take place (bits c.args.piece.now) in
    let coding = c.begin.ensures.coding ∙ c.read_whole.ensures.coding in
    let count = c.begin.ensures.count ∙ c.read_whole.ensures.count in
    let block = c.begin.ensures.block ∙ c.read_whole.ensures.block in
    let fresh = c.requires.fresh (omega arith) (c.if-not-is_at_item.ensures refl) in
    going_same g.K.Keeper.kept self.coding new.coding self.count new.count self.block new.block start first after (left_at new) kept.last kept.keeper coding count block
    (going_fresh g.K.Keeper.kept self.coding self.count self.block start first after (left_at self) (left_at new) kept.last kept.keeper fresh.reads
    (reads_same new.coding self.coding new.count self.count new.block self.block c.bits_to_octet.result after (left_at new) (sym coding) (sym count) (sym block) (sym c.bits_to_octet.ensures.is) c.begin.ensures.fresh.reads) so)

pub take-kept-requires-clause-item : goal.take-kept-requires-clause-item
take-kept-requires-clause-item g c =
    let self = c.args.self.now in
    let read = c.read_whole.new.self in
    let xs = bits c.args.piece.now in
    let whole = c.in-Some.whole in
    let a = ahead read.coding read.block (drop c.args.place xs) (drop whole.place xs) whole.kind read.half
    (whole_same self.coding read.coding self.block read.block (drop c.args.place xs) (drop whole.place xs) whole.kind read.half c.read_whole.ensures.coding c.read_whole.ensures.block c.in-Some.ensures.whole.0) in
    (a.front, a.whole)

pub returns-clause-going : goal.returns-clause-going
returns-clause-going g c = λ octets first so.
    let self = c.args.self.now in
    let read = c.read_whole.new.self in
    let new = c.take-kept.new.self in
    let kept = c.args.kept in
    let then_kept = c.take-kept.result in
    let place = c.args.place in
    let piece = c.args.piece.now in
    let xs = bits piece in
    let whole = c.in-Some.whole in
    let after = (8 - place % 8) % 8 in
    let next_after = (8 - whole.place % 8) % 8 in
    let coding = c.read_whole.ensures.coding in
    let count = c.read_whole.ensures.count in
    let block = c.read_whole.ensures.block in
    let items = c.if-not-is_at_item.ensures refl in
    let fresh = c.requires.fresh (omega arith) items in
    let less = less_same self.coding read.coding self.count read.count self.block read.block coding count block (at_item self c.requires.reading items).some in
    let a = ahead read.coding read.block (drop place xs) (drop whole.place xs) whole.kind read.half
    (whole_same self.coding read.coding self.block read.block (drop place xs) (drop whole.place xs) whole.kind read.half coding block c.in-Some.ensures.whole.0) in
    let reads = reads_same self.coding read.coding self.count read.count self.block read.block after after (left_at self) coding count block refl fresh.reads in
    let here = going_same g.K.Keeper.kept self.coding read.coding self.count read.count self.block read.block (bits octets ++ take place xs) first after (left_at self) kept.last kept.keeper coding count block so in
    let start = bits octets ++ take whole.place xs in
    let left = left_by read.coding read.count read.block a.front in
    going_after g.K.Keeper.kept new.coding new.count new.block start first c.bits_to_octet-2.result next_after (left_at new) then_kept.last then_kept.keeper (sym c.bits_to_octet-2.ensures.is)
    (c.take-kept.ensures.going a.front start first a.whole
    (going_after g.K.Keeper.kept read.coding read.count read.block start first next_after c.bits_to_octet-2.result left kept.last kept.keeper c.bits_to_octet-2.ensures.is
    (going_ahead g.K.Keeper.kept read.coding read.count read.block octets piece place whole.place first (left_at self) kept.last kept.keeper whole.kind read.half a less c.in-Some.ensures.whole.1 c.in-Some.ensures.whole.2 reads here)))
