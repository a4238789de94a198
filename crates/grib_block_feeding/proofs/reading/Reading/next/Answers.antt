use Rattle.std.proofs.Common.{Option, ◌+◌, ◌%◌, [], ◌∷◌, ◌++◌, refl, subst}
use Rattle.grib_block_reading.specs.declared.item.Kind.{Kind}
use Rattle.grib_block_feeding.specs.Feeding.{left_at, left_by, IsReadOf}
use Rattle.grib_block_feeding.proofs.Pieces.{going_bit, going_same}
use Rattle.grib_block_feeding.proofs.reading.Reading.next.Goals as goal

pub returns-clause-going : goal.returns-clause-going
returns-clause-going g c = λ start first so.
    let self = c.args.self.now in
    let read = c.read.new.self in
    let bit = c.args.bit in
    let after = c.args.after in
    let done = subst (λ (kind : Option Kind). IsReadOf self bit kind read) c.in-Some.is c.read.ensures.read_is in
    let left = left_by read.coding read.count read.block done.front in
    c.take.ensures.going done.front (start ++ bit ∷ []) first done.whole
    (going_same g.K.Keeper.kept self.coding read.coding self.count read.count self.block read.block (start ++ bit ∷ []) first after left c.args.kept.last c.args.kept.keeper
    c.read.ensures.coding_is c.read.ensures.count_is done.block_is
    (going_bit g.K.Keeper.kept self.coding self.count self.block start first bit ((after + 1) % 8) after (left_at self) left c.args.kept.last c.args.kept.keeper c.requires.after refl done.same so))
