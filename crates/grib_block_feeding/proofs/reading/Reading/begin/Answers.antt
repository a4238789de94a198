use Rattle.std.proofs.Common.{arith}
use Rattle.grib_block_feeding.proofs.Pieces.{begun}
use Rattle.grib_block_feeding.proofs.reading.Reading.begin.Goals as goal

pub returns-clause-reads : goal.returns-clause-reads
returns-clause-reads c = λ most bits long enough.
    let self = c.args.self.now in
    begun self.coding self.count self.block most c.padding_before-padding.result c.is_referred-with_reference.result c.begin.new.self bits c.requires.fits enough (omega arith) c.is_referred-with_reference.ensures
    (c.padding_before-padding.ensures.padded bits long) (c.begin.ensures.reads bits (c.padding_before-padding.ensures.enough bits long))

pub returns-clause-fresh : goal.returns-clause-fresh
returns-clause-fresh c = record {
  reads = λ most bits long enough.
      let self = c.args.self.now in
      begun self.coding self.count self.block most c.padding_before-padding.result c.is_referred-with_reference.result c.begin.new.self bits c.requires.fits enough (omega arith) c.is_referred-with_reference.ensures
      (c.padding_before-padding.ensures.padded bits long) (c.begin.ensures.reads bits (c.padding_before-padding.ensures.enough bits long));
}
