use Rattle.std.proofs.Common.{ℕ, ◌≤◌, List, Bool, Some, sym, ap, subst, arith}
use Rattle.grib_coding.specs.Coding.{greatest}
use Rattle.grib_coding.specs.Reading.{coded_of, ended_by}
use Rattle.grib_block_reading.specs.declared.numbers.Kept.{Kept}
use Rattle.grib_block_feeding.specs.Feeding.{left_at, Going}
use Rattle.grib_block_feeding.proofs.Pieces.{going_fault, going_item, going_same, some_passed, block_small, passed_by, fault_here}
use Rattle.grib_block_feeding.proofs.reading.Reading.take.Goals as goal

pub overflow_add-self : goal.overflow_add-self
overflow_add-self g c =
    let self = c.args.self.now in
    let read = c.take_read-read.result in
    let whole = c.requires.item.1 in
    let passed = passed_by g.K.Keeper.kept self.coding self.count self.block self.half c.args.kind c.count-count.result c.args.kept.last c.args.kept.keeper read.blocks read.kept.last read.kept.keeper _
    whole.item c.in-Ok.blocks c.requires.referred c.count-count.ensures.is c.take_read-read.ensures whole.kind_is c.in-Ok.is in
    let small = block_small self.coding self.count self.block c.requires.fits c.requires.few c.requires.some in
    omega (arith, passed.inside, small.1)

pub returns-in-Ok-clause-last : goal.returns-in-Ok-clause-last
returns-in-Ok-clause-last g c =
    let self = c.args.self.now in
    let read = c.take_read-read.result in
    let whole = c.requires.item.1 in
    let passed = passed_by g.K.Keeper.kept self.coding self.count self.block self.half c.args.kind c.count-count.result c.args.kept.last c.args.kept.keeper read.blocks read.kept.last read.kept.keeper _
    whole.item c.in-Ok.blocks c.requires.referred c.count-count.ensures.is c.take_read-read.ensures whole.kind_is c.in-Ok.is in
    subst (λ (n : ℕ). read.kept.last ≤ n) (ap greatest (sym c.begin.ensures.coding)) passed.kept_are.last_within

pub returns-in-Ok-clause-going : goal.returns-in-Ok-clause-going
returns-in-Ok-clause-going g c = λ front start first whole so.
    let self = c.args.self.now in
    let read = c.take_read-read.result in
    let blocks = c.in-Ok.blocks in
    let next = c.begin.new.self in
    let passed = passed_by g.K.Keeper.kept self.coding self.count self.block self.half c.args.kind c.count-count.result c.args.kept.last c.args.kept.keeper read.blocks read.kept.last read.kept.keeper _
    whole.item blocks c.requires.referred c.count-count.ensures.is c.take_read-read.ensures whole.kind_is c.in-Ok.is in
    let small = block_small self.coding self.count self.block c.requires.fits c.requires.few c.requires.some in
    let some = some_passed g.K.Keeper.kept self.coding self.count self.block (coded_of self.half.reference whole.item) c.args.kept.last c.args.kept.keeper blocks read.kept.last read.kept.keeper c.requires.fits.some_blocks passed in
    going_same g.K.Keeper.kept self.coding next.coding self.count next.count _ next.block start first c.args.after (left_at next) read.kept.last read.kept.keeper
    c.begin.ensures.coding c.begin.ensures.count c.begin.ensures.block
    (going_item g.K.Keeper.kept g.met.K.Keeper.more self.coding self.count self.block start first c.args.after front (coded_of self.half.reference whole.item) c.args.kept.last c.args.kept.keeper
    blocks read.kept.last read.kept.keeper (left_at next) some small.0 whole.found passed c.begin.ensures.reads so)

pub returns-in-Err-clause-last : goal.returns-in-Err-clause-last
returns-in-Err-clause-last g c =
    let self = c.args.self.now in
    let read = c.take_read-read.result in
    let whole = c.requires.item.1 in
    let fault = fault_here g.K.Keeper.kept self.coding self.count self.block self.half c.args.kind c.count-count.result c.args.kept.last c.args.kept.keeper read.blocks read.kept.last read.kept.keeper _
    whole.item c.in-Err.fault c.requires.referred c.count-count.ensures.is c.take_read-read.ensures whole.kind_is c.in-Err.is in
    subst (λ (kept : Kept g.row.K.Denot). kept.last ≤ greatest self.coding) (sym fault.1) c.requires.last

pub returns-in-Err-clause-going : goal.returns-in-Err-clause-going
returns-in-Err-clause-going g c = λ front start first whole so.
    let self = c.args.self.now in
    let read = c.take_read-read.result in
    let fault = fault_here g.K.Keeper.kept self.coding self.count self.block self.half c.args.kind c.count-count.result c.args.kept.last c.args.kept.keeper read.blocks read.kept.last read.kept.keeper _
    whole.item c.in-Err.fault c.requires.referred c.count-count.ensures.is c.take_read-read.ensures whole.kind_is c.in-Err.is in
    subst (λ (kept : Kept g.row.K.Denot). Going g.K.Keeper.kept self.coding self.count self.block start first c.args.after (λ (most : ℕ) (rest : List Bool). ended_by (Some c.in-Err.fault)) kept.last kept.keeper) (sym fault.1)
    (going_fault g.K.Keeper.kept self.coding self.count self.block start first c.args.after front (coded_of self.half.reference whole.item) c.in-Err.fault c.args.kept.last c.args.kept.keeper whole.found fault.0 so)
