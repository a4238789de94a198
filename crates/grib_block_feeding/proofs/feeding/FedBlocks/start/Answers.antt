use Rattle.grib_block_feeding.specs.Feeding.{left_at}
use Rattle.grib_block_feeding.proofs.Pieces.{agree, going_start, going_same}
use Rattle.grib_block_feeding.proofs.feeding.FedBlocks.start.Goals as goal

pub returns : goal.returns
returns g c =
    let reading = c.start.result in
    agree g.K.Keeper.kept c.args.coding.now c.args.count _ c.args.keeper (record { reading = reading; kept = record { keeper = c.args.keeper; last = 0 } }) c.requires.fits c.requires.few c.start.ensures.coding c.start.ensures.count c.start.ensures.reading
    (going_same g.K.Keeper.kept c.args.coding.now reading.coding c.args.count reading.count 0 reading.block _ c.args.keeper 0 (left_at reading) 0 c.args.keeper c.start.ensures.coding c.start.ensures.count c.start.ensures.block
    (going_start g.K.Keeper.kept g.met.K.Keeper.none c.args.coding.now c.args.count c.args.keeper (left_at reading) c.start.ensures.reads))
