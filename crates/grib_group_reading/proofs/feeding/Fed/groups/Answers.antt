use Rattle.grib_group_reading.specs.declared.feeding.Fed.{Fed}
use Rattle.grib_group_reading.proofs.Pieces.{fed_groups}
use Rattle.grib_group_reading.proofs.feeding.Fed.groups.Goals as goal

pub returns-clause-fed : goal.returns-clause-fed
returns-clause-fed g c =
    let fed : Fed g.row.T.Denot = record { layout = c.args.layout; table = c.args.table; numbers = c.start.result; taker = c.args.taker } in
    fed_groups g.T.Taker.took g.met.T.Taker.none g.met.T.Taker.more fed c.start.ensures.current c.start.ensures.next c.start.ensures.pending
