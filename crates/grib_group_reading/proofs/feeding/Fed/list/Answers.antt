use Rattle.std.proofs.Common.{ℕ, List, length, ap, arith}
use Rattle.grib_packing.specs.declared.group.Group.{Group}
use Rattle.grib_packing.specs.Groups.{groups_from}
use Rattle.grib_group_reading.specs.declared.feeding.Fed.{Fed}
use Rattle.grib_group_reading.proofs.Pieces.{fed_list}
use Rattle.grib_group_reading.proofs.feeding.Fed.list.Goals as goal

pub returns-clause-fed : goal.returns-clause-fed
returns-clause-fed g c =
    let table = c.empty.result in
    let none = ap (λ (rs : List ℕ). groups_from rs table.widths.items table.lengths.items) c.empty.ensures.references in
    let fed : Fed g.row.T.Denot = record { layout = c.plain_layout.result; table = table; numbers = c.start.result; taker = c.args.taker } in
    fed_list g.T.Taker.took g.met.T.Taker.none g.met.T.Taker.more fed c.args.bits c.args.count c.plain_layout.ensures.all none c.start.ensures.current c.start.ensures.next c.start.ensures.pending

pub returns-clause-list : goal.returns-clause-list
returns-clause-list g c = record { all = omega (arith, ap length c.empty.ensures.lengths, c.empty.result.lengths.ok.0); current = ap (λ (group : Group). group.width) c.start.ensures.current }

pub returns-clause-table : goal.returns-clause-table
returns-clause-table g c =
    let table = c.empty.result in
    ap (λ (rs : List ℕ). groups_from rs table.widths.items table.lengths.items) c.empty.ensures.references
