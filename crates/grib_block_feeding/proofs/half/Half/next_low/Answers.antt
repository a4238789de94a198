use Rattle.std.proofs.Common.{get_or, arith}
use Rattle.grib_block_feeding.proofs.Lists.{code_is}
use Rattle.grib_block_feeding.proofs.Halves.{low_on, low_whole}
use Rattle.grib_block_feeding.proofs.half.Half.next_low.Goals as goal

pub returns-then-self-count-clause-gone : goal.returns-then-self-count-clause-gone
returns-then-self-count-clause-gone c =
    let half = c.args.self.now in
    let stands = c.requires.stands in
    low_on c.args.coding half c.args.k c.args.number c.saturating_add.result c.requires.part stands.1.0 (omega (arith, c.count.ensures.is)) (omega (arith, c.count.ensures)) stands.2 stands.3
    (code_is c.saturating_add.result c.saturating_mul.result (get_or half.numbers half.place 0) c.args.k c.args.number stands.2 c.saturating_mul.ensures c.saturating_add.ensures)

pub returns-clause-gone : goal.returns-clause-gone
returns-clause-gone c =
    let half = c.args.self.now in
    let stands = c.requires.stands in
    low_whole c.args.coding half c.args.k c.args.number c.saturating_add.result half.part half.pending stands.1.0 (omega (arith, c.count.ensures.is, stands.1.1)) (omega (arith, c.count.ensures))
    (code_is c.saturating_add.result c.saturating_mul.result (get_or half.numbers half.place 0) c.args.k c.args.number stands.2 c.saturating_mul.ensures c.saturating_add.ensures)
