use Rattle.std.proofs.Common.{◌≡◌, ℕ, ◌+◌, ◌-◌, ◌*◌, ap, ap₂, ◌∙◌, arith, drop}
use Rattle.grib_bits.specs.Bits.{bits}
use Rattle.grib_bits.proofs.OctetBits.{length-bits}
use Rattle.grib_group_reading.proofs.Moves.{went_run}
use Rattle.grib_group_reading.proofs.numbers.Numbers.take_some.Goals as goal

pub returns-clause-goes : goal.returns-clause-goes
returns-clause-goes g c = λ groups.
    let group = c.args.self.now.current in
    let count = c.count_within-count.result in
    let place : c.args.at.now + c.from.result * c.from-2.result ≡ c.args.at.now + count * group.width =
    ap₂ (λ (m n : ℕ). c.args.at.now + m * n) c.from.ensures (c.from-2.ensures ∙ c.from-width.ensures) in
    let product : count * c.from-width.result ≡ count * group.width = ap (λ (n : ℕ). count * n) c.from-width.ensures in
    went_run g.T.Taker.took c.args.layout.now group (drop c.args.self.now.next groups) (bits c.args.piece.now) c.args.at.now count (group.count - count) _ c.args.taker c.take_numbers-taker.result
    (omega arith) (omega (arith, product, c.count_within-count.ensures.within, length-bits c.args.piece.now)) place c.take_numbers-taker.ensures

pub take_numbers-taker-requires-clause-room : goal.take_numbers-taker-requires-clause-room
take_numbers-taker-requires-clause-room g c = g.met.T.Taker.fewer c.args.taker c.count_within-count.result c.args.self.now.current.count c.count_within-count.ensures.count c.requires.room
