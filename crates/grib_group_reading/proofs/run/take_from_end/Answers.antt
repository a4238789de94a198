use Rattle.std.proofs.Common.{ℕ, ◌+◌, ◌-◌, ◌<◌, ◌∷◌, [], drop, sym, subst, arith}
use Rattle.grib_bits.specs.Bits.{bits}
use Rattle.grib_group_reading.specs.Taking.{number_of, code_by}
use Rattle.grib_group_reading.proofs.Coded.{number_of-code_by}
use Rattle.grib_bits.proofs.WordNumbers.{number-lt}
use Rattle.grib_group_reading.proofs.Runs.{pow_at_most, took_more, next_place}
use Rattle.grib_group_reading.proofs.run.take_from_end.Goals as goal

pub code-requires : goal.code-requires
code-requires g c =
    let bits = drop c.loop-index.place (bits c.args.octets.now) in
    omega (arith, number-lt c.args.width bits, c.get_bits-number.ensures, pow_at_most c.args.width c.requires.width)

pub take-taker-requires-clause-below : goal.take-taker-requires-clause-below
take-taker-requires-clause-below g c =
    let number = c.get_bits-number.result in
    let small : c.args.coding.reference + number < g.T.Taker.limit =
    omega (arith, number-lt c.args.width (drop c.loop-index.place (bits c.args.octets.now)), c.get_bits-number.ensures, c.requires.limit) in
    subst (λ code. number_of code < g.T.Taker.limit) (sym c.code.ensures) (number_of-code_by c.args.coding number g.T.Taker.limit small)

pub loop-index-preserved : goal.loop-index-preserved
loop-index-preserved g c = record {
  took = took_more g.T.Taker.took g.met.T.Taker.more (code_by c.args.coding) (bits c.args.octets.now) c.args.at c.args.width c.loop-index._index c.loop-index.place c.get_bits-number.result c.code.result c.args.taker c.loop-index.taker c.take-taker.result
      c.loop-index.invariant.took c.loop-index.invariant.place c.get_bits-number.ensures c.code.ensures c.take-taker.ensures;
  room = g.met.T.Taker.room_after c.loop-index.taker c.take-taker.result (c.code.result ∷ []) (c.args.count - (c.loop-index._index + 1)) c.take-taker.ensures
      (subst (λ (n : ℕ). g.T.Taker.room c.loop-index.taker n) (omega arith) c.loop-index.invariant.room);
  place = omega (arith, c.from-place.ensures, next_place c.args.at c.loop-index.place c.args.width c.loop-index._index c.loop-index.invariant.place);
}

pub take-taker-requires-clause-room : goal.take-taker-requires-clause-room
take-taker-requires-clause-room g c = g.met.T.Taker.fewer c.loop-index.taker 1 (c.args.count - c.loop-index._index) (omega arith) c.loop-index.invariant.room
