use Rattle.std.proofs.Common.{ℕ, ◌-◌, ◌/◌, ap, arith}
use Rattle.grib_simple_reading.proofs.Unpacking.{eights_within}
use Rattle.grib_simple_reading.proofs.numbers.count_in_words.Goals as goal

pub returns-clause-within : goal.returns-clause-within
returns-clause-within c = λ k below.
    let same = ap (λ (n : ℕ). (c.args.length - 8) / n) c.from.ensures in
    (omega arith, eights_within c.args.length c.args.bits k (omega arith) (omega arith) (omega (arith, c.min.ensures, c.saturating_mul.ensures)))
