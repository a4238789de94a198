use Rattle.std.proofs.Common.{◌≡◌, ℕ, ◌+◌, ◌-◌, ◌++◌, length, take, drop, min, ap₂, ◌∙◌, arith}
use Rattle.grib_group_reading.specs.Feeding.{part}
use Rattle.grib_group_reading.proofs.Pieces.{part-append}
use Rattle.grib_group_reading.proofs.feeding.part_of.Goals as goal

pub returns-clause-part : goal.returns-clause-part
returns-clause-part c = λ octets is_before.
    let ys = c.args.piece.now in
    let first : min (c.args.from - length octets) (length ys) ≡ c.min-first.result = omega (arith, c.min-first.ensures, c.saturating_sub.ensures) in
    let last : min (c.args.from + c.args.size - length octets) (length ys) ≡ c.min-last.result = omega (arith, c.min-last.ensures, c.saturating_sub-2.ensures) in
    part-append c.args.from c.args.size octets ys
    ∙ ap₂ (λ (j k : ℕ). part c.args.from c.args.size octets ++ take (k - j) (drop j ys)) first last
