use Rattle.std.proofs.Common.{◌*◌, ◌^◌, ap, ◌∙◌}
use Rattle.grib_long.specs.Digits.{big, little}
use Rattle.grib_long.proofs.Digits.{big_reverse, little_reverse}
use Rattle.grib_long.proofs.long.Long.times_tens.Goals as goal

pub returns-clause-value : goal.returns-clause-value
returns-clause-value c =
    ap big c.reverse-2.ensures.items
    ∙ big_reverse c.in_ok-digits.digits.items
    ∙ c.in_ok-digits.ensures.value
    ∙ ap (λ k. little k * 10 ^ c.args.tens) c.reverse.ensures.items
    ∙ ap (λ k. k * 10 ^ c.args.tens) (little_reverse c.args.self.digits.items)
