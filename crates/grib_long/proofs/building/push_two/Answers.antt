use Rattle.std.proofs.Common.{ap, ◌∙◌, arith}
use Rattle.std.proofs.lemmas.Nat.{shr_split}
use Rattle.grib_long.specs.Digits.{big}
use Rattle.grib_long.proofs.Digits.{big_push}
use Rattle.grib_long.proofs.building.push_two.Goals as goal

pub returns-clause-value : goal.returns-clause-value
returns-clause-value c =
    let one = ap big c.in_ok-push.ensures.items ∙ big_push c.args.digits.now.items _ in
    let two = ap big c.in_ok-push-2.ensures.items ∙ big_push c.push.new.self.items _ in
    omega (arith, one, two, shr_split c.args.number 32)
