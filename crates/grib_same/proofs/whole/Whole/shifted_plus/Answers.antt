use Rattle.std.proofs.Common.{◌≡◌, ◌*◌, ◌%◌, ◌^◌, pos, ◌+ℤ◌, ◌*ℤ◌, to_z-of_z, ap, ◌∙◌, arith}
use Rattle.std.proofs.lemmas.Nat.{one_shl}
use Rattle.std.proofs.lemmas.Result.{IfOk-weaker}
use Rattle.grib_same.specs.Wholes.{value}
use Rattle.grib_same.proofs.Wholes.{shift_is}
use Rattle.grib_same.proofs.whole.Whole.shifted_plus.Goals as goal

pub returns : goal.returns
returns c =
    let part : 1 * 2 ^ (c.args.twos % 32) % 2 ^ 32 ≡ 2 ^ (c.args.twos % 32) = one_shl (c.args.twos % 32) 32 (omega arith) in
    let ensures = rw (part, to_z-of_z c.ranges.number) at c.times_plus.ensures in
    let shifted = ap (λ n. n *ℤ pos (2 ^ (c.args.twos % 32))) c.in_ok-higher.ensures ∙ shift_is (value c.args.self) c.args.twos in
    IfOk-weaker c.times_plus.result _ _ (λ whole is. is ∙ ap (λ n. n +ℤ c.args.number) shifted) ensures
