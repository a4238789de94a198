use Rattle.std.proofs.Common.{◌^◌, ◌≤◌, arith, pow_mono}
use Rattle.std.proofs.lemmas.Nat.{one_shl}
use Rattle.grib_groups.proofs.encoding.packed.Goals as goal

pub overflow_sub-result-in-Secondary : goal.overflow_sub-result-in-Secondary
overflow_sub-result-in-Secondary c =
    let power : 2 ^ 1 ≤ 2 ^ c.args.width = pow_mono c.requires.some in
    omega (arith, power, one_shl c.args.width 64 (omega arith))
