use Rattle.std.proofs.Common.{◌-◌, ◌^◌, pos, ◌+ℤ◌, ◌*ℤ◌, to_z-of_z, ap, ◌∙◌}
use Rattle.grib_same.proofs.Wholes.{sum_shifted}
use Rattle.grib_same.proofs.slow.ordered_sum.Goals as goal

pub returns : goal.returns
returns c =
    let h = c.args.high_twos in
    let l = c.args.low_twos in
    let first = rw (to_z-of_z c.ranges.high) at c.of-first.ensures in
    let sum = rw (to_z-of_z c.ranges.low) at c.in_ok-sum.ensures in
    c.in_ok-whole.ensures ∙ ap (λ n. (n *ℤ pos (2 ^ l)) +ℤ pos 0) (sum ∙ ap (λ n. (n *ℤ pos (2 ^ (h - l))) +ℤ c.args.low) first) ∙ sum_shifted c.args.high c.args.low h l c.requires
