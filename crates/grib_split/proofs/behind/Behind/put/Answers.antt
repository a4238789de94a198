use Rattle.std.proofs.Common.{ℕ, ◌+◌, ◌%◌, arith}
use Rattle.grib_split.proofs.behind.Behind.put.Goals as goal

-- another place
abbrev other : ℕ → ℕ
other place = (place + 1) % 64

pub overflow_cast-above : goal.overflow_cast-above
overflow_cast-above c =
    let q = c.requires in
    let p = other c.args.place in
    record { fits = omega (arith, q.near p (omega arith) (λ e. omega (arith, e, q.place)), q.low p (omega arith)) }

pub returns-then-above-gt-HIGH-clause-low : goal.returns-then-above-gt-HIGH-clause-low
returns-then-above-gt-HIGH-clause-low c p within = omega (arith, c.lower.ensures.low p within)
