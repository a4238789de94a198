-- Rounding, once, half to even.
use Rattle.std.specs.Prelude.{ℕ, ◌+◌, ◌*◌, ◌/◌, ◌%◌, cond, nat_lt}

-- the whole number nearest to numerator / denominator, the even one of two that are equally near
abbrev pub nearest : ℕ → ℕ → ℕ
nearest numerator denominator =
    let whole = numerator / denominator in
    let twice = 2 * (numerator % denominator) in
    cond (nat_lt twice denominator) whole (cond (nat_lt denominator twice) (whole + 1) (whole + whole % 2))
