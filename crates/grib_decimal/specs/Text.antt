-- How a decimal is printed.
use Rattle.std.specs.Prelude.{ℕ, ◌+◌, ◌-◌, Bool, cond, ◌&&◌, ◌==◌, nat_lt, List, [], ◌∷◌, ◌++◌, length, take, drop, replicate}
use Rattle.std.specs.Fmt.{decimal}

-- digits, with zeros (48) before them where there are fewer
abbrev pub filled : ℕ → List ℕ → List ℕ
filled width digits = replicate (width - length digits) 48 ++ digits

-- digits with a point (46) before the last `places` of them
abbrev pub with_point : ℕ → List ℕ → List ℕ
with_point places digits =
    let whole = length digits - places in
    cond (places == 0) digits (take whole digits ++ 46 ∷ drop whole digits)

-- number / 10 ^ places, after a minus (45) where it is to be negative; zero has none
abbrev pub decimal_text : Bool → ℕ → ℕ → List ℕ
decimal_text negative number places =
    cond (negative && nat_lt 0 number) (45 ∷ []) [] ++ with_point places (filled (places + 1) (decimal number))
