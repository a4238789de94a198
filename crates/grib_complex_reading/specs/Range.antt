-- How far codes can move the numbers that they tell.
use Rattle.std.specs.Prelude.{ℕ, ◌+◌, ◌-◌, ◌*◌, ◌^◌, max, List, sum_by, ℤ, pos, nat_abs, ◌+ℤ◌}
use Rattle.grib_packing.specs.declared.group.Group.{Group}

-- how far a code of a group and the overall minimum move the next difference at most
abbrev pub stretch : ℤ → Group → ℕ
stretch minimum group =
    max (nat_abs (pos group.reference +ℤ minimum)) (nat_abs (pos (group.reference + (2 ^ group.width - 1)) +ℤ minimum))

-- and all codes together
abbrev pub reach : ℤ → List Group → ℕ
reach minimum groups = sum_by (λ group. group.count * stretch minimum group) groups
