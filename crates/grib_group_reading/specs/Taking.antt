-- Codes that are taken from groups and bits as these come: what was taken, and what is left.
use Rattle.std.specs.Prelude.{◌≡◌, ℕ, ◌+◌, ◌-◌, ◌*◌, ◌/◌, ◌<◌, Bool, cond, ◌==◌, nat_lt, List, [], ◌∷◌, ◌++◌, length, sum_by}
use Rattle.grib_base.specs.declared.code.Code.{Code}
use Rattle.grib_base.specs.declared.code.Code.TheVariants.{Present, Primary, Secondary}
use Rattle.grib_group_reading.specs.declared.coding.Coding.{Coding}
use Rattle.grib_packing.specs.declared.group.Group.{Group}
use Rattle.grib_packing.specs.declared.layout.Layout.{Layout}
use Rattle.grib_packing.specs.Groups.{codes_from, packed_bits}

-- how many values groups have
abbrev pub values : List Group → ℕ
values groups = sum_by (λ group. group.count) groups

-- how many packed numbers of groups end within this many bits
abbrev pub values_within : List Group → ℕ → ℕ
values_within [] size = 0
values_within (group ∷ groups) size =
    let all = group.count * group.width in
    cond (nat_lt size all) (size / group.width) (group.count + values_within groups (size - all))

-- These bits are the last ones of those.
pub record IsEnd (last bits : List Bool) : Type 0 where
  pub before : List Bool
  pub joined : before ++ last ≡ bits

-- Of these groups and bits, the codes were taken from the front: the groups that are left, the first
-- of them with what is left of it, and the rest of the bits give the codes that follow, whatever
-- bits come.
pub record Taken (layout : Layout) (groups : List Group) (bits : List Bool) (codes : List Code) (left : List Group) (rest : List Bool) : Type 0 where
  pub agree : (more : List Bool) → codes_from layout groups (bits ++ more) ≡ codes ++ codes_from layout left (rest ++ more)
  pub counted : values groups ≡ length codes + values left
  pub within : (more : ℕ) → values_within groups (length bits + more) ≡ length codes + values_within left (length rest + more)
  pub used : 0 < values left → packed_bits left + length bits ≡ packed_bits groups + length rest
  pub ends : IsEnd rest bits

-- the number of a code that is present
abbrev pub number_of : Code → ℕ
number_of (Present n) = n
number_of Primary = 0
number_of Secondary = 0

-- the code of a number, by the marks of its group
abbrev pub code_by : Coding → ℕ → Code
code_by coding n = cond (n == coding.primary) Primary (cond (n == coding.secondary) Secondary (Present (coding.reference + n)))
