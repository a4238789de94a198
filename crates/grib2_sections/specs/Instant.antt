-- What product templates other than 4.0 have of it: octets 10-34 of Section 4 (WMO-No. 306, Volume I.2, FM 92 GRIB edition 2,
-- product definition templates 4.0 to 4.15, 4.40 to 4.43, 4.51, 4.60, 4.61 and 4.91).
use Rattle.std.specs.Prelude.{ℕ, Bool, cond, ◌||◌, Option, Some, None, [], ◌∷◌, nat_lt, ◌==◌}
use Rattle.std.specs.List.{list_any}

-- octets 10-34 of a section with this template are those of template 4.0
abbrev pub begins_as_template_0 : ℕ → Bool
begins_as_template_0 t = nat_lt t 16 || list_any (λ n. n == t) (51 ∷ 60 ∷ 61 ∷ 91 ∷ [])

-- octets 12-13 of a section with this template are the constituent type, and what template 4.0 has in octets
-- 12-34 stands two octets further on
abbrev pub is_shifted : ℕ → Bool
is_shifted t = list_any (λ n. n == t) (40 ∷ 41 ∷ 42 ∷ 43 ∷ [])

-- by how many octets what template 4.0 has in octets 12-34 is shifted, if this template has it
abbrev pub instant_shift : ℕ → Option ℕ
instant_shift t = cond (is_shifted t) (Some 2) (cond (begins_as_template_0 t) (Some 0) None)
