-- Section 3, the grid definition section (WMO-No. 306, Volume I.2, FM 92 GRIB edition 2, grid definition
-- templates 3.0, 3.1, 3.10, 3.20, 3.30 and 3.40).
use Rattle.std.specs.Prelude.{ℕ, ◌+◌, ◌-◌, ◌*◌, ◌/◌, min, Bool, not, cond, ◌&&◌, ◌||◌, List, [], ◌∷◌, length, nat_lt, ◌==◌, sum}
use Rattle.std.specs.List.{list_any}
use Rattle.grib_bits.specs.Octets.{octets}
use Rattle.grib_bits.specs.Listed.{numbers_at}
use Rattle.grib_base.specs.declared.fault.Reason.TheVariants.{SectionLength, GridSource, GridTemplate, PointCount, ListShape}
use Rattle.grib_base.specs.declared.limits.TheConstants.{MOST_POINTS}
use Rattle.grib_base.specs.Rules.{Rule, rule}
use Rattle.grib2_sections.specs.Template.{Template, template, is_template, least_length}

-- the grid templates of the profile, each with its least length in octets
abbrev pub grid_templates : List Template
grid_templates = template 0 72 ∷ template 1 84 ∷ template 10 72 ∷ template 20 65 ∷ template 30 81 ∷ template 40 72 ∷ []

-- The numbers of Section 3 that decide acceptance, by their octets.
abbrev pub grid_source : List ℕ → ℕ
grid_source s = octets s 6 6

abbrev pub grid_points : List ℕ → ℕ
grid_points s = octets s 7 10

abbrev pub list_octets : List ℕ → ℕ
list_octets s = octets s 11 11

abbrev pub list_meaning : List ℕ → ℕ
list_meaning s = octets s 12 12

abbrev pub grid_template : List ℕ → ℕ
grid_template s = octets s 13 14

abbrev pub ni : List ℕ → ℕ
ni s = octets s 31 34

abbrev pub nj : List ℕ → ℕ
nj s = octets s 35 38

-- the octet at which the list of the numbers of points of each row begins
abbrev pub list_start : List ℕ → ℕ
list_start s = cond (grid_template s == 1) 85 73

-- the list: Nj numbers of octet 11 octets each, as far as the section goes; none where octet 11 is 0
abbrev pub row_list : List ℕ → List ℕ
row_list s =
    let size = list_octets s in
    let f = list_start s in
    let stand = (length s + 1 - f) / size in
    numbers_at s f size (cond (size == 0) 0 (min (nj s) stand))

-- whether the template may have a list of rows
abbrev pub may_have_list : ℕ → Bool
may_have_list t = list_any (λ n. n == t) (0 ∷ 1 ∷ 40 ∷ [])

-- rules S3.1 to S3.11
abbrev pub grid_rules : List ℕ → List Rule
grid_rules s =
    let l = length s in
    let t = grid_template s in
    let points = grid_points s in
    let size = list_octets s in
    let meaning = list_meaning s in
    let listed = not (size == 0) in
    let f = list_start s in
    rule (nat_lt l 14) 1 SectionLength l  -- S3.1
    ∷ rule (not (grid_source s == 0)) 6 GridSource (grid_source s)  -- S3.2
    ∷ rule (not (is_template grid_templates t)) 13 GridTemplate t  -- S3.3
    ∷ rule (nat_lt l (least_length grid_templates t)) 1 SectionLength l  -- S3.4
    ∷ rule (points == 0 || nat_lt MOST_POINTS points) 7 PointCount points  -- S3.5
    ∷ rule (listed && not (meaning == 1) && not (meaning == 2)) 12 ListShape meaning  -- S3.6
    ∷ rule (nat_lt 4 size || (listed && not (may_have_list t))) 11 ListShape size  -- S3.7
    ∷ rule (listed && (nj s == 0 || nj s == 4294967295)) 35 ListShape (nj s)  -- S3.8
    ∷ rule (listed && nat_lt l (f - 1 + size * nj s)) f ListShape (nj s)  -- S3.9
    ∷ rule (listed && not (sum (row_list s) == points)) 7 PointCount (sum (row_list s))  -- S3.10
    ∷ rule (not listed && not (ni s * nj s == points)) 7 PointCount (ni s * nj s)  -- S3.11
    ∷ []
