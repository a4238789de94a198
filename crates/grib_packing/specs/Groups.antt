-- Groups of complex packing (WMO-No. 306, Volume I.2, FM 92 GRIB edition 2, data template 7.2): group
-- references, coded widths and coded lengths, each list from a whole octet on, and then, from a whole
-- octet on, the packed numbers of all groups.
use Rattle.std.specs.Prelude.{ℕ, ◌+◌, ◌-◌, ◌*◌, ◌/◌, ◌^◌, Bool, not, cond, ◌&&◌, List, [], ◌∷◌, ◌++◌, length, drop, map, nat_lt, ◌==◌, sum, sum_by, slice_set}
use Rattle.grib_bits.specs.Bits.{bits}
use Rattle.grib_bits.specs.Plain.{plain}
use Rattle.grib_base.specs.declared.code.Code.{Code}
use Rattle.grib_base.specs.declared.code.Code.TheVariants.{Present, Primary, Secondary}
use Rattle.grib_base.specs.declared.fault.Reason.TheVariants.{DataTooShort, GroupWidth, GroupShape}
use Rattle.grib_base.specs.Rules.{Rule, rule, first_place}
use Rattle.grib_packing.specs.declared.group.Group.{Group}
use Rattle.grib_packing.specs.declared.layout.Layout.{Layout}

-- the octets that `count` numbers of w bits take, padded to whole octets
abbrev pub octets_for : ℕ → ℕ → ℕ
octets_for w count = (count * w + 7) / 8

-- The octets of the three lists, which follow one another.
abbrev pub reference_octets : Layout → ℕ
reference_octets layout = octets_for layout.reference_bits layout.groups

abbrev pub width_octets : Layout → ℕ
width_octets layout = octets_for layout.width_bits layout.groups

abbrev pub length_octets : Layout → ℕ
length_octets layout = octets_for layout.length_bits layout.groups

abbrev pub list_octets : Layout → ℕ
list_octets layout = reference_octets layout + width_octets layout + length_octets layout

-- The lists, of the octets that begin with the first of them.
abbrev pub references : Layout → List ℕ → List ℕ
references layout octets = plain (bits octets) layout.reference_bits layout.groups

abbrev pub widths : Layout → List ℕ → List ℕ
widths layout octets =
    map (λ coded. layout.width_reference + coded) (plain (bits (drop (reference_octets layout) octets)) layout.width_bits layout.groups)

abbrev pub coded_lengths : Layout → List ℕ → List ℕ
coded_lengths layout octets = plain (bits (drop (reference_octets layout + width_octets layout) octets)) layout.length_bits layout.groups

-- the last of them is the stated true length of the last group
abbrev pub lengths : Layout → List ℕ → List ℕ
lengths layout octets =
    let coded = coded_lengths layout octets in
    slice_set (map (λ n. layout.length_reference + layout.length_increment * n) coded) (layout.groups - 1) layout.last_length

abbrev pub groups_from : List ℕ → List ℕ → List ℕ → List Group
groups_from (r ∷ rs) (w ∷ ws) (n ∷ ns) = record { reference = r; width = w; count = n } ∷ groups_from rs ws ns
groups_from _ _ _ = []

abbrev pub groups : Layout → List ℕ → List Group
groups layout octets = groups_from (references layout octets) (widths layout octets) (lengths layout octets)

-- What is missing by a number: under management 1 and 2 all ones mean primary missing, and under 2 one
-- less means secondary missing; `top` is one more than all ones. Else the code is `present`.
abbrev pub marked : ℕ → ℕ → ℕ → Code → Code
marked management field top present =
    cond (not (management == 0) && (field + 1 == top)) Primary
    (cond (management == 2 && (field + 2 == top)) Secondary present)

-- the code of a packed number n: in a group of width 0 the reference says what is missing, in a wider
-- one the packed number
abbrev pub code_of : Layout → Group → ℕ → Code
code_of layout group n =
    cond (group.width == 0)
    (marked layout.management group.reference (2 ^ layout.reference_bits) (Present group.reference))
    (marked layout.management n (2 ^ group.width) (Present (group.reference + n)))

-- the codes of groups, of the bits that begin with the packed numbers of the first
abbrev pub codes_from : Layout → List Group → List Bool → List Code
codes_from layout [] numbers = []
codes_from layout (group ∷ rest) numbers =
    map (code_of layout group) (plain numbers group.width group.count)
    ++ codes_from layout rest (drop (group.width * group.count) numbers)

-- the codes of all values, of the octets that begin with the list of references
abbrev pub grouped : Layout → List ℕ → List Code
grouped layout octets = codes_from layout (groups layout octets) (bits (drop (list_octets layout) octets))

-- the bits of all packed numbers
abbrev pub packed_bits : List Group → ℕ
packed_bits groups = sum_by (λ group. group.count * group.width) groups

-- the number of the first group that takes the sum of the lengths past the values, else of the last one;
-- `n` groups stand before
abbrev pub first_past : ℕ → ℕ → List ℕ → ℕ
first_past values n [] = n
first_past values n (l ∷ rest) = cond (nat_lt values l) (n + 1) (first_past (values - l) (n + 1) rest)

-- Rule S7.2, for a Section 7 of l octets that has `skip` octets of extra descriptors after octet 5
abbrev pub list_rules : Layout → ℕ → ℕ → List Rule
list_rules layout l skip = rule (nat_lt l (5 + skip + list_octets layout)) 1 DataTooShort l  -- S7.2
    ∷ []

-- and rules S7.4 to S7.6, where Section 5 has this many values
abbrev pub group_rules : Layout → List ℕ → ℕ → ℕ → List Rule
group_rules layout s7 skip values =
    let l = length s7 in
    let octets = drop (5 + skip) s7 in
    let before_numbers = 5 + skip + list_octets layout in
    let too_wide = first_place (λ w. nat_lt 32 w) (widths layout octets) in
    rule (nat_lt 0 too_wide) (6 + skip + reference_octets layout) GroupWidth too_wide  -- S7.4
    ∷ rule (not (sum (lengths layout octets) == values)) 1 GroupShape (first_past values 0 (lengths layout octets))  -- S7.5
    ∷ rule (nat_lt (8 * l) (8 * before_numbers + packed_bits (groups layout octets))) 1 DataTooShort l  -- S7.6
    ∷ []
