-- Section 5 of complex packing, with and without spatial differencing (WMO-No. 306, Volume I.2, FM 92
-- GRIB edition 2, data representation templates 5.2 and 5.3).
use Rattle.std.specs.Prelude.{ℕ, ◌+◌, ◌*◌, not, cond, ◌&&◌, List, [], ◌∷◌, nat_lt, ◌==◌}
use Rattle.grib_bits.specs.Octets.{octets}
use Rattle.grib_base.specs.declared.fault.Reason.TheVariants.{MissingManagement, GroupCount, GroupWidth, GroupShape, DifferenceOrder, ExtraOctets}
use Rattle.grib_base.specs.Rules.{Rule, rule}
use Rattle.grib_packing.specs.declared.layout.Layout.{Layout}
use Rattle.grib_packing.specs.Packing.{packing_template, value_count, bit_width}

abbrev pub layout_of : List ℕ → Layout
layout_of s = record {
  groups = octets s 32 35;
  reference_bits = bit_width s;
  width_reference = octets s 36 36;
  width_bits = octets s 37 37;
  length_reference = octets s 38 41;
  length_increment = octets s 42 42;
  last_length = octets s 43 46;
  length_bits = octets s 47 47;
  management = octets s 23 23;
}

-- the order of spatial differencing, and the octets of each extra descriptor; 0 for template 5.2
abbrev pub difference_order : List ℕ → ℕ
difference_order s = cond (packing_template s == 3) (octets s 48 48) 0

abbrev pub extra_octets : List ℕ → ℕ
extra_octets s = cond (packing_template s == 3) (octets s 49 49) 0

-- the octets of the extra descriptors, which stand before the groups: the first values and the minimum;
-- none in template 5.2
abbrev pub descriptor_octets : List ℕ → ℕ
descriptor_octets s = (difference_order s + 1) * extra_octets s

-- rules S5.7 to S5.13, of templates 5.2 and 5.3
abbrev pub complex_rules : List ℕ → List Rule
complex_rules s =
    let layout = layout_of s in
    let spatial = packing_template s == 3 in
    rule (nat_lt 2 layout.management) 23 MissingManagement layout.management  -- S5.7
    ∷ rule (nat_lt (value_count s) layout.groups) 32 GroupCount layout.groups  -- S5.8
    ∷ rule (nat_lt 32 layout.width_reference) 36 GroupWidth layout.width_reference  -- S5.9
    ∷ rule (nat_lt 32 layout.width_bits) 37 GroupWidth layout.width_bits  -- S5.10
    ∷ rule (nat_lt 32 layout.length_bits) 47 GroupShape layout.length_bits  -- S5.11
    ∷ rule (spatial && not (difference_order s == 1) && not (difference_order s == 2)) 48 DifferenceOrder (difference_order s)  -- S5.12
    ∷ rule (spatial && nat_lt 4 (extra_octets s)) 49 ExtraOctets (extra_octets s)  -- S5.13
    ∷ []
