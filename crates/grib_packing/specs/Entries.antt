-- What packed data mean: Section 7 of complex packing, and the list of the packings, by which all is read
-- (WMO-No. 306, Volume I.2, FM 92 GRIB edition 2, code table 5.0 and data templates 7.0, 7.2, 7.3 and 7.42).
use Rattle.std.specs.Prelude.{ℕ, ◌+◌, ◌-◌, ◌*◌, Bool, true, false, not, cond, ◌&&◌, Option, List, [], ◌∷◌, ◌++◌, length, drop, map, replicate, Some, None, unwrap_or, find, nat_lt, ◌==◌, ℤ, pos}
use Rattle.std.specs.List.{filter_map, list_any}
use Rattle.grib_bits.specs.Binary32.{ieee_exponent}
use Rattle.grib_bits.specs.Octets.{octets, signed_octets}
use Rattle.grib_base.specs.declared.code.Code.{Code}
use Rattle.grib_base.specs.declared.code.Code.TheVariants.{Present, Primary, Secondary}
use Rattle.grib_base.specs.declared.fault.Reason.TheVariants.{FirstValueSign, ScaledRange, SectionLength, ValueCount, ReferenceNotFinite, BitWidth}
use Rattle.grib_base.specs.declared.fault.Fault.{Fault}
use Rattle.grib_base.specs.declared.profile.Profile.{Profile}
use Rattle.grib_base.specs.declared.profile.Profile.TheVariants.{Stated, Open}
use Rattle.grib_base.specs.Rules.{Rule, rule, first_fault, first_place, or_then, choose}
use Rattle.grib_packing.specs.Groups.{grouped, list_rules, group_rules}
use Rattle.grib_packing.specs.Column.{column_with, points_with_mask}
use Rattle.grib_packing.specs.Simple.{simple_rules, simple_entries}
use Rattle.grib_packing.specs.Coded.{coded_rules, coded_data_fault, coded_entries}
use Rattle.grib_packing.specs.declared.column.Column.{Column}
use Rattle.grib_packing.specs.declared.column.Point.{Point}
use Rattle.grib_packing.specs.declared.column.Point.TheVariants.{Scaled, Missing, Missing2}
use Rattle.grib_packing.specs.Packing.{packing_template, value_count, reference_word, bit_width, template_reason}
use Rattle.grib_packing.specs.Differences.{Descriptors, undone, is_beyond}
use Rattle.grib_packing.specs.Complex.{layout_of, complex_rules, difference_order, extra_octets, descriptor_octets}

-- ---- complex packing

-- whether there are no groups: then every value is 0 and Section 7 is not read
abbrev pub has_no_groups : List ℕ → Bool
has_no_groups s5 = octets s5 32 35 == 0

-- The extra descriptors stand from octet 6 on, extra_octets each: the first values, as many as the
-- order, without sign, and the minimum, with sign. The j-th, from 0, begins at:
abbrev pub descriptor_place : List ℕ → ℕ → ℕ
descriptor_place s5 j = 6 + j * extra_octets s5

abbrev pub first_value : List ℕ → List ℕ → ℕ → ℕ
first_value s5 s7 j = octets s7 (descriptor_place s5 j) (descriptor_place s5 (j + 1) - 1)

abbrev pub minimum : List ℕ → List ℕ → ℤ
minimum s5 s7 =
    let j = difference_order s5 in
    signed_octets s7 (descriptor_place s5 j) (descriptor_place s5 (j + 1) - 1)

abbrev pub descriptors : List ℕ → List ℕ → Descriptors
descriptors s5 s7 = record {
  order = difference_order s5;
  first = pos (first_value s5 s7 0);
  second = pos (first_value s5 s7 1);
  minimum = minimum s5 s7;
}

-- the codes of all values
abbrev pub codes_of : List ℕ → List ℕ → List Code
codes_of s5 s7 = grouped (layout_of s5) (drop (5 + descriptor_octets s5) s7)

abbrev pub present_code : Code → Option ℕ
present_code (Present n) = Some n
present_code Primary = None
present_code Secondary = None

-- the scaled integers of the values that are not missing: their codes, or the numbers whose
-- differences the codes tell
abbrev pub numbers_of : List ℕ → List ℕ → List ℤ
numbers_of s5 s7 =
    let present = filter_map present_code (codes_of s5 s7) in
    cond (packing_template s5 == 3) (undone (descriptors s5 s7) present) (map pos present)

-- Each value: missing by its code, or the next of the numbers. There is one for each present code; a value
-- without one would be missing too.
abbrev pub refilled : List Code → List ℤ → List Point
refilled [] numbers = []
refilled (Primary ∷ codes) numbers = Missing ∷ refilled codes numbers
refilled (Secondary ∷ codes) numbers = Missing2 ∷ refilled codes numbers
refilled (Present n ∷ codes) [] = Missing ∷ refilled codes []
refilled (Present n ∷ codes) (x ∷ numbers) = Scaled x ∷ refilled codes numbers

-- the entries of the present points of a field with groups
abbrev pub group_entries : List ℕ → List ℕ → List Point
group_entries s5 s7 = refilled (codes_of s5 s7) (numbers_of s5 s7)

-- whether the top bit of the j-th first value, from 0, is set
abbrev pub is_first_value_signed : List ℕ → List ℕ → ℕ → Bool
is_first_value_signed s5 s7 j =
    nat_lt j (difference_order s5) && nat_lt 0 (extra_octets s5) && nat_lt 127 (octets s7 (descriptor_place s5 j) (descriptor_place s5 j))

-- rule S7.3, by the two first values
abbrev pub first_value_rules : List ℕ → List ℕ → List Rule
first_value_rules s5 s7 =
    rule (is_first_value_signed s5 s7 0) 6 FirstValueSign 1  -- S7.3, j = 1
    ∷ rule (is_first_value_signed s5 s7 1) (6 + extra_octets s5) FirstValueSign 2  -- S7.3, j = 2
    ∷ []

-- whether a number is outside plus and minus 2 ^ 60
abbrev pub is_out_of_range : Point → Bool
is_out_of_range (Scaled x) = is_beyond x
is_out_of_range Missing = false
is_out_of_range Missing2 = false

-- rules S7.3 to S7.6, for a Section 7 that belongs to this Section 5
abbrev pub group_data_rules : List ℕ → List ℕ → List Rule
group_data_rules s5 s7 = first_value_rules s5 s7 ++ group_rules (layout_of s5) s7 (descriptor_octets s5) (value_count s5)

-- rule S7.7
abbrev pub range_rules : List ℕ → List ℕ → List Rule
range_rules s5 s7 =
    let place = first_place is_out_of_range (group_entries s5 s7) in
    rule (packing_template s5 == 3 && nat_lt 0 place) 1 ScaledRange place  -- S7.7
    ∷ []

-- the refusal of a Section 7 with groups: rule S7.2, then S7.3 to S7.6, then S7.7
abbrev pub group_data_fault : List ℕ → List ℕ → Option Fault
group_data_fault s5 s7 =
    or_then (or_then (first_fault (list_rules (layout_of s5) (length s7) (descriptor_octets s5))) (λ _. group_data_rules s5 s7))
    (λ _. range_rules s5 s7)

-- templates 5.2 and 5.3: where there are no groups, none of these rules is tried
abbrev pub complex_data_fault : List ℕ → List ℕ → Option Fault
complex_data_fault s5 s7 = choose (has_no_groups s5) (λ _. None) (λ _. group_data_fault s5 s7)

-- and each value is 0
abbrev pub complex_entries : List ℕ → List ℕ → List Point
complex_entries s5 s7 =
    choose (has_no_groups s5) (λ _. replicate (value_count s5) (Scaled (pos 0))) (λ _. group_entries s5 s7)

-- ---- the packings

-- What a data representation template (code table 5.0) says of Sections 5 and 7 in its own way.
pub record PackingTemplate : Type 0 where
  pub number : ℕ  -- of the template
  pub least : ℕ  -- the least length of Section 5, in octets
  pub most : ℕ  -- the most bits of each packed number, or of each group reference
  pub stated : Bool  -- whether the stated profile has it; the open one has each of the list
  pub rules : List ℕ → List Rule  -- the rules of Section 5 that other templates do not share
  pub fault : List ℕ → List ℕ → Option Fault  -- the refusal of a Section 7, from Sections 5 and 7
  pub entries : List ℕ → List ℕ → List Point  -- the entries of the present points, from Sections 5 and 7

abbrev pub simple_packing : PackingTemplate
simple_packing = record {
  number = 0;
  least = 21;
  most = 48;
  stated = true;
  rules = λ s. [];
  fault = λ s5 s7. first_fault (simple_rules s5 (length s7));
  entries = simple_entries;
}

abbrev pub complex_packing : ℕ → ℕ → PackingTemplate
complex_packing number least = record {
  number = number;
  least = least;
  most = 32;
  stated = true;
  rules = complex_rules;
  fault = complex_data_fault;
  entries = complex_entries;
}

abbrev pub coded_packing : PackingTemplate
coded_packing = record {
  number = 42;
  least = 25;
  most = 32;
  stated = false;
  rules = coded_rules;
  fault = coded_data_fault;
  entries = coded_entries;
}

-- the packings whose values are read
abbrev pub packings : List PackingTemplate
packings = simple_packing ∷ complex_packing 2 47 ∷ complex_packing 3 49 ∷ coded_packing ∷ []

-- a template that is not in the list has no rules of its own, no refusal and no entries
abbrev pub unlisted_packing : ℕ → PackingTemplate
unlisted_packing number = record {
  number = number;
  least = 0;
  most = 255;
  stated = false;
  rules = λ s. [];
  fault = λ s5 s7. None;
  entries = λ s5 s7. [];
}

abbrev pub is_packing : ℕ → Bool
is_packing t = list_any (λ p. p.number == t) packings

abbrev pub packing_of : ℕ → PackingTemplate
packing_of t = unwrap_or (find (λ p. p.number == t) packings) (unlisted_packing t)

-- the packing that a Section 5 names
abbrev pub own_packing : List ℕ → PackingTemplate
own_packing s5 = packing_of (packing_template s5)

-- ---- what is read by them

-- rules S5.1 to S5.6, which all templates share, where the grid has this many points
abbrev pub packing_rules : List ℕ → ℕ → List Rule
packing_rules s points =
    let l = length s in
    let t = packing_template s in
    rule (nat_lt l 11) 1 SectionLength l  -- S5.1
    ∷ rule (not (is_packing t)) 10 (template_reason t) t  -- S5.2
    ∷ rule (nat_lt l (packing_of t).least) 1 SectionLength l  -- S5.3
    ∷ rule (nat_lt points (value_count s)) 6 ValueCount (value_count s)  -- S5.4
    ∷ rule (ieee_exponent (reference_word s) == 255) 12 ReferenceNotFinite (reference_word s)  -- S5.5
    ∷ rule (nat_lt (packing_of t).most (bit_width s)) 20 BitWidth (bit_width s)  -- S5.6
    ∷ []

-- the refusal of a Section 5 by these rules and by those of its template: rules S5.1 to S5.16
abbrev pub packing_fault : List ℕ → ℕ → Option Fault
packing_fault s points = or_then (first_fault (packing_rules s points)) (λ _. (own_packing s).rules s)

-- whether a Section 5 has a template that is not in the list: then the packing is opaque
abbrev pub is_opaque_packing : List ℕ → Bool
is_opaque_packing s = not (is_packing (packing_template s))

-- the rules of a Section 5 with an opaque packing, where the grid has this many points
abbrev pub opaque_packing_rules : List ℕ → ℕ → List Rule
opaque_packing_rules s points =
    rule (nat_lt (length s) 11) 1 SectionLength (length s)  -- S5.1
    ∷ rule (nat_lt points (value_count s)) 6 ValueCount (value_count s)  -- S5.4
    ∷ []

-- whether the stated profile has the packing of a Section 5
abbrev pub is_stated_packing : List ℕ → Bool
is_stated_packing s = (own_packing s).stated

-- the rules of a Section 5 whose packing the stated profile does not have
abbrev pub unstated_rules : List ℕ → List Rule
unstated_rules s =
    let t = packing_template s in
    rule (nat_lt (length s) 11) 1 SectionLength (length s)  -- S5.1
    ∷ rule true 10 (template_reason t) t  -- S5.2
    ∷ []

-- the refusal of a Section 5 under a profile: the open one tries no rule of a template that is not in the list
abbrev pub packing_fault_under : Profile → List ℕ → ℕ → Option Fault
packing_fault_under Stated s points =
    choose (is_stated_packing s) (λ _. packing_fault s points) (λ _. first_fault (unstated_rules s))
packing_fault_under Open s points =
    choose (is_opaque_packing s) (λ _. first_fault (opaque_packing_rules s points)) (λ _. packing_fault s points)

-- the refusal of a Section 7: rules S7.1 to S7.11
abbrev pub data_fault : List ℕ → List ℕ → Option Fault
data_fault s5 s7 = (own_packing s5).fault s5 s7

-- the entries of the present points of a field
abbrev pub entries_of : List ℕ → List ℕ → List Point
entries_of s5 s7 = (own_packing s5).entries s5 s7

-- the column of a field with this Section 5, mask and Section 7
abbrev pub column_from : List ℕ → List Bool → List ℕ → Column
column_from s5 mask s7 = column_with s5 (points_with_mask mask (entries_of s5 s7))
