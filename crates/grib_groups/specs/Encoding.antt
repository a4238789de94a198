-- What groups are written from.
use Rattle.std.specs.Prelude.{◌≡◌, ℕ, ◌+◌, ◌-◌, ◌^◌, ◌<◌, ◌≤◌, None, Bool, cond, ◌==◌, List, [], ◌∷◌, ◌++◌, length, drop, get_or, map, sum, All, IsTrue}
use Rattle.grib_bits.specs.Written.{Written}
use Rattle.grib_base.specs.declared.code.Code.{Code}
use Rattle.grib_base.specs.declared.code.Code.TheVariants.{Present, Primary, Secondary}
use Rattle.grib_base.specs.Rules.{first_fault}
use Rattle.grib_packing.specs.declared.layout.Layout.{Layout}
use Rattle.grib_packing.specs.Groupings.{IsGrouping, is_present, length_bits, reference_bits_of, runs, width_bits_of, width_of}
use Rattle.grib_packing.specs.Packed.{fields, packed_number, reference_of}
use Rattle.grib_packing.specs.Groups.{group_rules, grouped, lengths, list_rules, widths}
use Rattle.grib_codes.specs.Span.{IsTold}
use Rattle.grib_groups.specs.declared.measuring.Measure.{Measure}

-- a number is no less than the reference of its group, and its packed number has no more bits than the width
abbrev pub IsPackable : ℕ → ℕ → Code → Type 0
IsPackable width reference (Present n) = (reference ≤ n) × (n - reference < 2 ^ width)
IsPackable width reference Primary = Unit {0}
IsPackable width reference Secondary = Unit {0}

-- and it is no mark
abbrev pub IsNumber : ℕ → ℕ → Code → Type 0
IsNumber width reference code = IsTrue (is_present code) × IsPackable width reference code

-- the codes of a group of this width and reference, none of which is a mark
pub record AreNumbers (width reference : ℕ) (run : List Code) : Type 0 where
  pub some : 1 ≤ width
  pub few : width ≤ 32
  pub codes : All (IsNumber width reference) run

-- their packed numbers, one after another
abbrev pub packed_fields : ℕ → ℕ → List Code → List Bool
packed_fields width reference run = fields width (map (packed_number width reference) run)

-- these bits were written behind what stood there, into memory that was spare
pub record AddsBits (before now : Written) (added : List Bool) : Type 0 where
  pub bits : now.bits ≡ before.bits ++ added
  pub spare : now.spare + length added ≡ before.spare

-- the reference, where references have b bits, and the width of a run, where k codes are reserved
pub record IsMeasure (k b : ℕ) (measure : Measure) (run : List Code) : Type 0 where
  pub reference : measure.reference ≡ reference_of b run
  pub width : measure.width ≡ width_of k run

-- the packed numbers of a run with this reference and width; of width 0 there are none
abbrev pub measured_fields : Measure → List Code → List Bool
measured_fields measure run =
    cond (measure.width == 0) [] (fields measure.width (map (packed_number measure.width measure.reference) run))

-- the references and widths of the first runs, as many as there are
abbrev pub AreMeasures : ℕ → ℕ → List Measure → List (List Code) → Type 0
AreMeasures k b measures [] = Unit {0}
AreMeasures k b [] (run ∷ groups) = Unit {0}
AreMeasures k b (measure ∷ measures) (run ∷ groups) = IsMeasure k b measure run × AreMeasures k b measures groups

-- Codes, of which k are reserved for missing points, are written as groups of these lengths with references of b
-- bits, and of the first groups these references and widths are known.
pub record AreGrouped (k b : ℕ) (field : List Code) (lengths : List ℕ) (measures : List Measure) : Type 0 where
  pub few : b ≤ 32
  pub reserved : k ≤ 2
  pub grouping : IsGrouping (length field) lengths
  pub codes : All (IsTold k) field
  pub known : AreMeasures k b measures (runs lengths field)

-- the layout of codes that are written as groups of these lengths
pub record LaysOut (layout : Layout) (codes : List Code) (lengths : List ℕ) : Type 0 where
  pub management : layout.management ≤ 2
  pub codes_are_told : All (IsTold layout.management) codes
  pub grouping : IsGrouping (length codes) lengths
  pub groups : layout.groups ≡ length lengths
  pub reference_bits : layout.reference_bits ≡ reference_bits_of layout.management codes
  pub width_reference : layout.width_reference ≡ 0
  pub width_bits : layout.width_bits ≡ width_bits_of layout.management codes
  pub length_reference : layout.length_reference ≡ 1
  pub length_increment : layout.length_increment ≡ 1
  pub last_length : layout.last_length ≡ get_or lengths (length lengths - 1) 0
  pub coded_length_bits : layout.length_bits ≡ length_bits

-- a Section 7 with groups after `skip` octets of extra descriptors reads back: its rules pass, its widths are
-- 32 bits at most, its lengths are those of all codes, and the codes are these
pub record ReadsBack (layout : Layout) (s7 : List ℕ) (skip : ℕ) (codes : List Code) : Type 0 where
  pub list_rules_pass : first_fault (list_rules layout (length s7) skip) ≡ None
  pub widths_fit : All (λ w. w ≤ 32) (widths layout (drop (5 + skip) s7))
  pub total : sum (lengths layout (drop (5 + skip) s7)) ≡ length codes
  pub group_rules_pass : first_fault (group_rules layout s7 skip (length codes)) ≡ None
  pub codes_stand : grouped layout (drop (5 + skip) s7) ≡ codes
