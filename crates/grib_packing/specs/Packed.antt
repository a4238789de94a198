-- What packing writes: Sections 5, 6 and 7 of a field (WMO-No. 306, Volume I.2, FM 92 GRIB edition 2,
-- templates 5.0, 5.2, 5.3, 5.42, 7.0, 7.2, 7.3 and 7.42). Which of the valid packings is written is a choice of ours.
use Rattle.std.specs.Prelude.{◌≡◌, ℕ, ◌-◌, ◌*◌, ◌^◌, ◌<◌, Bool, false, not, cond, List, [], ◌∷◌, ◌++◌, length, map, drop, replicate, get_or, nat_lt, int_lt, ◌==◌, ℤ, pos, nat_abs, All}
use Rattle.std.specs.List.{list_any, list_all}
use Rattle.grib_bits.specs.Bits.{bits, bits_of}
use Rattle.grib_bits.specs.Octets.{octets, StatesItself}
use Rattle.grib_bits.specs.Written.{padding}
use Rattle.grib_base.specs.declared.code.Code.{Code}
use Rattle.grib_base.specs.declared.code.Code.TheVariants.{Present, Primary, Secondary}
use Rattle.grib_packing.specs.declared.column.Point.{Point}
use Rattle.grib_packing.specs.declared.column.Point.TheVariants.{Scaled, Missing, Missing2}
use Rattle.grib_packing.specs.declared.column.Column.{Column}
use Rattle.grib_packing.specs.Differences.{Descriptors, descriptors_of, difference_codes}
use Rattle.grib_packing.specs.Groupings.{digits, greatest, smallest, present_codes, is_primary, is_secondary, width_of, reference_bits_of, width_bits_of, header_bits, length_bits, runs, joined, Chosen}
use Rattle.grib_coding.specs.declared.coding.Coding.{Coding}
use Rattle.grib_coding.specs.Written as blocks
use Rattle.grib_packing.specs.Misfits.{Target, ToSimple, ToComplex, ToSpatial, ToCoded, is_missing, scaled_numbers, management_of}

-- bits up to the end of an octet
abbrev pub padded : List Bool → List Bool
padded bits = bits ++ replicate (padding bits) false

-- numbers of w bits each, one after another
abbrev pub fields : ℕ → List ℕ → List Bool
fields w numbers = joined (map (bits_of w) numbers)

-- a section of this number whose bits after octet 5 are these, padded with zeros to a whole octet
pub record HasContents (number : ℕ) (s : List ℕ) (contents : List Bool) : Type 0 where
  pub itself : StatesItself number s
  pub are_octets : All (λ octet. octet < 256) s
  pub contents_stand : bits (drop 5 s) ≡ padded contents

-- Section 5: its numbers, by their octets; all templates share these
pub record HasNumbers (s : List ℕ) (column : Column) (values template bit_width kind : ℕ) : Type 0 where
  pub itself : StatesItself 5 s
  pub are_octets : All (λ octet. octet < 256) s
  pub values_stand : octets s 6 9 ≡ values
  pub template_stands : octets s 10 11 ≡ template
  pub reference_stands : octets s 12 15 ≡ column.reference
  pub binary_scale_stands : octets s 16 17 ≡ column.e
  pub decimal_scale_stands : octets s 18 19 ≡ column.d
  pub bit_width_stands : octets s 20 20 ≡ bit_width
  pub kind_stands : octets s 21 21 ≡ kind

-- To simple packing: the present points' numbers in the least bits, and a bitmap where a point is missing.
abbrev pub present_bits : List Point → List Bool
present_bits points = map (λ point. not (is_missing point)) points

abbrev pub simple_numbers : List Point → List ℕ
simple_numbers points = map nat_abs (scaled_numbers points)

abbrev pub simple_width : List Point → ℕ
simple_width points = digits (greatest (simple_numbers points))

abbrev pub IsBitmap : List ℕ → List Point → Type 0
IsBitmap s6 points =
    HasContents 6 s6 (cond (list_any is_missing points) (bits_of 8 0 ++ present_bits points) (bits_of 8 255))

pub record IsSimple (column : Column) (kind : ℕ) (s5 s6 s7 : List ℕ) : Type 0 where
  pub as_long : length s5 ≡ 21
  pub numbers : HasNumbers s5 column (length (simple_numbers column.points)) 0 (simple_width column.points) kind
  pub bitmap : IsBitmap s6 column.points
  pub values : HasContents 7 s7 (fields (simple_width column.points) (simple_numbers column.points))

-- To groups: the codes of all grid points. The codes of differences stand at the points that are not
-- missing.
abbrev pub placed_codes : List Point → List ℕ → List Code
placed_codes [] codes = []
placed_codes (Missing ∷ points) codes = Primary ∷ placed_codes points codes
placed_codes (Missing2 ∷ points) codes = Secondary ∷ placed_codes points codes
placed_codes (Scaled x ∷ points) [] = []
placed_codes (Scaled x ∷ points) (code ∷ codes) = Present code ∷ placed_codes points codes

abbrev pub target_codes : Target → List Point → List Code
target_codes ToSimple points = []
target_codes ToComplex points = placed_codes points (map nat_abs (scaled_numbers points))
target_codes (ToSpatial order) points = placed_codes points (difference_codes order (scaled_numbers points))
target_codes (ToCoded block interval) points = []

-- The reference of a group: its least number; in a group without one all ones, of b bits, where all are
-- primary, one less where all are secondary, and 0 where both occur.
abbrev pub reference_of : ℕ → List Code → ℕ
reference_of b run =
    cond (length (present_codes run) == 0)
    (cond (list_all is_primary run) (2 ^ b - 1) (cond (list_all is_secondary run) (2 ^ b - 2) 0))
    (smallest (present_codes run))

-- the packed number of a code in a group of this width and reference
abbrev pub packed_number : ℕ → ℕ → Code → ℕ
packed_number w reference (Present n) = n - reference
packed_number w reference Primary = 2 ^ w - 1
packed_number w reference Secondary = 2 ^ w - 2

-- the packed numbers of a group; a group of width 0 has none
abbrev pub group_fields : ℕ → ℕ → List Code → List Bool
group_fields k b run =
    let w = width_of k run in
    cond (w == 0) [] (fields w (map (packed_number w (reference_of b run)) run))

-- the four parts of the groups, each padded to a whole octet: references, widths, coded lengths, numbers
abbrev pub group_parts : ℕ → List Code → List ℕ → List Bool
group_parts k codes lengths =
    let groups = runs lengths codes in
    let b = reference_bits_of k codes in
    padded (fields b (map (reference_of b) groups))
    ++ padded (fields (width_bits_of k codes) (map (width_of k) groups))
    ++ padded (fields length_bits (map (λ l. l - 1) lengths))
    ++ padded (joined (map (group_fields k b) groups))

-- a number with sign of w bits
abbrev pub signed_field : ℕ → ℤ → List Bool
signed_field w x = int_lt x (pos 0) ∷ bits_of (w - 1) (nat_abs x)

-- the octets of each extra descriptor: the least n from 1 to 4 with the first values and the magnitude of
-- the minimum below 2 ^ (8 n - 1)
abbrev pub descriptor_size : Descriptors → ℕ
descriptor_size d =
    let most = greatest (nat_abs d.first ∷ nat_abs d.second ∷ nat_abs d.minimum ∷ []) in
    cond (nat_lt most (2 ^ 7)) 1 (cond (nat_lt most (2 ^ 15)) 2 (cond (nat_lt most (2 ^ 23)) 3 4))

-- the first values, as many as the order, and the minimum
abbrev pub descriptor_fields : Descriptors → List Bool
descriptor_fields d =
    let w = 8 * descriptor_size d in
    bits_of w (nat_abs d.first) ++ cond (d.order == 1) [] (bits_of w (nat_abs d.second)) ++ signed_field w d.minimum

-- octets 22 to 47 of Section 5
pub record HasLayout (s : List ℕ) (k : ℕ) (codes : List Code) (lengths : List ℕ) : Type 0 where
  pub splitting : octets s 22 22 ≡ 1
  pub management : octets s 23 23 ≡ k
  pub primary : octets s 24 27 ≡ 4294967295
  pub secondary : octets s 28 31 ≡ 4294967295
  pub groups : octets s 32 35 ≡ length lengths
  pub width_reference : octets s 36 36 ≡ 0
  pub width_bits : octets s 37 37 ≡ width_bits_of k codes
  pub length_reference : octets s 38 41 ≡ 1
  pub length_increment : octets s 42 42 ≡ 1
  pub last_length : octets s 43 46 ≡ get_or lengths (length lengths - 1) 0
  pub coded_length_bits : octets s 47 47 ≡ length_bits

-- all points present by the bitmap: the marks stand among the codes
abbrev pub no_bitmap_section : List ℕ
no_bitmap_section = 0 ∷ 0 ∷ 0 ∷ 6 ∷ 6 ∷ 255 ∷ []

pub record IsComplex (column : Column) (kind : ℕ) (s5 s6 s7 : List ℕ) : Type 0 where
  pub lengths : List ℕ
  pub as_long : length s5 ≡ 47
  pub numbers :
      (let k = management_of column.points in
      HasNumbers s5 column (length column.points) 2 (reference_bits_of k (target_codes ToComplex column.points)) kind)
  pub layout : HasLayout s5 (management_of column.points) (target_codes ToComplex column.points) lengths
  pub chosen :
      (let k = management_of column.points in
      let codes = target_codes ToComplex column.points in
      Chosen (header_bits k codes) (width_of k) codes lengths)
  pub bitmap : s6 ≡ no_bitmap_section
  pub values : HasContents 7 s7 (group_parts (management_of column.points) (target_codes ToComplex column.points) lengths)

pub record IsSpatial (order : ℕ) (column : Column) (kind : ℕ) (s5 s6 s7 : List ℕ) : Type 0 where
  pub lengths : List ℕ
  pub as_long : length s5 ≡ 49
  pub numbers :
      (let k = management_of column.points in
      HasNumbers s5 column (length column.points) 3 (reference_bits_of k (target_codes (ToSpatial order) column.points)) kind)
  pub layout : HasLayout s5 (management_of column.points) (target_codes (ToSpatial order) column.points) lengths
  pub order_stands : octets s5 48 48 ≡ order
  pub size_stands : octets s5 49 49 ≡ descriptor_size (descriptors_of order (scaled_numbers column.points))
  pub chosen :
      (let k = management_of column.points in
      let codes = target_codes (ToSpatial order) column.points in
      Chosen (header_bits k codes) (width_of k) codes lengths)
  pub bitmap : s6 ≡ no_bitmap_section
  pub values : HasContents 7 s7 (descriptor_fields (descriptors_of order (scaled_numbers column.points))
      ++ group_parts (management_of column.points) (target_codes (ToSpatial order) column.points) lengths)

-- To CCSDS packing: the numbers and the bitmap of simple packing, in blocks. Codes are mapped differences (8); the other
-- two flags tell how a program holds the numbers (2, 4).
abbrev pub coding_to : ℕ → ℕ → List Point → Coding
coding_to block interval points = record { bits = simple_width points; flags = 14; block = block; interval = interval }

-- numbers of no bits are not coded
abbrev pub blocks_written : Coding → List ℕ → List Bool
blocks_written c numbers = cond (c.bits == 0) [] (blocks.written c numbers)

-- octets 22 to 25 of Section 5
pub record HasCoding (s : List ℕ) (c : Coding) : Type 0 where
  pub flags : octets s 22 22 ≡ c.flags
  pub block : octets s 23 23 ≡ c.block
  pub interval : octets s 24 25 ≡ c.interval

pub record IsCoded (block interval : ℕ) (column : Column) (kind : ℕ) (s5 s6 s7 : List ℕ) : Type 0 where
  pub as_long : length s5 ≡ 25
  pub numbers : HasNumbers s5 column (length (simple_numbers column.points)) 42 (simple_width column.points) kind
  pub coding : HasCoding s5 (coding_to block interval column.points)
  pub bitmap : IsBitmap s6 column.points
  pub values : HasContents 7 s7 (blocks_written (coding_to block interval column.points) (simple_numbers column.points))

-- what a packing to a target writes
abbrev pub Packed : Target → Column → ℕ → List ℕ → List ℕ → List ℕ → Type 0
Packed ToSimple column kind s5 s6 s7 = IsSimple column kind s5 s6 s7
Packed ToComplex column kind s5 s6 s7 = IsComplex column kind s5 s6 s7
Packed (ToSpatial order) column kind s5 s6 s7 = IsSpatial order column kind s5 s6 s7
Packed (ToCoded block interval) column kind s5 s6 s7 = IsCoded block interval column kind s5 s6 s7
