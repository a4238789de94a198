-- The values of the keys of a field (WMO-No. 306, Volume I.2, FM 92 GRIB edition 2): numbers in the sections
-- that are in force for it, at the places that the table of keys gives.
use Rattle.std.specs.Prelude.{◌≡◌, ℕ, ◌+◌, ◌-◌, ◌^◌, ◌≤◌, cond, ◌&&◌, ◌==◌, Bool, false, Option, Some, option_map, IsSomeAnd, List, take, length, pos}
use Rattle.std.specs.List.{list_all}
use Rattle.std.specs.Option.{option_map_or}
use Rattle.grib_bits.specs.Octets.{octets, signed_octets}
use Rattle.grib_base.specs.Rules.{choose}
use Rattle.grib_keys.specs.declared.key.Key.{Key}
use Rattle.grib_keys.specs.declared.condition.Value.{Value}
use Rattle.grib_keys.specs.declared.condition.Value.TheVariants.{Number, Missing}
use Rattle.grib_keys.specs.declared.wanted.Wanted.{Wanted}
use Rattle.grib_keys.specs.declared.table.Layout.{Layout}
use Rattle.grib_keys.specs.declared.table.Octets.{Octets}
use Rattle.grib_keys.specs.declared.table.Kind.{Kind}
use Rattle.grib_keys.specs.Keys.{row_of, key_place}
use Rattle.grib_keys.specs.Wanted.{Holds, holds}
use Rattle.grib_packing.specs.Entries.{is_opaque_packing}
use Rattle.grib2_grids.specs.Opaque.{is_opaque_grid}
use Rattle.grib2_products.specs.Product.{time_ranges}
use Rattle.grib2_products.specs.Opaque.{is_opaque_product}
use Rattle.grib2_message.specs.Fields.{part_octets}

-- the section with this number that is in force for field i; Section 0 is the same for all fields
abbrev pub key_section : List ℕ → ℕ → ℕ → List ℕ
key_section message i number = choose (number == 0) (λ _. take 16 message) (λ _. part_octets message i number)

-- the number of the template of a section with this number: octets 13-14 of Section 3, 8-9 of Section 4,
-- 10-11 of Section 5; the sections before have none, and here 0
abbrev pub template_of : ℕ → List ℕ → ℕ
template_of number s =
    cond (number == 3) (octets s 13 14) (cond (number == 4) (octets s 8 9) (cond (number == 5) (octets s 10 11) 0))

-- how many time ranges a section with this number has: none but in Section 4
abbrev pub ranges_of : ℕ → List ℕ → ℕ
ranges_of number s = cond (number == 4) (time_ranges s) 0

-- the octet of Section 4 with the number of time ranges, 0 where the template has none
abbrev pub count_octet : ℕ → ℕ
count_octet template = cond (template == 8) 42 (cond (template == 11) 45 0)

-- whether a section with this number is opaque: its template is not stated, or octets 13-14 of Section 3 do not
-- define the grid; Sections 0 and 1 have no template
abbrev pub is_opaque : ℕ → List ℕ → Bool
is_opaque number s =
    cond (number == 3) (is_opaque_grid s) (cond (number == 4) (is_opaque_product s) (cond (number == 5) (is_opaque_packing s) false))

-- the layout of a section with this number
abbrev pub layout_of : ℕ → List ℕ → Layout
layout_of number s = record { template = template_of number s; is_opaque = is_opaque number s; ranges = ranges_of number s }

-- how many octets a number has
abbrev pub octet_count : Octets → ℕ
octet_count place = place.last + 1 - place.first

-- whether all bits of a number of n octets are 1
abbrev pub is_all_ones : ℕ → ℕ → Bool
is_all_ones n number = number + 1 == 256 ^ n

-- the value that stands at a place of a section
abbrev pub value_at : Kind → List ℕ → Octets → Value
value_at kind s place =
    let number = octets s place.first place.last in
    cond (kind.may_be_missing && is_all_ones (octet_count place) number) Missing
    (Number (cond kind.is_signed (signed_octets s place.first place.last) (pos number)))

-- the value of a key in its section, none where a section of this layout lacks the key
abbrev pub value_in : Key → List ℕ → Option Value
value_in key s =
    let row = row_of key in
    option_map (value_at row.kind s) (key_place key (layout_of row.section s))

-- the value of a key of field i
abbrev pub key_value_of : List ℕ → ℕ → Key → Option Value
key_value_of message i key = value_in key (key_section message i (row_of key).section)

-- field i has the key with a value of which holds what is asked
abbrev pub Fulfils : List ℕ → ℕ → Wanted → Type 0
Fulfils message i wanted = IsSomeAnd (key_value_of message i wanted.key) (Holds wanted.test)

-- the same as a test
abbrev pub fulfils : List ℕ → ℕ → Wanted → Bool
fulfils message i wanted = option_map_or (holds wanted.test) (key_value_of message i wanted.key) false

-- whether field i fulfils all conditions
abbrev pub fulfils_all : List ℕ → ℕ → List Wanted → Bool
fulfils_all message i conditions = list_all (fulfils message i) conditions

-- a place within the first l octets of a section, of 1 to 4 octets
pub record IsWithin (l : ℕ) (place : Octets) : Type 0 where
  pub low : 1 ≤ place.first
  pub high : place.last ≤ l
  pub some : place.first ≤ place.last
  pub few : place.last + 1 ≤ place.first + 4

-- each key that a section with this number has stands within the section, and so does the number of its time
-- ranges
pub record HasKeys (number : ℕ) (s : List ℕ) : Type 0 where
  pub keys : (key : Key) (place : Octets) → (row_of key).section ≡ number → key_place key (layout_of number s) ≡ Some place
      → place.last ≤ length s
  pub counted : number ≡ 4 → count_octet (template_of number s) ≤ length s
