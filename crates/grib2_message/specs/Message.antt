-- A message of edition 2 as a whole.
use Rattle.std.specs.Prelude.{◌≡◌, ℕ, ◌≤◌, false, Option, Some, None, List, length, take, find}
use Rattle.std.specs.List.{range_with_len}
use Rattle.grib_base.specs.Rules.{first_fault}
use Rattle.grib_base.specs.declared.profile.Profile.{Profile}
use Rattle.grib_base.specs.declared.profile.Profile.TheVariants.{Stated, Open}
use Rattle.grib2_sections.specs.Verdict.{Accepted}
use Rattle.grib2_sections.specs.Head.{indicator, edition}
use Rattle.grib2_sections.specs.Identification.{identification_rules}
use Rattle.grib2_grids.specs.Grid.{grid_points}
use Rattle.grib2_grids.specs.Opaque.{grid_rules_under}
use Rattle.grib2_products.specs.Opaque.{product_rules_under}
use Rattle.grib_packing.specs.Packing.{packing_template}
use Rattle.grib_packing.specs.Entries.{packing_fault, packing_fault_under, data_fault, is_opaque_packing}
use Rattle.grib2_message.specs.Acceptance.{verdict_under}
use Rattle.grib2_message.specs.Fields.{field_count, part_octets}
use Rattle.grib2_message.specs.declared.readable.OpaqueField.{OpaqueField}

-- the octets are one message that is accepted, and no more
pub record IsMessageUnder (profile : Profile) (octets : List ℕ) : Type 0 where
  pub indicated : take 4 octets ≡ indicator
  pub edition_stands : edition octets ≡ 2
  pub accepted : verdict_under profile octets ≡ Accepted (length octets)

-- no rule refuses the sections in force for field i; each has the octets that its rules ask for
pub record FieldPassesUnder (profile : Profile) (message : List ℕ) (i : ℕ) : Type 0 where
  pub identification : first_fault (identification_rules (part_octets message i 1)) ≡ None
  pub grid : first_fault (grid_rules_under profile (part_octets message i 3)) ≡ None
  pub product : first_fault (product_rules_under profile (part_octets message i 4) 1) ≡ None
  pub packing : packing_fault_under profile (part_octets message i 5) (grid_points (part_octets message i 3)) ≡ None
  pub values : data_fault (part_octets message i 5) (part_octets message i 7) ≡ None

-- ---- a message accepted by some profile

-- what each profile accepts, the open one accepts
abbrev pub IsAnyMessage : List ℕ → Type 0
IsAnyMessage = IsMessageUnder Open

abbrev pub AnyFieldPasses : List ℕ → ℕ → Type 0
AnyFieldPasses = FieldPassesUnder Open

-- ---- a message whose values can be read

-- the packing of field i is one whose values can be read
abbrev pub HasValues : List ℕ → ℕ → Type 0
HasValues message i = is_opaque_packing (part_octets message i 5) ≡ false

-- so is that of each field
abbrev pub IsReadable : List ℕ → Type 0
IsReadable message = (i : ℕ) → 1 ≤ i → i ≤ field_count message → HasValues message i

-- no rule refuses the sections in force for field i, and its values can be read
pub record FieldReadsUnder (profile : Profile) (message : List ℕ) (i : ℕ) : Type 0 where
  pub identification : first_fault (identification_rules (part_octets message i 1)) ≡ None
  pub grid : first_fault (grid_rules_under profile (part_octets message i 3)) ≡ None
  pub product : first_fault (product_rules_under profile (part_octets message i 4) 1) ≡ None
  pub packing : packing_fault (part_octets message i 5) (grid_points (part_octets message i 3)) ≡ None
  pub values : data_fault (part_octets message i 5) (part_octets message i 7) ≡ None

abbrev pub FieldReads : List ℕ → ℕ → Type 0
FieldReads = FieldReadsUnder Open

-- the first field with an opaque packing
abbrev pub first_opaque : List ℕ → Option ℕ
first_opaque message = find (λ i. is_opaque_packing (part_octets message i 5)) (range_with_len 1 (field_count message))

-- and the number of its template
pub record IsFirstOpaque (message : List ℕ) (opaque : OpaqueField) : Type 0 where
  pub first : first_opaque message ≡ Some opaque.field
  pub template : opaque.template ≡ packing_template (part_octets message opaque.field 5)

-- ---- under the profile of the stated templates

abbrev pub IsMessage : List ℕ → Type 0
IsMessage = IsMessageUnder Stated

abbrev pub FieldPasses : List ℕ → ℕ → Type 0
FieldPasses = FieldPassesUnder Stated
