-- What is kept of the sections of a message while it is read, and after.
use Rattle.std.specs.Prelude.{◌≡◌, ◌≢◌, ℕ, ◌+◌, ◌-◌, ◌≤◌, ◌<◌, ◌||◌, ◌==◌, Bool, false, IsTrue, IsSome, Option, Some, None, List, [], ◌∷◌, length, get_or, slice_get, is_none, not, unwrap_or}
use Rattle.std.specs.Option.{option_map_or}
use Rattle.grib_bits.specs.Bits.{digit}
use Rattle.grib_bits.specs.Octets.{octets, StatesItself}
use Rattle.grib_base.specs.declared.fault.Fault.{Fault}
use Rattle.grib_base.specs.declared.fault.Reason.TheVariants.{NoEarlierBitmap, BitmapSize}
use Rattle.grib_base.specs.Rules.{rule, first_fault}
use Rattle.grib_base.specs.declared.profile.Profile.{Profile}
use Rattle.grib2_sections.specs.Head.{total_length}
use Rattle.grib2_sections.specs.Frame.{Placed, section_at, section_number, may_follow}
use Rattle.grib2_sections.specs.Identification.{identification_rules}
use Rattle.grib2_grids.specs.Opaque.{grid_rules_under}
use Rattle.grib2_products.specs.Opaque.{product_rules_under}
use Rattle.grib_bitmap.specs.Mask.{bitmap_indicator, bitmap_rules, mask_of, present_count}
use Rattle.grib_packing.specs.Packing.{value_count}
use Rattle.grib_packing.specs.Entries.{packing_fault_under, data_fault, is_opaque_packing}
use Rattle.grib_packings.specs.Field.{IsDataOf}
use Rattle.grib_packings.specs.declared.data_representation.DataRepresentation.{DataRepresentation}
use Rattle.grib2_message.specs.View.{last_number, section_in_force, octets_in_force, points_in_force, earlier_bitmap, earlier_mask, mask_in_force, section_count}
use Rattle.grib2_message.specs.Fields.{field_sections, field_count}
use Rattle.grib2_message.specs.Message.{IsMessageUnder}
use Rattle.grib2_message.specs.declared.in_force.Bitmap.{Bitmap}
use Rattle.grib2_message.specs.declared.in_force.InForce.{InForce}
use Rattle.grib2_message.specs.declared.places.Places.{Places}

-- a section with this number stands whole at octet `start`, before the End Section
pub record StandsAt (message : List ℕ) (start number : ℕ) : Type 0 where
  pub low : 1 ≤ start
  pub high : start ≤ 268435456
  pub there : start + 4 ≤ length message
  pub least : 5 ≤ octets message start (start + 3)
  pub whole : start - 1 + octets message start (start + 3) ≤ length message
  pub room : start + octets message start (start + 3) + 3 ≤ total_length message
  pub numbered : octets message (start + 4) (start + 4) ≡ number

-- each section is the one that stands at its place
abbrev pub ArePlaced : List ℕ → List Placed → Type 0
ArePlaced message [] = Unit {0}
ArePlaced message (s ∷ before) =
    StandsAt message s.start (section_number s.octets) × (s.octets ≡ section_at message s.start) × ArePlaced message before

-- the octet at which the section in force begins, 0 where there is none
abbrev pub start_in_force : ℕ → List Placed → ℕ
start_in_force number before = option_map_or (λ s. s.start) (section_in_force number before) 0

-- what is known of a Section 6 with bits of its own, which no rule refused, by the sections before it
pub record IsBitmap (bitmap : Bitmap) (s : Placed) (before : List Placed) : Type 0 where
  pub start : bitmap.start ≡ s.start
  pub points : bitmap.points ≡ points_in_force before
  pub numbered : section_number s.octets ≡ 6
  pub own : bitmap_indicator s.octets ≡ 0
  pub rules : first_fault (bitmap_rules s.octets bitmap.points bitmap.present None) ≡ None

-- it is kept of the first of these sections, where there is one
abbrev pub KeepsBitmap : Option Bitmap → List Placed → Type 0
KeepsBitmap None [] = Unit {0}
KeepsBitmap None (s ∷ before) = ⊥
KeepsBitmap (Some bitmap) [] = ⊥
KeepsBitmap (Some bitmap) (s ∷ before) = IsBitmap bitmap s before

-- what the Section 5 in force says is kept, where there is one
abbrev pub KeepsRepresentation : Option DataRepresentation → Option Placed → Type 0
KeepsRepresentation None None = Unit {0}
KeepsRepresentation None (Some s) = ⊥
KeepsRepresentation (Some representation) None = ⊥
KeepsRepresentation (Some representation) (Some s) = IsDataOf representation s.octets

-- what the rule on bitmaps asks of an earlier one
abbrev pub TellsBitmap : Option Bitmap → Option (List Bool) → Type 0
TellsBitmap None None = Unit {0}
TellsBitmap None (Some mask) = ⊥
TellsBitmap (Some bitmap) None = ⊥
TellsBitmap (Some bitmap) (Some mask) = (length mask ≡ bitmap.points) × (present_count mask ≡ bitmap.present)

-- how many fields have begun and not ended, by the number of the last section
abbrev pub begun : ℕ → ℕ
begun last = digit (last == 4 || last == 5 || last == 6)

-- what is known of sections that no rule refused, by the number of the last: which are in force, and what
-- their rules say
pub record AreSound (profile : Profile) (before : List Placed) : Type 0 where
  pub present : (k : ℕ) → 1 ≤ k → k ≤ last_number before → k ≢ 2 → IsSome (section_in_force k before)
  pub identification : 1 ≤ last_number before → first_fault (identification_rules (octets_in_force 1 before)) ≡ None
  pub grid : 3 ≤ last_number before → first_fault (grid_rules_under profile (octets_in_force 3 before)) ≡ None
  pub product : 4 ≤ last_number before → first_fault (product_rules_under profile (octets_in_force 4 before) 1) ≡ None
  pub packing : 5 ≤ last_number before → packing_fault_under profile (octets_in_force 5 before) (points_in_force before) ≡ None
  pub bitmap : 6 ≤ last_number before
      → first_fault (bitmap_rules (octets_in_force 6 before) (points_in_force before) (value_count (octets_in_force 5 before)) (earlier_mask before)) ≡ None
  pub mask : 6 ≤ last_number before
      → mask_in_force before ≡ mask_of (octets_in_force 6 before) (points_in_force before) (earlier_mask before)
  pub values : 7 ≤ last_number before → data_fault (octets_in_force 5 before) (octets_in_force 7 before) ≡ None
  pub counted : section_count 4 before ≡ section_count 7 before + begun (last_number before)
  pub few : section_count 4 before ≤ 4096

-- the rules on an earlier bitmap that is to be taken again, for this number of points
abbrev pub earlier_fault : ℕ → Option (List Bool) → Option Fault
earlier_fault points earlier =
    let earlier_length = length (unwrap_or earlier []) in
    first_fault (
    rule (is_none earlier) 6 NoEarlierBitmap 254
    ∷ rule (not (earlier_length == points)) 6 BitmapSize earlier_length
    ∷ [])

-- what these sections have in force, of which no rule refused one
pub record HasInForce (before : List Placed) (force : InForce) : Type 0 where
  pub points : force.points ≡ points_in_force before
  pub representation : KeepsRepresentation force.representation (section_in_force 5 before)
  pub bitmap : KeepsBitmap force.bitmap (earlier_bitmap before)
  pub fields : force.fields ≡ section_count 7 before
  pub sound : AreSound force.profile before

-- and where the sections in force begin
pub record HasPlaces (message : List ℕ) (before : List Placed) (places : Places) : Type 0 where
  pub eight : length places.starts ≡ 8
  pub starts : (k : ℕ) → k < 8 → get_or places.starts k 0 ≡ start_in_force k before
  pub placed : ArePlaced message before
  pub force : HasInForce before places.force

-- a section that stands after these, as the frame gives it
pub record Comes (message : List ℕ) (before : List Placed) (number start : ℕ) (s : List ℕ) : Type 0 where
  pub stands : StandsAt message start number
  pub octets_are : s ≡ section_at message start
  pub itself : StatesItself number s
  pub follows : IsTrue (may_follow (last_number before) number)

-- what is kept of a field: where the sections in force for it begin
pub record IsField (message : List ℕ) (before : List Placed) (places : Places) : Type 0 where
  pub stand : HasPlaces message before places
  pub ends : last_number before ≡ 7

-- its packing is one whose values can be read
abbrev pub IsRead : List Placed → Type 0
IsRead before = is_opaque_packing (octets_in_force 5 before) ≡ false

-- what is kept of some first fields of a message that is read under this profile
abbrev pub KeepsFields : Profile → List ℕ → List Places → Type 0
KeepsFields profile message fields =
    (i : ℕ) (places : Places) → slice_get fields i ≡ Some places
    → IsField message (field_sections message (i + 1)) places × (places.force.profile ≡ profile)

-- what a message keeps of its fields
pub record Keeps (profile : Profile) (message : List ℕ) (fields : List Places) : Type 0 where
  pub accepted : IsMessageUnder profile message
  pub count : length fields ≡ field_count message
  pub few : length fields ≤ 4096
  pub some : 1 ≤ length fields
  pub each : KeepsFields profile message fields

-- what it keeps of them, by the profile under which it is read
pub record KeepsUnderSome (message : List ℕ) (fields : List Places) : Type 0 where
  pub profile : Profile
  pub keeps : Keeps profile message fields
