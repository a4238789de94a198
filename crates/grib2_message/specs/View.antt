-- What is in force at a place of a message of edition 2: the sections before it, the newest first
-- (WMO-No. 306, Volume I.2, FM 92 GRIB edition 2: what a group of sections does not repeat stays in force).
use Rattle.std.specs.Prelude.{ℕ, Bool, ◌&&◌, Option, Some, None, List, [], ◌∷◌, ◌==◌, count_by, find}
use Rattle.std.specs.Option.{option_map_or}
use Rattle.grib_base.specs.Rules.{choose}
use Rattle.grib2_sections.specs.Frame.{Placed, section_number}
use Rattle.grib2_grids.specs.Grid.{grid_points}
use Rattle.grib_bitmap.specs.Mask.{bitmap_indicator, own_mask, mask_of}

abbrev pub is_numbered : ℕ → Placed → Bool
is_numbered number s = section_number s.octets == number

-- the number of the last section, 0 where only Section 0 stands before
abbrev pub last_number : List Placed → ℕ
last_number [] = 0
last_number (s ∷ before) = section_number s.octets

-- the last section with this number
abbrev pub section_in_force : ℕ → List Placed → Option Placed
section_in_force number before = find (is_numbered number) before

-- its octets, where it stands
abbrev pub octets_in_force : ℕ → List Placed → List ℕ
octets_in_force number before = option_map_or (λ s. s.octets) (section_in_force number before) []

-- the number of grid points in force
abbrev pub points_in_force : List Placed → ℕ
points_in_force before = grid_points (octets_in_force 3 before)

-- the sections from the last Section 6 with the indicator 0 on, none where there is no such section
abbrev pub earlier_bitmap : List Placed → List Placed
earlier_bitmap [] = []
earlier_bitmap (s ∷ before) =
    choose (is_numbered 6 s && (bitmap_indicator s.octets == 0)) (λ _. s ∷ before) (λ _. earlier_bitmap before)

-- the octets of the first of some sections, none where there is none
abbrev pub first_octets : List Placed → List ℕ
first_octets [] = []
first_octets (s ∷ before) = s.octets

-- the octet of the message at which it begins, 0 where there is none
abbrev pub first_start : List Placed → ℕ
first_start [] = 0
first_start (s ∷ before) = s.start

-- the Section 6 with the bits in force: the last one, or, where that repeats an earlier bitmap (indicator
-- 254), the last one before it with the indicator 0
abbrev pub own_bitmap : List Placed → List ℕ
own_bitmap before =
    let s = octets_in_force 6 before in
    choose (bitmap_indicator s == 254) (λ _. first_octets (earlier_bitmap before)) (λ _. s)

-- the octet of the message at which that Section 6 begins
abbrev pub own_bitmap_start : List Placed → ℕ
own_bitmap_start before =
    choose (bitmap_indicator (octets_in_force 6 before) == 254) (λ _. first_start (earlier_bitmap before))
    (λ _. option_map_or (λ s. s.start) (section_in_force 6 before) 0)

-- the mask of the first of these sections, in view of the others
abbrev pub bitmap_mask : List Placed → Option (List Bool)
bitmap_mask [] = None
bitmap_mask (s ∷ before) = Some (own_mask s.octets (points_in_force before))

-- the mask of the last Section 6 with the indicator 0
abbrev pub earlier_mask : List Placed → Option (List Bool)
earlier_mask before = bitmap_mask (earlier_bitmap before)

-- the mask of the last Section 6
abbrev pub mask_in_force : List Placed → List Bool
mask_in_force [] = []
mask_in_force (s ∷ before) =
    choose (is_numbered 6 s)
    (λ _. mask_of s.octets (points_in_force before) (earlier_mask before))
    (λ _. mask_in_force before)

-- how many sections with this number stand before
abbrev pub section_count : ℕ → List Placed → ℕ
section_count number before = count_by (is_numbered number) before
