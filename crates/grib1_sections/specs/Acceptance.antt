-- Which octets are a message of edition 1, and why others are refused (WMO-No. 306, Volume I.2, FM 92
-- GRIB edition 1, in the profile of docs/PROFILE.md): the rules of Section 0, then, for each section in
-- turn, the rules of its frame and its own, then those of the End Section. The first rule that fails
-- gives the refusal.
use Rattle.std.specs.Prelude.{ℕ, Bool, cond, Option, Some, None, List}
use Rattle.grib_base.specs.declared.fault.Fault.{Fault}
use Rattle.grib_base.specs.Rules.{Rule, first_fault, first_fault_at, choose, or_later}
use Rattle.grib2_sections.specs.Verdict.{Verdict, Accepted, Refused}
use Rattle.grib2_sections.specs.Head.{head_rules, total_length_1}
use Rattle.grib_bitmap.specs.Mask.{present_count}
use Rattle.grib1_sections.specs.Frame.{frame_rules, end_rules, section_at, after}
use Rattle.grib1_sections.specs.Identification.{identification_rules, flags_bitmap}
use Rattle.grib1_sections.specs.Grid.{grid_rules, grid_points}
use Rattle.grib1_sections.specs.Bitmap.{bitmap_rules, mask_of}
use Rattle.grib1_sections.specs.Data.{data_rules}

-- Where the sections begin: Section 1 at octet 9, each other one and the End Section behind the one
-- before.
abbrev pub identification : List ℕ → List ℕ
identification message = section_at message 9

-- whether there is a Section 3
abbrev pub has_bitmap : List ℕ → Bool
has_bitmap message = flags_bitmap (identification message)

unfoldable pub grid_start : List ℕ → ℕ
grid_start message = after message 9

unfoldable pub bitmap_start : List ℕ → ℕ
bitmap_start message = after message (grid_start message)

unfoldable pub data_start : List ℕ → ℕ
data_start message = cond (has_bitmap message) (after message (bitmap_start message)) (bitmap_start message)

unfoldable pub end_start : List ℕ → ℕ
end_start message = after message (data_start message)

-- The other sections.
abbrev pub grid : List ℕ → List ℕ
grid message = section_at message (grid_start message)

abbrev pub bitmap : List ℕ → Option (List ℕ)
bitmap message = choose (has_bitmap message) (λ _. Some (section_at message (bitmap_start message))) (λ _. None)

abbrev pub data_section : List ℕ → List ℕ
data_section message = section_at message (data_start message)

-- How many grid points there are, which of them are present, and how many.
abbrev pub points_of : List ℕ → ℕ
points_of message = grid_points (grid message)

abbrev pub mask : List ℕ → List Bool
mask message = mask_of (bitmap message) (points_of message)

abbrev pub values_of : List ℕ → ℕ
values_of message = present_count (mask message)

-- the refusal of the section at octet q, by the rules of its frame and by its own
abbrev pub section_fault : List ℕ → ℕ → ℕ → (List ℕ → List Rule) → Option Fault
section_fault message q least rules =
    or_later (first_fault (frame_rules message q least)) (λ _. first_fault_at q (rules (section_at message q)))

-- Section 3, where it is flagged
abbrev pub bitmap_fault : List ℕ → Option Fault
bitmap_fault message =
    choose (has_bitmap message) (λ _. section_fault message (bitmap_start message) 6 (bitmap_rules (points_of message))) (λ _. None)

-- the refusal of what comes after Section 0
abbrev pub sections_fault : List ℕ → Option Fault
sections_fault message =
    or_later (section_fault message 9 28 identification_rules)
    (λ _. or_later (section_fault message (grid_start message) 6 grid_rules)
    (λ _. or_later (bitmap_fault message)
    (λ _. or_later (section_fault message (data_start message) 11 (data_rules (values_of message)))
    (λ _. first_fault (end_rules message (end_start message))))))

abbrev pub message_fault : List ℕ → Option Fault
message_fault message = or_later (first_fault (head_rules message)) (λ _. sections_fault message)

abbrev pub verdict_by : Option Fault → ℕ → Verdict
verdict_by (Some fault) total = Refused fault
verdict_by None total = Accepted total

-- The verdict of edition 1 on the octets of an input from a `GRIB` on: accepted, with the length of the
-- message, or refused. It is asked where octet 8 is 1.
abbrev pub verdict_1 : List ℕ → Verdict
verdict_1 rest = verdict_by (message_fault rest) (total_length_1 rest)
