-- Which octets are a message of edition 2, and why others are refused (WMO-No. 306, Volume I.2, FM 92
-- GRIB edition 2, in the profiles of docs/PROFILE.md): the rules of Section 0, then, for each section in
-- turn, the rules of its frame and those of its contents. The first rule that fails gives the refusal.
use Rattle.std.specs.Prelude.{ℕ, zero, suc, ◌+◌, Option, Some, None, List, [], ◌∷◌, length, get_or}
use Rattle.grib_base.specs.declared.fault.Fault.{Fault}
use Rattle.grib_base.specs.declared.fault.Reason.TheVariants.{Truncated}
use Rattle.grib_base.specs.declared.profile.Profile.{Profile}
use Rattle.grib_base.specs.declared.profile.Profile.TheVariants.{Stated}
use Rattle.grib_base.specs.Rules.{first_fault, first_fault_at, located, refusal}
use Rattle.grib2_sections.specs.Verdict.{Verdict, Accepted, Refused}
use Rattle.grib2_sections.specs.Head.{head_rules, total_length}
use Rattle.grib2_sections.specs.Frame.{Placed, placed_at, section_number, Step, End, Fails, Next, step}
use Rattle.grib2_sections.specs.Identification.{identification_rules}
use Rattle.grib2_grids.specs.Opaque.{grid_rules_under}
use Rattle.grib2_products.specs.Opaque.{product_rules_under}
use Rattle.grib_bitmap.specs.Mask.{bitmap_rules}
use Rattle.grib_packing.specs.Packing.{value_count}
use Rattle.grib_packing.specs.Entries.{packing_fault_under, data_fault}
use Rattle.grib2_message.specs.View.{last_number, octets_in_force, points_in_force, earlier_mask, section_count}

-- the refusal of a section's contents, in view of the sections before it
abbrev pub Contents : Type 0
Contents = List Placed → Placed → Option Fault

abbrev pub no_rules : Contents
no_rules before s = None

abbrev pub identification_fault : Contents
identification_fault before s = first_fault_at s.start (identification_rules s.octets)

abbrev pub grid_fault : Profile → Contents
grid_fault profile before s = first_fault_at s.start (grid_rules_under profile s.octets)

abbrev pub product_fault : Profile → Contents
product_fault profile before s = first_fault_at s.start (product_rules_under profile s.octets (section_count 4 before + 1))

abbrev pub representation_fault : Profile → Contents
representation_fault profile before s = located s.start (packing_fault_under profile s.octets (points_in_force before))

abbrev pub bitmap_fault : Contents
bitmap_fault before s =
    first_fault_at s.start (bitmap_rules s.octets (points_in_force before) (value_count (octets_in_force 5 before)) (earlier_mask before))

abbrev pub values_fault : Contents
values_fault before s = located s.start (data_fault (octets_in_force 5 before) s.octets)

-- by the number of the section, from 0 on; Section 2 has no rules
abbrev pub contents_faults : Profile → List Contents
contents_faults profile =
    no_rules ∷ identification_fault ∷ no_rules ∷ grid_fault profile ∷ product_fault profile ∷ representation_fault profile ∷ bitmap_fault
    ∷ values_fault ∷ []

abbrev pub section_fault_under : Profile → Contents
section_fault_under profile before s = get_or (contents_faults profile) (section_number s.octets) no_rules before s

-- refused, or whatever comes after
abbrev pub unless_refused : Option Fault → (Unit {0} → Verdict) → Verdict
unless_refused (Some fault) next = Refused fault
unless_refused None next = next tt

-- by what stands at octet q, after the sections before it; a section that is not refused is handed on
abbrev pub verdict_at : Profile → List Placed → ℕ → ℕ → Step → (List ℕ → Verdict) → Verdict
verdict_at profile before q total End next = Accepted total
verdict_at profile before q total (Fails fault) next = Refused fault
verdict_at profile before q total (Next s) next = unless_refused (section_fault_under profile before (placed_at q s)) (λ _. next s)

-- From octet q on, after the sections before it. `turns` bounds the number of sections; with one for
-- each octet the bound is never met, since a section takes five octets at least.
abbrev pub verdict_from : Profile → ℕ → List ℕ → List Placed → ℕ → Verdict
verdict_from profile zero message before q = Refused (refusal (length message + 1) Truncated (length message))
verdict_from profile (suc turns) message before q =
    let total = total_length message in
    verdict_at profile before q total (step message total (last_number before) q)
    (λ s. verdict_from profile turns message (placed_at q s ∷ before) (q + length s))

-- The verdict of edition 2 on the octets of an input from a `GRIB` on: accepted, with the length of the
-- message, or refused. It is asked where octet 8 is not 1 or does not stand; edition 1 has a verdict of
-- its own.
abbrev pub verdict_under : Profile → List ℕ → Verdict
verdict_under profile rest = unless_refused (first_fault (head_rules rest)) (λ _. verdict_from profile (length rest + 1) rest [] 17)

-- ---- under the profile of the stated templates

abbrev pub section_fault : Contents
section_fault = section_fault_under Stated

abbrev pub verdict_2 : List ℕ → Verdict
verdict_2 = verdict_under Stated
