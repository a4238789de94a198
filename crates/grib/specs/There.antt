-- Octets of which it is known what they begin with, whatever follows them.
use Rattle.std.specs.Prelude.{◌≡◌, ◌≤◌, ◌⊎◌, false, List, ℕ, length, Some, None}
use Rattle.grib_base.specs.declared.fault.Fault.{Fault}
use Rattle.grib_base.specs.Rules.{first_fault}
use Rattle.grib2_sections.specs.Head.{head_rules, head_of}
use Rattle.grib_stream.specs.Outcomes.{is_truncated}

-- as many octets as they state are there, or Section 0 is refused, and not for the end of the octets
abbrev pub IsThere : List ℕ → Type 0
IsThere octets =
    ((first_fault (head_rules octets) ≡ None) × ((head_of octets).total ≤ length octets))
    ⊎ ((fault : Fault) × (first_fault (head_rules octets) ≡ Some fault) × (is_truncated fault.reason ≡ false))
