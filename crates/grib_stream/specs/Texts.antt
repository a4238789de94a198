-- What is noted of a message that a run goes past, and how far it goes: up to the end that the message states.
use Rattle.std.specs.Prelude.{◌≡◌, ℕ, Bool, List, None}
use Rattle.grib_base.specs.Rules.{first_fault}
use Rattle.grib_base.specs.declared.fault.Fault.{Fault}
use Rattle.grib_reasons.specs.declared.cause.Kept.{Kept}
use Rattle.grib2_sections.specs.Head.{head_rules, head_of}
use Rattle.grib_stream.specs.declared.place.Place.{Place}

-- the line that is noted of a refusal behind which the run goes on, by whether its octets are copied and by its place,
-- and that of a message that cannot be changed
pub record Texts : Type 0 where
  pub refused : Bool → Place → Fault → List ℕ
  pub kept : Place → Kept → List ℕ

-- the total length that octets from a `GRIB` on state, where no rule of Section 0 fails
abbrev pub States : List ℕ → ℕ → Type 0
States octets total = (first_fault (head_rules octets) ≡ None) × ((head_of octets).total ≡ total)
