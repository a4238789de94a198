-- What a packing may answer.
use Rattle.std.specs.Prelude.{◌≡◌, ◌≤◌, ℕ, Bool, None, Result, MatchResult, List, length}
use Rattle.grib_base.specs.declared.fault.ReadFault.{ReadFault}
use Rattle.grib_base.specs.Faults.{IsReadFault}
use Rattle.grib_base.specs.Rules.{located}
use Rattle.grib_bitmap.specs.Mask.{present_count}
use Rattle.grib_packing.specs.declared.column.Column.{Column}
use Rattle.grib_packing.specs.Entries.{packing_fault, data_fault, column_from}
use Rattle.grib_packing.specs.Packing.{packing_template, value_count}

-- A Section 5 is accepted and has this template, and the mask has as many present points as it has values.
pub record MayBeUnpacked (template : ℕ) (s5 : List ℕ) (mask : List Bool) : Type 0 where
  pub some : 1 ≤ length mask
  pub few : length mask ≤ 33554432
  pub accepted : packing_fault s5 (length mask) ≡ None
  pub is_template : packing_template s5 ≡ template
  pub values : present_count mask ≡ value_count s5

-- The column of Sections 5 and 7 and the mask exactly where no rule of Section 7 fails, which begins at
-- octet `start` of the message.
abbrev pub IsUnpacked : List ℕ → List Bool → ℕ → List ℕ → Result Column ReadFault → Type 0
IsUnpacked s5 mask start s7 result =
    MatchResult result (λ column. (data_fault s5 s7 ≡ None) × (column ≡ column_from s5 mask s7)) (IsReadFault (located start (data_fault s5 s7)))
