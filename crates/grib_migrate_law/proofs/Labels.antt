-- ECMWF's labels in Section 2.
use Rattle.std.proofs.Common.{◌≡◌, ℕ, ◌<◌, ◌≤◌, ◌^◌, ◌&&◌, Bool, true, false, All, List, length, ap, ◌∙◌, arith}
use Rattle.std.specs.Prelude.{◌==◌}
use Rattle.std.proofs.lemmas.Bool.{and_parts, eqb-true}
use Rattle.grib_bits.specs.Octets.{octets}
use Rattle.grib_bits.specs.Encoding.{section_of, all_octets}
use Rattle.grib_bits.proofs.Encoding.{num_on-octets_of}
use Rattle.grib_bits.proofs.OctetBits.{AreOctets}
use Rattle.grib_bits.proofs.OctetNumbers.{octets-lt}
use Rattle.grib_bits.proofs.Listed.{AreOctets-from_All}
use Rattle.grib1_sections.specs.Acceptance.{identification}
use Rattle.grib2_message.specs.Fields.{part_octets}
use Rattle.grib_params.specs.Surfaces.{SurfaceEntries}
use Rattle.grib_params.specs.Table.{Entries}
use Rattle.grib_migrate.specs.declared.labels.Local.TheVariants.{Ecmwf}
use Rattle.grib_migrate.specs.Labels.{has_labels, is_derived, label_numbers}
use Rattle.grib_migrate.specs.Migrated.{migrated_with}
use Rattle.grib_migrate_law.specs.Source.{MayBeMigratedWith}
use Rattle.grib_migrate_law.proofs.Migrated.{octets_at, chosen_local}

-- the labels, by what stands in Section 2
abbrev SameLabels : List ℕ → List ℕ → Type 0
SameLabels s1 s2 =
    (octets s2 6 7 ≡ 1) × (octets s2 8 9 ≡ octets s1 42 42) × (octets s2 10 11 ≡ octets s1 43 43) × (octets s2 12 13 ≡ octets s1 44 45) × (octets s2 14 17 ≡ octets s1 46 49)

written_labels : (s1 : List ℕ) → AreOctets s1 → length s1 ≡ 52 → SameLabels s1 (section_of 2 (all_octets (label_numbers s1)))
written_labels s1 known long =
    let class : octets s1 42 42 < 256 = octets-lt s1 42 42 1 known (omega arith) (omega arith) (omega (arith, long)) in
    let kind : octets s1 43 43 < 256 = octets-lt s1 43 43 1 known (omega arith) (omega arith) (omega (arith, long)) in
    let stream : octets s1 44 45 < 65536 = octets-lt s1 44 45 2 known (omega arith) (omega arith) (omega (arith, long)) in
    let version : octets s1 46 49 < 2 ^ 32 = octets-lt s1 46 49 4 known (omega arith) (omega arith) (omega (arith, long)) in (
      num_on-octets_of 2 1 (omega arith),
      num_on-octets_of 2 (octets s1 42 42) (omega (arith, class)),
      num_on-octets_of 2 (octets s1 43 43) (omega (arith, kind)),
      num_on-octets_of 2 (octets s1 44 45) (omega (arith, stream)),
      num_on-octets_of 4 (octets s1 46 49) (omega (arith, version)),
    )

has_length : (s1 : List ℕ) → has_labels s1 ≡ true → length s1 ≡ 52
has_length s1 there =
    let a = and_parts _ _ there in
    let b = and_parts _ _ a.0 in
    let c = and_parts (length s1 == 52) _ b.0 in
    eqb-true (length s1) 52 c.0

pub chosen_labels : (table : Entries) (tops : SurfaceEntries) (m : List ℕ) → MayBeMigratedWith table tops Ecmwf m → has_labels (identification m) ≡ true
    → SameLabels (identification m) (part_octets (migrated_with table tops Ecmwf m) 1 2)
chosen_labels table tops m may there =
    let s1 = identification m in
    rw (chosen_local table tops Ecmwf m may there) (written_labels s1 (octets_at m 9 (AreOctets-from_All m may.small)) (has_length s1 there))
