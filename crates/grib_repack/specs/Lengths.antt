-- How long a message is with other Sections 5, 6 and 7 of its fields.
use Rattle.std.specs.Prelude.{ℕ, ◌+◌, ◌-◌, List, length, map, sum_by}
use Rattle.std.specs.List.{range_with_len}
use Rattle.grib_packing.specs.declared.written.Packed.{Packed}
use Rattle.grib_packing.specs.Misfits.{Target}
use Rattle.grib2_message.specs.Fields.{field_count, part_octets}
use Rattle.grib_repack.specs.Repacked.{packed_field}

-- how many octets the Sections 5, 6 and 7 have that field i ends with
abbrev pub own_length : List ℕ → ℕ → ℕ
own_length message i =
    length (part_octets message i 5) + length (part_octets message i 6) + length (part_octets message i 7)

-- and those of a field that is packed
abbrev pub packed_length : Packed → ℕ
packed_length part = length part.section5 + length part.section6 + length part.section7

-- how many octets of a message stay: all but those of these sections of its fields
abbrev pub kept_length : List ℕ → ℕ
kept_length message = length message - sum_by (own_length message) (range_with_len 1 (field_count message))

-- those that stay, and those of the new sections of the first n fields
abbrev pub length_with : Target → List ℕ → ℕ → ℕ
length_with target message n =
    kept_length message + sum_by packed_length (map (packed_field target message) (range_with_len 1 n))
