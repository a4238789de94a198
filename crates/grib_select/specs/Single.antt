-- A field as a message of its own (WMO-No. 306, Volume I.2, FM 92 GRIB edition 2): its sections, octet for
-- octet, between Section 0 with the new total length in octets 9-16 and `7777`.
use Rattle.std.specs.Prelude.{ℕ, ◌+◌, ◌==◌, List, ◌++◌, length, take, map}
use Rattle.std.specs.List.{concat, range_with_len}
use Rattle.grib_base.specs.Rules.{choose}
use Rattle.grib_bits.specs.Encoding.{octets_of}
use Rattle.grib2_sections.specs.Head.{end_mark}
use Rattle.grib2_message.specs.Fields.{part_octets, field_bitmap}

-- The section with this number that is in force for field i, no octets for a Section 2 that is absent. A
-- Section 6 that repeats an earlier bitmap would not be understood alone: the one with the bits stands for it.
abbrev pub field_part : List ℕ → ℕ → ℕ → List ℕ
field_part message i number = choose (number == 6) (λ _. field_bitmap message i) (λ _. part_octets message i number)

-- the first n of Sections 1 to 7 of field i, one after another
abbrev pub first_parts : List ℕ → ℕ → ℕ → List ℕ
first_parts message i n = concat (map (field_part message i) (range_with_len 1 n))

-- field i alone
abbrev pub single_of : List ℕ → ℕ → List ℕ
single_of message i =
    let body = first_parts message i 7 in
    take 8 message ++ (octets_of 8 (16 + length body + 4) ++ (body ++ end_mark))
