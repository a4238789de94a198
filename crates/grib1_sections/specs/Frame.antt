-- The frame of the sections after Section 0 (WMO-No. 306, Volume I.2, FM 92 GRIB edition 1): octets 1-3
-- of a section are its length, and `7777` ends the message.
use Rattle.std.specs.Prelude.{ℕ, ◌+◌, ◌-◌, not, ◌||◌, List, [], ◌∷◌, length, nat_lt}
use Rattle.grib_bits.specs.Octets.{octets, octet_list}
use Rattle.grib_base.specs.declared.fault.Reason.TheVariants.{Truncated, SectionLength, EndMark, LengthDisagrees}
use Rattle.grib_base.specs.Rules.{Rule, rule}
use Rattle.grib2_sections.specs.Head.{total_length_1}
use Rattle.grib2_sections.specs.Frame.{ends_at}

abbrev pub section_length : List ℕ → ℕ
section_length section = octets section 1 3

-- rules B1 to B3, of a section at octet q whose kind has this least length
abbrev pub frame_rules : List ℕ → ℕ → ℕ → List Rule
frame_rules message q least =
    let k = length message in
    let l = octets message q (q + 2) in
    rule (nat_lt k (q + 2)) (k + 1) Truncated k  -- B1
    ∷ rule (nat_lt l least || nat_lt (total_length_1 message) (q - 1 + l + 4)) q SectionLength l  -- B2
    ∷ rule (nat_lt k (q - 1 + l)) (k + 1) Truncated k  -- B3
    ∷ []

-- the octets of the section at octet q, and the octet at which what follows it begins
abbrev pub section_at : List ℕ → ℕ → List ℕ
section_at message q = octet_list message q (q - 1 + octets message q (q + 2))

abbrev pub after : List ℕ → ℕ → ℕ
after message q = q + octets message q (q + 2)

-- rules B5.1 to B5.3, of the End Section at octet q
abbrev pub end_rules : List ℕ → ℕ → List Rule
end_rules message q =
    let k = length message in
    let total = total_length_1 message in
    rule (nat_lt k (q + 3)) (k + 1) Truncated k  -- B5.1
    ∷ rule (not (ends_at message q)) q EndMark (octets message q (q + 3))  -- B5.2
    ∷ rule (nat_lt (q + 3) total) (q + 4) LengthDisagrees (total - (q + 3))  -- B5.3
    ∷ []
