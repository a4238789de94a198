-- Section 0, the indicator section (WMO-No. 306, Volume I.2, FM 92 GRIB): octets 1-4 `GRIB`, octet 8 the
-- edition. Edition 2: octet 7 the discipline, octets 9-16 the total length. Edition 1: octets 5-7 the
-- total length.
use Rattle.std.specs.Prelude.{ℕ, ◌+◌, not, cond, ◌&&◌, ◌||◌, List, [], ◌∷◌, length, nat_lt, ◌==◌}
use Rattle.grib_bits.specs.Octets.{octets}
use Rattle.grib_base.specs.declared.fault.Reason.TheVariants.{Truncated, Edition, TotalLength}
use Rattle.grib_base.specs.Rules.{Rule, rule}
use Rattle.grib_base.specs.declared.limits.TheConstants.{MOST_OCTETS}
use Rattle.grib2_sections.specs.declared.indicator.Head.{Head}

-- the octets `GRIB` and `7777`
abbrev pub indicator : List ℕ
indicator = 71 ∷ 82 ∷ 73 ∷ 66 ∷ []

abbrev pub end_mark : List ℕ
end_mark = 55 ∷ 55 ∷ 55 ∷ 55 ∷ []

abbrev pub edition : List ℕ → ℕ
edition message = octets message 8 8

abbrev pub discipline : List ℕ → ℕ
discipline message = octets message 7 7

-- the total length of a message of edition 2, and of edition 1
abbrev pub total_length : List ℕ → ℕ
total_length message = octets message 9 16

abbrev pub total_length_1 : List ℕ → ℕ
total_length_1 message = octets message 5 7

-- rules H1 to H5: the octets are those of the input from the message's first octet on
abbrev pub head_rules : List ℕ → List Rule
head_rules message =
    let k = length message in
    let e = edition message in
    let total = total_length message in
    let total_1 = total_length_1 message in
    rule (nat_lt k 8) (k + 1) Truncated k  -- H1
    ∷ rule (not (e == 1) && not (e == 2)) 8 Edition e  -- H2
    ∷ rule (e == 2 && nat_lt k 16) (k + 1) Truncated k  -- H3
    ∷ rule (e == 2 && (nat_lt total 20 || nat_lt MOST_OCTETS total)) 9 TotalLength total  -- H4
    ∷ rule (e == 1 && nat_lt total_1 12) 5 TotalLength total_1  -- H5
    ∷ []

-- what Section 0 tells of a message of edition 1 or 2; edition 1 has no discipline, and here 0
abbrev pub head_of : List ℕ → Head
head_of message =
    let one : Head = record { edition = 1; discipline = 0; total = total_length_1 message } in
    let two : Head = record { edition = 2; discipline = discipline message; total = total_length message } in
    cond (edition message == 1) one two
