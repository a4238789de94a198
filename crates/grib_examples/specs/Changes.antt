-- Worked messages in other packings, and the answers to jobs that change messages.
use Rattle.std.specs.Prelude.{ℕ, List, [], ◌++◌}
use Rattle.grib_stream.specs.declared.outcome.Outcome.TheVariants.{Done, Kept}
use Rattle.grib_reasons.specs.declared.cause.Cause.{Cause}
use Rattle.grib_stream.specs.Acts.{writes}
use Rattle.grib_stream.specs.Answer.{Answer}
use Rattle.grib_examples.specs.Hex.{hex}
use Rattle.grib_examples.specs.Messages.{head, end, identification, grid, grid_3_by_1, product, representation, three_values, no_bitmap}

-- the answer where all was changed to these octets
abbrev pub changed_to : List ℕ → List ℕ → Answer
changed_to octets note = record { acts = writes octets; ending = []; note = note; outcome = Done }

-- the answer where this message, counted from 1, is kept after these octets
abbrev pub kept_after : List ℕ → ℕ → Cause → List ℕ → Answer
kept_after octets message cause note =
    record { acts = writes octets; ending = []; note = note; outcome = Kept (record { message = message; cause = cause }) }

-- the field of C1 in simple packing with a bitmap: 5, missing and 6, 181 octets
abbrev pub c1_in_simple : List ℕ
c1_in_simple =
    head (hex "00000000000000B5") ++ identification ++ grid_3_by_1 ++ product
    ++ hex "00000015 05 00000002 0000 C2ED4000 8003 0001 03 00" ++ hex "00000007 06 00 A0" ++ hex "00000006 07 B8" ++ end

-- M1 with 7 at the first, third and fourth point, 183 octets
abbrev pub sevens : List ℕ
sevens =
    head (hex "00000000000000B7") ++ identification ++ grid ++ product
    ++ three_values ++ hex "00000007 06 00 B0" ++ hex "00000008 07 070707" ++ end

-- and in groups, 209 octets
abbrev pub sevens_in_groups : List ℕ
sevens_in_groups =
    head (hex "00000000000000D1") ++ identification ++ grid ++ product
    ++ hex "0000002F 05 00000004 0002 C2ED4000 8003 0001 04 00 01 01 FFFFFFFF FFFFFFFF 00000001"
    ++ hex "00 01 00000001 01 00000004 06"
    ++ no_bitmap ++ hex "00000009 07 70 80 0C 40" ++ end

-- M1 with the numbers 10, 12, 15 and 19, 183 octets
abbrev pub second_differences : List ℕ
second_differences =
    head (hex "00000000000000B7") ++ identification ++ grid ++ product
    ++ representation ++ no_bitmap ++ hex "00000009 07 0A0C0F13" ++ end

-- and with second differences, both of them 1: 211 octets
abbrev pub in_second_differences : List ℕ
in_second_differences =
    head (hex "00000000000000D3") ++ identification ++ grid ++ product
    ++ hex "00000031 05 00000004 0003 C2ED4000 8003 0001 00 00 01 00 FFFFFFFF FFFFFFFF 00000001"
    ++ hex "00 00 00000001 01 00000004 06 02 01"
    ++ no_bitmap ++ hex "00000009 07 0A 0C 01 0C" ++ end
