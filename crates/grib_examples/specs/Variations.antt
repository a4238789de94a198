-- Worked messages with whole sections exchanged.
use Rattle.std.specs.Prelude.{ℕ, ◌+◌, List, [], ◌∷◌, ◌++◌, drop}
use Rattle.grib_base.specs.declared.fault.Reason.TheVariants.{Truncated}
use Rattle.grib_base.specs.Rules.{refusal}
use Rattle.grib_base.specs.declared.fault.Fault.{Fault}
use Rattle.grib2_sections.specs.Verdict.{Verdict, Refused as refused_by}
use Rattle.grib_stream.specs.declared.outcome.Outcome.TheVariants.{Done, Refused, Kept}
use Rattle.grib_reasons.specs.declared.cause.Cause.{Cause}
use Rattle.grib_stream.specs.Acts.{writes}
use Rattle.grib_stream.specs.Answer.{Answer}
use Rattle.grib_command.specs.Outcomes.{note_of}
use Rattle.grib_examples.specs.Hex.{hex, put}
use Rattle.grib_examples.specs.Messages.{head, end, identification, grid, product, representation, no_bitmap, values, rotated, marks_only, three_values, grid_3_by_1, differences}

-- what is said of a message that ends after k octets
abbrev pub truncated_after : ℕ → Verdict
truncated_after k = refused_by (refusal (k + 1) Truncated k)

-- M1 with a bitmap that has no bits
abbrev pub bitmap_without_bits : List ℕ
bitmap_without_bits =
    head (hex "00000000000000B7") ++ identification ++ grid ++ product ++ representation ++ hex "00000006 06 00" ++ values ++ end

-- M1 as template 3.40 with a list of rows after 72 octets, 187 octets
abbrev pub reduced_gaussian : List ℕ → List ℕ
reduced_gaussian rows =
    head (hex "00000000000000BB") ++ identification
    ++ hex "0000004C" ++ put (put (drop 4 grid) 7 (hex "02 01 0028")) 27 (hex "FFFFFFFF") ++ rows
    ++ product ++ representation ++ no_bitmap ++ values ++ end

-- T1 with a list of rows after 84 octets: `rows` of octet 11 = 2, meaning 1, Ni all ones
abbrev pub listed_rotated : List ℕ → List ℕ → List ℕ → List ℕ
listed_rotated total length_octets rows =
    head total ++ identification
    ++ length_octets ++ put (put rotated 7 (hex "02 01")) 27 (hex "FFFFFFFF") ++ rows
    ++ product ++ representation ++ no_bitmap ++ values ++ end

abbrev pub reduced_rotated : List ℕ
reduced_rotated = listed_rotated (hex "00000000000000C7") (hex "00000058") (hex "0001 0003")

-- the list cut after its first number
abbrev pub reduced_rotated_cut : List ℕ
reduced_rotated_cut = listed_rotated (hex "00000000000000C5") (hex "00000056") (hex "0001")

-- M1 with numbers of 0 bits and an empty Section 7, 179 octets
abbrev pub no_bits : List ℕ
no_bits =
    head (hex "00000000000000B3") ++ identification ++ grid ++ product ++ put representation 20 (hex "00")
    ++ no_bitmap ++ hex "00000005 07" ++ end

-- C2 with no groups and an empty Section 7, 205 octets
abbrev pub no_groups : List ℕ
no_groups =
    head (hex "00000000000000CD") ++ identification ++ grid ++ product ++ put marks_only 32 (hex "00000000")
    ++ no_bitmap ++ hex "00000005 07" ++ end

-- M3 with no groups and an empty Section 7, 207 octets: shorter than the extra descriptors would be
abbrev pub no_differences : List ℕ
no_differences =
    head (hex "00000000000000CF") ++ identification ++ grid ++ product ++ put differences 32 (hex "00000000")
    ++ no_bitmap ++ hex "00000005 07" ++ end

-- Sections 0, 1 and 3 of M1 and the end mark, 113 octets
abbrev pub ends_after_grid : List ℕ
ends_after_grid = head (hex "0000000000000071") ++ identification ++ grid ++ end

-- M2 with a second grid of three points before the second field, which has the bitmap of the first; 324
-- octets
abbrev pub other_grid_between : List ℕ
other_grid_between =
    head (hex "0000000000000144") ++ identification ++ grid
    ++ product ++ three_values ++ hex "00000007 06 00 B0" ++ hex "00000008 07 000102"
    ++ grid_3_by_1 ++ product ++ three_values ++ hex "00000006 06 FE" ++ hex "00000008 07 030405"
    ++ end

-- Section 5 of 24,000 values with second differences, all in one group of width 0
abbrev pub steep : List ℕ
steep =
    hex "00000031 05 00005DC0 0003 C2ED4000 8003 0001 20 00 01 00 FFFFFFFF FFFFFFFF 00000001"
    ++ hex "00 00 00000001 01 00005DC0 06 02 00"

-- Section 5 of up to 255 values with second differences, all in one group of width 0
abbrev pub second_order : ℕ → List ℕ
second_order count =
    hex "00000031 05 000000" ++ count ∷ hex "0003 C2ED4000 8003 0001 00 00 01 00 FFFFFFFF FFFFFFFF 00000001"
    ++ hex "00 00 00000001 01 000000" ++ count ∷ hex "06 02 01"

-- the answer where all is answered: what is written for the messages, and at the end of the input
abbrev pub done_with : List ℕ → List ℕ → Answer
done_with text ending = record { acts = writes text; ending = writes ending; note = []; outcome = Done }

-- the answer where this message, counted from 1, is refused after these lines
abbrev pub refused_after : List ℕ → ℕ → Fault → Answer
refused_after text number fault =
    let outcome = Refused (record { message = number; fault = fault }) in
    record { acts = writes text; ending = []; note = note_of outcome; outcome = outcome }

-- and where the first message is kept by a cause
abbrev pub kept_by : Cause → Answer
kept_by cause =
    let outcome = Kept (record { message = 1; cause = cause }) in
    record { acts = []; ending = []; note = note_of outcome; outcome = outcome }

-- and where the input ends after k octets of its first message
abbrev pub cut_answer : ℕ → Answer
cut_answer k = refused_after [] 1 (refusal (k + 1) Truncated k)
