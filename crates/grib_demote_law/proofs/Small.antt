-- What a field is demoted to has octets.
use Rattle.std.proofs.Common.{ℕ, ◌+◌, ◌<◌, ◌==◌, ◌%◌, ◌&&◌, Bool, true, false, cond, List, [], ◌∷◌, ◌++◌, length, drop, replicate, All, arith}
use Rattle.std.proofs.lemmas.List.Elements.{All-nil, All-cons, All-append, All-drop, All-replicate, All-from_recursion}
use Rattle.grib_bits.specs.Encoding.{octets_of, number_octets, all_octets, section1_of}
use Rattle.grib_bits.specs.Listed.{numbers_octets}
use Rattle.grib_bits.proofs.Encoding.{All-octets_of}
use Rattle.grib_bits.proofs.Listed.{AreOctets-from_All, All-from_AreOctets}
use Rattle.grib2_sections.specs.Head.{indicator, end_mark}
use Rattle.grib2_grids.specs.Grid.{row_list, grid_points}
use Rattle.grib2_products.specs.Spelled.{coordinate_list}
use Rattle.grib2_message.specs.Fields.{part_octets}
use Rattle.grib2_message.proofs.Holding.{field_octets}
use Rattle.grib_packing.specs.declared.written.Packed.{Packed}
use Rattle.grib_params.specs.declared.matching.TableMatch.{TableMatch}
use Rattle.grib_params.specs.Table.{Entries}
use Rattle.grib_bits.specs.declared.adding.Number.{Number}
use Rattle.grib_bits.specs.declared.adding.Number.TheVariants.{One, Two, Three, Four}
use Rattle.grib_demote.specs.Values.{evened, has_bitmap, bitmap_numbers, bitmap_octets, bitmap_section, packing_numbers, data_octets, data_section}
use Rattle.grib_demote.specs.Grids.{header, template_numbers}
use Rattle.grib_demote.specs.Products.{identification_numbers, local_octets, has_local, coordinate_numbers}
use Rattle.grib_demote.specs.Demoted.{grid_octets, message_with, demoted, demoted_sections}
use Rattle.grib_demote_law.specs.Field.{MayBeDemoted}
use Rattle.grib_demote_law.proofs.Accepted as accepted

abbrev IsOctet : ℕ → Type 0
IsOctet octet = octet < 256

number_small : (n : Number) → All IsOctet (number_octets n)
number_small (One value) = All-octets_of 1 value
number_small (Two value) = All-octets_of 2 value
number_small (Three value) = All-octets_of 3 value
number_small (Four value) = All-octets_of 4 value

numbers_small : (numbers : List Number) → All IsOctet (all_octets numbers)
numbers_small [] = All-nil IsOctet
numbers_small (n ∷ numbers) = All-append IsOctet (number_octets n) (all_octets numbers) (number_small n) (numbers_small numbers)

listed_small : (xs : List ℕ) → All IsOctet (numbers_octets 2 xs)
listed_small [] = All-nil IsOctet
listed_small (x ∷ xs) = All-append IsOctet (octets_of 2 x) (numbers_octets 2 xs) (All-octets_of 2 x) (listed_small xs)

section_small : (contents : List ℕ) → All IsOctet contents → All IsOctet (section1_of contents)
section_small contents small = All-append IsOctet (octets_of 3 (3 + length contents)) contents (All-octets_of 3 (3 + length contents)) small

evened_small : (contents : List ℕ) → All IsOctet contents → All IsOctet (evened contents)
evened_small contents small = All-append IsOctet contents (cond (length contents % 2 == 0) (0 ∷ []) []) small (by (length contents % 2 == 0))
  where
    by : (b : Bool) → All IsOctet (cond b (0 ∷ []) [])
    by true = All-cons IsOctet 0 [] (omega arith) (All-nil IsOctet)
    by false = All-nil IsOctet

local_small : (keep : Bool) (s2 : List ℕ) → All IsOctet s2 → All IsOctet (local_octets keep s2)
local_small keep s2 small = by (keep && has_local s2)
  where
    by : (b : Bool) → All IsOctet (cond b (replicate 12 0 ++ drop 5 s2) [])
    by true = All-append IsOctet (replicate 12 0) (drop 5 s2) (All-replicate IsOctet 12 0 (omega arith)) (All-drop IsOctet 5 s2 small)
    by false = All-nil IsOctet

bitmap_small : (values : Packed) (n : ℕ) → All IsOctet values.section6 → All IsOctet (bitmap_section values n)
bitmap_small values n small = by (has_bitmap values)
  where
    by : (b : Bool) → All IsOctet (cond b (section1_of (bitmap_octets values n)) [])
    by true =
        section_small (bitmap_octets values n)
        (evened_small (all_octets (bitmap_numbers n) ++ drop 6 values.section6)
        (All-append IsOctet (all_octets (bitmap_numbers n)) (drop 6 values.section6) (numbers_small (bitmap_numbers n)) (All-drop IsOctet 6 values.section6 small)))
    by false = All-nil IsOctet

data_small : (s5 : List ℕ) (values : Packed) → All IsOctet values.section7 → All IsOctet (data_section s5 values)
data_small s5 values small =
    section_small (data_octets s5 values)
    (evened_small (all_octets (packing_numbers s5 values) ++ drop 5 values.section7)
    (All-append IsOctet (all_octets (packing_numbers s5 values)) (drop 5 values.section7) (numbers_small (packing_numbers s5 values)) (All-drop IsOctet 5 values.section7 small)))

grid_small : (words s3 : List ℕ) → All IsOctet (section1_of (grid_octets words s3))
grid_small words s3 =
    section_small (grid_octets words s3)
    (All-append IsOctet (all_octets (header (length words) _ s3)) (all_octets (template_numbers s3) ++ (all_octets (coordinate_numbers words) ++ numbers_octets 2 (row_list s3))) (numbers_small (header (length words) _ s3))
    (All-append IsOctet (all_octets (template_numbers s3)) (all_octets (coordinate_numbers words) ++ numbers_octets 2 (row_list s3)) (numbers_small (template_numbers s3))
    (All-append IsOctet (all_octets (coordinate_numbers words)) (numbers_octets 2 (row_list s3)) (numbers_small (coordinate_numbers words)) (listed_small (row_list s3)))))

message_small : (sections : List ℕ) → All IsOctet sections → All IsOctet (message_with sections)
message_small sections small =
    let total = 8 + length sections + 4 in
    let mark : All IsOctet end_mark = All-from_recursion IsOctet end_mark (omega arith, (omega arith, (omega arith, (omega arith, tt)))) in
    let first : All IsOctet indicator = All-from_recursion IsOctet indicator (omega arith, (omega arith, (omega arith, (omega arith, tt)))) in
    All-append IsOctet indicator (octets_of 3 total ++ 1 ∷ (sections ++ end_mark)) first
    (All-append IsOctet (octets_of 3 total) (1 ∷ (sections ++ end_mark)) (All-octets_of 3 total)
    (All-cons IsOctet 1 (sections ++ end_mark) (omega arith) (All-append IsOctet sections end_mark small mark)))

pub demoted_small : (table : Entries) (matching : TableMatch) (keep any : Bool) (message : List ℕ) (i : ℕ) → MayBeDemoted table matching keep any message i → All (λ octet. octet < 256) (demoted table matching keep message i)
demoted_small table matching keep any message i may =
    let part = λ (k : ℕ). part_octets message i k in
    let values = accepted.values table matching keep any message i may in
    let simple = accepted.simple table matching keep any message i may in
    let n = grid_points (part 3) in
    let a = accepted.a table matching keep any message i may in
    let b = accepted.b table matching keep any message i may in
    let d = accepted.d table matching keep any message i may in
    let ids = identification_numbers (accepted.told table matching keep any message i may) (has_bitmap values) (part 1) (part 4) (part 5) in
    let two : All IsOctet (part 2) = All-from_AreOctets (part 2) (field_octets message i 2 (AreOctets-from_All message may.small)) in
    message_small (demoted_sections table matching keep message i)
    (All-append IsOctet a (b ++ (bitmap_section values n ++ d))
    (section_small (all_octets ids ++ local_octets keep (part 2)) (All-append IsOctet (all_octets ids) (local_octets keep (part 2)) (numbers_small ids) (local_small keep (part 2) two)))
    (All-append IsOctet b (bitmap_section values n ++ d) (grid_small (coordinate_list (part 4)) (part 3))
    (All-append IsOctet (bitmap_section values n) d (bitmap_small values n simple.bitmap.are_octets) (data_small (part 5) values simple.values.are_octets))))
