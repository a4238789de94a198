-- What the sections of an accepted message hold.
use Rattle.std.proofs.Common.{◌≡◌, ℕ, ◌+◌, ◌*◌, ◌^◌, ◌<◌, ◌≤◌, ◌==◌, ◌||◌, Bool, true, false, cond, Option, Some, None, List, length, ap, arith}
use Rattle.std.specs.Option.{option_map_or}
use Rattle.std.proofs.lemmas.Bool.{ltb-false, not-false}
use Rattle.grib_bits.specs.Octets.{octets}
use Rattle.grib_bits.proofs.OctetBits.{AreOctets}
use Rattle.grib_bits.proofs.OctetNumbers.{octets-lt}
use Rattle.grib2_sections.specs.Template.{template, is_template, least_length}
use Rattle.grib1_sections.specs.Frame.{section_length}
use Rattle.grib1_sections.specs.Grammar.{IsSection, IsBitmap}
use Rattle.grib1_sections.specs.Identification.{identification_rules}
use Rattle.grib1_sections.specs.Bitmap.{bitmap_rules}
use Rattle.grib1_sections.specs.Data.{data_rules, bit_width}
use Rattle.grib1_sections.specs.Grid.{grid_types, grid_type, grid_rules, list_place, lists_end, row_count, nj, nv}
use Rattle.grib_base.proofs.Passing.{passes_from_none}
use Rattle.grib_base.specs.declared.limits.TheConstants.{MOST_POINTS}
use Rattle.grib1_sections.proofs.Listed.{holds_lists}
use Rattle.grib_migrate.specs.Held.{Holds, HoldsGrid, HoldsBits}

-- a length of three octets
pub short : (s : List ℕ) → 3 ≤ length s → AreOctets s → section_length s ≡ length s → length s < 2 ^ 24
short s long known e =
    let lt : octets s 1 3 < 2 ^ 24 = octets-lt s 1 3 3 known (omega arith) (omega arith) (omega arith) in
    omega arith

abbrev least_by : Bool → Bool → Bool → Bool → Bool → ℕ
least_by a b c d e =
    option_map_or (λ t. t.least)
    (cond a (Some (template 0 32)) (cond b (Some (template 1 34)) (cond c (Some (template 3 40)) (cond d (Some (template 4 32)) (cond e (Some (template 5 32)) None))))) 0

known_by : (a b c d e : Bool) → (a || (b || (c || (d || (e || false))))) ≡ true → 32 ≤ least_by a b c d e
known_by true b c d e h = omega arith
known_by false true c d e h = omega arith
known_by false false true d e h = omega arith
known_by false false false true e h = omega arith
known_by false false false false true h = omega arith
known_by false false false false false h = cc

known_least : (t : ℕ) → is_template grid_types t ≡ true → 32 ≤ least_length grid_types t
known_least t h = known_by (0 == t) (1 == t) (3 == t) (4 == t) (5 == t) h

grid_holds : (s : List ℕ) → IsSection 6 grid_rules s → HoldsGrid s
grid_holds s is =
    let p = passes_from_none (grid_rules s) is.rules_hold in
    let known = not-false (is_template grid_types (grid_type s)) p.0 in
    let long = ltb-false (length s) (least_length grid_types (grid_type s)) p.1.0 in
    let least = known_least (grid_type s) known in
    let lists = holds_lists s is.rules_hold in
    record {
      known = known;
      long = long;
      least = omega (arith, long, least);
      placed = lists.rows_placed;
      lists = λ rows. within (lists.rows_placed rows) (lists.rows rows) (ap (λ b. cond b (nj s) 0) rows);
    }
  where
    within : 1 ≤ list_place s → list_place s + 4 * nv s + 2 * nj s ≤ length s + 1 → row_count s ≡ nj s → lists_end s ≤ length s
    within low high e = omega (arith, low, high, e)

bits_hold : (o : Option (List ℕ)) (points : ℕ) → IsBitmap points o → HoldsBits o points
bits_hold None points is = tt
bits_hold (Some s) points is =
    let p = passes_from_none (bitmap_rules points s) is.rules_hold in
    ltb-false (8 * length s) (points + 48) p.1.0

numbers_hold : (s : List ℕ) (values : ℕ) → IsSection 11 (data_rules values) s → values * bit_width s + 88 ≤ 8 * length s
numbers_hold s values is =
    let p = passes_from_none (data_rules values s) is.rules_hold in
    ltb-false (8 * length s) (values * bit_width s + 88) p.1.1.1.1.0

pub all_hold : (s1 s2 : List ℕ) (s3 : Option (List ℕ)) (s4 : List ℕ) (points values : ℕ) → IsSection 28 identification_rules s1 → IsSection 6 grid_rules s2 → IsBitmap points s3
    → IsSection 11 (data_rules values) s4 → points ≤ MOST_POINTS → Holds s1 s2 s3 s4 points values
all_hold s1 s2 s3 s4 points values one two three four few = record {
  identification = one.long;
  stands = one.length_stands;
  grid = grid_holds s2 two;
  bitmap = bits_hold s3 points three;
  head = four.long;
  numbers = numbers_hold s4 values four;
  stands_4 = four.length_stands;
  few = few;
}
