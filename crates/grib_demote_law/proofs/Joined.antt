-- A message of edition 1 with these sections is in the grammar.
use Rattle.std.proofs.Common.{◌≡◌, ℕ, ◌+◌, ◌≤◌, Option, List, [], ◌++◌, length, refl, ◌∙◌, arith, length-append}
use Rattle.std.specs.Prelude.{unwrap_or, is_some}
use Rattle.grib_bits.proofs.Encoding.{num_on-octets_of}
use Rattle.grib_bitmap.specs.Mask.{present_count}
use Rattle.grib2_sections.specs.Head.{end_mark}
use Rattle.grib1_sections.specs.Frame.{section_length}
use Rattle.grib1_sections.specs.Identification.{identification_rules, flags_bitmap}
use Rattle.grib1_sections.specs.Grid.{grid_rules, grid_points}
use Rattle.grib1_sections.specs.Bitmap.{mask_of}
use Rattle.grib1_sections.specs.Data.{data_rules}
use Rattle.grib1_sections.specs.Grammar.{IsSection, IsBitmap, Grammar1}
use Rattle.grib_bits.specs.Encoding.{section1_of}
use Rattle.grib_demote.specs.Demoted.{message_with}

-- a section states its length
pub stands : (contents : List ℕ) → length contents ≤ 16777212 → section_length (section1_of contents) ≡ length (section1_of contents)
stands contents few =
    let l = 3 + length contents in
    num_on-octets_of 3 l (omega (arith, few)) ∙ (let e : l ≡ length (section1_of contents) = omega arith in e)

pub length-message : (sections : List ℕ) → length (message_with sections) ≡ 12 + length sections
length-message sections = omega (arith, length-append sections end_mark)

pub in_grammar : (a b d : List ℕ) (c : Option (List ℕ)) → length (message_with (a ++ (b ++ (unwrap_or c [] ++ d)))) ≤ 16777215 → IsSection 28 identification_rules a → IsSection 6 grid_rules b
    → is_some c ≡ flags_bitmap a → IsBitmap (grid_points b) c → IsSection 11 (data_rules (present_count (mask_of c (grid_points b)))) d
    → Grammar1 (message_with (a ++ (b ++ (unwrap_or c [] ++ d)))) (record { identification = a; grid = b; bitmap = c; data_section = d })
in_grammar a b d c short is_a is_b flagged is_c is_d =
    let sections = a ++ (b ++ (unwrap_or c [] ++ d)) in
    let long = length-message sections in
    let total = 8 + length sections + 4 in
    record {
      joined = refl;
      indicated = refl;
      edition_stands = refl;
      total_stands = num_on-octets_of 3 total (omega (arith, short, long)) ∙ (let e : total ≡ length (message_with sections) = omega (arith, long) in e);
      identification_stands = is_a;
      grid_stands = is_b;
      flagged = flagged;
      bitmap_stands = is_c;
      data_stands = is_d;
    }
