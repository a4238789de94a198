-- A made message with the sections of another packing.
use Rattle.std.proofs.Common.{◌≡◌, ℕ, ◌+◌, ◌==◌, true, false, List, [], ◌∷◌, ◌++◌, length, take, refl, ap, ◌∙◌, arith, length-append, eq-eqb, ne_eqb}
use Rattle.std.specs.List.{concat}
use Rattle.grib_packing.specs.declared.column.Column.{Column}
use Rattle.grib_packing.specs.declared.written.Packed.{Packed}
use Rattle.grib_bits.specs.Encoding.{octets_of}
use Rattle.grib_base.specs.declared.profile.Profile.TheVariants.{Stated}
use Rattle.grib2_sections.specs.Frame.{section_number}
use Rattle.grib2_sections.specs.Head.{end_mark}
use Rattle.grib2_message.specs.Assembled.{replaced, assembled_body, assembled}
use Rattle.grib2_message.proofs.Placing.{placed_from}
use Rattle.grib2_message.proofs.Whole.{sections_alone}
use Rattle.grib_synthetic.specs.Made.{MayBeMade, sections_with, message_with}
use Rattle.grib_synthetic.proofs.Accepted.{Parts, sections_of_parts, message_of_parts, grammar}

-- the sections with those of a part in place of theirs
module _ (seed ni nj : ℕ) (column : Column) (s5 s6 s7 : List ℕ) (may : MayBeMade seed ni nj) (parts : Parts ni nj column s5 s6 s7) (part : Packed) where
  all_replaced : replaced (placed_from 17 (sections_of_parts ni nj s5 s6 s7)) (part ∷ []) ≡ sections_with ni nj part
  all_replaced =
      let is_5 : (section_number s5 == 5) ≡ true = eq-eqb (section_number s5) 5 parts.itself_5.number_stands in
      let not_5 : (section_number s5 == 7) ≡ false = ne_eqb (section_number s5) 7 (λ same. omega (arith, parts.itself_5.number_stands, same)) in
      let five_6 : (section_number s6 == 5) ≡ false = ne_eqb (section_number s6) 5 (λ same. omega (arith, parts.itself_6.number_stands, same)) in
      let is_6 : (section_number s6 == 6) ≡ true = eq-eqb (section_number s6) 6 parts.itself_6.number_stands in
      let not_6 : (section_number s6 == 7) ≡ false = ne_eqb (section_number s6) 7 (λ same. omega (arith, parts.itself_6.number_stands, same)) in
      let five_7 : (section_number s7 == 5) ≡ false = ne_eqb (section_number s7) 5 (λ same. omega (arith, parts.itself_7.number_stands, same)) in
      let six_7 : (section_number s7 == 6) ≡ false = ne_eqb (section_number s7) 6 (λ same. omega (arith, parts.itself_7.number_stands, same)) in
      let is_7 : (section_number s7 == 7) ≡ true = eq-eqb (section_number s7) 7 parts.itself_7.number_stands in
      let grid_5 : (section_number s5 == 3) ≡ false = ne_eqb (section_number s5) 3 (λ same. omega (arith, parts.itself_5.number_stands, same)) in
      let grid_6 : (section_number s6 == 3) ≡ false = ne_eqb (section_number s6) 3 (λ same. omega (arith, parts.itself_6.number_stands, same)) in
      let grid_7 : (section_number s7 == 3) ≡ false = ne_eqb (section_number s7) 3 (λ same. omega (arith, parts.itself_7.number_stands, same)) in
      rw (grid_5, grid_6, grid_7, is_5, not_5, five_6, is_6, not_6, five_7, six_7, is_7) refl

length-sections : (ni nj : ℕ) (part : Packed)
    → length (concat (sections_with ni nj part)) ≡ 127 + length part.section5 + length part.section6 + length part.section7
length-sections ni nj part =
    omega (arith, length-append part.section5 (part.section6 ++ (part.section7 ++ [])), length-append part.section6 (part.section7 ++ []), length-append part.section7 [])

module _ (seed ni nj : ℕ) (column : Column) (s5 s6 s7 : List ℕ) (may : MayBeMade seed ni nj) (parts : Parts ni nj column s5 s6 s7)
    (m : List ℕ) (is : m ≡ message_of_parts ni nj s5 s6 s7) (part : Packed) where
  body : assembled_body m (part ∷ []) ≡ concat (sections_with ni nj part)
  body =
      ap (λ sections. concat (replaced sections (part ∷ []))) (sections_alone Stated m (sections_of_parts ni nj s5 s6 s7) (grammar seed ni nj column s5 s6 s7 may parts m is))
      ∙ ap concat (all_replaced seed ni nj column s5 s6 s7 may parts part)

module _ (seed ni nj : ℕ) (column : Column) (s5 s6 s7 : List ℕ) (may : MayBeMade seed ni nj) (parts : Parts ni nj column s5 s6 s7)
    (m : List ℕ) (is : m ≡ message_of_parts ni nj s5 s6 s7) (part : Packed) where
  pub length-repacked : length (assembled m (part ∷ [])) ≡ 147 + length part.section5 + length part.section6 + length part.section7
  length-repacked =
      let inner = assembled_body m (part ∷ []) in
      let long : length inner ≡ 127 + length part.section5 + length part.section6 + length part.section7 =
      ap length (body seed ni nj column s5 s6 s7 may parts m is part) ∙ length-sections ni nj part in
      let eight : length (take 8 m) ≡ 8 = ap (λ (xs : List ℕ). length (take 8 xs)) is in
      omega (arith, long, eight, length-append (take 8 m) (octets_of 8 (16 + length inner + 4) ++ (inner ++ end_mark)), length-append inner end_mark)

  -- it has those of the part in place of its own
  pub assembled_is : assembled m (part ∷ []) ≡ message_with ni nj part
  assembled_is =
      let rest : List ℕ = concat (sections_with ni nj part) in
      ap (λ inner. take 8 m ++ (octets_of 8 (16 + length inner + 4) ++ (inner ++ end_mark))) (body seed ni nj column s5 s6 s7 may parts m is part)
      ∙ ap (λ (xs : List ℕ). take 8 xs ++ (octets_of 8 (16 + length rest + 4) ++ (rest ++ end_mark))) is
