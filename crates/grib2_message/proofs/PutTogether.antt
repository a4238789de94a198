-- What is assembled is in the grammar, and what its fields are.
use Rattle.std.proofs.Common.{◌≡◌, ◌≢◌, ℕ, suc, ◌+◌, ◌≤◌, Some, None, List, [], ◌++◌, length, take, slice_get, inl, inr, refl, sym, ap, ◌∙◌, arith, subst, add-one, append_assoc, append-nil, length-append, length-take-le, take-take}
use Rattle.std.specs.List.{concat, count_by}
use Rattle.std.proofs.lemmas.Bool.{cases_eq}
use Rattle.std.proofs.lemmas.List.{take-append-le}
use Rattle.std.proofs.lemmas.Option.{slice_get_within}
use Rattle.grib_base.specs.declared.profile.Profile.{Profile}
use Rattle.grib2_sections.specs.Head.{end_mark, total_length}
use Rattle.grib_bits.specs.Encoding.{octets_of}
use Rattle.grib2_sections.specs.Frame.{Placed}
use Rattle.grib_bits.proofs.Encoding.{length-octets_of, num_on-octets_of, octets-within}
use Rattle.grib2_grids.specs.Grid.{grid_points}
use Rattle.grib_bitmap.specs.Mask.{mask_of}
use Rattle.grib_packing.specs.Entries.{column_from}
use Rattle.grib_packing.specs.declared.written.Packed.{Packed}
use Rattle.grib2_message.specs.View.{is_numbered, octets_in_force}
use Rattle.grib2_message.specs.Acceptance.{verdict_under}
use Rattle.grib2_message.specs.Grammar.{GrammarUnder}
use Rattle.grib2_message.specs.Fields.{sections_of, field_count, field_sections, sections_up_to_field, part_octets, column_of}
use Rattle.grib2_message.specs.Message.{IsMessageUnder}
use Rattle.grib2_message.specs.Assembled.{assembled, assembled_with, assembled_body_with, replaced_with, as_it_is, IsGridUnder, PartsPassUnder, MayBeAssembledUnder, MayBeAssembledWithUnder}
use Rattle.grib2_message.proofs.Along.{Along, count_along, up_to_along, octets_along}
use Rattle.grib2_message.proofs.Holding.{field_ends}
use Rattle.grib2_message.proofs.Parted.{Parted, message_parted, message_least, IsHead, joined_grammar}
use Rattle.grib2_message.proofs.Placing.{placed_from}
use Rattle.grib2_message.proofs.Replaced.{Fits, fits_number, octets_kept, grid_in_force, some_grid, EachGrid, each_grid, HasPart, Rebuilt, rebuilt, outside, left}
use Rattle.grib2_message.proofs.Sound.{sound_none}
use Rattle.grib2_message.proofs.Whole.{octets_before, octets_of_front, grammar_accepted, sections_alone}

-- how long a message is that is put together
pub assembled_long : (grid : List ℕ → List ℕ) (m : List ℕ) (parts : List Packed) → 8 ≤ length m
    → length (assembled_with grid m parts) ≡ 16 + length (assembled_body_with grid m parts) + 4
assembled_long grid m parts least =
    let body = assembled_body_with grid m parts in
    let number = octets_of 8 (16 + length body + 4) in
    let eight : length (take 8 m) ≡ 8 = length-take-le 8 m least in
    omega (arith, length-append (take 8 m) (number ++ (body ++ end_mark)), length-append number (body ++ end_mark), length-append body end_mark, length-octets_of 8 (16 + length body + 4))

-- the first eight octets of a message and a total length are a Section 0
pub head_of : (profile : Profile) (m : List ℕ) (total : ℕ) → IsMessageUnder profile m → total ≤ 268435456 → IsHead (take 8 m ++ octets_of 8 total) total
head_of profile m total h few =
    let least = message_least profile m h in
    let front = take 8 m in
    let eight : length front ≡ 8 = length-take-le 8 m (omega arith) in
    let number = octets_of 8 total in
    let long : length number ≡ 8 = length-octets_of 8 total in
    record {
      as_long = omega (arith, length-append front number);
      indicated = take-append-le 4 front number (omega arith) ∙ take-take 4 8 m (omega arith) ∙ h.indicated;
      edition_stands = octets_before front number 8 8 (omega arith) (omega arith) (omega arith)
          ∙ octets_of_front m 8 8 8 (omega arith) (omega arith) (omega arith) ∙ h.edition_stands;
      total_stands =
          ap (λ (xs : List ℕ). total_length (front ++ xs)) (sym (append-nil number))
          ∙ octets-within front number [] 9 16 (omega arith) (omega arith)
          ∙ num_on-octets_of 8 total (omega arith);
    }

-- what is so of the Section 3 in force for each field is so of each Section 3
pub each_grid_of : (profile : Profile) (P : List ℕ → Type 0) (m : List ℕ) → IsMessageUnder profile m → ((i : ℕ) → 1 ≤ i → i ≤ field_count m → P (part_octets m i 3)) → EachGrid P (sections_of m)
each_grid_of profile P m h each =
    let p = message_parted profile m h in
    let many : field_count m ≡ left 17 p.sections = ap (count_by (is_numbered 7)) p.found in
    subst (EachGrid P) (sym p.found)
    (each_grid profile P p.sections [] 17 p.follow
    (λ i low. subst (λ (xs : List Placed). P (octets_in_force 3 (sections_up_to_field (suc i) [] xs))) p.found
    (each (suc i) (omega arith) (omega (arith, low, many)))))

module _ (profile : Profile) (grid : List ℕ → List ℕ) (m : List ℕ) (parts : List Packed) (h : MayBeAssembledWithUnder profile grid m parts) where
  old : Parted profile m [] 17 (length m)
  old = message_parted profile m h.accepted

  news : List (List ℕ)
  news = replaced_with grid (sections_of m) parts

  again : Rebuilt profile grid parts [] 17 17 old.sections news
  unfolding news
  again =
      let p = old in
      let each = subst (EachGrid (λ s. IsGridUnder profile s → IsGridUnder profile (grid s))) p.found (each_grid_of profile (λ s. IsGridUnder profile s → IsGridUnder profile (grid s)) m h.accepted h.grids) in
      subst (λ (xs : List Placed). Rebuilt profile grid parts [] 17 17 p.sections (replaced_with grid xs parts)) (sym p.found)
      (rebuilt profile grid p.sections parts [] [] 17 17 p.follow tt (outside parts [] (λ low high. absurd (omega arith))) (sound_none profile) each
      (λ i part e.
      subst (λ (xs : List Placed). PartsPassUnder profile (grid_points (grid (octets_in_force 3 (sections_up_to_field (suc i) [] xs)))) part) p.found
      (subst (λ (n : ℕ). PartsPassUnder profile (grid_points (grid (part_octets m n 3))) part) (add-one i) (h.pass i part e)))
      (h.one_each ∙ ap (count_by (is_numbered 7)) p.found))

  grammar : GrammarUnder profile (assembled_with grid m parts) news
  unfolding news
  grammar =
      let body = concat (replaced_with grid (sections_of m) parts) in
      let total = 16 + length body + 4 in
      let few : total ≤ 268435456 = omega (arith, assembled_long grid m parts (omega (arith, message_least profile m h.accepted)), h.most) in
      subst (λ (xs : List ℕ). GrammarUnder profile xs (replaced_with grid (sections_of m) parts)) (append_assoc (take 8 m) (octets_of 8 total) (body ++ end_mark))
      (joined_grammar profile (take 8 m ++ octets_of 8 total) (replaced_with grid (sections_of m) parts) (head_of profile m total h.accepted few) few again.follow)

  pub assembled_accepted : IsMessageUnder profile (assembled_with grid m parts)
  assembled_accepted =
      let g = grammar in
      let w = assembled_with grid m parts in
      record {
        indicated = g.indicated;
        edition_stands = g.edition_stands;
        accepted = ap (verdict_under profile) (sym (append-nil w)) ∙ grammar_accepted profile w [] news g;
      }

  -- the sections of both go along one another
  pub sections_along : Along (Fits grid) (sections_of m) (sections_of (assembled_with grid m parts))
  sections_along =
      let p = old in
      let g = grammar in
      subst (λ (xs : List Placed). Along (Fits grid) xs (sections_of (assembled_with grid m parts))) (sym p.found)
      (subst (λ (xs : List Placed). Along (Fits grid) (placed_from 17 p.sections) xs) (sym (sections_alone profile (assembled_with grid m parts) news g)) again.along)

  pub assembled_fields : field_count (assembled_with grid m parts) ≡ field_count m
  assembled_fields = count_along (Fits grid) (fits_number grid) 7 (sections_of m) (sections_of (assembled_with grid m parts)) sections_along

  pub fields_along : (i : ℕ) → Along (Fits grid) (field_sections m i) (field_sections (assembled_with grid m parts) i)
  fields_along i = up_to_along (Fits grid) (fits_number grid) i [] [] (sections_of m) (sections_of (assembled_with grid m parts)) tt sections_along

  pub assembled_kept : (i k : ℕ) → k ≤ 4 → k ≢ 3 → part_octets (assembled_with grid m parts) i k ≡ part_octets m i k
  assembled_kept i k low other = octets_kept grid k low other (field_sections m i) (field_sections (assembled_with grid m parts) i) (fields_along i)

  pub assembled_grid : (i : ℕ) → 1 ≤ i → i ≤ field_count m → part_octets (assembled_with grid m parts) i 3 ≡ grid (part_octets m i 3)
  assembled_grid i low high =
      let f = field_ends profile m i h.accepted low high in
      grid_in_force grid (field_sections m i) (field_sections (assembled_with grid m parts) i) (fields_along i)
      (some_grid profile (field_sections m i) f.sound (omega (arith, f.ends)))

  pub assembled_parts : (i : ℕ) (part : Packed) → slice_get parts i ≡ Some part → HasPart part (field_sections (assembled_with grid m parts) (i + 1))
  assembled_parts i part e =
      let g = grammar in
      subst (λ (n : ℕ). HasPart part (field_sections (assembled_with grid m parts) n)) (sym (add-one i))
      (subst (λ (xs : List Placed). HasPart part (sections_up_to_field (suc i) [] xs)) (sym (sections_alone profile (assembled_with grid m parts) news g)) (again.columns i part e))

  pub assembled_column : (i : ℕ) (part : Packed) → slice_get parts i ≡ Some part
      → column_of (assembled_with grid m parts) (i + 1)
      ≡ column_from part.section5 (mask_of part.section6 (grid_points (grid (part_octets m (i + 1) 3))) None) part.section7
  assembled_column i part e =
      let has = assembled_parts i part e in
      let within = slice_get_within parts i part e in
      let points = ap grid_points (assembled_grid (i + 1) (omega arith) (omega (arith, within, h.one_each))) in
      (λ j. column_from (has.packing j) (has.mask j) (has.values j))
      ∙ ap (λ (n : ℕ). column_from part.section5 (mask_of part.section6 n None) part.section7) points

-- ---- each Section 3 stays

module _ (profile : Profile) (m : List ℕ) (parts : List Packed) (h : MayBeAssembledUnder profile m parts) where
  pub as_it_was : MayBeAssembledWithUnder profile as_it_is m parts
  as_it_was = record { accepted = h.accepted; one_each = h.one_each; grids = λ i low high is. is; pass = h.pass; most = h.most }

  pub assembled_stays : (i k : ℕ) → k ≤ 4 → part_octets (assembled m parts) i k ≡ part_octets m i k
  assembled_stays i k low = elim (cases_eq k 3) [
    | inl three ↦
        octets_along (Fits as_it_is) (fits_number as_it_is) k (λ xs ys. ys ≡ xs) refl (λ s t fits e. fits.grid_is (e ∙ three))
        (field_sections m i) (field_sections (assembled m parts) i) (fields_along profile as_it_is m parts as_it_was i)
    | inr other ↦ assembled_kept profile as_it_is m parts as_it_was i k low other
  ]
