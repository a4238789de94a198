-- What a field is demoted to means what the field means, and so does what that is migrated to.
use Rattle.std.proofs.Common.{◌≡◌, ℕ, ◌^◌, ◌<◌, Bool, Option, pos, List, [], ◌∷◌, ◌++◌, length, drop, map, refl, sym, ap, ap₂, ◌∙◌, subst, arith}
use Rattle.std.specs.Prelude.{unwrap_or}
use Rattle.grib_bits.specs.Bits.{bits}
use Rattle.grib_bits.specs.Octets.{octets}
use Rattle.grib_bits.specs.Plain.{plain}
use Rattle.grib_bits.proofs.Encoding.{num_on-octets_of}
use Rattle.grib_bits.proofs.OctetBits.{bits-append}
use Rattle.grib_bits.proofs.OctetNumbers.{octets-lt}
use Rattle.grib_bitmap.specs.Mask.{present_count}
use Rattle.grib_dyadic.specs.Meaning.{Meant, valued, missing, missing2, SamePoint, SameMeaning}
use Rattle.grib_dyadic.specs.Reference.{SameNumber, ieee, ibm}
use Rattle.grib_dyadic.proofs.Numbers.{SameNumber_sym}
use Rattle.grib_dyadic.proofs.Values.{Same_sym, Same_trans}
use Rattle.grib_packing.specs.declared.column.Column.{Column}
use Rattle.grib_packing.specs.declared.column.Point.{Point}
use Rattle.grib_packing.specs.declared.column.Point.TheVariants.{Scaled}
use Rattle.grib_packing.specs.declared.written.Packed.{Packed}
use Rattle.grib_packing.specs.Column.{points_with_mask}
use Rattle.grib_packing.specs.Packing.{reference_word, binary_scale, decimal_scale, bit_width as bit_width_2}
use Rattle.grib_packing.specs.Packed.{fields, padded, present_bits, simple_numbers, simple_width}
use Rattle.grib_packing.proofs.Fields.{plain-padded}
use Rattle.grib_simple.proofs.Back.{points_back}
use Rattle.grib_simple.proofs.Fitting.{none_fail, width_few, width_fits}
use Rattle.grib2_message.specs.Fields.{part_octets, column_of, meaning_of}
use Rattle.grib_params.specs.declared.matching.TableMatch.{TableMatch}
use Rattle.grib_params.specs.Table.{Entries, Good, table_verdict}
use Rattle.grib1_sections.specs.Acceptance.{data_section, mask}
use Rattle.grib1_sections.specs.Bitmap.{mask_of}
use Rattle.grib1_sections.specs.Grid.{grid_points}
use Rattle.grib1_sections.specs.Data.{bit_width}
use Rattle.grib1_sections.specs.Column.{column_from, column1_of, entries_of, meaning1_of}
use Rattle.grib1_sections.specs.Column as column1
use Rattle.grib_migrate.specs.Migrated.{migrated}
use Rattle.grib_migrate_law.specs.Source.{MayBeMigrated}
use Rattle.grib_migrate_law.proofs.Meanings.{column_with, points_mean}
use Rattle.grib_migrate_law.proofs.Migrated.{migrated_points, migrated_meaning}
use Rattle.grib_bits.specs.Encoding.{all_octets}
use Rattle.grib_demote.specs.Values.{packing_numbers}
use Rattle.grib_demote.specs.Words.{ibm_of}
use Rattle.grib_demote.specs.Demoted.{demoted}
use Rattle.grib_demote_law.specs.Field.{MayBeDemoted}
use Rattle.grib_demote_law.proofs.Coordinates.{written_word, is_written}
use Rattle.grib_demote_law.proofs.Words.{comes_back}
use Rattle.grib_demote_law.proofs.Accepted as accepted
use Rattle.grib_demote_law.proofs.Accepted.{demoted_is_message}
use Rattle.grib_demote_law.proofs.Small.{demoted_small}
use Rattle.grib_demote_law.proofs.WayBack as back
use Rattle.grib_demote_law.proofs.WayBack.{nothing_lost, some_of}
use Rattle.grib_demote_law.proofs.Values.{tail_for}

-- ---- two meanings that are the same as a third

point_joined : (p q r : Meant) → SamePoint p q → SamePoint r q → SamePoint p r
point_joined (valued u) (valued v) (valued w) a b = Same_trans u v w a (Same_sym w v b)
point_joined missing missing missing a b = tt
point_joined missing2 missing2 missing2 a b = tt
point_joined (valued u) (valued v) missing a b = absurd b
point_joined (valued u) (valued v) missing2 a b = absurd b
point_joined (valued u) missing r a b = absurd a
point_joined (valued u) missing2 r a b = absurd a
point_joined missing (valued v) r a b = absurd a
point_joined missing missing (valued w) a b = absurd b
point_joined missing missing missing2 a b = absurd b
point_joined missing missing2 r a b = absurd a
point_joined missing2 (valued v) r a b = absurd a
point_joined missing2 missing r a b = absurd a
point_joined missing2 missing2 (valued w) a b = absurd b
point_joined missing2 missing2 missing a b = absurd b

meaning_joined : (ps qs rs : List Meant) → SameMeaning ps qs → SameMeaning rs qs → SameMeaning ps rs
meaning_joined [] [] [] a b = tt
meaning_joined (p ∷ ps) (q ∷ qs) (r ∷ rs) a b = (point_joined p q r a.0 b.0, meaning_joined ps qs rs a.1 b.1)
meaning_joined [] [] (r ∷ rs) a b = absurd b
meaning_joined [] (q ∷ qs) rs a b = absurd a
meaning_joined (p ∷ ps) [] rs a b = absurd a
meaning_joined (p ∷ ps) (q ∷ qs) [] a b = absurd b

module _ (table : Entries) (matching : TableMatch) (keep any : Bool) (message : List ℕ) (i : ℕ) (may : MayBeDemoted table matching keep any message i) where
  abbrev part : ℕ → List ℕ
  part k = part_octets message i k

  abbrev points : List Point
  points = (column_of message i).points

  abbrev values : Packed
  values = accepted.values table matching keep any message i may

  abbrev a : List ℕ
  a = accepted.a table matching keep any message i may

  abbrev b : List ℕ
  b = accepted.b table matching keep any message i may

  abbrev c : Option (List ℕ)
  c = accepted.c table matching keep any message i may

  abbrev d : List ℕ
  d = accepted.d table matching keep any message i may

  abbrev old : List ℕ
  old = demoted table matching keep message i

  -- ---- the numbers of Section 4

  abbrev numbers : List ℕ
  numbers = simple_numbers points

  abbrev width : ℕ
  width = simple_width points

  abbrev rest : List ℕ
  rest = tail_for (length (all_octets (packing_numbers (part 5) values) ++ drop 5 values.section7))

  width_is : bit_width d ≡ width
  width_is =
      let simple = accepted.simple table matching keep any message i may in
      let few = width_few points (accepted.kept table matching keep any message i may).column in
      let same = simple.numbers.bit_width_stands in
      num_on-octets_of 1 (bit_width_2 values.section5) (omega (arith, same, few)) ∙ same

  numbers_are : plain (bits (drop 11 d)) (bit_width d) (length numbers) ≡ numbers
  numbers_are =
      let simple = accepted.simple table matching keep any message i may in
      let there : bits (drop 11 d) ≡ padded (fields width numbers) ++ bits rest =
      bits-append (drop 5 values.section7) rest ∙ ap (λ (xs : List Bool). xs ++ bits rest) simple.values.contents_stand in
      ap₂ (λ (xs : List Bool) (w : ℕ). plain xs w (length numbers)) there width_is
      ∙ plain-padded width (length numbers) numbers (bits rest) refl (width_fits points (accepted.kept table matching keep any message i may).column)

  -- ---- the points

  mask_is : mask old ≡ present_bits points
  mask_is =
      let s = back.sections table matching keep any message i may in
      ap₂ (λ (x : Option (List ℕ)) (y : List ℕ). mask_of x (grid_points y)) s.bitmap_is s.grid_is
      ∙ ap (mask_of c) (accepted.grid_points_are table matching keep any message i may)
      ∙ (accepted.bitmap_is table matching keep any message i may).mask_is

  counted : present_count (present_bits points) ≡ length numbers
  counted = accepted.count_is table matching keep any message i may

  entries_are : entries_of d (present_count (present_bits points)) ≡ map (λ x. Scaled (pos x)) numbers
  entries_are = ap (λ (n : ℕ). entries_of d n) counted ∙ ap (map (λ x. Scaled (pos x))) numbers_are

  points_are : points_with_mask (present_bits points) (entries_of d (present_count (present_bits points))) ≡ points
  points_are =
      let marks = none_fail points (accepted.kept table matching keep any message i may).column in
      ap (points_with_mask (present_bits points)) entries_are ∙ points_back points marks.0 marks.1

  -- ---- the column

  word_small : reference_word (part 5) < 2 ^ 32
  word_small =
      let long = (back.holds table matching keep any message i may).packing in
      octets-lt (part 5) 12 15 4 (back.part_small table matching keep any message i may 5) (omega arith) (omega arith) (omega arith)

  scale_small : binary_scale (part 5) < 2 ^ 16
  scale_small =
      let long = (back.holds table matching keep any message i may).packing in
      octets-lt (part 5) 16 17 2 (back.part_small table matching keep any message i may 5) (omega arith) (omega arith) (omega arith)

  decimal_small : decimal_scale (part 5) < 2 ^ 16
  decimal_small =
      let long = (back.holds table matching keep any message i may).packing in
      octets-lt (part 5) 18 19 2 (back.part_small table matching keep any message i may 5) (omega arith) (omega arith) (omega arith)

  abbrev kept_column : Column
  kept_column = column_with (written_word (reference_word (part 5))) (binary_scale (part 5)) (decimal_scale (part 5)) points

  column_is : column1_of old ≡ kept_column
  column_is =
      let s = back.sections table matching keep any message i may in
      let word = is_written (reference_word (part 5)) word_small (accepted.kept table matching keep any message i may).reference in
      let r : octets d 7 10 ≡ written_word (reference_word (part 5)) = num_on-octets_of 4 (written_word (reference_word (part 5))) word.in_word in
      let e : octets d 5 6 ≡ binary_scale (part 5) = num_on-octets_of 2 (binary_scale (part 5)) (omega (arith, scale_small)) in
      let f : octets a 27 28 ≡ decimal_scale (part 5) = num_on-octets_of 2 (decimal_scale (part 5)) (omega (arith, decimal_small)) in
      ap₂ (λ (x : List ℕ) (y : List Bool). column_from x y (data_section old)) s.identification_is mask_is
      ∙ ap (column_from a (present_bits points)) s.data_is
      ∙ (λ j. record { reference = r j; e = e j; d = f j; points = points_are j })

  pub demoted_points : (column1_of old).points ≡ points
  demoted_points = ap (λ (x : Column). x.points) column_is

  same_reference : SameNumber (ieee (reference_word (part 5))) (ibm (written_word (reference_word (part 5))))
  same_reference =
      let some = some_of (ibm_of (reference_word (part 5))) (accepted.kept table matching keep any message i may).reference in
      let is = comes_back (reference_word (part 5)) some.0 word_small some.1 in
      subst (λ (x : ℕ). SameNumber (ieee (reference_word (part 5))) (ibm x)) (sym (ap (λ (o : Option ℕ). unwrap_or o 0) some.1))
      (SameNumber_sym (ibm some.0) (ieee (reference_word (part 5))) is.number)

  pub demoted_meaning : SameMeaning (meaning_of message i) (meaning1_of old)
  demoted_meaning =
      subst (λ (x : Column). SameMeaning (meaning_of message i) (map (column1.meaning_at x) x.points)) (sym column_is)
      (points_mean (reference_word (part 5)) (written_word (reference_word (part 5))) (binary_scale (part 5)) (decimal_scale (part 5)) points same_reference points)

-- ---- the way back

module _ (text : List ℕ) (table : Entries) (matching : TableMatch) (keep any : Bool) (message : List ℕ) (i : ℕ) (read : table_verdict text ≡ Good table) (may : MayBeDemoted table matching keep any message i) where
  pub may_be_migrated : MayBeMigrated table keep (demoted table matching keep message i)
  may_be_migrated = record {
    accepted = demoted_is_message table matching keep any message i may;
    small = demoted_small table matching keep any message i may;
    kept = nothing_lost text table matching keep any message i read may;
  }

  pub points_come_back : (column_of (migrated table keep (demoted table matching keep message i)) 1).points ≡ (column_of message i).points
  points_come_back = migrated_points table keep (demoted table matching keep message i) may_be_migrated ∙ demoted_points table matching keep any message i may

  pub meaning_comes_back : SameMeaning (meaning_of (migrated table keep (demoted table matching keep message i)) 1) (meaning_of message i)
  meaning_comes_back =
      let between = demoted table matching keep message i in
      meaning_joined (meaning_of (migrated table keep between) 1) (meaning1_of between) (meaning_of message i) (migrated_meaning table keep between may_be_migrated) (demoted_meaning table matching keep any message i may)
