-- What a field is demoted to is accepted.
use Rattle.std.proofs.Common.{◌≡◌, ℕ, ◌+◌, ◌-◌, ◌*◌, ◌^◌, ◌≤◌, Bool, true, false, cond, Option, Some, None, List, [], ◌++◌, length, drop, refl, sym, ap, ◌∙◌, subst, arith, append-nil, length-append}
use Rattle.std.specs.Prelude.{unwrap_or, is_some}
use Rattle.std.specs.List.{list_any}
use Rattle.grib_bits.proofs.OctetBits.{length-bits}
use Rattle.grib_bits.proofs.Listed.{AreOctets-from_All}
use Rattle.grib_base.specs.Rules.{first_fault, first_place}
use Rattle.grib_bitmap.specs.Mask.{present_count}
use Rattle.grib_base.specs.declared.profile.Profile.TheVariants.{Stated, Open}
use Rattle.grib2_sections.specs.Head.{discipline}
use Rattle.grib2_grids.specs.Grid as grid2
use Rattle.grib2_grids.proofs.Under.{same_grid_rules}
use Rattle.grib2_products.proofs.Under.{same_product_rules}
use Rattle.grib2_products.specs.Spelled.{coordinate_list}
use Rattle.grib2_message.specs.Fields.{part_octets, field_mask, column_of}
use Rattle.grib2_message.specs.Message.{FieldReads, FieldReadsUnder}
use Rattle.grib2_message.proofs.Holding.{field_passes_alone, field_mask_long}
use Rattle.grib2_message.proofs.Masks.{points_bounds}
use Rattle.grib2_message.proofs.Opened.{field_read}
use Rattle.grib_packing.specs.declared.column.Column.{Column}
use Rattle.grib_packing.specs.declared.column.Point.{Point}
use Rattle.grib_packing.specs.declared.written.Packed.{Packed}
use Rattle.grib_packing.specs.Misfits.{ToSimple, Misfit, first_misfit, is_missing2}
use Rattle.grib_packing.specs.Misfits as misfits
use Rattle.grib_packing.specs.Packed.{IsSimple, fields, present_bits, simple_numbers, simple_width}
use Rattle.grib_packing.specs.Written.{MayBePacked}
use Rattle.grib_packing.proofs.Fields.{length-fields}
use Rattle.grib_packing.proofs.Left.{padded-more}
use Rattle.grib_packed.specs.Written.{packed}
use Rattle.grib_packed.proofs.Written.{simple_written}
use Rattle.grib_simple.proofs.Fitting.{width_few}
use Rattle.grib_simple.proofs.Bitmaps.{count_present}
use Rattle.grib_repack.specs.Repacked.{kind_of, packed_field}
use Rattle.grib_repack.proofs.Columns.{column_long, may_be_packed, has_words, kind_small}
use Rattle.grib_params.specs.declared.matching.TableMatch.{TableMatch}
use Rattle.grib_params.specs.Table.{Entries}
use Rattle.grib1_sections.specs.Acceptance.{verdict_1}
use Rattle.grib1_sections.specs.Bitmap.{mask_of}
use Rattle.grib1_sections.specs.Data.{data_rules}
use Rattle.grib1_sections.specs.Identification.{flags_bitmap}
use Rattle.grib1_sections.specs.Grid.{grid_points}
use Rattle.grib1_sections.specs.Grammar.{IsSection, IsBitmap, Grammar1}
use Rattle.grib1_sections.specs.Message.{IsMessage1}
use Rattle.grib1_sections.proofs.Joined.{grammar_accepted}
use Rattle.grib_demote.specs.declared.product.Told.{Told}
use Rattle.grib_demote.specs.Products.{local_octets}
use Rattle.grib_bits.specs.Encoding.{section1_of}
use Rattle.grib_demote.specs.Values.{has_bitmap, bitmap_section, data_section}
use Rattle.grib_demote.specs.Demoted.{told_in, grid_octets, message_with, demoted, demoted_sections}
use Rattle.grib_demote.proofs.Joining.{stated_product}
use Rattle.grib_demote.proofs.Lists.{few_coordinates}
use Rattle.grib_demote_law.specs.Field.{MayBeDemoted}
use Rattle.grib_demote_law.proofs.Losses.{Kept, all_kept}
use Rattle.grib_demote_law.proofs.Joined.{length-message, in_grammar}
use Rattle.grib_demote_law.proofs.Identification.{section_1, flags_it, is_section_1}
use Rattle.grib_demote_law.proofs.Template.{points_are, grid_is_section}
use Rattle.grib_demote_law.proofs.Values.{BitmapStands, section_3, section_3-octets, section_3-some, bitmap_stands, is_section_4}

-- no secondary missing point
not_first : (b : Bool) (misfit : Misfit) (later : Option Misfit) → misfits.first_of (cond b (Some misfit) None) later ≡ None → b ≡ false
not_first true misfit later none = let no : ⊥ = cc in absurd no
not_first false misfit later none = refl

none_secondary : (points : List Point) → first_misfit ToSimple points ≡ None → list_any is_missing2 points ≡ false
none_secondary points none =
    not_first (list_any is_missing2 points) (misfits.SecondaryMissing (first_place is_missing2 points)) (misfits.misfit_at misfits.OutOfRange (misfits.is_scaled_outside (2 ^ 48 - 1)) points) none

module _ (table : Entries) (matching : TableMatch) (keep any : Bool) (message : List ℕ) (i : ℕ) (may : MayBeDemoted table matching keep any message i) where
  abbrev pub part : ℕ → List ℕ
  part k = part_octets message i k

  abbrev pub column : Column
  column = column_of message i

  abbrev pub values : Packed
  values = packed_field ToSimple message i

  abbrev pub n : ℕ
  n = grid2.grid_points (part 3)

  pub kept : Kept table matching keep any message i
  kept = all_kept table matching keep any message i may.kept

  pub reads : FieldReads message i
  reads = field_read Open message i (field_passes_alone Open message i may.accepted may.first may.last) (may.readable i may.first may.last)

  -- its grid and its product are not opaque
  pub passes : FieldReadsUnder Stated message i
  passes = record {
    identification = reads.identification;
    grid = ap first_fault (sym (same_grid_rules Open (part 3) kept.product.stated)) ∙ reads.grid;
    product = ap first_fault (sym (same_product_rules Open (part 4) 1 (stated_product (part 4) kept.product.product))) ∙ reads.product;
    packing = reads.packing;
    values = reads.values;
  }

  pub mask_long : length (field_mask message i) ≡ n
  mask_long = field_mask_long Open message i may.accepted (AreOctets-from_All message may.small) may.first may.last

  pub as_long : length column.points ≡ n
  as_long = column_long message i reads mask_long

  pub packs : MayBePacked column
  packs = may_be_packed message i reads mask_long

  pub simple : IsSimple column (kind_of message i) values.section5 values.section6 values.section7
  unfolding packed
  simple = simple_written column (kind_of message i) packs (has_words message i may.small) (kind_small message i may.small) kept.column

  -- ---- the sections

  abbrev pub told : Told
  told = told_in table matching (discipline message) (part 1) (part 4)

  abbrev pub local : List ℕ
  local = local_octets keep (part 2)

  abbrev pub words : List ℕ
  words = coordinate_list (part 4)

  abbrev pub a : List ℕ
  a = section_1 told (has_bitmap values) (part 1) (part 4) (part 5) local

  abbrev pub b : List ℕ
  b = section1_of (grid_octets words (part 3))

  abbrev pub c : Option (List ℕ)
  c = section_3 values n

  abbrev pub d : List ℕ
  d = data_section (part 5) values

  joined : demoted_sections table matching keep message i ≡ a ++ (b ++ (unwrap_or c [] ++ d))
  joined = ap (λ (xs : List ℕ). a ++ (b ++ (xs ++ d))) (sym (section_3-octets values n))

  all_short : length a + (length b + (length (unwrap_or c []) + length d)) ≤ 16777203
  all_short =
      let short : length (message_with (demoted_sections table matching keep message i)) ≤ 16777215 = kept.short in
      let long = length-message (demoted_sections table matching keep message i) in
      let parts = ap length joined in
      omega (arith, short, long, parts, length-append a (b ++ (unwrap_or c [] ++ d)), length-append b (unwrap_or c [] ++ d), length-append (unwrap_or c []) d)

  bitmap_short : length (bitmap_section values n) ≤ 16777215
  bitmap_short = let same = ap length (section_3-octets values n) in omega (arith, all_short, same)

  pub few_words : length words ≤ 255
  few_words = few_coordinates words kept.shape.coordinates

  pub grid_points_are : grid_points b ≡ n
  grid_points_are = points_are (part 3) words passes.grid kept.product.template kept.shape.numbers kept.shape.rows few_words

  pub bitmap_is : BitmapStands column.points values n
  bitmap_is = bitmap_stands column.points values n as_long simple.bitmap bitmap_short

  pub count_is : present_count (present_bits column.points) ≡ length (simple_numbers column.points)
  count_is = count_present column.points (none_secondary column.points kept.column)

  values_are : present_count (mask_of c (grid_points b)) ≡ length (simple_numbers column.points)
  values_are =
      ap (λ (k : ℕ). present_count (mask_of c k)) grid_points_are ∙ ap present_count bitmap_is.mask_is ∙ count_is

  room : length (simple_numbers column.points) * simple_width column.points ≤ 8 * length (drop 5 values.section7)
  room =
      let bits_are = simple.values.contents_stand in
      let all = fields (simple_width column.points) (simple_numbers column.points) in
      omega (arith, length-bits (drop 5 values.section7), ap length bits_are, padded-more all, length-fields (simple_width column.points) (simple_numbers column.points))

  data_is : IsSection 11 (data_rules (length (simple_numbers column.points))) d
  data_is =
      is_section_4 (part 5) values (simple_width column.points) (length (simple_numbers column.points)) simple.numbers.bit_width_stands simple.numbers.values_stand
      (width_few column.points kept.column) room (omega (arith, all_short))

  pub field_grammar : Grammar1 (demoted table matching keep message i) (record { identification = a; grid = b; bitmap = c; data_section = d })
  field_grammar =
      let bounds = points_bounds Stated (part 3) passes.grid in
      let is_a = is_section_1 told (part 1) (part 4) (part 5) local (has_bitmap values) (omega (arith, all_short)) in
      let is_b = grid_is_section (part 3) words passes.grid kept.product.template kept.shape.numbers kept.shape.rows few_words bounds.0 bounds.1 (omega (arith, all_short)) in
      let flagged : is_some c ≡ flags_bitmap a = section_3-some values n ∙ sym (flags_it told (part 1) (part 4) (part 5) local (has_bitmap values)) in
      let is_c : IsBitmap (grid_points b) c = subst (λ (k : ℕ). IsBitmap k c) (sym grid_points_are) bitmap_is.passes in
      let is_d : IsSection 11 (data_rules (present_count (mask_of c (grid_points b)))) d = subst (λ (k : ℕ). IsSection 11 (data_rules k) d) (sym values_are) data_is in
      let short : length (message_with (a ++ (b ++ (unwrap_or c [] ++ d)))) ≤ 16777215 =
      subst (λ (xs : List ℕ). length (message_with xs) ≤ 16777215) joined kept.short in
      subst (λ (xs : List ℕ). Grammar1 (message_with xs) (record { identification = a; grid = b; bitmap = c; data_section = d })) (sym joined)
      (in_grammar a b d c short is_a is_b flagged is_c is_d)

  pub demoted_is_message : IsMessage1 (demoted table matching keep message i)
  demoted_is_message =
      let m = demoted table matching keep message i in
      let g = field_grammar in
      record {
        indicated = g.indicated;
        edition_stands = g.edition_stands;
        accepted = ap verdict_1 (sym (append-nil m)) ∙ grammar_accepted m [] _ g;
      }
