-- A message of which nothing is lost, its sections, and what they are migrated to.
use Rattle.std.proofs.Common.{◌≡◌, ℕ, ◌+◌, ◌-◌, ◌*◌, ◌^◌, ◌<◌, ◌≤◌, ◌&&◌, Bool, true, false, cond, Option, Some, None, List, [], ◌∷◌, ◌++◌, All, length, drop, map, refl, sym, ap, ap₂, ◌∙◌, subst, arith, append_assoc, append-nil, length-append, length-drop, unwrap_or}
use Rattle.std.specs.Prelude.{is_none}
use Rattle.std.specs.List.{concat}
use Rattle.std.specs.Option.{option_map_or}
use Rattle.std.proofs.lemmas.Bool.{ltb-false}
use Rattle.std.proofs.lemmas.List.Sums.{count_by-le-length}
use Rattle.grib_bits.specs.Bits.{bit, digit}
use Rattle.grib_bits.specs.Octets.{octets}
use Rattle.grib_bits.specs.Encoding.{octets_of, section_of, all_octets}
use Rattle.grib_bits.proofs.Encoding.{length-octets_of, StatesItself-section_of}
use Rattle.grib_bits.proofs.OctetBits.{AreOctets}
use Rattle.grib_bits.proofs.OctetNumbers.{AreOctets-octet_list, octets-lt}
use Rattle.grib_bits.proofs.Listed.{AreOctets-from_All}
use Rattle.grib_base.specs.Rules.{first_fault}
use Rattle.grib_base.proofs.Passing.{passes_from_none}
use Rattle.grib_base.specs.declared.limits.TheConstants.{MOST_POINTS}
use Rattle.grib_dyadic.specs.Meaning.{SameMeaning}
use Rattle.grib_bitmap.specs.Mask.{present_count, bitmap_rules}
use Rattle.grib_bitmap.specs.Mask as mask2
use Rattle.grib2_grids.specs.Grid.{grid_points}
use Rattle.grib_base.specs.declared.profile.Profile.TheVariants.{Stated}
use Rattle.grib_packing.specs.Packing.{reference_word, binary_scale, decimal_scale}
use Rattle.grib_packing.specs.Column.{points_with_mask}
use Rattle.grib_packing.specs.Entries.{packing_fault_under, column_from}
use Rattle.grib_packing.specs.declared.column.Column.{Column}
use Rattle.grib_packing.specs.declared.column.Point.{Point}
use Rattle.grib_params.specs.Surfaces.{SurfaceEntries}
use Rattle.grib_params.specs.Table.{Entries}
use Rattle.grib_params.specs.declared.row.Target.{Target}
use Rattle.grib1_sections.specs.Frame.{section_at}
use Rattle.grib1_sections.specs.Keys.{key_in}
use Rattle.grib_keys.specs.declared.key1.Key1.TheVariants.{DecimalScale}
use Rattle.grib1_sections.specs.Data.{data_rules, data_flags, bit_width}
use Rattle.grib1_sections.specs.Grid.{nv}
use Rattle.grib1_sections.specs.Coordinates.{coordinate_list}
use Rattle.grib1_sections.specs.Bitmap.{mask_of}
use Rattle.grib1_sections.specs.Column.{column1_of, meaning1_of}
use Rattle.grib1_sections.specs.Message.{IsMessage1, SectionsPass}
use Rattle.grib1_sections.specs.Acceptance.{identification, grid, bitmap, data_section, points_of, values_of, mask, grid_start, data_start}
use Rattle.grib1_sections.proofs.Joined.{message_sections_pass, points_within}
use Rattle.grib1_sections.proofs.Columns.{length-mask}
use Rattle.grib2_message.specs.Message.{IsMessage}
use Rattle.grib2_message.specs.Fields.{part_octets, field_count, column_of, meaning_of}
use Rattle.grib2_message.specs.Fields as fields
use Rattle.grib_reasons.specs.declared.loss.Loss.{Loss}
use Rattle.grib_reasons.specs.declared.loss.Loss.TheVariants as losses
use Rattle.grib_migrate.specs.declared.labels.Local.{Local}
use Rattle.grib_migrate.specs.declared.labels.Local.TheVariants.{Refuse, Keep, Ecmwf}
use Rattle.grib_migrate.specs.declared.labels.Member.{Member}
use Rattle.grib_migrate.specs.declared.level.Surfaces.{Surfaces}
use Rattle.grib_migrate.specs.declared.time.Unit.{Unit as UnitOfTime}
use Rattle.grib_migrate.specs.Held.{Holds}
use Rattle.grib_migrate.specs.Source.{target_of, no_target, has_local, local_octets}
use Rattle.grib_migrate.specs.Levels.{surfaces_of}
use Rattle.grib_migrate.specs.Chosen.{named_in, surfaces_by, target_by}
use Rattle.grib_migrate.specs.Labels.{contents_of, member_by, writes_local}
use Rattle.grib_migrate.specs.Times.{unit_of}
use Rattle.grib_migrate.specs.Grids.{grid_octets, grid_loss}
use Rattle.grib_migrate.specs.Products.{identification_numbers, product_octets_by}
use Rattle.grib_migrate.specs.Values.{reference, bitmap_octets, data_octets}
use Rattle.grib_migrate.specs.References.{binary32_of}
use Rattle.grib_migrate.specs.Losses.{lost_where, first_of, front_losses, chosen_losses, number_losses, coordinate_loss, reference_loss}
use Rattle.grib_migrate.specs.Migrated.{migrated, migrated_by, migrated_with, message_with, no_unit, no_surfaces}
use Rattle.grib_migrate.proofs.Sections.{all_hold, short}
use Rattle.grib_migrate.proofs.Joining.{few_words}
use Rattle.grib_migrate.proofs.References.{IsWordFor, word_stands}
use Rattle.grib_migrate_law.specs.Source.{MayBeMigrated, MayBeMigratedWith}
use Rattle.grib_migrate_law.proofs.OneField.{FieldPasses}
use Rattle.grib_migrate_law.proofs.WholeMessage.{FrontPasses, sections_with, message_of, whole_is_message, whole_one_field, whole_column, whole_identification, whole_local, whole_grid, whole_product}
use Rattle.grib_migrate_law.proofs.Grids.{grid_passes, grid_points_stand, grid_itself, grid_short}
use Rattle.grib_migrate_law.proofs.Products.{identification_passes, identification_itself, product_passes, product_short, product_itself}
use Rattle.grib_migrate_law.proofs.Packings.{packing_with, MayBeWritten, packing_passes, packing_itself, bitmap_short, bitmap_itself, mask_stands, bitmap_passes, data_passes, entries_stand, data_short, data_itself, values_stand, reference_stands, e_stands, d_stands}
use Rattle.grib_migrate_law.proofs.Meanings.{column_with, points_mean}

-- ---- the reference value has a word

lost_behind : (xs ys : List (Option Loss)) → first_of (xs ++ ys) ≡ None → first_of ys ≡ None
lost_behind [] ys e = e
lost_behind (Some x ∷ xs) ys e = absurd (cc)
lost_behind (None ∷ xs) ys e = lost_behind xs ys e

found : (o : Option ℕ) → first_of (lost_where (is_none o) losses.Reference ∷ []) ≡ None → (r : ℕ) × (o ≡ Some r)
found None e = absurd (cc)
found (Some r) e = (r, refl)

pub reference_found : (front : List (Option Loss)) (m : List ℕ) → first_of (front ++ number_losses (grid m) (data_section m)) ≡ None → (r : ℕ) × (binary32_of (reference (data_section m)) ≡ Some r)
reference_found front m e =
    let s2 = grid m in
    let s4 = data_section m in
    found (binary32_of (reference s4))
    (lost_behind (grid_loss s2 ∷ coordinate_loss (coordinate_list s2) ∷ []) (reference_loss s4 ∷ [])
    (lost_behind front (number_losses s2 s4) e))

-- ---- what is known of the sections

pub record Known (m : List ℕ) (r : ℕ) : Type 0 where
  pub sections : SectionsPass m
  pub holds : Holds (identification m) (grid m) (bitmap m) (data_section m) (points_of m) (values_of m)
  pub octets_1 : AreOctets (identification m)
  pub octets_2 : AreOctets (grid m)
  pub octets_4 : AreOctets (data_section m)
  pub some : 1 ≤ points_of m
  pub few : points_of m ≤ MOST_POINTS
  pub values_few : values_of m ≤ points_of m
  pub word : IsWordFor (reference (data_section m)) r
  pub may : MayBeWritten (values_of m) r (octets (data_section m) 5 6) (key_in (identification m) DecimalScale) (bit_width (data_section m))

values_by : (s3 : Option (List ℕ)) (points : ℕ) → length (mask_of s3 points) ≡ points → present_count (mask_of s3 points) ≤ points
values_by s3 points long = omega (arith, long, count_by-le-length (λ present. present) (mask_of s3 points))

pub octets_at : (m : List ℕ) (q : ℕ) → AreOctets m → AreOctets (section_at m q)
octets_at m q all = AreOctets-octet_list m q (q - 1 + octets m q (q + 2)) all

pub known : (m : List ℕ) → IsMessage1 m → All (λ octet. octet < 256) m → (r : ℕ) → binary32_of (reference (data_section m)) ≡ Some r → Known m r
known m accepted small r is =
    let passes = message_sections_pass m accepted in
    let within = points_within m accepted in
    let all = AreOctets-from_All m small in
    let s1 = identification m in
    let s4 = data_section m in
    let o1 : AreOctets s1 = octets_at m 9 all in
    let o2 : AreOctets (grid m) = octets_at m (grid_start m) all in
    let o4 : AreOctets s4 = octets_at m (data_start m) all in
    let values_are = values_by (bitmap m) (points_of m) (length-mask (points_of m) (bitmap m) passes.bitmap_stands) in
    let holds : Holds s1 (grid m) (bitmap m) s4 (points_of m) (values_of m) =
    all_hold s1 (grid m) (bitmap m) s4 (points_of m) (values_of m) passes.identification_stands passes.grid_stands passes.bitmap_stands passes.data_stands within.1 in
    let head = holds.head in
    let least = holds.identification in
    let word_fits : reference s4 < 2 ^ 32 = octets-lt s4 7 10 4 o4 (omega arith) (omega arith) (omega arith) in
    let word = word_stands (reference s4) r word_fits is in
    let rules = passes_from_none (data_rules (values_of m) s4) passes.data_stands.rules_hold in
    record {
      sections = passes;
      holds = holds;
      octets_1 = o1;
      octets_2 = o2;
      octets_4 = o4;
      some = within.0;
      few = within.1;
      values_few = values_are;
      word = word;
      may = record {
        values_fit = omega (arith, values_are, within.1);
        reference_fits = word.in_word;
        finite = word.finite;
        e_fits = octets-lt s4 5 6 2 o4 (omega arith) (omega arith) (omega arith);
        d_fits = octets-lt s1 27 28 2 o1 (omega arith) (omega arith) (omega arith);
        few_bits = ltb-false 48 (bit_width s4) rules.1.1.1.0;
      };
    }

-- ---- the sections as they are written

abbrev pub written_1 : Target → List ℕ → List ℕ
written_1 target s1 = section_of 1 (all_octets (identification_numbers target s1))

abbrev pub written_2 : List ℕ → List ℕ
written_2 own = section_of 2 own

abbrev pub written_3 : List ℕ → List ℕ
written_3 m = section_of 3 (grid_octets (points_of m) (grid m))

abbrev pub written_4 : Option Member → Target → UnitOfTime → Surfaces → List ℕ → List ℕ
written_4 member target unit surfaces m = section_of 4 (product_octets_by member target (identification m) (coordinate_list (grid m)) unit surfaces)

abbrev pub written_5 : List ℕ → ℕ → List ℕ
written_5 m r =
    packing_with (values_of m) r (octets (data_section m) 5 6) (key_in (identification m) DecimalScale) (bit_width (data_section m)) (digit (bit 3 (data_flags (data_section m))))

abbrev pub written_6 : List ℕ → List ℕ
written_6 m = section_of 6 (bitmap_octets (bitmap m) (points_of m))

abbrev pub written_7 : List ℕ → List ℕ
written_7 m = section_of 7 (data_octets (data_section m) (values_of m))

module _ (target : Target) (unit : UnitOfTime) (surfaces : Surfaces) (member : Option Member) (own : List ℕ) (brief : 5 + length own ≤ 2 ^ 24) (m : List ℕ) (r : ℕ) (is : Known m r) where
  short_1 : length (identification m) < 2 ^ 24
  short_1 = let long = is.holds.identification in short (identification m) (omega arith) is.octets_1 is.holds.stands

  short_4 : length (data_section m) < 2 ^ 24
  short_4 = let long = is.holds.head in short (data_section m) (omega arith) is.octets_4 is.holds.stands_4

  few_coordinates : length (coordinate_list (grid m)) ≤ 255
  few_coordinates =
      let long = is.holds.grid.least in
      let lt : nv (grid m) < 256 = octets-lt (grid m) 4 4 1 is.octets_2 (omega arith) (omega arith) (omega arith) in
      few_words (grid m) (omega arith)

  data_within : values_of m * bit_width (data_section m) ≤ 8 * length (drop 11 (data_section m))
  data_within = omega (arith, is.holds.numbers, length-drop 11 (data_section m))

  points_are : grid_points (written_3 m) ≡ points_of m
  points_are = grid_points_stand (grid m) (points_of m) is.octets_2 is.sections.grid_stands.rules_hold is.holds.grid refl is.some is.few

  front_passes : FrontPasses (written_1 target (identification m)) (written_2 own)
  front_passes = record {
    itself_1 = identification_itself target (identification m);
    itself_2 = StatesItself-section_of 2 own (omega (arith, brief));
    identification = identification_passes target (identification m);
  }

  field_passes : FieldPasses (written_3 m) (written_4 member target unit surfaces m) (written_5 m r) (written_6 m) (written_7 m)
  field_passes =
      let points = points_of m in
      let values = values_of m in
      let s1 = identification m in
      let s4 = data_section m in
      let e = octets s4 5 6 in
      let d = key_in s1 DecimalScale in
      let width = bit_width s4 in
      let kind = digit (bit 3 (data_flags s4)) in
      let here = points_are in
      let back = sym here in
      record {
        itself_3 = grid_itself (grid m) points is.octets_2 is.sections.grid_stands.rules_hold is.holds.grid refl is.some is.few;
        itself_4 = product_itself member target s1 (coordinate_list (grid m)) unit surfaces few_coordinates;
        itself_5 = packing_itself values r e d width kind is.may;
        itself_6 = bitmap_itself points is.few (bitmap m) is.holds.bitmap;
        itself_7 = data_itself values r e d width kind (drop 11 s4) is.may data_within (omega (arith, short_4, length-drop 11 s4));
        grid = grid_passes (grid m) points is.octets_2 is.sections.grid_stands.rules_hold is.holds.grid refl is.some is.few;
        product = product_passes member target s1 (coordinate_list (grid m)) unit surfaces few_coordinates;
        packing = ap (packing_fault_under Stated (written_5 m r)) here ∙ packing_passes values r e d width kind is.may points is.values_few;
        bitmap = λ earlier. ap₂ (λ (n k : ℕ). first_fault (bitmap_rules (written_6 m) n k earlier)) here
            (values_stand values r e d width kind is.may)
            ∙ bitmap_passes points is.few (bitmap m) is.holds.bitmap values refl earlier;
        values = data_passes values r e d width kind (drop 11 s4) is.may data_within;
      }

  mask_is : (earlier : Option (List Bool)) → mask2.mask_of (written_6 m) (grid_points (written_3 m)) earlier ≡ mask m
  mask_is earlier =
      ap (λ (n : ℕ). mask2.mask_of (written_6 m) n earlier) points_are ∙ mask_stands (points_of m) is.few (bitmap m) is.holds.bitmap earlier

  -- ---- together they are short

  sum_short : (has : Bool)
      → length (concat (sections_with has (written_1 target (identification m)) (written_2 own) (written_3 m) (written_4 member target unit surfaces m) (written_5 m r) (written_6 m) (written_7 m)))
      ≤ 268435000
  sum_short has =
      by has (written_1 target (identification m)) (written_2 own) (written_3 m) (written_4 member target unit surfaces m) (written_5 m r) (written_6 m) (written_7 m) (omega arith)
      (omega (arith, brief, length-append (octets_of 4 (5 + length own)) (2 ∷ own), length-octets_of 4 (5 + length own)))
      (grid_short (grid m) (points_of m) is.octets_2 is.sections.grid_stands.rules_hold is.holds.grid refl is.some is.few)
      (product_short member target (identification m) (coordinate_list (grid m)) unit surfaces few_coordinates) (omega arith)
      (bitmap_short (points_of m) is.few (bitmap m) is.holds.bitmap)
      (let s = data_short (values_of m) r (octets (data_section m) 5 6) (key_in (identification m) DecimalScale) (bit_width (data_section m)) (digit (bit 3 (data_flags (data_section m)))) (drop 11 (data_section m)) is.may data_within in
      omega (arith, s, short_4, length-drop 11 (data_section m)))
    where
      by : (has : Bool) (a b c d e f g : List ℕ) → length a ≤ 30 → length b ≤ 2 ^ 24 → length c ≤ 131600 → length d ≤ 1100 → length e ≤ 30 → length f ≤ 4194310 → length g ≤ 2 ^ 24
          → length (concat (sections_with has a b c d e f g)) ≤ 268435000
      by true a b c d e f g l1 l2 l3 l4 l5 l6 l7 = omega (
        arith,
        length-append a (b ++ (c ++ (d ++ (e ++ (f ++ (g ++ [])))))),
        length-append b (c ++ (d ++ (e ++ (f ++ (g ++ []))))),
        length-append c (d ++ (e ++ (f ++ (g ++ [])))),
        length-append d (e ++ (f ++ (g ++ []))),
        length-append e (f ++ (g ++ [])),
        length-append f (g ++ []),
        length-append g [],
        l1,
        l2,
        l3,
        l4,
        l5,
        l6,
        l7,
      )
      by false a b c d e f g l1 l2 l3 l4 l5 l6 l7 = omega (
        arith,
        length-append a (c ++ (d ++ (e ++ (f ++ (g ++ []))))),
        length-append c (d ++ (e ++ (f ++ (g ++ [])))),
        length-append d (e ++ (f ++ (g ++ []))),
        length-append e (f ++ (g ++ [])),
        length-append f (g ++ []),
        length-append g [],
        l1,
        l3,
        l4,
        l5,
        l6,
        l7,
      )

-- ---- the message

five_and_two : (a b c d e f g : List ℕ) → (a ++ (b ++ (c ++ (d ++ e)))) ++ (f ++ g) ≡ a ++ (b ++ (c ++ (d ++ (e ++ (f ++ (g ++ []))))))
five_and_two a b c d e f g =
    append_assoc a (b ++ (c ++ (d ++ e))) (f ++ g)
    ∙ ap (λ (zs : List ℕ). a ++ zs)
    (append_assoc b (c ++ (d ++ e)) (f ++ g)
    ∙ ap (λ (zs : List ℕ). b ++ zs)
    (append_assoc c (d ++ e) (f ++ g)
    ∙ ap (λ (zs : List ℕ). c ++ zs)
    (append_assoc d e (f ++ g) ∙ ap (λ (zs : List ℕ). d ++ (e ++ (f ++ zs))) (sym (append-nil g)))))

joined : (has : Bool) (a b c d e f g : List ℕ) → (a ++ (cond has b [] ++ (c ++ (d ++ e)))) ++ (f ++ g) ≡ concat (sections_with has a b c d e f g)
joined true a b c d e f g = five_and_two a b c d e f g
joined false a b c d e f g = five_and_two a [] c d e f g

-- the sections of a migrated message, by the word of the reference value
abbrev sections_by : Bool → Target → UnitOfTime → Surfaces → Option Member → List ℕ → List ℕ → Option ℕ → List ℕ
sections_by has target unit surfaces member own m o =
    (written_1 target (identification m) ++ (cond has (written_2 own) [] ++ (written_3 m ++ (written_4 member target unit surfaces m ++ written_5 m (option_map_or (λ w. w) o 0)))))
    ++ (written_6 m ++ written_7 m)

-- the unit of time
abbrev pub unit_in : List ℕ → UnitOfTime
unit_in m = unwrap_or (unit_of (identification m)) no_unit

-- Section 2, where there is one
abbrev pub own_section : Bool → List ℕ → List ℕ
own_section has own = cond has (written_2 own) []

module _ (target : Target) (surfaces : Surfaces) (member : Option Member) (has : Bool) (own m : List ℕ) (r : ℕ) (e : binary32_of (reference (data_section m)) ≡ Some r) where
  same_message : migrated_by target surfaces member (own_section has own) m
      ≡ message_of target.discipline has (written_1 target (identification m)) (written_2 own) (written_3 m) (written_4 member target (unit_in m) surfaces m) (written_5 m r) (written_6 m) (written_7 m)
  same_message =
      ap (λ (o : Option ℕ). let rest = sections_by has target (unit_in m) surfaces member own m o in message_with target.discipline (16 + length rest + 4) rest) e
      ∙ ap (λ (rest : List ℕ). message_with target.discipline (16 + length rest + 4) rest)
      (joined has (written_1 target (identification m)) (written_2 own) (written_3 m) (written_4 member target (unit_in m) surfaces m) (written_5 m r) (written_6 m) (written_7 m))

module _ (target : Target) (surfaces : Surfaces) (member : Option Member) (has : Bool) (own : List ℕ) (brief : 5 + length own ≤ 2 ^ 24) (m : List ℕ) (r : ℕ) (is : Known m r)
    (e : binary32_of (reference (data_section m)) ≡ Some r) where
  abbrev written : List ℕ
  written = migrated_by target surfaces member (own_section has own) m

  front : FrontPasses (written_1 target (identification m)) (written_2 own)
  front = front_passes target (unit_in m) surfaces member own brief m r is

  field : FieldPasses (written_3 m) (written_4 member target (unit_in m) surfaces m) (written_5 m r) (written_6 m) (written_7 m)
  field = field_passes target (unit_in m) surfaces member own brief m r is

  is_message : IsMessage written
  is_message =
      whole_is_message target.discipline has (written_1 target (identification m)) (written_2 own) (written_3 m) (written_4 member target (unit_in m) surfaces m) (written_5 m r) (written_6 m) (written_7 m)
      front field (sum_short target (unit_in m) surfaces member own brief m r is has) written (same_message target surfaces member has own m r e)

  one_field : field_count written ≡ 1
  one_field =
      whole_one_field target.discipline has (written_1 target (identification m)) (written_2 own) (written_3 m) (written_4 member target (unit_in m) surfaces m) (written_5 m r) (written_6 m) (written_7 m)
      front field (sum_short target (unit_in m) surfaces member own brief m r is has) written (same_message target surfaces member has own m r e)

  own_column : column_of written 1 ≡ column_from (written_5 m r) (mask m) (written_7 m)
  own_column =
      whole_column target.discipline has (written_1 target (identification m)) (written_2 own) (written_3 m) (written_4 member target (unit_in m) surfaces m) (written_5 m r) (written_6 m) (written_7 m)
      front field (sum_short target (unit_in m) surfaces member own brief m r is has) written (same_message target surfaces member has own m r e)
      (mask m) (mask_is target (unit_in m) surfaces member own brief m r is)

  parts_are : (part_octets written 1 1 ≡ written_1 target (identification m)) × (part_octets written 1 3 ≡ written_3 m) × (part_octets written 1 4 ≡ written_4 member target (unit_in m) surfaces m)
  parts_are = (
    whole_identification target.discipline has (written_1 target (identification m)) (written_2 own) (written_3 m) (written_4 member target (unit_in m) surfaces m) (written_5 m r) (written_6 m) (written_7 m)
        front field (sum_short target (unit_in m) surfaces member own brief m r is has) written (same_message target surfaces member has own m r e),
    whole_grid target.discipline has (written_1 target (identification m)) (written_2 own) (written_3 m) (written_4 member target (unit_in m) surfaces m) (written_5 m r) (written_6 m) (written_7 m)
        front field (sum_short target (unit_in m) surfaces member own brief m r is has) written (same_message target surfaces member has own m r e),
    whole_product target.discipline has (written_1 target (identification m)) (written_2 own) (written_3 m) (written_4 member target (unit_in m) surfaces m) (written_5 m r) (written_6 m) (written_7 m)
        front field (sum_short target (unit_in m) surfaces member own brief m r is has) written (same_message target surfaces member has own m r e),
  )

  local_is : has ≡ true → part_octets written 1 2 ≡ written_2 own
  local_is there =
      whole_local target.discipline has (written_1 target (identification m)) (written_2 own) (written_3 m) (written_4 member target (unit_in m) surfaces m) (written_5 m r) (written_6 m) (written_7 m)
      front field (sum_short target (unit_in m) surfaces member own brief m r is has) written (same_message target surfaces member has own m r e) there

module _ (m : List ℕ) (r : ℕ) (is : Known m r) where
  moved_column : column_from (written_5 m r) (mask m) (written_7 m)
      ≡ column_with r (octets (data_section m) 5 6) (key_in (identification m) DecimalScale) (column1_of m).points
  moved_column =
      let s4 = data_section m in
      let e = octets s4 5 6 in
      let d = key_in (identification m) DecimalScale in
      let values = values_of m in
      let width = bit_width s4 in
      let kind = digit (bit 3 (data_flags s4)) in
      let w5 = written_5 m r in
      let within : values * width ≤ 8 * length (drop 11 s4) = omega (arith, is.holds.numbers, length-drop 11 s4) in
      let points = (column1_of m).points in
      ap (λ (entries : List Point). column_with (reference_word w5) (binary_scale w5) (decimal_scale w5) (points_with_mask (mask m) entries))
      (entries_stand values r e d width kind (drop 11 s4) is.may within)
      ∙ ap (λ (x : ℕ). column_with x (binary_scale w5) (decimal_scale w5) points) (reference_stands values r e d width kind is.may)
      ∙ ap (λ (x : ℕ). column_with r x (decimal_scale w5) points) (e_stands values r e d width kind is.may)
      ∙ ap (λ (x : ℕ). column_with r e x points) (d_stands values r e d width kind is.may)

-- ---- the laws

module _ (target : Target) (surfaces : Surfaces) (member : Option Member) (has : Bool) (own : List ℕ) (brief : 5 + length own ≤ 2 ^ 24) (m : List ℕ) (accepted : IsMessage1 m) (small : All (λ octet. octet < 256) m)
    (front : List (Option Loss)) (kept : first_of (front ++ number_losses (grid m) (data_section m)) ≡ None) where
  abbrev result : List ℕ
  result = migrated_by target surfaces member (own_section has own) m

  word : (r : ℕ) × (binary32_of (reference (data_section m)) ≡ Some r)
  word = reference_found front m kept

  told : Known m word.0
  told = known m accepted small word.0 word.1

  by_is_message : IsMessage result
  by_is_message = is_message target surfaces member has own brief m word.0 told word.1

  by_one_field : field_count result ≡ 1
  by_one_field = one_field target surfaces member has own brief m word.0 told word.1

  by_parts : (part_octets result 1 1 ≡ written_1 target (identification m)) × (part_octets result 1 3 ≡ written_3 m) × (part_octets result 1 4 ≡ written_4 member target (unit_in m) surfaces m)
  by_parts = parts_are target surfaces member has own brief m word.0 told word.1

  by_local : has ≡ true → part_octets result 1 2 ≡ written_2 own
  by_local = local_is target surfaces member has own brief m word.0 told word.1

  column_is : column_of result 1 ≡ column_with word.0 (octets (data_section m) 5 6) (key_in (identification m) DecimalScale) (column1_of m).points
  column_is = own_column target surfaces member has own brief m word.0 told word.1 ∙ moved_column m word.0 told

  by_points : (column_of result 1).points ≡ (column1_of m).points
  by_points = ap (λ (c : Column). c.points) column_is

  by_meaning : SameMeaning (meaning_of result 1) (meaning1_of m)
  by_meaning =
      let points = (column1_of m).points in
      subst (λ (c : Column). SameMeaning (map (fields.meaning_at c) c.points) (meaning1_of m)) (sym column_is)
      (points_mean word.0 (reference (data_section m)) (octets (data_section m) 5 6) (key_in (identification m) DecimalScale) points told.word.number points)

-- ---- by a parameter table

-- octets for local use are few
local_brief : (m : List ℕ) → IsMessage1 m → All (λ octet. octet < 256) m → 5 + length (local_octets (identification m)) ≤ 2 ^ 24
local_brief m accepted small =
    let passes = message_sections_pass m accepted in
    let s1 = identification m in
    let long = passes.identification_stands.long in
    let few = short s1 (omega arith) (octets_at m 9 (AreOctets-from_All m small)) passes.identification_stands.length_stands in
    omega (arith, few, length-drop 40 s1)

module _ (table : Entries) (keep : Bool) (m : List ℕ) (may : MayBeMigrated table keep m) where
  abbrev target_here : Target
  target_here = target_of table (identification m)

  abbrev surfaces_here : Surfaces
  surfaces_here = unwrap_or (surfaces_of (identification m)) no_surfaces

  pub migrated_is_message : IsMessage (migrated table keep m)
  migrated_is_message =
      by_is_message target_here surfaces_here None (keep && has_local (identification m)) (local_octets (identification m)) (local_brief m may.accepted may.small) m may.accepted may.small
      (front_losses table keep (identification m) (grid m)) may.kept

  -- Sections 1, 3 and 4 in force
  pub migrated_parts :
      (let s1 = identification m in
      let target = target_of table s1 in
      (part_octets (migrated table keep m) 1 1 ≡ written_1 target s1) × (part_octets (migrated table keep m) 1 3 ≡ written_3 m)
      × (part_octets (migrated table keep m) 1 4 ≡ written_4 None target (unwrap_or (unit_of s1) no_unit) (unwrap_or (surfaces_of s1) no_surfaces) m))
  migrated_parts =
      by_parts target_here surfaces_here None (keep && has_local (identification m)) (local_octets (identification m)) (local_brief m may.accepted may.small) m may.accepted may.small
      (front_losses table keep (identification m) (grid m)) may.kept

  pub migrated_one_field : field_count (migrated table keep m) ≡ 1
  migrated_one_field =
      by_one_field target_here surfaces_here None (keep && has_local (identification m)) (local_octets (identification m)) (local_brief m may.accepted may.small) m may.accepted may.small
      (front_losses table keep (identification m) (grid m)) may.kept

  pub migrated_points : (column_of (migrated table keep m) 1).points ≡ (column1_of m).points
  migrated_points =
      by_points target_here surfaces_here None (keep && has_local (identification m)) (local_octets (identification m)) (local_brief m may.accepted may.small) m may.accepted may.small
      (front_losses table keep (identification m) (grid m)) may.kept

  pub migrated_meaning : SameMeaning (meaning_of (migrated table keep m) 1) (meaning1_of m)
  migrated_meaning =
      by_meaning target_here surfaces_here None (keep && has_local (identification m)) (local_octets (identification m)) (local_brief m may.accepted may.small) m may.accepted may.small
      (front_losses table keep (identification m) (grid m)) may.kept

-- ---- by both tables, and by what is chosen of local use

contents_brief : (local : Local) (m : List ℕ) → IsMessage1 m → All (λ octet. octet < 256) m → 5 + length (contents_of local (identification m)) ≤ 2 ^ 24
contents_brief Refuse m accepted small = local_brief m accepted small
contents_brief Keep m accepted small = local_brief m accepted small
contents_brief Ecmwf m accepted small = omega arith

module _ (table : Entries) (tops : SurfaceEntries) (local : Local) (m : List ℕ) (may : MayBeMigratedWith table tops local m) where
  abbrev target_chosen : Target
  target_chosen = unwrap_or (target_by table (named_in tops (identification m)) (identification m)) no_target

  abbrev surfaces_chosen : Surfaces
  surfaces_chosen = unwrap_or (surfaces_by (named_in tops (identification m)) (identification m)) no_surfaces

  pub chosen_is_message : IsMessage (migrated_with table tops local m)
  chosen_is_message =
      by_is_message target_chosen surfaces_chosen (member_by local (identification m)) (writes_local local (identification m)) (contents_of local (identification m)) (contents_brief local m may.accepted may.small)
      m may.accepted may.small (chosen_losses table tops local (identification m) (grid m)) may.kept

  pub chosen_one_field : field_count (migrated_with table tops local m) ≡ 1
  chosen_one_field =
      by_one_field target_chosen surfaces_chosen (member_by local (identification m)) (writes_local local (identification m)) (contents_of local (identification m)) (contents_brief local m may.accepted may.small)
      m may.accepted may.small (chosen_losses table tops local (identification m) (grid m)) may.kept

  -- Sections 1, 3 and 4 in force, and Section 2 where it is written
  pub chosen_parts :
      (part_octets (migrated_with table tops local m) 1 1 ≡ written_1 target_chosen (identification m)) × (part_octets (migrated_with table tops local m) 1 3 ≡ written_3 m)
      × (part_octets (migrated_with table tops local m) 1 4 ≡ written_4 (member_by local (identification m)) target_chosen (unit_in m) surfaces_chosen m)
  chosen_parts =
      by_parts target_chosen surfaces_chosen (member_by local (identification m)) (writes_local local (identification m)) (contents_of local (identification m)) (contents_brief local m may.accepted may.small)
      m may.accepted may.small (chosen_losses table tops local (identification m) (grid m)) may.kept

  pub chosen_local : writes_local local (identification m) ≡ true → part_octets (migrated_with table tops local m) 1 2 ≡ written_2 (contents_of local (identification m))
  chosen_local =
      by_local target_chosen surfaces_chosen (member_by local (identification m)) (writes_local local (identification m)) (contents_of local (identification m)) (contents_brief local m may.accepted may.small)
      m may.accepted may.small (chosen_losses table tops local (identification m) (grid m)) may.kept

  pub chosen_points : (column_of (migrated_with table tops local m) 1).points ≡ (column1_of m).points
  chosen_points =
      by_points target_chosen surfaces_chosen (member_by local (identification m)) (writes_local local (identification m)) (contents_of local (identification m)) (contents_brief local m may.accepted may.small)
      m may.accepted may.small (chosen_losses table tops local (identification m) (grid m)) may.kept

  pub chosen_meaning : SameMeaning (meaning_of (migrated_with table tops local m) 1) (meaning1_of m)
  chosen_meaning =
      by_meaning target_chosen surfaces_chosen (member_by local (identification m)) (writes_local local (identification m)) (contents_of local (identification m)) (contents_brief local m may.accepted may.small)
      m may.accepted may.small (chosen_losses table tops local (identification m) (grid m)) may.kept
