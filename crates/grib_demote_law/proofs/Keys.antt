-- The keys of a field that edition 1 has a place for, and its vertical coordinates, come back.
use Rattle.std.proofs.Common.{◌≡◌, ◌⊎◌, ℕ, inl, inr, ◌+◌, ◌*◌, ◌<◌, ◌≤◌, ◌^◌, ◌||◌, ◌==◌, Bool, true, false, not, Option, Some, List, [], ◌∷◌, length, take, drop, All, refl, sym, ap, ap₂, ◌∙◌, subst, arith, take-take, eqb-true}
use Rattle.std.specs.Prelude.{unwrap_or}
use Rattle.std.specs.List.{AllByRecursion}
use Rattle.std.specs.Option.{option_and_then}
use Rattle.std.proofs.lemmas.Bool.{not-false}
use Rattle.std.proofs.lemmas.List.{drop-take}
use Rattle.std.proofs.lemmas.List.Elements.{All-from_recursion}
use Rattle.grib_bits.specs.Bits.{bits_of, signed}
use Rattle.grib_bits.specs.Octets.{octets, num_on}
use Rattle.grib_bits.specs.Encoding.{section_of}
use Rattle.grib_bits.proofs.OctetBits.{AreOctets}
use Rattle.grib_bits.proofs.OctetNumbers.{octets-lt}
use Rattle.grib_base.specs.declared.profile.Profile.TheVariants.{Stated}
use Rattle.grib2_sections.specs.Head.{discipline}
use Rattle.grib2_grids.specs.Grid as grid2
use Rattle.grib2_grids.specs.Opaque.{is_opaque_grid}
use Rattle.grib2_grids.proofs.Under.{not_opaque_grid}
use Rattle.grib2_products.specs.Product.{product_template}
use Rattle.grib2_products.specs.Spelled.{coordinate_list}
use Rattle.grib2_message.specs.Fields.{part_octets}
use Rattle.grib2_message.proofs.Holding.{field_passes_alone}
use Rattle.grib2_message.proofs.Masks.{points_bounds}
use Rattle.grib_params.specs.declared.row.Target.{Target}
use Rattle.grib_params.specs.declared.matching.TableMatch.{TableMatch}
use Rattle.grib_params.specs.declared.matching.TableMatch.TheVariants.{Same, Any}
use Rattle.grib_params.specs.Pairs.{Pair, is_local, matches}
use Rattle.grib_params.specs.Table.{Entries, Good, lookup_in, table_verdict}
use Rattle.grib1_sections.specs.Acceptance.{identification, grid}
use Rattle.grib1_sections.specs.Grid as grid1
use Rattle.grib1_sections.specs.Coordinates as coordinates1
use Rattle.grib1_sections.specs.Keys.{key_in}
use Rattle.grib_keys.specs.declared.key1.Key1.TheVariants.{Centre}
use Rattle.grib_migrate.specs.Levels.{surfaces_of, surfaces_at}
use Rattle.grib_migrate.specs.Times as times
use Rattle.grib_migrate.specs.Grids.{grid_octets as migrated_grid}
use Rattle.grib_migrate.specs.Products.{product_octets}
use Rattle.grib_migrate.specs.Source.{target_of, no_target}
use Rattle.grib_migrate.specs.Migrated.{migrated, no_unit, no_surfaces}
use Rattle.grib_migrate_law.proofs.Migrated.{migrated_is_message, migrated_one_field, migrated_parts, written_1}
use Rattle.grib_keys.specs.Keys.{unsigned, unsigned_or_missing, fixed_or_missing, signed as with_sign}
use Rattle.grib_keys.specs.declared.key.Key.{Key}
use Rattle.grib_keys.specs.declared.key.Key.TheVariants as key
use Rattle.grib_select.specs.Values.{key_value_of, value_in}
use Rattle.grib_demote.specs.declared.product.Told.{Told}
use Rattle.grib_demote.specs.declared.level.Level.{Level}
use Rattle.grib_demote.specs.Levels.{level, level_of}
use Rattle.grib_demote.specs.Grids.{is_listed}
use Rattle.grib_demote.specs.Products.{centre, local_octets}
use Rattle.grib_demote.specs.Times.{has_process, is_interval}
use Rattle.grib_demote.specs.Values as values1
use Rattle.grib_demote.specs.Demoted.{demoted}
use Rattle.grib_demote_law.specs.Field.{MayBeDemoted}
use Rattle.grib_demote_law.specs.Coordinates.{SameWords}
use Rattle.grib_demote_law.specs.Records.{Finds, parameter_of, record_of}
use Rattle.grib_demote_law.specs.Keys.{kept_keys, table_keys}
use Rattle.grib_demote_law.proofs.Losses.{Kept}
use Rattle.grib_demote_law.proofs.Grids.{type_stands, rows_stand}
use Rattle.grib_demote_law.proofs.Template.{may_stand, rows_few}
use Rattle.grib_demote_law.proofs.Pairs.{HasNumbers, first_finds, has_numbers, has_local, target_is}
use Rattle.grib_demote_law.proofs.Tables.{target_small}
use Rattle.grib_demote_law.proofs.Front.{version_is, parameter_is, centre_is}
use Rattle.grib_demote_law.proofs.Surfaces.{kind_of, level_kind}
use Rattle.grib_demote_law.proofs.KeyValues.{plain_key, missing_key, signed_key, signed_written, stated_key, instant_key}
use Rattle.grib_demote_law.proofs.Keys1 as keys1
use Rattle.grib_demote_law.proofs.Keys3 as keys3
use Rattle.grib_demote_law.proofs.Keys3.{SameGrid, grid_same}
use Rattle.grib_demote_law.proofs.Keys4 as keys4
use Rattle.grib_demote_law.proofs.Intervals.{SameInterval, with_interval, no_interval}
use Rattle.grib_demote_law.proofs.Vertical.{words_back}
use Rattle.grib_demote_law.proofs.Accepted as accepted
use Rattle.grib_demote_law.proofs.WayBack as back
use Rattle.grib_demote_law.proofs.WayBack.{some_of, centre_small}
use Rattle.grib_demote_law.proofs.Meaning.{may_be_migrated}

-- the keys of an interval
abbrev interval_list : List Key
interval_list =
    key.EndYear ∷ key.EndMonth ∷ key.EndDay ∷ key.EndHour ∷ key.EndMinute ∷ key.EndSecond ∷ key.RangeProcess ∷ key.RangeIncrementType ∷ key.RangeUnit ∷ key.RangeLength ∷ []

module _ (text : List ℕ) (table : Entries) (matching : TableMatch) (keep any : Bool) (message : List ℕ) (i : ℕ) (read : table_verdict text ≡ Good table) (may : MayBeDemoted table matching keep any message i) where
  abbrev part : ℕ → List ℕ
  part k = part_octets message i k

  abbrev old : List ℕ
  old = demoted table matching keep message i

  abbrev new : List ℕ
  new = migrated table keep old

  abbrev a : List ℕ
  a = accepted.a table matching keep any message i may

  abbrev b : List ℕ
  b = accepted.b table matching keep any message i may

  abbrev told : Told
  told = accepted.told table matching keep any message i may

  abbrev bitmapped : Bool
  bitmapped = values1.has_bitmap (accepted.values table matching keep any message i may)

  abbrev local : List ℕ
  local = local_octets keep (part 2)

  abbrev words : List ℕ
  words = coordinate_list (part 4)

  kept : Kept table matching keep any message i
  kept = accepted.kept table matching keep any message i may

  small : (k : ℕ) → AreOctets (part k)
  small k = back.part_small table matching keep any message i may k

  -- a number of one octet
  one : (k n : ℕ) → 1 ≤ n → n ≤ length (part k) → octets (part k) n n < 256
  one k n low long =
      let few : octets (part k) n n < 2 ^ (8 * 1) = octets-lt (part k) n n 1 (small k) (omega (arith, low)) (omega arith) (omega (arith, long)) in
      omega (arith, few)

  -- ---- the parameter

  abbrev parameter : Target
  parameter = parameter_of message i

  -- the record that the look-up finds
  pub finds : Finds table matching (centre (part 1)) parameter (told.version, told.parameter)
  finds = first_finds table matching (centre (part 1)) parameter (told.version, told.parameter) (back.pair_is table matching keep any message i may)

  abbrev target : Target
  target = finds.target

  numbers : HasNumbers parameter target
  numbers = has_numbers matching parameter target finds.stands

  target_here : target_of table a ≡ target
  target_here =
      let few = back.told_small text table matching keep any message i read may in
      let centred = centre_is told bitmapped (part 1) (part 4) (part 5) local (back.centre_fits table matching keep any message i may) in
      ap₂ (λ (v p : ℕ). unwrap_or (lookup_in table (key_in a Centre) v p) no_target) (version_is told bitmapped (part 1) (part 4) (part 5) local few.0)
      (parameter_is told bitmapped (part 1) (part 4) (part 5) local few.1)
      ∙ ap (λ (c : ℕ). unwrap_or (lookup_in table c told.version told.parameter) no_target) centred ∙ ap (λ (o : Option Target). unwrap_or o no_target) finds.found

  -- ---- the sections that are in force

  first_is : identification old ≡ a
  first_is = (back.sections table matching keep any message i may).identification_is

  second_is : grid old ≡ b
  second_is = (back.sections table matching keep any message i may).grid_is

  abbrev w1 : List ℕ
  w1 = written_1 target a

  abbrev w3 : List ℕ
  w3 = section_of 3 (migrated_grid (grid2.grid_points (part 3)) b)

  abbrev w4 : List ℕ
  w4 = section_of 4 (product_octets target a (coordinates1.coordinate_list b) (unwrap_or (times.unit_of a) no_unit) (unwrap_or (surfaces_of a) no_surfaces))

  part_1 : part_octets new 1 1 ≡ w1
  part_1 =
      (migrated_parts table keep old (may_be_migrated text table matching keep any message i read may)).0 ∙ ap (λ (x : List ℕ). written_1 (target_of table x) x) first_is
      ∙ ap (λ (t : Target). written_1 t a) target_here

  part_3 : part_octets new 1 3 ≡ w3
  part_3 =
      (migrated_parts table keep old (may_be_migrated text table matching keep any message i read may)).1
      ∙ ap (λ (g : List ℕ). section_of 3 (migrated_grid (grid1.grid_points g) g)) second_is
      ∙ ap (λ (n : ℕ). section_of 3 (migrated_grid n b)) (accepted.grid_points_are table matching keep any message i may)

  part_4 : part_octets new 1 4 ≡ w4
  part_4 =
      (migrated_parts table keep old (may_be_migrated text table matching keep any message i read may)).2
      ∙ ap₂ (λ (x g : List ℕ). section_of 4 (product_octets (target_of table x) x (coordinates1.coordinate_list g) (unwrap_or (times.unit_of x) no_unit) (unwrap_or (surfaces_of x) no_surfaces))) first_is second_is
      ∙ ap (λ (t : Target). section_of 4 (product_octets t a (coordinates1.coordinate_list b) (unwrap_or (times.unit_of a) no_unit) (unwrap_or (surfaces_of a) no_surfaces))) target_here

  -- ---- Section 0

  discipline_back : octets (take 16 new) 7 7 ≡ octets (take 16 message) 7 7
  discipline_back =
      let first : octets (take 16 new) 7 7 ≡ (target_of table (identification old)).discipline = alone (target_of table (identification old)).discipline in
      first ∙ ap (λ (x : List ℕ). (target_of table x).discipline) first_is ∙ ap (λ (t : Target). t.discipline) target_here ∙ numbers.discipline ∙ seventh message
    where
      alone : (n : ℕ) → 0 * 256 + n ≡ n
      alone n = omega arith

      seventh : (m : List ℕ) → octets m 7 7 ≡ octets (take 16 m) 7 7
      seventh m = ap (num_on 0) (sym (ap (take 1) (drop-take 6 10 m) ∙ take-take 1 10 (drop 6 m) (omega arith)))

  -- ---- Section 3

  -- the grid that is written is not opaque
  grid_stated : is_opaque_grid (part_octets new 1 3) ≡ false
  grid_stated =
      let may_come_back = may_be_migrated text table matching keep any message i read may in
      let one_field = migrated_one_field table keep old may_come_back in
      let passes = field_passes_alone Stated new 1 (migrated_is_message table keep old may_come_back) (omega arith) (omega (arith, one_field)) in
      not_opaque_grid (part_octets new 1 3) passes.grid

  grid_keys : SameGrid w3 (part 3)
  grid_keys =
      let s3 = part 3 in
      let passes = accepted.passes table matching keep any message i may in
      let few = accepted.few_words table matching keep any message i may in
      let stands = may_stand s3 words passes.grid kept.product.template kept.shape.numbers kept.shape.rows few (is_listed s3) refl in
      grid_same (grid2.grid_points s3) b s3 (back.grid_back table matching keep any message i may) (small 3) (sym (ap is_opaque_grid part_3) ∙ grid_stated) kept.product.stated kept.product.template (back.grid_whole table matching keep any message i may)
      (type_stands (length words) _ _ _ _ _ _ _ _ stands)

  points_key : octets w3 7 10 ≡ octets (part 3) 7 10
  points_key =
      let passes = accepted.passes table matching keep any message i may in
      let bounds = points_bounds Stated (part 3) passes.grid in
      let most = bounds.1 in
      keys3.points_back (grid2.grid_points (part 3)) b (part 3) (back.grid_back table matching keep any message i may) (small 3) (omega (arith, most))

  nj_key : octets w3 35 38 ≡ octets (part 3) 35 38
  nj_key =
      let s3 = part 3 in
      let passes = accepted.passes table matching keep any message i may in
      let few = accepted.few_words table matching keep any message i may in
      let stands = may_stand s3 words passes.grid kept.product.template kept.shape.numbers kept.shape.rows few (is_listed s3) refl in
      let lt = rows_few s3 words passes.grid kept.product.template kept.shape.numbers kept.shape.rows few in
      keys3.nj_back (grid2.grid_points s3) b s3 (back.grid_back table matching keep any message i may) (small 3) (rows_stand (length words) _ _ _ _ _ _ _ _ stands) (omega (arith, lt))

  -- ---- Section 4

  surface_kind : (l x y : ℕ) → kind_of (surfaces_at told.level.level_type l x y) ≡ octets (part 4) 23 23
  surface_kind =
      let found = some_of (level_of (part 4)) kept.product.level in
      subst (λ (v : Level). (l x y : ℕ) → kind_of (surfaces_at v.level_type l x y) ≡ octets (part 4) 23 23) (sym (ap (λ (o : Option Level). unwrap_or o (level 0 0)) found.1)) (level_kind (part 4) found.0 found.1)

  -- the template without an interval
  known_template : (t : ℕ) → not ((t == 0) || (t == 8)) ≡ false → (t ≡ 0) ⊎ (t ≡ 8)
  known_template t known = by (t == 0) (t == 8) refl refl known
    where
      by : (x y : Bool) → (t == 0) ≡ x → (t == 8) ≡ y → not (x || y) ≡ false → (t ≡ 0) ⊎ (t ≡ 8)
      by true y is_0 is_8 known = inl (eqb-true t 0 is_0)
      by false true is_0 is_8 known = inr (eqb-true t 8 is_8)
      by false false is_0 is_8 known = let no : ⊥ = cc known in absurd no

  instant_template : is_interval (part 4) ≡ false → octets (part 4) 8 9 ≡ 0
  instant_template off = by (product_template (part 4) == 0) (product_template (part 4) == 8) refl refl off kept.product.product
    where
      by : (x y : Bool) → (product_template (part 4) == 0) ≡ x → (product_template (part 4) == 8) ≡ y → is_interval (part 4) ≡ false → not (x || y) ≡ false → product_template (part 4) ≡ 0
      by true y is_0 is_8 off known = eqb-true (product_template (part 4)) 0 is_0
      by false true is_0 is_8 off known = let no : ⊥ = cc (sym is_8 ∙ off) in absurd no
      by false false is_0 is_8 off known = let no : ⊥ = cc known in absurd no

  interval_keys : SameInterval w4 (part 4)
  interval_keys = by (is_interval (part 4)) refl
    where
      template : octets w4 8 9 ≡ octets (part 4) 8 9
      template = keys4.template_back told bitmapped (part 1) (part 4) (part 5) local (coordinates1.coordinate_list b) target kept.times.interval kept.product.product

      by : (x : Bool) → is_interval (part 4) ≡ x → SameInterval w4 (part 4)
      by true on =
          let h = back.holds table matching keep any message i may in
          with_interval told bitmapped (part 1) (part 4) (part 5) local (coordinates1.coordinate_list b) target kept.times.interval (small 1) h.identification (small 4) (back.product_whole table matching keep any message i may).long kept.times.date
          kept.times.unit refl template on
      by false off = no_interval w4 (part 4) (template ∙ instant_template off) (instant_template off)

  last_keys : AllByRecursion (λ key. key_value_of new 1 key ≡ key_value_of message i key) interval_list
  last_keys =
      let k = interval_keys in
      (ap (value_in key.EndYear) part_4 ∙ k.end_year, (ap (value_in key.EndMonth) part_4 ∙ k.end_month, (ap (value_in key.EndDay) part_4 ∙ k.end_day, (ap (value_in key.EndHour) part_4 ∙ k.end_hour, (ap (value_in key.EndMinute) part_4 ∙ k.end_minute, (ap (value_in key.EndSecond) part_4 ∙ k.end_second, (ap (value_in key.RangeProcess) part_4 ∙ k.range_process, (ap (value_in key.RangeIncrementType) part_4 ∙ k.range_increment, (ap (value_in key.RangeUnit) part_4 ∙ k.range_unit, (ap (value_in key.RangeLength) part_4 ∙ k.range_length_is, tt))))))))))

  -- ---- all of them

  pub keys_come_back : All (λ key. key_value_of new 1 key ≡ key_value_of message i key) kept_keys
  keys_come_back =
      let s1 = part 1 in
      let s3 = part 3 in
      let s4 = part 4 in
      let s5 = part 5 in
      let x1 = part_octets new 1 1 in
      let x3 = part_octets new 1 3 in
      let x4 = part_octets new 1 4 in
      let h = back.holds table matching keep any message i may in
      let template_4 : octets x4 8 9 ≡ product_template s4 =
      ap (λ (x : List ℕ). octets x 8 9) part_4
      ∙ keys4.template_back told bitmapped s1 s4 s5 local (coordinates1.coordinate_list b) target kept.times.interval kept.product.product in
      let template_known = known_template (product_template s4) kept.product.product in
      let long_1 = h.identification in
      let long_4 = (back.product_whole table matching keep any message i may).least in
      let centred = centre_small s1 kept.product.centre in
      let interval = kept.times.interval in
      let has = not-false (has_process s4) kept.times.process in
      let date = kept.times.date in
      let found = coordinates1.coordinate_list b in
      All-from_recursion (λ key. key_value_of new 1 key ≡ key_value_of message i key) kept_keys (
        plain_key (take 16 new) (take 16 new) (take 16 message) 7 7 refl discipline_back,
        (
          plain_key x1 w1 s1 6 7 part_1 (keys1.centre_back told bitmapped s1 s4 s5 local target centred.0),
          (
            plain_key x1 w1 s1 8 9 part_1 (keys1.sub_centre_back told bitmapped s1 s4 s5 local target centred.1),
            (
              plain_key x1 w1 s1 13 14 part_1 (keys1.year_back told bitmapped s1 s4 s5 local target (small 1) long_1 date),
              (
                plain_key x1 w1 s1 15 15 part_1 (keys1.month_back told bitmapped s1 s4 s5 local target (small 1) long_1 date),
                (
                  plain_key x1 w1 s1 16 16 part_1 (keys1.day_back told bitmapped s1 s4 s5 local target (small 1) long_1 date (one 1 16 (omega arith) (omega (arith, long_1)))),
                  (
                    plain_key x1 w1 s1 17 17 part_1 (keys1.hour_back told bitmapped s1 s4 s5 local target (small 1) long_1 date (one 1 17 (omega arith) (omega (arith, long_1)))),
                    (
                      plain_key x1 w1 s1 18 18 part_1 (keys1.minute_back told bitmapped s1 s4 s5 local target (small 1) long_1 date (one 1 18 (omega arith) (omega (arith, long_1)))),
                      (
                        plain_key x1 w1 s1 19 19 part_1 (keys1.second_back told bitmapped s1 s4 s5 local target (small 1) long_1 date),
                        (
                          plain_key x3 w3 s3 13 14 part_3 grid_keys.template,
                          (
                            plain_key x3 w3 s3 7 10 part_3 points_key,
                            (
                              stated_key fixed_or_missing x3 s3 (record { first = 35; last = 38 }) grid_stated kept.product.stated (missing_key 4 x3 w3 s3 35 38 part_3 nj_key),
                              (
                                ap (value_in key.Scanning) part_3 ∙ grid_keys.scanning_key,
                                (
                                  ap (value_in key.La1) part_3 ∙ grid_keys.la1_key,
                                  (
                                    ap (value_in key.Lo1) part_3 ∙ grid_keys.lo1_key,
                                    (
                                      plain_key x4 w4 s4 8 9 part_4 (keys4.template_back told bitmapped s1 s4 s5 local found target interval kept.product.product),
                                      (
                                        plain_key x4 w4 s4 10 10 part_4 (keys4.category_back told bitmapped s1 s4 s5 local found target interval numbers.category (one 4 10 (omega arith) (omega (arith, long_4)))),
                                        (
                                          plain_key x4 w4 s4 11 11 part_4 (keys4.number_back told bitmapped s1 s4 s5 local found target interval numbers.number (one 4 11 (omega arith) (omega (arith, long_4)))),
                                          (
                                            instant_key unsigned x4 s4 12 12 (product_template s4) template_4 refl template_known (plain_key x4 w4 s4 12 12 part_4 (keys4.process_key told bitmapped s1 s4 s5 local found target interval has (one 4 12 (omega arith) (omega (arith, long_4))))),
                                            (
                                              instant_key unsigned x4 s4 14 14 (product_template s4) template_4 refl template_known (plain_key x4 w4 s4 14 14 part_4 (keys4.generator_back told bitmapped s1 s4 s5 local found target interval (one 4 14 (omega arith) (omega (arith, long_4))))),
                                              (
                                                instant_key unsigned x4 s4 18 18 (product_template s4) template_4 refl template_known (plain_key x4 w4 s4 18 18 part_4 (keys4.unit_back told bitmapped s1 s4 s5 local found target interval kept.times.unit refl (one 4 18 (omega arith) (omega (arith, long_4))))),
                                                (
                                                  instant_key with_sign x4 s4 19 22 (product_template s4) template_4 refl template_known (signed_key x4 w4 s4 19 22 part_4
                                                      (signed_written w4 s4 19 22 (times.forecast_time a) (small 4) (omega arith) (omega arith) (omega (arith, long_4)) refl
                                                      (ap (λ (n : ℕ). signed (bits_of 32 n)) (keys4.forecast_is told bitmapped s1 s4 s5 local found target interval has)))),
                                                  (
                                                    instant_key unsigned_or_missing x4 s4 23 23 (product_template s4) template_4 refl template_known (missing_key 1 x4 w4 s4 23 23 part_4
                                                        (keys4.surface_back told bitmapped s1 s4 s5 local found target interval (back.level_found table matching keep any message i may) surface_kind
                                                        (one 4 23 (omega arith) (omega (arith, long_4))))),
                                                    last_keys,
                                                  ),
                                                ),
                                              ),
                                            ),
                                          ),
                                        ),
                                      ),
                                    ),
                                  ),
                                ),
                              ),
                            ),
                          ),
                        ),
                      ),
                    ),
                  ),
                ),
              ),
            ),
          ),
        ),
      )

  -- the versions of the tables
  pub tables_come_back : All (λ key. key_value_of new 1 key ≡ key_value_of message i key) (table_keys matching (is_local parameter))
  tables_come_back = by matching finds.stands (is_local parameter) refl
    where
      long_1 : 21 ≤ length (part 1)
      long_1 = (back.holds table matching keep any message i may).identification

      master : target.master ≡ parameter.master → key_value_of new 1 key.MasterTables ≡ key_value_of message i key.MasterTables
      master is = plain_key (part_octets new 1 1) w1 (part 1) 10 10 part_1 (keys1.master_back told bitmapped (part 1) (part 4) (part 5) local target is (one 1 10 (omega arith) (omega (arith, long_1))))

      locals : target.local ≡ parameter.local → key_value_of new 1 key.LocalTables ≡ key_value_of message i key.LocalTables
      locals is = plain_key (part_octets new 1 1) w1 (part 1) 11 11 part_1 (keys1.local_back told bitmapped (part 1) (part 4) (part 5) local target is (one 1 11 (omega arith) (omega (arith, long_1))))

      by : (m : TableMatch) → matches m parameter target ≡ true → (b : Bool) → is_local parameter ≡ b → All (λ key. key_value_of new 1 key ≡ key_value_of message i key) (table_keys m b)
      by Same stands b e =
          let same = target_is parameter target stands in
          All-from_recursion (λ key. key_value_of new 1 key ≡ key_value_of message i key) (table_keys Same b)
          (master (sym (ap (λ (t : Target). t.master) same)), (locals (sym (ap (λ (t : Target). t.local) same)), tt))
      by Any stands true e =
          All-from_recursion (λ key. key_value_of new 1 key ≡ key_value_of message i key) (table_keys Any true) (locals (has_local parameter target stands e), tt)
      by Any stands false e = All-from_recursion (λ key. key_value_of new 1 key ≡ key_value_of message i key) (table_keys Any false) tt

  pub tables_are : (row : Target) → record_of table matching message i ≡ Some row
      → (octets (part_octets new 1 1) 10 10 ≡ row.master) × (octets (part_octets new 1 1) 11 11 ≡ row.local)
  tables_are row is =
      let looked : record_of table matching message i ≡ Some target =
      ap (option_and_then (λ (p : Pair). lookup_in table (centre (part 1)) p.0 p.1)) (back.pair_is table matching keep any message i may) ∙ finds.found in
      let whole : Some target ≡ Some row = sym looked ∙ is in
      let same : target ≡ row = cc whole in
      let few = target_small text table read (centre (part 1)) told.version told.parameter target finds.found in (
        ap (λ (s : List ℕ). octets s 10 10) part_1 ∙ keys1.master_is told bitmapped (part 1) (part 4) (part 5) local target few.0 ∙ ap (λ (t : Target). t.master) same,
        ap (λ (s : List ℕ). octets s 11 11) part_1 ∙ keys1.local_is told bitmapped (part 1) (part 4) (part 5) local target few.1 ∙ ap (λ (t : Target). t.local) same,
      )

  -- ---- the vertical coordinates

  pub coordinates_come_back : SameWords (coordinate_list (part_octets new 1 4)) (coordinate_list (part 4))
  coordinates_come_back =
      let unit = unwrap_or (times.unit_of a) no_unit in
      let surfaces = unwrap_or (surfaces_of a) no_surfaces in
      let written = ap (λ (xs : List ℕ). section_of 4 (product_octets target a xs unit surfaces)) (back.coordinates_back table matching keep any message i may) in
      subst (λ (s : List ℕ). SameWords (coordinate_list s) words) (sym (part_4 ∙ written))
      (words_back target a words unit surfaces (accepted.few_words table matching keep any message i may) (back.word_small table matching keep any message i may) kept.shape.coordinates)
