-- Of what a field is demoted to nothing is lost when it is migrated.
use Rattle.std.proofs.Common.{◌≡◌, ℕ, ◌+◌, ◌^◌, ◌<◌, ◌&&◌, Bool, true, false, not, cond, Option, Some, None, List, [], ◌∷◌, ◌++◌, length, get_or, nat_lt, refl, sym, ap, ap₂, ◌∙◌, subst, arith, ltb-true}
use Rattle.std.specs.Prelude.{is_none, unwrap_or}
use Rattle.grib_bits.specs.Listed.{numbers_octets}
use Rattle.grib_bits.proofs.Encoding.{num_on-octets_of}
use Rattle.grib_bits.proofs.Listed.{AreOctets-from_All, numbers_at-lt, length-numbers_at}
use Rattle.grib_bits.proofs.OctetBits.{AreOctets}
use Rattle.grib_bits.proofs.OctetNumbers.{octets-lt}
use Rattle.grib2_sections.specs.Head.{discipline}
use Rattle.grib2_grids.specs.Grid as grid2
use Rattle.grib2_grids.specs.Whole.{IsWhole as IsWholeGrid}
use Rattle.grib2_products.specs.Whole.{IsWhole as IsWholeProduct}
use Rattle.grib2_products.specs.Product.{template_length, coordinate_count}
use Rattle.grib2_products.specs.Spelled.{coordinate_list}
use Rattle.grib2_message.specs.Fields.{part_octets}
use Rattle.grib2_message.proofs.Holding.{field_octets}
use Rattle.grib_packing.specs.Packing.{reference_word}
use Rattle.grib_params.specs.declared.matching.TableMatch.{TableMatch}
use Rattle.grib_params.specs.Table.{Entries, Good, table_verdict}
use Rattle.grib_params.specs.Pairs.{Pair, first_pair}
use Rattle.grib1_sections.specs.Acceptance.{data_section}
use Rattle.grib1_sections.specs.Coordinates as coordinates1
use Rattle.grib1_sections.proofs.Joined.{Rejoined, rejoined}
use Rattle.grib_reasons.specs.declared.loss.Loss.{Loss}
use Rattle.grib_migrate.specs.Values.{reference}
use Rattle.grib_migrate.specs.References.{binary32_of}
use Rattle.grib_migrate.specs.Losses as migrate
use Rattle.grib_demote.specs.declared.product.Told.{Told}
use Rattle.grib_demote.specs.declared.level.Level.{Level}
use Rattle.grib_demote.specs.Levels.{level, level_of}
use Rattle.grib_demote.specs.Products.{centre, sub_centre, loses_centre, target_of, pair_in, local_octets, coordinate_numbers}
use Rattle.grib_bits.specs.Encoding.{all_octets}
use Rattle.grib_demote.specs.Grids.{is_listed, list_place}
use Rattle.grib_demote.specs.Values as values1
use Rattle.grib_demote.specs.Demoted.{demoted}
use Rattle.grib_demote.proofs.Holding.{field_holds}
use Rattle.grib_demote.proofs.Joining.{stated_product}
use Rattle.grib_demote.specs.Held.{Holds}
use Rattle.grib_demote_law.specs.Field.{MayBeDemoted}
use Rattle.grib_demote_law.proofs.Losses.{Kept}
use Rattle.grib_demote_law.proofs.Levels.{IsFound, level_known}
use Rattle.grib_demote_law.proofs.Tables.{pair_small}
use Rattle.grib_demote_law.proofs.Front.{no_parameter, no_level, no_unit, no_range, no_date_lost, no_average, no_local}
use Rattle.grib_demote_law.proofs.Flags.{no_flags}
use Rattle.grib_demote_law.proofs.Template.{may_stand}
use Rattle.grib_demote_law.proofs.Coordinates.{written_word, written_words, is_written, none_lost, read_again}
use Rattle.grib_demote_law.proofs.Back.{IsBack, is_back}
use Rattle.grib_demote_law.proofs.Accepted as accepted

-- ---- where each part has no loss, the message has none

none_of_eight : (rest : List (Option Loss)) (a b c d e f g h : Bool) (la lb lc ld le lf lg lh : Loss) → a ≡ false → b ≡ false → c ≡ false → d ≡ false → e ≡ false → f ≡ false → g ≡ false → h ≡ false
    → migrate.first_of rest ≡ None
    → migrate.first_of (migrate.lost_where a la ∷ migrate.lost_where b lb ∷ migrate.lost_where c lc ∷ migrate.lost_where d ld ∷ migrate.lost_where e le ∷ migrate.lost_where f lf ∷ migrate.lost_where g lg ∷ migrate.lost_where h lh ∷ rest) ≡ None
none_of_eight rest a b c d e f g h la lb lc ld le lf lg lh pa pb pc pd pe pf pg ph none = rw (pa, pb, pc, pd, pe, pf, pg, ph) none

none_of_three : (a b : Option Loss) (c : Bool) (lc : Loss) → a ≡ None → b ≡ None → c ≡ false → migrate.first_of (a ∷ b ∷ migrate.lost_where c lc ∷ []) ≡ None
none_of_three a b c lc pa pb pc = rw (pa, pb, pc) refl

-- ---- what the table and the sections tell

pub some_of : {A : Type 0} (o : Option A) → is_none o ≡ false → (x : A) × (o ≡ Some x)
some_of None e = let no : ⊥ = cc e in absurd no
some_of (Some x) e = (x, refl)

pub centre_small : (s1 : List ℕ) → loses_centre s1 ≡ false → (centre s1 < 256) × (sub_centre s1 < 256)
centre_small s1 kept = by (nat_lt (centre s1) 256) (nat_lt (sub_centre s1) 256) refl refl kept
  where
    by : (a b : Bool) → nat_lt (centre s1) 256 ≡ a → nat_lt (sub_centre s1) 256 ≡ b → not (a && b) ≡ false → (centre s1 < 256) × (sub_centre s1 < 256)
    by true true p q kept = (ltb-true (centre s1) 256 p, ltb-true (sub_centre s1) 256 q)
    by true false p q kept = let no : ⊥ = cc kept in absurd no
    by false b p q kept = let no : ⊥ = cc kept in absurd no

module _ (table : Entries) (matching : TableMatch) (keep any : Bool) (message : List ℕ) (i : ℕ) (may : MayBeDemoted table matching keep any message i) where
  abbrev part : ℕ → List ℕ
  part k = part_octets message i k

  abbrev told : Told
  told = accepted.told table matching keep any message i may

  abbrev a : List ℕ
  a = accepted.a table matching keep any message i may

  abbrev b : List ℕ
  b = accepted.b table matching keep any message i may

  abbrev d : List ℕ
  d = accepted.d table matching keep any message i may

  abbrev words : List ℕ
  words = coordinate_list (part 4)

  pub kept : Kept table matching keep any message i
  kept = accepted.kept table matching keep any message i may

  pub part_small : (k : ℕ) → AreOctets (part k)
  part_small k = field_octets message i k (AreOctets-from_All message may.small)

  pub holds : Holds (part 1) (part 3) (part 4) (part 5)
  holds = field_holds message i (accepted.reads table matching keep any message i may)

  pub grid_whole : IsWholeGrid (part 3)
  grid_whole = holds.grid kept.product.stated

  pub product_whole : IsWholeProduct (part 4)
  product_whole = holds.product (stated_product (part 4) kept.product.product)

  pub sections : Rejoined (demoted table matching keep message i) (record { identification = a; grid = b; bitmap = accepted.c table matching keep any message i may; data_section = d })
  sections = rejoined (demoted table matching keep message i) _ (accepted.field_grammar table matching keep any message i may)

  -- ---- Section 1

  -- the first version and parameter of the table
  pub pair : (p : Pair) × (pair_in table matching (discipline message) (part 1) (part 4) ≡ Some p)
  pair = some_of (pair_in table matching (discipline message) (part 1) (part 4)) kept.product.parameter

  pub pair_is : first_pair table matching (centre (part 1)) (target_of (discipline message) (part 1) (part 4)) ≡ Some (told.version, told.parameter)
  pair_is = pair.1 ∙ sym (ap (λ (o : Option Pair). Some ((unwrap_or o (0, 0)).0, (unwrap_or o (0, 0)).1)) pair.1)

  pub level_found : IsFound told.level
  level_found =
      let found = some_of (level_of (part 4)) kept.product.level in
      subst IsFound (sym (ap (λ (o : Option Level). unwrap_or o (level 0 0)) found.1)) (level_known (part 4) found.0 found.1)

  pub centre_fits : centre (part 1) < 256
  centre_fits = (centre_small (part 1) kept.product.centre).0

  -- ---- Section 2

  pub word_small : (k : ℕ) → k < length words → get_or words k 0 < 2 ^ 32
  word_small k below =
      let long = length-numbers_at (part 4) (template_length (part 4) + 1) 4 (coordinate_count (part 4)) in
      let whole = product_whole.long in
      let lt = numbers_at-lt (part 4) (template_length (part 4) + 1) 4 (coordinate_count (part 4)) (part_small 4) (omega arith) (omega arith) (omega arith) k (omega (arith, long, below)) in
      lt

  pub grid_back : IsBack b (part 3)
  grid_back =
      let s3 = part 3 in
      is_back (length words) (list_place (length words) s3) (cond (is_listed s3) 65535 (grid2.ni s3)) (grid2.nj s3) (all_octets (coordinate_numbers words)) (numbers_octets 2 (grid2.row_list s3)) s3 (part_small 3)
      kept.product.template grid_whole kept.shape.numbers

  pub coordinates_back : coordinates1.coordinate_list b ≡ written_words words
  coordinates_back =
      let s3 = part 3 in
      let passes = accepted.passes table matching keep any message i may in
      let few = accepted.few_words table matching keep any message i may in
      read_again words _ _ _ _ _ _ _ (may_stand s3 words passes.grid kept.product.template kept.shape.numbers kept.shape.rows few (is_listed s3) refl) word_small kept.shape.coordinates

  -- ---- Section 4

  pub reference_back : is_none (binary32_of (reference d)) ≡ false
  reference_back =
      let s5 = part 5 in
      let long = holds.packing in
      let small : reference_word s5 < 2 ^ 32 = octets-lt s5 12 15 4 (part_small 5) (omega arith) (omega arith) (omega arith) in
      let is = is_written (reference_word s5) small kept.reference in
      let here : reference d ≡ written_word (reference_word s5) = num_on-octets_of 4 (written_word (reference_word s5)) is.in_word in
      ap (λ (n : ℕ). is_none (binary32_of n)) here ∙ is.back

  -- ---- nothing is lost

  abbrev pub IsTold : Type 0
  IsTold = (told.version < 256) × (told.parameter < 256)

  none_here : IsTold → migrate.first_of (migrate.front_losses table keep a b ++ migrate.number_losses b d) ≡ None
  none_here few =
      let s1 = part 1 in
      let s4 = part 4 in
      let s5 = part 5 in
      let local = local_octets keep (part 2) in
      let bitmapped = values1.has_bitmap (accepted.values table matching keep any message i may) in
      let interval = kept.times.interval in
      none_of_eight (migrate.number_losses b d) _ _ _ _ _ _ _ _ _ _ _ _ _ _ _ _
      (no_parameter told bitmapped s1 s4 s5 local table matching (target_of (discipline message) s1 s4) few.0 few.1 centre_fits pair_is)
      (no_level told bitmapped s1 s4 s5 local level_found)
      (no_unit told bitmapped s1 s4 s5 local interval (part_small 1) holds.identification kept.times.date kept.times.unit refl)
      (no_range told bitmapped s1 s4 s5 local interval)
      (no_date_lost told bitmapped s1 s4 s5 local interval (part_small 1) holds.identification kept.times.date kept.times.unit refl)
      (no_average told bitmapped s1 s4 s5 local interval)
      (no_local told bitmapped keep s1 (part 2) s4 s5)
      (no_flags b (part 3) kept.shape.flags grid_back.flags_are grid_back.scanning_is)
      (none_of_three _ _ _ _ grid_back.none_lost
      (ap migrate.coordinate_loss coordinates_back ∙ none_lost 1 1 words word_small kept.shape.coordinates) reference_back)

  pub none_where : IsTold → migrate.first_loss table keep (demoted table matching keep message i) ≡ None
  none_where few =
      let first = sections.identification_is in
      let second = sections.grid_is in
      let fourth = sections.data_is in
      ap₂ (λ (x y : List ℕ). migrate.first_of (migrate.front_losses table keep x y ++ migrate.number_losses y (data_section (demoted table matching keep message i)))) first second
      ∙ ap (λ (z : List ℕ). migrate.first_of (migrate.front_losses table keep a b ++ migrate.number_losses b z)) fourth ∙ none_here few

module _ (text : List ℕ) (table : Entries) (matching : TableMatch) (keep any : Bool) (message : List ℕ) (i : ℕ) (read : table_verdict text ≡ Good table) (may : MayBeDemoted table matching keep any message i) where
  pub told_small : IsTold table matching keep any message i may
  told_small =
      let s1 = part_octets message i 1 in
      let s4 = part_octets message i 4 in
      let here = told table matching keep any message i may in
      pair_small text table read matching (centre s1) (target_of (discipline message) s1 s4) (here.version, here.parameter) (pair_is table matching keep any message i may)

  pub nothing_lost : migrate.first_loss table keep (demoted table matching keep message i) ≡ None
  nothing_lost = none_where table matching keep any message i may told_small
