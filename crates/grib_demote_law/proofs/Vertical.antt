-- The vertical coordinates of Section 4 come back.
use Rattle.std.proofs.Common.{◌≡◌, ℕ, zero, suc, ◌+◌, ◌*◌, ◌<◌, ◌≤◌, ◌^◌, ◌==◌, Bool, true, false, cond, Option, None, List, [], ◌∷◌, ◌++◌, length, map, get_or, refl, sym, ap, ap₂, ◌∙◌, subst, arith}
use Rattle.std.specs.Prelude.{is_none, unwrap_or}
use Rattle.std.specs.Option.{option_map_or}
use Rattle.std.proofs.lemmas.List.{length-map}
use Rattle.grib_bits.specs.Octets.{octets}
use Rattle.grib_bits.specs.Encoding.{octets_of, section_of, all_octets}
use Rattle.grib_bits.specs.Listed.{numbers_octets, numbers_at}
use Rattle.grib_bits.proofs.Encoding.{num_on-octets_of}
use Rattle.grib_bits.proofs.Listed.{numbers_at-behind}
use Rattle.grib_dyadic.specs.Reference.{SameNumber, ieee, ibm}
use Rattle.grib_dyadic.proofs.Numbers.{SameNumber_trans}
use Rattle.grib_params.specs.declared.row.Target.{Target}
use Rattle.grib2_sections.specs.Template.{least_length}
use Rattle.grib2_products.specs.Product.{product_templates, template_length, coordinate_count}
use Rattle.grib2_products.specs.Spelled.{coordinate_list}
use Rattle.grib1_sections.specs.Keys.{key_in}
use Rattle.grib_keys.specs.declared.key1.Key1.TheVariants.{TimeRange}
use Rattle.grib_migrate.specs.declared.level.Surfaces.{Surfaces}
use Rattle.grib_migrate.specs.declared.time.Unit.{Unit as UnitOfTime}
use Rattle.grib_migrate.specs.Products.{template_of, instant_numbers, interval_numbers, coordinate_numbers, product_octets}
use Rattle.grib_migrate.specs.References.{binary32_of}
use Rattle.grib_migrate.specs.Times.{is_interval}
use Rattle.grib_migrate.proofs.References.{word_stands}
use Rattle.grib_demote.specs.Words.{ibm_of}
use Rattle.grib_demote.specs.Losses.{coordinate_loss_from}
use Rattle.grib_demote_law.specs.Coordinates.{SameWords}
use Rattle.grib_demote_law.proofs.Coordinates.{written_words, not_lost}
use Rattle.grib_demote_law.proofs.Words.{comes_back}
use Rattle.grib_demote_law.proofs.WayBack.{some_of}

-- the binary32 words of IBM words
abbrev new_word : ℕ → ℕ
new_word word = option_map_or (λ w. w) (binary32_of word) 0

abbrev new_words : List ℕ → List ℕ
new_words words = map new_word words

as_numbers : (words : List ℕ) → all_octets (coordinate_numbers words) ≡ numbers_octets 4 (new_words words)
as_numbers [] = refl
as_numbers (word ∷ words) = ap (λ (xs : List ℕ). octets_of 4 (new_word word) ++ xs) (as_numbers words)

-- ---- one word there and back

record IsBack (word : ℕ) : Type 0 where
  in_word : new_word (unwrap_or (ibm_of word) 0) < 2 ^ 32
  number : SameNumber (ieee (new_word (unwrap_or (ibm_of word) 0))) (ieee word)

is_back : (word : ℕ) → word < 2 ^ 32 → is_none (ibm_of word) ≡ false → IsBack word
is_back word small some =
    let found = some_of (ibm_of word) some in
    let is = comes_back word found.0 small found.1 in
    let stands = word_stands found.0 is.back is.in_word is.is_back in
    let same : new_word (unwrap_or (ibm_of word) 0) ≡ is.back = ap (λ (o : Option ℕ). new_word (unwrap_or o 0)) found.1 ∙ ap (λ (o : Option ℕ). option_map_or (λ w. w) o 0) is.is_back in
    record {
      in_word = subst (λ (n : ℕ). n < 2 ^ 32) (sym same) stands.in_word;
      number = subst (λ (n : ℕ). SameNumber (ieee n) (ieee word)) (sym same) (SameNumber_trans (ieee is.back) (ibm found.0) (ieee word) stands.number is.number);
    }

all_back : (i : ℕ) (words : List ℕ) → ((k : ℕ) → k < length words → get_or words k 0 < 2 ^ 32) → coordinate_loss_from i words ≡ None
    → SameWords (new_words (written_words words)) words
all_back i [] small none = tt
all_back i (word ∷ words) small none =
    let parts = not_lost i word words none in
    ((is_back word (small 0 (omega arith)) parts.0).number, all_back (i + 1) words (λ k h. small (suc k) (omega arith)) parts.1)

all_small : (i : ℕ) (words : List ℕ) → ((k : ℕ) → k < length words → get_or words k 0 < 2 ^ 32) → coordinate_loss_from i words ≡ None
    → (k : ℕ) → k < length (new_words (written_words words)) → get_or (new_words (written_words words)) k 0 < 256 ^ 4
all_small i [] small none k within = absurd (omega arith)
all_small i (word ∷ words) small none zero within = (is_back word (small 0 (omega arith)) (not_lost i word words none).0).in_word
all_small i (word ∷ words) small none (suc k) within = all_small (i + 1) words (λ j h. small (suc j) (omega arith)) (not_lost i word words none).1 k (omega arith)

-- ---- Section 4 as it is read again

-- the length of a template
abbrev length_by : ℕ → List ℕ → ℕ
length_by t s = least_length product_templates t + 12 * cond (t == 8) (octets s 42 42) (cond (t == 11) (octets s 45 45) 0)

module _ (target : Target) (a words : List ℕ) (unit : UnitOfTime) (surfaces : Surfaces) (few : length words ≤ 255)
    (small : (k : ℕ) → k < length (new_words words) → get_or (new_words words) k 0 < 256 ^ 4) where
  abbrev contents : Bool → List ℕ
  contents b = all_octets (instant_numbers target a unit surfaces (length words)) ++ (all_octets (cond b (interval_numbers a unit) []) ++ all_octets (coordinate_numbers words))

  abbrev section_by : Bool → List ℕ
  section_by b = section_of 4 (contents b)

  abbrev front : Bool → List ℕ
  front b = octets_of 4 (5 + length (contents b)) ++ 4 ∷ (all_octets (instant_numbers target a unit surfaces (length words)) ++ all_octets (cond b (interval_numbers a unit) []))

  count_is : (b : Bool) → coordinate_count (section_by b) ≡ length words
  count_is b = num_on-octets_of 2 (length words) (omega (arith, few))

  read_by : (b : Bool) → is_interval (key_in a TimeRange) ≡ b → coordinate_list (section_by b) ≡ new_words words
  read_by true on =
      let template : octets (section_by true) 8 9 ≡ 8 = num_on-octets_of 2 (template_of a) (few_by (is_interval (key_in a TimeRange))) ∙ ap (λ (b : Bool). cond b 8 0) on in
      let place : template_length (section_by true) + 1 ≡ 59 = ap (λ (t : ℕ). length_by t (section_by true) + 1) template in
      let joined : section_by true ≡ front true ++ numbers_octets 4 (new_words words) = ap (λ (xs : List ℕ). front true ++ xs) (as_numbers words) in
      ap₂ (λ (f n : ℕ). numbers_at (section_by true) f 4 n) place (count_is true ∙ sym (length-map words new_word))
      ∙ ap (λ (xs : List ℕ). numbers_at xs 59 4 (length (new_words words))) joined ∙ sym (numbers_at-behind (front true) 4 (new_words words) 59 (omega arith) (omega arith) small)
    where
      few_by : (b : Bool) → cond b 8 0 < 256 ^ 2
      few_by true = omega arith
      few_by false = omega arith
  read_by false off =
      let template : octets (section_by false) 8 9 ≡ 0 = num_on-octets_of 2 (template_of a) (few_by (is_interval (key_in a TimeRange))) ∙ ap (λ (b : Bool). cond b 8 0) off in
      let place : template_length (section_by false) + 1 ≡ 35 = ap (λ (t : ℕ). length_by t (section_by false) + 1) template in
      let joined : section_by false ≡ front false ++ numbers_octets 4 (new_words words) = ap (λ (xs : List ℕ). front false ++ xs) (as_numbers words) in
      ap₂ (λ (f n : ℕ). numbers_at (section_by false) f 4 n) place (count_is false ∙ sym (length-map words new_word))
      ∙ ap (λ (xs : List ℕ). numbers_at xs 35 4 (length (new_words words))) joined ∙ sym (numbers_at-behind (front false) 4 (new_words words) 35 (omega arith) (omega arith) small)
    where
      few_by : (b : Bool) → cond b 8 0 < 256 ^ 2
      few_by true = omega arith
      few_by false = omega arith

  pub words_read : coordinate_list (section_of 4 (product_octets target a words unit surfaces)) ≡ new_words words
  words_read = read_by (is_interval (key_in a TimeRange)) refl

module _ (target : Target) (a words : List ℕ) (unit : UnitOfTime) (surfaces : Surfaces) (few : length words ≤ 255)
    (small : (k : ℕ) → k < length words → get_or words k 0 < 2 ^ 32) (none : coordinate_loss_from 1 words ≡ None) where
  pub words_back : SameWords (coordinate_list (section_of 4 (product_octets target a (written_words words) unit surfaces))) words
  words_back =
      let many = length-map words (λ word. unwrap_or (ibm_of word) 0) in
      subst (λ (xs : List ℕ). SameWords xs words) (sym (words_read target a (written_words words) unit surfaces (omega (arith, few, many)) (all_small 1 words small none))) (all_back 1 words small none)
