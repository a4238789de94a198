-- The vertical coordinates of Section 2 as they are written are read again, and none of them is lost when it is
-- migrated.
use Rattle.std.proofs.Common.{◌≡◌, ℕ, ◌+◌, ◌-◌, ◌*◌, ◌^◌, ◌<◌, ◌&&◌, ◌||◌, ◌==◌, Bool, true, false, not, cond, Option, Some, None, List, [], ◌∷◌, ◌++◌, length, map, get_or, suc, zero, nat_lt, refl, sym, ap, ap₂, ◌∙◌, subst, arith, append_assoc, length-append, lt-ltb, ne_eqb}
use Rattle.std.specs.Prelude.{is_none, unwrap_or}
use Rattle.std.proofs.lemmas.Bool.{or_parts}
use Rattle.std.proofs.lemmas.List.{length-map}
use Rattle.std.proofs.lemmas.List.FromFn.{fill_by_all}
use Rattle.grib_bits.specs.Octets.{octets}
use Rattle.grib_bits.specs.Encoding.{octets_of, all_octets}
use Rattle.grib_bits.specs.Listed.{number_at, numbers_at, numbers_octets}
use Rattle.grib_bits.proofs.Encoding.{length-octets_of, octets-within, num_on-octets_of}
use Rattle.grib_reasons.specs.declared.demotion.Demotion.TheVariants.{Coordinate}
use Rattle.grib_reasons.specs.declared.loss.Loss.TheVariants as losses
use Rattle.grib1_sections.specs.Grid.{nv, list_place, has_list, lists_rows}
use Rattle.grib1_sections.specs.Coordinates.{coordinate_list}
use Rattle.grib_migrate.specs.Losses as migrate
use Rattle.grib_migrate.specs.References.{binary32_of}
use Rattle.grib_demote.specs.Words.{ibm_of}
use Rattle.grib_demote.specs.Losses.{is_lost, coordinate_loss_from}
use Rattle.grib_demote.specs.Products.{coordinate_numbers}
use Rattle.grib_demote_law.proofs.Grids.{MayStand, header_with, section_2, place_with, count_stands, place_stands}
use Rattle.grib_demote_law.proofs.Words.{comes_back}

-- the word that is written for a vertical coordinate
abbrev pub written_word : ℕ → ℕ
written_word word = unwrap_or (ibm_of word) 0

abbrev pub written_words : List ℕ → List ℕ
written_words words = map written_word words

as_numbers : (words : List ℕ) → all_octets (coordinate_numbers words) ≡ numbers_octets 4 (written_words words)
as_numbers [] = refl
as_numbers (word ∷ words) = ap (λ (xs : List ℕ). octets_of 4 (written_word word) ++ xs) (as_numbers words)

-- ---- numbers with octets before and behind

number_among : (front numbers rest : List ℕ) (first k : ℕ) → first ≡ length front + 1 → ((j : ℕ) → j < length numbers → get_or numbers j 0 < 256 ^ 4) → k < length numbers
    → number_at (front ++ (numbers_octets 4 numbers ++ rest)) first 4 k ≡ get_or numbers k 0
number_among front [] rest first k place fit within = absurd (omega arith)
number_among front (x ∷ numbers) rest first zero place fit within =
    let here : first + 0 * 4 ≡ length front + 1 = omega arith in
    let last : first + 0 * 4 + 4 - 1 ≡ length front + length (octets_of 4 x) = omega (arith, length-octets_of 4 x) in
    let joined : front ++ ((octets_of 4 x ++ numbers_octets 4 numbers) ++ rest) ≡ front ++ (octets_of 4 x ++ (numbers_octets 4 numbers ++ rest)) =
    ap (λ (zs : List ℕ). front ++ zs) (append_assoc (octets_of 4 x) (numbers_octets 4 numbers) rest) in
    ap (λ (zs : List ℕ). octets zs (first + 0 * 4) (first + 0 * 4 + 4 - 1)) joined
    ∙ octets-within front (octets_of 4 x) (numbers_octets 4 numbers ++ rest) (first + 0 * 4) (first + 0 * 4 + 4 - 1) here last ∙ num_on-octets_of 4 x (fit 0 (omega arith))
number_among front (x ∷ numbers) rest first (suc k) place fit within =
    let longer = front ++ octets_of 4 x in
    let next : first + 4 ≡ length longer + 1 = omega (arith, length-append front (octets_of 4 x), length-octets_of 4 x) in
    let more = number_among longer numbers rest (first + 4) k next (λ j h. fit (suc j) (omega arith)) (omega arith) in
    let same : first + suc k * 4 ≡ first + 4 + k * 4 = omega arith in
    let joined : front ++ ((octets_of 4 x ++ numbers_octets 4 numbers) ++ rest) ≡ longer ++ (numbers_octets 4 numbers ++ rest) =
    ap (λ (zs : List ℕ). front ++ zs) (append_assoc (octets_of 4 x) (numbers_octets 4 numbers) rest) ∙ sym (append_assoc front (octets_of 4 x) (numbers_octets 4 numbers ++ rest)) in
    ap (λ (zs : List ℕ). octets zs (first + suc k * 4) (first + suc k * 4 + 4 - 1)) joined
    ∙ ap (λ (n : ℕ). octets (longer ++ (numbers_octets 4 numbers ++ rest)) n (n + 4 - 1)) same ∙ more

numbers_among : (front numbers rest : List ℕ) (first : ℕ) → first ≡ length front + 1 → ((j : ℕ) → j < length numbers → get_or numbers j 0 < 256 ^ 4)
    → numbers ≡ numbers_at (front ++ (numbers_octets 4 numbers ++ rest)) first 4 (length numbers)
numbers_among front numbers rest first place fit =
    fill_by_all (number_at (front ++ (numbers_octets 4 numbers ++ rest)) first 4) numbers (length numbers) 0 refl
    (λ k below. sym (number_among front numbers rest first k place fit below))

-- ---- the words that are written

-- of words that are not lost
pub not_lost : (i word : ℕ) (words : List ℕ) → coordinate_loss_from i (word ∷ words) ≡ None → (is_none (ibm_of word) ≡ false) × (coordinate_loss_from (i + 1) words ≡ None)
not_lost i word words e = by (is_lost word i) refl e
  where
    by : (b : Bool) → is_lost word i ≡ b → cond b (Some (Coordinate i)) (coordinate_loss_from (i + 1) words) ≡ None → (is_none (ibm_of word) ≡ false) × (coordinate_loss_from (i + 1) words ≡ None)
    by true is e = let no : ⊥ = cc e in absurd no
    by false is e = ((or_parts (is_none (ibm_of word)) (i == 256) is).0, e)

-- what is known of a word
pub record IsWritten (word : ℕ) : Type 0 where
  pub in_word : written_word word < 2 ^ 32
  pub back : is_none (binary32_of (written_word word)) ≡ false

pub is_written : (word : ℕ) → word < 2 ^ 32 → is_none (ibm_of word) ≡ false → IsWritten word
is_written word small some = by (ibm_of word) refl some
  where
    by : (o : Option ℕ) → ibm_of word ≡ o → is_none o ≡ false → IsWritten word
    by None e some = let no : ⊥ = cc some in absurd no
    by (Some x) e some =
        let is = comes_back word x small e in
        let same : written_word word ≡ x = ap (λ (o : Option ℕ). unwrap_or o 0) e in
        record {
          in_word = subst (λ (n : ℕ). n < 2 ^ 32) (sym same) is.in_word;
          back = ap (λ (n : ℕ). is_none (binary32_of n)) same ∙ ap is_none is.is_back;
        }

all_written : (i : ℕ) (words : List ℕ) → ((k : ℕ) → k < length words → get_or words k 0 < 2 ^ 32) → coordinate_loss_from i words ≡ None
    → (k : ℕ) → k < length (written_words words) → get_or (written_words words) k 0 < 256 ^ 4
all_written i [] small none k within = absurd (omega arith)
all_written i (word ∷ words) small none zero within = (is_written word (small 0 (omega arith)) (not_lost i word words none).0).in_word
all_written i (word ∷ words) small none (suc k) within =
    all_written (i + 1) words (λ j h. small (suc j) (omega arith)) (not_lost i word words none).1 k (omega arith)

pub none_lost : (i j : ℕ) (words : List ℕ) → ((k : ℕ) → k < length words → get_or words k 0 < 2 ^ 32) → coordinate_loss_from i words ≡ None
    → migrate.coordinate_loss_from j (written_words words) ≡ None
none_lost i j [] small none = refl
none_lost i j (word ∷ words) small none =
    let parts = not_lost i word words none in
    let is = is_written word (small 0 (omega arith)) parts.0 in
    ap (λ (b : Bool). cond b (Some (losses.Coordinate j)) (migrate.coordinate_loss_from (j + 1) (written_words words))) is.back
    ∙ none_lost (i + 1) (j + 1) words (λ k h. small (suc k) (omega arith)) parts.1

-- ---- as they are read again

module _ (words : List ℕ) (start t columns rows : ℕ) (listed : Bool) (numbers list : List ℕ)
    (is : MayStand (length words) start t columns rows listed numbers (all_octets (coordinate_numbers words)) list)
    (small : (k : ℕ) → k < length words → get_or words k 0 < 2 ^ 32) (none : coordinate_loss_from 1 words ≡ None) where
  abbrev place : ℕ
  place = place_with (length words) listed start

  abbrev s : List ℕ
  s = section_2 (length words) place t columns rows numbers (all_octets (coordinate_numbers words)) list

  read_at : place ≡ start → written_words words ≡ numbers_at s start 4 (length words)
  read_at there =
      let coordinates = all_octets (coordinate_numbers words) in
      let header = all_octets (header_with (length words) place t columns rows) in
      let size = length (header ++ (numbers ++ (coordinates ++ list))) in
      let front = octets_of 3 (3 + size) ++ (header ++ numbers) in
      let at : start ≡ length front + 1 = let start_at = is.start_is in omega arith in
      let joined : s ≡ front ++ (numbers_octets 4 (written_words words) ++ list) = ap (λ (zs : List ℕ). front ++ (zs ++ list)) (as_numbers words) in
      numbers_among front (written_words words) list start at (all_written 1 words small none)
      ∙ ap₂ (λ (zs : List ℕ) (n : ℕ). numbers_at zs start 4 n) (sym joined) (length-map words written_word)

  -- a list stands where there are coordinates
  listed_there : (n : ℕ) → length words ≡ suc n → has_list s ≡ true
  listed_there n some =
      let at : list_place s ≡ start = place_stands (length words) start t columns rows listed numbers (all_octets (coordinate_numbers words)) list is ∙ there in
      let not_none : (list_place s == 255) ≡ false = ne_eqb (list_place s) 255 (λ same. let few = is.start_few in omega (arith, at, same, few)) in
      let counted : nat_lt 0 (nv s) ≡ true =
      lt-ltb 0 (nv s) (let count = count_stands (length words) start t columns rows listed numbers (all_octets (coordinate_numbers words)) list is in omega (arith, count, some)) in
      ap₂ (λ (a b : Bool). not a && (b || lists_rows s)) not_none counted
    where
      there : place ≡ start
      there = ap (λ (b : Bool). cond (b && not listed) 255 start) (ne_eqb (length words) 0 (λ z. omega (arith, some, z)))

  pub read_again : coordinate_list s ≡ written_words words
  read_again = by (length words) refl
    where
      count : nv s ≡ length words
      count = count_stands (length words) start t columns rows listed numbers (all_octets (coordinate_numbers words)) list is

      no_words : (words : List ℕ) → length words ≡ 0 → [] ≡ written_words words
      no_words [] e = refl
      no_words (word ∷ words) e = absurd (omega (arith, e))

      never : (b : Bool) (n : ℕ) → n ≡ 0 → cond b n 0 ≡ 0
      never true n e = e
      never false n e = refl

      by : (n : ℕ) → length words ≡ n → coordinate_list s ≡ written_words words
      by zero e = ap (λ (n : ℕ). numbers_at s (list_place s) 4 n) (never (has_list s) (nv s) (count ∙ e)) ∙ no_words words e
      by (suc n) e =
          let there : place ≡ start = ap (λ (b : Bool). cond (b && not listed) 255 start) (ne_eqb (length words) 0 (λ z. omega (arith, e, z))) in
          let at : list_place s ≡ start = place_stands (length words) start t columns rows listed numbers (all_octets (coordinate_numbers words)) list is ∙ there in
          ap₂ (λ (p : ℕ) (b : Bool). numbers_at s p 4 (cond b (nv s) 0)) at (listed_there n e) ∙ ap (λ (m : ℕ). numbers_at s start 4 m) count
          ∙ sym (read_at there)
