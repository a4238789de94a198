-- Lemmas on lists that are gone through.
use Rattle.std.proofs.Common.{◌≡◌, ℕ, ◌+◌, ◌<◌, ◌≤◌, ◌==◌, Bool, true, false, cond, Some, None, List, [], ◌∷◌, ◌++◌, length, take, drop, get_or, suc, refl, sym, ap, ◌∙◌, append_assoc, arith}
use Rattle.std.specs.Prelude.{is_none, unwrap_or}
use Rattle.std.proofs.lemmas.List.{take_more}
use Rattle.std.proofs.Math.Seq.{drop-cons, drop-length}
use Rattle.std.proofs.lemmas.List.{map-append}
use Rattle.std.proofs.lemmas.Bool.{eqb-false}
use Rattle.grib_bits.specs.Encoding.{octets_of, all_octets}
use Rattle.grib_bits.specs.Listed.{numbers_octets}
use Rattle.grib_bits.proofs.Listed.{numbers_octets-more}
use Rattle.grib_reasons.specs.declared.demotion.Demotion.TheVariants.{Coordinate}
use Rattle.grib_bits.specs.declared.adding.Number.TheVariants.{Four}
use Rattle.grib_demote.specs.Words.{ibm_of}
use Rattle.grib_demote.specs.Losses.{is_lost, coordinate_loss_from}
use Rattle.grib_demote.specs.Products.{coordinate_numbers}
use Rattle.grib_bits.proofs.AllOctets.{all_octets-append}
use Rattle.grib_bits.proofs.Logic.{right_false}

next : (k : ℕ) → suc k ≡ k + 1
next k = omega arith

-- ---- vertical coordinates

pub coordinate_here : (words : List ℕ) (k : ℕ) → k < length words → is_lost (get_or words k 0) (k + 1) ≡ true
    → coordinate_loss_from (k + 1) (drop k words) ≡ Some (Coordinate (k + 1))
coordinate_here words k within is =
    ap (coordinate_loss_from (k + 1)) (drop-cons words k 0 within) ∙ ap (λ b. cond b (Some (Coordinate (k + 1))) (coordinate_loss_from (k + 1 + 1) (drop (suc k) words))) is

pub coordinate_later : (words : List ℕ) (k : ℕ) → k < length words → is_lost (get_or words k 0) (k + 1) ≡ false
    → coordinate_loss_from (k + 1) (drop k words) ≡ coordinate_loss_from (k + 1 + 1) (drop (k + 1) words)
coordinate_later words k within is =
    ap (coordinate_loss_from (k + 1)) (drop-cons words k 0 within) ∙ ap (λ b. cond b (Some (Coordinate (k + 1))) (coordinate_loss_from (k + 1 + 1) (drop (suc k) words))) is
    ∙ ap (λ j. coordinate_loss_from (k + 1 + 1) (drop j words)) (next k)

pub coordinate_none : (words : List ℕ) (k i : ℕ) → k ≡ length words → coordinate_loss_from i (drop k words) ≡ None
coordinate_none words k i end = ap (λ n. coordinate_loss_from i (drop n words)) end ∙ ap (coordinate_loss_from i) (drop-length words)

pub coordinate_written : (words : List ℕ) (k : ℕ) (old before now : List ℕ) → k < length words → before ≡ old ++ all_octets (coordinate_numbers (take k words))
    → now ≡ before ++ all_octets (Four (unwrap_or (ibm_of (get_or words k 0)) 0) ∷ []) → now ≡ old ++ all_octets (coordinate_numbers (take (k + 1) words))
coordinate_written words k old before now within is_before is_now =
    let one = Four (unwrap_or (ibm_of (get_or words k 0)) 0) ∷ [] in
    let more : coordinate_numbers (take (k + 1) words) ≡ coordinate_numbers (take k words) ++ one =
    ap coordinate_numbers (take_more words k 0 within) ∙ map-append (λ word. Four (unwrap_or (ibm_of word) 0)) (take k words) (get_or words k 0 ∷ []) in
    is_now ∙ ap (λ (xs : List ℕ). xs ++ all_octets one) is_before ∙ append_assoc old (all_octets (coordinate_numbers (take k words))) (all_octets one)
    ∙ ap (λ (xs : List ℕ). old ++ xs) (sym (all_octets-append (coordinate_numbers (take k words)) one) ∙ ap all_octets (sym more))

-- the next place is not beyond the last
pub not_last : (word k : ℕ) → k ≤ 255 → is_lost word (k + 1) ≡ false → k + 1 ≤ 255
not_last word k le is = let ne = eqb-false (k + 1) 256 (right_false (is_none (ibm_of word)) (k + 1 == 256) is) in omega (arith, ne)

few_by : (i word : ℕ) (words : List ℕ) (b : Bool) → is_lost word i ≡ b → cond b (Some (Coordinate i)) (coordinate_loss_from (i + 1) words) ≡ None → i ≤ 256
    → (coordinate_loss_from (i + 1) words ≡ None → i + 1 ≤ 256 → i + 1 + length words ≤ 256) → i + suc (length words) ≤ 256
few_by i word words true is e le rest = cc e
few_by i word words false is e le rest =
    let ne = eqb-false i 256 (right_false (is_none (ibm_of word)) (i == 256) is) in
    let more : i + 1 + length words ≤ 256 = rest e (omega (arith, ne)) in
    omega arith

few_from : (i : ℕ) (words : List ℕ) → coordinate_loss_from i words ≡ None → i ≤ 256 → i + length words ≤ 256
few_from i [] e le = omega arith
few_from i (word ∷ words) e le = few_by i word words (is_lost word i) refl e le (few_from (i + 1) words)

-- of which none is lost there are 255 at most
pub few_coordinates : (words : List ℕ) → coordinate_loss_from 1 words ≡ None → length words ≤ 255
few_coordinates words e = let few = few_from 1 words e (omega arith) in omega arith

-- ---- rules

pub row_written : (rows : List ℕ) (k : ℕ) (old before now : List ℕ) → k < length rows → before ≡ old ++ numbers_octets 2 (take k rows)
    → now ≡ before ++ octets_of 2 (get_or rows k 0) → now ≡ old ++ numbers_octets 2 (take (k + 1) rows)
row_written rows k old before now within is_before is_now =
    is_now ∙ ap (λ (xs : List ℕ). xs ++ octets_of 2 (get_or rows k 0)) is_before
    ∙ append_assoc old (numbers_octets 2 (take k rows)) (octets_of 2 (get_or rows k 0))
    ∙ ap (λ (xs : List ℕ). old ++ xs) (sym (numbers_octets-more 2 rows k within))
