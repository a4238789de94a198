-- Lemmas on the codes of packed numbers.
use Rattle.std.proofs.Common.{◌≡◌, ℕ, ◌+◌, ◌*◌, ◌%◌, ◌^◌, ◌<◌, ◌≤◌, Bool, true, false, cond, eqb, List, [], ◌∷◌, map, refl, ap, ◌∙◌, arith, inl, inr}
use Rattle.std.proofs.lemmas.Nat.{one_shl}
use Rattle.std.proofs.Math.Pow.{pow_mono}
use Rattle.grib_base.specs.declared.code.Code.TheVariants.{Present, Primary, Secondary}
use Rattle.std.proofs.lemmas.Bool.{cases_eq, cond-true, cond-false, eq-eqb, ne_eqb}
use Rattle.grib_packing.specs.declared.layout.Layout.{Layout}
use Rattle.grib_packing.specs.Groups.{code_of, marked}
use Rattle.grib_group_reading.specs.Lists.{coded_widths, coded_lengths_by}
use Rattle.grib_group_reading.specs.declared.coding.Coding.{Coding}
use Rattle.grib_group_reading.specs.Taking.{number_of, code_by}

number_of-cond : (primary secondary : Bool) (n limit : ℕ) → n < limit → number_of (cond primary Primary (cond secondary Secondary (Present n))) < limit
number_of-cond true secondary n limit below = omega arith
number_of-cond false true n limit below = omega arith
number_of-cond false false n limit below = below

-- a code is below what is greater than the reference and each number
pub number_of-code_by : (coding : Coding) (n limit : ℕ) → coding.reference + n < limit → number_of (code_by coding n) < limit
number_of-code_by coding n limit below = number_of-cond (eqb n coding.primary) (eqb n coding.secondary) (coding.reference + n) limit below

-- two more than no bit
pub top_at_least : (width : ℕ) → width ≤ 48 → 0 < width → 2 ≤ 1 * 2 ^ width % 2 ^ 64
top_at_least width short some =
    let power : 2 ^ 1 ≤ 2 ^ width = pow_mono some in
    omega (arith, one_shl width 64 (omega arith), power)

-- numbers none of which is a mark
pub plain_code : (layout : Layout) (width count n : ℕ) → layout.management ≡ 0 → n < 2 ^ width → code_of layout (record { reference = 0; width = width; count = count }) n ≡ Present n
plain_code layout width count n none below =
    ap (λ (m : ℕ). cond (eqb width 0) (marked m 0 (2 ^ layout.reference_bits) (Present 0)) (marked m n (2 ^ width) (Present (0 + n)))) none
    ∙ elim (cases_eq width 0) [
      | inl is_zero ↦
          let one : 2 ^ width ≡ 1 = ap (λ (w : ℕ). 2 ^ w) is_zero in
          let nothing : 0 ≡ n = omega arith in
          cond-true (eqb width 0) (Present 0) (Present (0 + n)) (eq-eqb width 0 is_zero) ∙ ap Present nothing
      | inr some ↦
          let same : 0 + n ≡ n = omega arith in
          cond-false (eqb width 0) (Present 0) (Present (0 + n)) (ne_eqb width 0 some) ∙ ap Present same
    ]

pub numbers_present : (ns : List ℕ) → map number_of (map Present ns) ≡ ns
numbers_present [] = refl
numbers_present (n ∷ ns) = ap (λ xs. n ∷ xs) (numbers_present ns)

pub widths_present : (reference : ℕ) (ns : List ℕ) → coded_widths reference (map Present ns) ≡ map (λ coded. reference + coded) ns
widths_present reference [] = refl
widths_present reference (n ∷ ns) = ap (λ xs. (reference + n) ∷ xs) (widths_present reference ns)

pub lengths_present : (reference increment : ℕ) (ns : List ℕ) → coded_lengths_by reference increment (map Present ns) ≡ map (λ n. reference + increment * n) ns
lengths_present reference increment [] = refl
lengths_present reference increment (n ∷ ns) = ap (λ xs. (reference + increment * n) ∷ xs) (lengths_present reference increment ns)
