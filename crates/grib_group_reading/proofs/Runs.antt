-- Lemmas on runs of numbers, taken one after another.
use Rattle.grib_packing.proofs.Fields.{plain_more, plain_at-drop, plain-add}
use Rattle.std.proofs.Common.{◌≡◌, ℕ, zero, suc, ◌+◌, ◌*◌, ◌/◌, ◌^◌, ◌<◌, ◌≤◌, Bool, List, [], ◌∷◌, ◌++◌, take, drop, map, refl, sym, ap, ap₂, ◌∙◌, arith, pow_mono, subst, add-mul, mul_comm}
use Rattle.std.proofs.Math.Nat.{mul-le-mul_right}
use Rattle.std.proofs.lemmas.List.{drop-drop, map-append}
use Rattle.grib_bits.specs.Bits.{bits, num}
use Rattle.grib_bits.specs.Plain.{plain, plain_at}
use Rattle.grib_bits.proofs.WordNumbers.{number-lt}
use Rattle.grib_base.specs.declared.code.Code.{Code}

-- ---- places

-- a number before the last begins before the last does
pub before_end : (width k count : ℕ) → k < count → k * width + width ≤ count * width
before_end width k count below =
    let up : (k + 1) * width ≤ count * width = mul-le-mul_right width (omega arith) in
    omega (arith, add-mul k 1 width)

pub within_words : (octets at place width k count : ℕ) → place ≡ at + k * width → k < count → at + count * width + 64 ≤ 8 * octets + width → place / 8 + 8 ≤ octets
within_words octets at place width k count is_place below within = omega (arith, before_end width k count below)

pub within_octets : (octets at place width k count : ℕ) → place ≡ at + k * width → k < count → at + count * width ≤ 8 * octets → place + width ≤ 8 * octets
within_octets octets at place width k count is_place below within = omega (arith, before_end width k count below)

pub next_place : (at place width k : ℕ) → place ≡ at + k * width → place + width ≡ at + (k + 1) * width
next_place at place width k is_place = omega (arith, add-mul k 1 width)

-- ---- codes taken one after another

-- functions that agree on numbers of this width
pub map-plain : (f g : ℕ → Code) (xs : List Bool) (width : ℕ) → ((n : ℕ) → n < 2 ^ width → f n ≡ g n) → (count : ℕ) → map f (plain xs width count) ≡ map g (plain xs width count)
map-plain f g xs width same zero = refl
map-plain f g xs width same (suc count) =
    let last : suc count ≡ count + 1 = omega arith in
    let here = same (plain_at xs width count) (number-lt width (drop (count * width) xs)) in
    ap (λ (k : ℕ). map f (plain xs width k)) last
    ∙ ap (map f) (plain_more xs width count)
    ∙ map-append f (plain xs width count) (plain_at xs width count ∷ [])
    ∙ ap₂ (λ cs c. cs ++ c ∷ []) (map-plain f g xs width same count) here
    ∙ sym (map-append g (plain xs width count) (plain_at xs width count ∷ []))
    ∙ ap (map g) (sym (plain_more xs width count))
    ∙ ap (λ (k : ℕ). map g (plain xs width k)) (sym last)

module _ {S : Type 0} (took : S → List Code → S → Type 0) (more : (before between after : S) (codes more_codes : List Code) → took before codes between → took between more_codes after → took before (codes ++ more_codes) after) where
  -- one number more
  pub took_more : (f : ℕ → Code) (bits : List Bool) (at width k place number : ℕ) (code : Code) (start before after : S)
      → took start (map f (plain (drop at bits) width k)) before → place ≡ at + k * width → number ≡ num (take width (drop place bits))
      → code ≡ f number → took before (code ∷ []) after → took start (map f (plain (drop at bits) width (k + 1))) after
  took_more f bits at width k place number code start before after so_far is_place is_number is_code step =
      let xs = drop at bits in
      let here : code ≡ f (plain_at xs width k) =
      is_code ∙ ap f (is_number ∙ ap (λ (n : ℕ). num (take width (drop n bits))) is_place ∙ sym (plain_at-drop bits width at k)) in
      let codes : map f (plain xs width k) ++ code ∷ [] ≡ map f (plain xs width (k + 1)) =
      ap (λ c. map f (plain xs width k) ++ c ∷ []) here
      ∙ sym (map-append f (plain xs width k) (plain_at xs width k ∷ []))
      ∙ ap (map f) (sym (plain_more xs width k)) in
      subst (λ (cs : List Code). took start cs after) codes (more start before after _ _ so_far step)

  -- m numbers and then n of them
  pub took_then : (f : ℕ → Code) (bits : List Bool) (at width m n next : ℕ) (start before after : S) → took start (map f (plain (drop at bits) width m)) before
      → next ≡ at + m * width → took before (map f (plain (drop next bits) width n)) after → took start (map f (plain (drop at bits) width (m + n))) after
  took_then f bits at width m n next start before after first is_next second =
      let xs = drop at bits in
      let here : drop next bits ≡ drop (width * m) xs =
      ap (λ (k : ℕ). drop k bits) (omega (arith, is_next, mul_comm m width)) ∙ sym (drop-drop (width * m) at bits) in
      let codes : map f (plain xs width m) ++ map f (plain (drop next bits) width n) ≡ map f (plain xs width (m + n)) =
      ap (λ (ys : List Bool). map f (plain xs width m) ++ map f (plain ys width n)) here
      ∙ sym (map-append f (plain xs width m) (plain (drop (width * m) xs) width n))
      ∙ ap (map f) (sym (plain-add xs width m n)) in
      subst (λ (cs : List Code). took start cs after) codes (more start before after _ _ first second)

pub pow_at_most : (width : ℕ) → width ≤ 48 → 2 ^ width ≤ 2 ^ 48
pow_at_most width short = pow_mono short
