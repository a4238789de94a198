-- The octets of the section that comes, and of the message.
use Rattle.std.proofs.Common.{◌≡◌, ℕ, ◌+◌, ◌-◌, ◌≤◌, List, [], ◌∷◌, ◌++◌, length, take, drop, refl, sym, ap, ◌∙◌, arith, length-drop}
use Rattle.std.proofs.Math.Seq.{take-length}
use Rattle.std.proofs.lemmas.List.{drop-append-le}
use Rattle.grib_bits.specs.Octets.{octets as number_at, num_on}
use Rattle.grib2_sections.specs.Frame.{section_at}
use Rattle.grib2_message.proofs.Parts.{four_at, fifth_at, section_is}

module _ (u : List ℕ) (q : ℕ) (low : 1 ≤ q) (within : q ≤ length u + 1) (gathered : List ℕ) (is : gathered ≡ drop (q - 1) u) where
  pub pending_long : length gathered + q ≡ length u + 1
  pending_long = omega (arith, ap length is, length-drop (q - 1) u)

  pub pending_four : number_at u q (q + 3) ≡ number_at gathered 1 4
  pending_four = ap (num_on 0) (four_at u q) ∙ ap (λ (xs : List ℕ). number_at xs 1 4) (sym is)

  pub pending_fifth : number_at u (q + 4) (q + 4) ≡ number_at gathered 5 5
  pending_fifth = ap (num_on 0) (fifth_at u q low) ∙ ap (λ (xs : List ℕ). number_at xs 5 5) (sym is)

  -- it is the section, where it is as long as it states
  pub pending_whole : length gathered ≡ number_at gathered 1 4 → section_at u q ≡ gathered
  pending_whole whole =
      section_is u q (number_at gathered 1 4) low pending_four
      ∙ ap (λ (n : ℕ). take n (drop (q - 1) u)) (sym whole)
      ∙ ap (λ (xs : List ℕ). take (length gathered) xs) (sym is)
      ∙ take-length gathered

-- and where more octets came
pub pending_more : (u more : List ℕ) (q : ℕ) → q ≤ length u + 1 → drop (q - 1) (u ++ more) ≡ drop (q - 1) u ++ more
pending_more u more q within = drop-append-le (q - 1) u more (omega arith)

pub none_left : (xs : List ℕ) → length xs ≡ 0 → xs ≡ []
none_left [] e = refl
none_left (x ∷ xs) e = absurd (omega arith)

-- nothing is pending at the end of the octets
pub pending_none : (u : List ℕ) (q : ℕ) → q ≡ length u + 1 → drop (q - 1) u ≡ []
pending_none u q is = none_left (drop (q - 1) u) (omega (arith, length-drop (q - 1) u))
