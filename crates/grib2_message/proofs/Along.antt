-- Two lists of sections that go along one another, with the same numbers.
use Rattle.std.proofs.Common.{◌≡◌, ℕ, ◌+◌, ◌-◌, ◌≤◌, Bool, true, false, cond, ◌&&◌, None, List, [], ◌∷◌, length, ◌==◌, inl, inr, refl, sym, ap, ap₂, ◌∙◌, subst}
use Rattle.std.proofs.lemmas.Bool.{cases_eq}
use Rattle.std.proofs.lemmas.List.Sums.{sum_by-cons}
use Rattle.grib_base.specs.declared.profile.Profile.{Profile}
use Rattle.grib_bits.specs.Bits.{digit}
use Rattle.grib2_sections.specs.Frame.{Placed, placed_at, section_length, section_number, may_follow}
use Rattle.grib2_message.specs.View.{is_numbered, last_number, octets_in_force, section_count}
use Rattle.grib2_message.specs.Acceptance.{section_fault_under}
use Rattle.grib2_message.specs.Fields.{sections_up_to_field}
use Rattle.grib2_message.specs.Grammar.{IsSection}
use Rattle.grib2_message.proofs.Latest.{octets_same, octets_other}

-- each two that stand at the same place of the lists fit
abbrev pub Along : (Placed → Placed → Type 0) → List Placed → List Placed → Type 0
Along Fits [] [] = Unit {0}
Along Fits [] (t ∷ others) = ⊥
Along Fits (s ∷ before) [] = ⊥
Along Fits (s ∷ before) (t ∷ others) = Fits s t × Along Fits before others

-- a choice between two pairs of lists that go along one another
along_cond : (Fits : Placed → Placed → Type 0) (b : Bool) (xs ys zs ws : List Placed) → Along Fits xs zs → Along Fits ys ws
    → Along Fits (cond b xs ys) (cond b zs ws)
along_cond Fits true xs ys zs ws h k = h
along_cond Fits false xs ys zs ws h k = k

-- the sections up to a field from a section on, by whether it ends one
up_by : ℕ → Bool → Placed → List Placed → List Placed → List Placed
up_by i ends s before sections = cond (ends && (i == 1)) (s ∷ before) (sections_up_to_field (i - digit ends) (s ∷ before) sections)

module _ (Fits : Placed → Placed → Type 0) (same : (s t : Placed) → Fits s t → section_number t.octets ≡ section_number s.octets) where
  pub last_along : (before others : List Placed) → Along Fits before others → last_number others ≡ last_number before
  last_along [] [] h = refl
  last_along [] (t ∷ others) h = absurd h
  last_along (s ∷ before) [] h = absurd h
  last_along (s ∷ before) (t ∷ others) h = same s t h.0

  numbered_along : (k : ℕ) (s t : Placed) → Fits s t → is_numbered k t ≡ is_numbered k s
  numbered_along k s t h = ap (λ (n : ℕ). n == k) (same s t h)

  -- as many have each number
  pub count_along : (k : ℕ) (before others : List Placed) → Along Fits before others → section_count k others ≡ section_count k before
  count_along k [] [] h = refl
  count_along k [] (t ∷ others) h = absurd h
  count_along k (s ∷ before) [] h = absurd h
  count_along k (s ∷ before) (t ∷ others) h =
      sum_by-cons (λ x. cond (is_numbered k x) 1 0) t others
      ∙ ap₂ (λ (b : Bool) (n : ℕ). cond b 1 0 + n) (numbered_along k s t h.0) (count_along k before others h.1)
      ∙ sym (sum_by-cons (λ x. cond (is_numbered k x) 1 0) s before)

  -- what is in force under a number is alike, where the sections with this number are
  pub octets_along : (k : ℕ) (Like : List ℕ → List ℕ → Type 0) → Like [] [] → ((s t : Placed) → Fits s t → section_number s.octets ≡ k → Like s.octets t.octets)
      → (before others : List Placed) → Along Fits before others → Like (octets_in_force k before) (octets_in_force k others)
  octets_along k Like none each [] [] h = none
  octets_along k Like none each [] (t ∷ others) h = absurd h
  octets_along k Like none each (s ∷ before) [] h = absurd h
  octets_along k Like none each (s ∷ before) (t ∷ others) h =
      elim (cases_eq (section_number s.octets) k) [
        | inl here ↦
            subst (λ (xs : List ℕ). Like xs (octets_in_force k (t ∷ others))) (sym (octets_same s before k here))
            (subst (λ (xs : List ℕ). Like s.octets xs) (sym (octets_same t others k (same s t h.0 ∙ here))) (each s t h.0 here))
        | inr other ↦
            subst (λ (xs : List ℕ). Like xs (octets_in_force k (t ∷ others))) (sym (octets_other s before k other))
            (subst (λ (xs : List ℕ). Like (octets_in_force k before) xs)
            (sym (octets_other t others k (λ e. other (sym (same s t h.0) ∙ e))))
            (octets_along k Like none each before others h.1))
      ]

  -- the sections up to a field go along one another
  pub up_to_along : (i : ℕ) (before others sections news : List Placed) → Along Fits before others → Along Fits sections news
      → Along Fits (sections_up_to_field i before sections) (sections_up_to_field i others news)
  unfolding up_by
  up_to_along i before others [] [] b h = b
  up_to_along i before others [] (t ∷ news) b h = absurd h
  up_to_along i before others (s ∷ sections) [] b h = absurd h
  up_to_along i before others (s ∷ sections) (t ∷ news) b h =
      let ends = is_numbered 7 s in
      subst (λ (e : Bool). Along Fits (up_by i ends s before sections) (up_by i e t others news)) (sym (numbered_along 7 s t h.0))
      (along_cond Fits (ends && (i == 1)) (s ∷ before) (sections_up_to_field (i - digit ends) (s ∷ before) sections)
      (t ∷ others) (sections_up_to_field (i - digit ends) (t ∷ others) news)
      (h.0, b) (up_to_along (i - digit ends) (s ∷ before) (t ∷ others) sections news (h.0, b) h.1))

-- t may stand at octet `start` after these sections, with the number of s
pub record MayReplace (profile : Profile) (others : List Placed) (start : ℕ) (s t : List ℕ) : Type 0 where
  pub length_stands : section_length t ≡ length t
  pub least : 5 ≤ length t
  pub numbered : section_number t ≡ section_number s
  pub rules_hold : section_fault_under profile others (placed_at start t) ≡ None

-- so it may follow there where s may
pub replaces : (profile : Profile) (before others : List Placed) (q p : ℕ) (s t : List ℕ) → last_number others ≡ last_number before → IsSection profile before q s
    → MayReplace profile others p s t → IsSection profile others p t
replaces profile before others q p s t last is h = record {
  length_stands = h.length_stands;
  least = h.least;
  follows = ap₂ may_follow last h.numbered ∙ is.follows;
  rules_hold = h.rules_hold;
}
