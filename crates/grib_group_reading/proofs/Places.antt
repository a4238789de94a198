-- Lemmas on the first place where a test holds, and on the group that takes a sum past a limit.
use Rattle.std.proofs.Common.{◌≡◌, ℕ, suc, ◌+◌, ◌-◌, ◌<◌, ◌≤◌, Bool, true, false, cond, not, ltb, Some, None, List, [], ◌∷◌, ◌++◌, length, refl, sym, ap, ◌∙◌, arith, inl, inr}
use Rattle.std.specs.List.{prefix_len}
use Rattle.std.specs.Option.{option_map_or}
use Rattle.std.proofs.lemmas.Bool.{cases_lt, lt-ltb, le-ltb, cond-true, cond-false}
use Rattle.std.proofs.lemmas.List.{length_push}
use Rattle.grib_base.specs.Rules.{first_place}
use Rattle.grib_packing.specs.Groups.{first_past}

-- ---- the first place

-- the place of index p, of n
abbrev place_of : ℕ → ℕ → ℕ
place_of p n = option_map_or (λ k. k + 1) (cond (ltb p n) (Some p) None) 0

place_within : (p n : ℕ) → p < n → place_of p n ≡ p + 1
place_within p n within = ap (λ (b : Bool). option_map_or (λ k. k + 1) (cond b (Some p) None) 0) (lt-ltb p n within)

place_past : (p n : ℕ) → n ≤ p → place_of p n ≡ 0
place_past p n past = ap (λ (b : Bool). option_map_or (λ k. k + 1) (cond b (Some p) None) 0) (le-ltb p n past)

is_past : (p n : ℕ) → place_of p n ≡ 0 → n ≤ p
is_past p n none = elim (cases_lt p n) [ inl within ↦ absurd (omega (arith, place_within p n within)) | inr past ↦ past ]

is_within : (p n : ℕ) → 0 < place_of p n → p < n
is_within p n some = elim (cases_lt p n) [ inl within ↦ within | inr past ↦ absurd (omega (arith, place_past p n past)) ]

module _ {X : Type 0} (pass : X → Bool) where
  -- all of the first list pass
  prefix_all : (xs ys : List X) → length xs ≤ prefix_len pass xs → prefix_len pass (xs ++ ys) ≡ length xs + prefix_len pass ys
  prefix_all [] ys all = omega arith
  prefix_all (x ∷ xs) ys all =
      let rest = prefix_all xs ys in
      elim (pass x) as (λ b. suc (length xs) ≤ cond b (1 + prefix_len pass xs) 0 → cond b (1 + prefix_len pass (xs ++ ys)) 0 ≡ suc (length xs) + prefix_len pass ys) [
        | true ↦ λ h. omega (arith, rest (omega arith))
        | false ↦ λ h. absurd (omega arith)
      ] all

  -- not all of them do
  prefix_some : (xs ys : List X) → prefix_len pass xs < length xs → prefix_len pass (xs ++ ys) ≡ prefix_len pass xs
  prefix_some [] ys some = absurd (omega arith)
  prefix_some (x ∷ xs) ys some =
      let rest = prefix_some xs ys in
      elim (pass x) as (λ b. cond b (1 + prefix_len pass xs) 0 < suc (length xs) → cond b (1 + prefix_len pass (xs ++ ys)) 0 ≡ cond b (1 + prefix_len pass xs) 0) [
        | true ↦ λ h. omega (arith, rest (omega arith))
        | false ↦ λ h. refl
      ] some

module _ {X : Type 0} (test : X → Bool) (xs : List X) where
  pub place_there : (x : X) → first_place test xs ≡ 0 → test x ≡ true → first_place test (xs ++ x ∷ []) ≡ length xs + 1
  place_there x none holds =
      let pass = λ (y : X). not (test y) in
      let one : prefix_len pass (x ∷ []) ≡ 0 = ap (λ (b : Bool). cond (not b) (1 + 0) 0) holds in
      let front = prefix_all pass xs (x ∷ []) (is_past (prefix_len pass xs) (length xs) none) in
      place_within (prefix_len pass (xs ++ x ∷ [])) (length (xs ++ x ∷ [])) (omega (arith, length_push xs x, front, one)) ∙ omega (arith, front, one)

  pub place_nowhere : (x : X) → first_place test xs ≡ 0 → test x ≡ false → first_place test (xs ++ x ∷ []) ≡ 0
  place_nowhere x none fails =
      let pass = λ (y : X). not (test y) in
      let one : prefix_len pass (x ∷ []) ≡ 1 = ap (λ (b : Bool). cond (not b) (1 + 0) 0) fails in
      let front = prefix_all pass xs (x ∷ []) (is_past (prefix_len pass xs) (length xs) none) in
      place_past (prefix_len pass (xs ++ x ∷ [])) (length (xs ++ x ∷ [])) (omega (arith, length_push xs x, front, one))

  pub place_before : (x : X) → 0 < first_place test xs → first_place test (xs ++ x ∷ []) ≡ first_place test xs
  place_before x some =
      let pass = λ (y : X). not (test y) in
      let within = is_within (prefix_len pass xs) (length xs) some in
      let front = prefix_some pass xs (x ∷ []) within in
      place_within (prefix_len pass (xs ++ x ∷ [])) (length (xs ++ x ∷ [])) (omega (arith, length_push xs x, front))
      ∙ ap (λ (k : ℕ). k + 1) front ∙ sym (place_within (prefix_len pass xs) (length xs) within)

-- ---- the group that takes the sum past the values

pub first_past-over : (values n l : ℕ) (rest : List ℕ) → values < l → first_past values n (l ∷ rest) ≡ n + 1
first_past-over values n l rest over = cond-true (ltb values l) (n + 1) (first_past (values - l) (n + 1) rest) (lt-ltb values l over)

pub first_past-within : (values n l : ℕ) (rest : List ℕ) → l ≤ values → first_past values n (l ∷ rest) ≡ first_past (values - l) (n + 1) rest
first_past-within values n l rest within = cond-false (ltb values l) (n + 1) (first_past (values - l) (n + 1) rest) (le-ltb values l within)
