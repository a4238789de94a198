-- What holds of all codes holds of their runs: how large references and widths of runs are.
use Rattle.std.proofs.Common.{◌≡◌, ℕ, ◌+◌, ◌-◌, ◌^◌, ◌<◌, ◌≤◌, ◌⊎◌, inl, inr, Bool, true, false, not, ◌&&◌, cond, List, [], ◌∷◌, length, take, drop, All, ◌==◌, refl, sym, ap, arith, eq-eqb, ne_eqb, subst}
use Rattle.std.specs.List.{list_any}
use Rattle.std.proofs.lemmas.Nat.{pow_pos}
use Rattle.std.proofs.lemmas.List.Elements.{All-nil, All-cons, All-head, All-tail, All-take, All-drop, All-weaker}
use Rattle.grib_base.specs.declared.code.Code.{Code}
use Rattle.grib_base.specs.declared.code.Code.TheVariants.{Present, Primary, Secondary}
use Rattle.grib_packing.specs.Groupings.{digits, width_of, greatest, smallest, present_codes, is_present, is_primary, is_secondary, reference_bits_of, width_bits_of, runs}
use Rattle.grib_packing.specs.Packed.{reference_of}
use Rattle.grib_codes.specs.Span.{IsBelow, IsTold}
use Rattle.grib_codes.proofs.Spans.{width_by, width_of-by, reference_by, reference_of-by, small_run, smallest_at_most}
use Rattle.grib_packing.proofs.Digits.{digits-lt, digits-most, digits-mono, digits-some}

-- ---- codes within bounds, of kinds that are there

abbrev pub IsWithin : ℕ → ℕ → Bool → Bool → Bool → Code → Type 0
IsWithin lo hi p q r (Present n) = (lo ≤ n) × (n ≤ hi) × (p ≡ true)
IsWithin lo hi p q r Primary = q ≡ true
IsWithin lo hi p q r Secondary = r ≡ true

smallest-head : (n : ℕ) (xs : List ℕ) → smallest (n ∷ xs) ≤ n
smallest-head n [] = omega arith
smallest-head n (x ∷ xs) = omega arith

smallest-tail : (n : ℕ) (xs : List ℕ) → 0 < length xs → smallest (n ∷ xs) ≤ smallest xs
smallest-tail n [] some = absurd (omega arith)
smallest-tail n (x ∷ xs) some = omega arith

within : (lo hi : ℕ) (p q r : Bool) (run : List Code)
    → (0 < length (present_codes run) → lo ≤ smallest (present_codes run)) → greatest (present_codes run) ≤ hi
    → (list_any is_present run ≡ true → p ≡ true) → (list_any is_primary run ≡ true → q ≡ true) → (list_any is_secondary run ≡ true → r ≡ true)
    → All (IsWithin lo hi p q r) run
within lo hi p q r [] low high hp hq hr = All-nil (IsWithin lo hi p q r)
within lo hi p q r (Present n ∷ run) low high hp hq hr =
    let ns = present_codes run in
    let here : lo ≤ smallest (n ∷ ns) = low (omega arith) in
    let least : lo ≤ n = omega (arith, here, smallest-head n ns) in
    let most : n ≤ hi = omega (arith, high) in
    All-cons (IsWithin lo hi p q r) (Present n) run (least, most, hp refl)
    (within lo hi p q r run (λ some. omega (arith, here, smallest-tail n ns some)) (omega (arith, high)) (λ e. hp refl) hq hr)
within lo hi p q r (Primary ∷ run) low high hp hq hr =
    All-cons (IsWithin lo hi p q r) Primary run (hq refl) (within lo hi p q r run low high hp (λ e. hq refl) hr)
within lo hi p q r (Secondary ∷ run) low high hp hq hr =
    All-cons (IsWithin lo hi p q r) Secondary run (hr refl) (within lo hi p q r run low high hp hq (λ e. hr refl))

pub within_all : (run : List Code)
    → All (IsWithin (smallest (present_codes run)) (greatest (present_codes run)) (list_any is_present run) (list_any is_primary run) (list_any is_secondary run)) run
within_all run = within _ _ _ _ _ run (λ some. omega arith) (omega arith) (λ e. e) (λ e. e) (λ e. e)

module _ (lo hi : ℕ) (p q r : Bool) where
  abbrev W : Code → Type 0
  W = IsWithin lo hi p q r

  pub greatest-within : (run : List Code) → All W run → greatest (present_codes run) ≤ hi
  greatest-within [] all = omega arith
  greatest-within (Present n ∷ run) all =
      let here : (lo ≤ n) × (n ≤ hi) × (p ≡ true) = All-head W (Present n) run all in
      omega (arith, here.1, greatest-within run (All-tail W (Present n) run all))
  greatest-within (Primary ∷ run) all = greatest-within run (All-tail W Primary run all)
  greatest-within (Secondary ∷ run) all = greatest-within run (All-tail W Secondary run all)

  least-more : (n : ℕ) (ns : List ℕ) → lo ≤ n → (0 < length ns → lo ≤ smallest ns) → lo ≤ smallest (n ∷ ns)
  least-more n [] here rest = here
  least-more n (m ∷ ns) here rest = let more : lo ≤ smallest (m ∷ ns) = rest (omega arith) in omega (arith, here, more)

  smallest-within : (run : List Code) → All W run → 0 < length (present_codes run) → lo ≤ smallest (present_codes run)
  smallest-within [] all some = absurd (omega arith)
  smallest-within (Present n ∷ run) all some =
      let here : (lo ≤ n) × (n ≤ hi) × (p ≡ true) = All-head W (Present n) run all in
      least-more n (present_codes run) here.0 (smallest-within run (All-tail W (Present n) run all))
  smallest-within (Primary ∷ run) all some = smallest-within run (All-tail W Primary run all) some
  smallest-within (Secondary ∷ run) all some = smallest-within run (All-tail W Secondary run all) some

  present-within : (run : List Code) → All W run → list_any is_present run ≡ true → p ≡ true
  present-within [] all e = cc
  present-within (Present n ∷ run) all e =
      let here : (lo ≤ n) × (n ≤ hi) × (p ≡ true) = All-head W (Present n) run all in here.2
  present-within (Primary ∷ run) all e = present-within run (All-tail W Primary run all) e
  present-within (Secondary ∷ run) all e = present-within run (All-tail W Secondary run all) e

  primary-within : (run : List Code) → All W run → list_any is_primary run ≡ true → q ≡ true
  primary-within [] all e = cc
  primary-within (Present n ∷ run) all e = primary-within run (All-tail W (Present n) run all) e
  primary-within (Primary ∷ run) all e = All-head W Primary run all
  primary-within (Secondary ∷ run) all e = primary-within run (All-tail W Secondary run all) e

  secondary-within : (run : List Code) → All W run → list_any is_secondary run ≡ true → r ≡ true
  secondary-within [] all e = cc
  secondary-within (Present n ∷ run) all e = secondary-within run (All-tail W (Present n) run all) e
  secondary-within (Primary ∷ run) all e = secondary-within run (All-tail W Primary run all) e
  secondary-within (Secondary ∷ run) all e = All-head W Secondary run all

pub some_numbers : (run : List Code) → list_any is_present run ≡ true → 0 < length (present_codes run)
some_numbers [] e = cc
some_numbers (Present n ∷ run) e = omega arith
some_numbers (Primary ∷ run) e = some_numbers run e
some_numbers (Secondary ∷ run) e = some_numbers run e

-- ---- references

reference_by-lt : (p q r : Bool) (least b : ℕ) → least < 2 ^ b → reference_by p q r least b < 2 ^ b
reference_by-lt true q r least b small = small
reference_by-lt false true true least b small = omega (arith, pow_pos b)
reference_by-lt false false true least b small = omega (arith, pow_pos b)
reference_by-lt false q false least b small = omega (arith, pow_pos b)

reference-lt : (b : ℕ) (run : List Code) → greatest (present_codes run) < 2 ^ b → reference_of b run < 2 ^ b
reference-lt b run small =
    let numbers = present_codes run in
    let low : smallest numbers < 2 ^ b = omega (arith, small, smallest_at_most numbers) in
    let below = reference_by-lt (list_any is_present run) (list_any is_primary run) (list_any is_secondary run) (smallest numbers) b low in
    subst (λ (n : ℕ). n < 2 ^ b) (sym (reference_of-by b run)) below

references_below : (b lo hi : ℕ) (p q r : Bool) (lengths : List ℕ) (codes : List Code) → hi < 2 ^ b → All (IsWithin lo hi p q r) codes
    → All (λ run. reference_of b run < 2 ^ b) (runs lengths codes)
references_below b lo hi p q r [] codes small all = All-nil (λ run. reference_of b run < 2 ^ b)
references_below b lo hi p q r (n ∷ ns) codes small all =
    let run = take n codes in
    let most : greatest (present_codes run) ≤ hi = greatest-within lo hi p q r run (All-take (IsWithin lo hi p q r) n codes all) in
    All-cons (λ run. reference_of b run < 2 ^ b) run (runs ns (drop n codes)) (reference-lt b run (omega (arith, small, most)))
    (references_below b lo hi p q r ns (drop n codes) small (All-drop (IsWithin lo hi p q r) n codes all))

told_below : (k : ℕ) (code : Code) → IsTold k code → IsBelow k code
told_below k (Present n) h = h
told_below k Primary h = tt
told_below k Secondary h = tt

pub all_below : (k : ℕ) (codes : List Code) → All (IsTold k) codes → All (IsBelow k) codes
all_below k codes told = All-weaker (IsTold k) (IsBelow k) (told_below k) codes told

pub references_fit : (k b : ℕ) (codes : List Code) (lengths : List ℕ) → b ≡ reference_bits_of k codes → k ≤ 2 → All (IsTold k) codes
    → All (λ run. reference_of b run < 2 ^ b) (runs lengths codes)
references_fit k b codes lengths is few told =
    let most = greatest (present_codes codes) in
    let small = small_run k codes few (all_below k codes told) in
    let fits : most + k < 2 ^ digits (most + k) = digits-lt (most + k) small in
    let power : 2 ^ b ≡ 2 ^ digits (most + k) = ap (λ w. 2 ^ w) is in
    references_below b _ _ _ _ _ lengths codes (omega (arith, fits, power)) (within_all codes)

pub reference_bits-few : (k b : ℕ) (codes : List Code) → b ≡ reference_bits_of k codes → k ≤ 2 → All (IsTold k) codes → b ≤ 32
reference_bits-few k b codes is few told =
    let most = greatest (present_codes codes) in
    let small = small_run k codes few (all_below k codes told) in
    omega (arith, is, digits-most (most + k) 32 small small)

-- ---- widths

cond-le : (b : Bool) (x y m : ℕ) → x ≤ m → y ≤ m → cond b x y ≤ m
cond-le true x y m hx hy = hx
cond-le false x y m hx hy = hy

pub width-few : (k : ℕ) (run : List Code) → greatest (present_codes run) + k < 2 ^ 32 → width_of k run ≤ 32
width-few k run small =
    let numbers = present_codes run in
    let n = greatest numbers - smallest numbers + k in
    let few : digits n ≤ 32 = digits-most n 32 (omega arith) (omega arith) in
    let by : width_by (list_any is_present run) (list_any is_primary run) (list_any is_secondary run) (smallest numbers) (greatest numbers) k ≤ 32 =
    cond-le (list_any is_present run) _ _ 32
    (cond-le ((not (list_any is_primary run) && not (list_any is_secondary run)) && (greatest numbers == smallest numbers)) 0 (digits n) 32 (omega arith) few)
    (cond-le (list_any is_primary run && list_any is_secondary run) 1 0 32 (omega arith) (omega arith)) in
    subst (λ (w : ℕ). w ≤ 32) (sym (width_of-by k run)) by

-- a wider one is not uniform
wider : (q r e : Bool) (d : ℕ) → ((q ≡ true) ⊎ (r ≡ true)) ⊎ (e ≡ false) → cond ((not q && not r) && e) 0 d ≡ d
wider true r e d why = refl
wider false true e d why = refl
wider false false false d why = refl
wider false false true d (inl (inl e)) = cc
wider false false true d (inl (inr e)) = cc
wider false false true d (inr e) = cc

narrower : (q r e : Bool) (d m : ℕ) → (((q ≡ true) ⊎ (r ≡ true)) ⊎ (e ≡ false) → d ≤ m) → cond ((not q && not r) && e) 0 d ≤ m
narrower true r e d m h = h (inl (inl refl))
narrower false true e d m h = h (inl (inr refl))
narrower false false false d m h = h (inr refl)
narrower false false true d m h = omega arith

width_mono : (p q r p' q' r' : Bool) (s g lo hi k : ℕ)
    → (p ≡ true → p' ≡ true) → (q ≡ true → q' ≡ true) → (r ≡ true → r' ≡ true) → (p ≡ true → lo ≤ s) → g ≤ hi → s ≤ g → hi + k < 2 ^ 32
    → (q' ≡ true → r' ≡ true → 1 ≤ k) → width_by p q r s g k ≤ width_by p' q' r' lo hi k
width_mono true q r false q' r' s g lo hi k hp hq hr low high ordered small marks = let e = hp refl in cc
width_mono true q r true q' r' s g lo hi k hp hq hr low high ordered small marks =
    let less : lo ≤ s = low refl in
    let mono : digits (g - s + k) ≤ digits (hi - lo + k) = digits-mono (g - s + k) (hi - lo + k) (omega arith) (omega arith) in
    narrower q r (g == s) (digits (g - s + k)) _ (λ why. omega (arith, mono, wider q' r' (hi == lo) (digits (hi - lo + k)) (reason why)))
  where
    reason : ((q ≡ true) ⊎ (r ≡ true)) ⊎ ((g == s) ≡ false) → ((q' ≡ true) ⊎ (r' ≡ true)) ⊎ ((hi == lo) ≡ false)
    reason (inl (inl e)) = inl (inl (hq e))
    reason (inl (inr e)) = inl (inr (hr e))
    reason (inr e) = inr (ne_eqb hi lo (λ same. apart e (omega (arith, low refl))))
      where
        apart : (g == s) ≡ false → g ≡ s → ⊥
        apart differ same = let is = eq-eqb g s same in cc
width_mono false true true true q' r' s g lo hi k hp hq hr low high ordered small marks =
    let some : 1 ≤ k = marks (hq refl) (hr refl) in
    let one : 1 ≤ digits (hi - lo + k) = digits-some (hi - lo + k) (omega arith) (omega arith) in
    omega (arith, one, wider q' r' (hi == lo) (digits (hi - lo + k)) (inl (inl (hq refl))))
width_mono false true true false q' r' s g lo hi k hp hq hr low high ordered small marks = rw (hq refl, hr refl) (omega arith)
width_mono false true false p' q' r' s g lo hi k hp hq hr low high ordered small marks = omega arith
width_mono false false r p' q' r' s g lo hi k hp hq hr low high ordered small marks = omega arith

pub width-within : (k lo hi : ℕ) (p q r : Bool) (run : List Code) → hi + k < 2 ^ 32 → (q ≡ true → r ≡ true → 1 ≤ k)
    → All (IsWithin lo hi p q r) run → width_of k run ≤ width_by p q r lo hi k
width-within k lo hi p q r run small marks all =
    let numbers = present_codes run in
    let mono = width_mono (list_any is_present run) (list_any is_primary run) (list_any is_secondary run) p q r (smallest numbers) (greatest numbers) lo hi k
    (present-within lo hi p q r run all) (primary-within lo hi p q r run all) (secondary-within lo hi p q r run all)
    (λ e. smallest-within lo hi p q r run all (some_numbers run e)) (greatest-within lo hi p q r run all) (smallest_at_most numbers) small marks in
    subst (λ (w : ℕ). w ≤ width_by p q r lo hi k) (sym (width_of-by k run)) mono

widths_below : (k lo hi m : ℕ) (p q r : Bool) (lengths : List ℕ) (codes : List Code) → hi + k < 2 ^ 32 → (q ≡ true → r ≡ true → 1 ≤ k)
    → width_by p q r lo hi k < m → All (IsWithin lo hi p q r) codes → All (λ run. width_of k run < m) (runs lengths codes)
widths_below k lo hi m p q r [] codes small marks below all = All-nil (λ run. width_of k run < m)
widths_below k lo hi m p q r (n ∷ ns) codes small marks below all =
    let run = take n codes in
    let here : width_of k run ≤ width_by p q r lo hi k = width-within k lo hi p q r run small marks (All-take (IsWithin lo hi p q r) n codes all) in
    All-cons (λ run. width_of k run < m) run (runs ns (drop n codes)) (omega (arith, here, below))
    (widths_below k lo hi m p q r ns (drop n codes) small marks below (All-drop (IsWithin lo hi p q r) n codes all))

pub primary_reserved : (k : ℕ) (codes : List Code) → All (IsTold k) codes → list_any is_primary codes ≡ true → 1 ≤ k
primary_reserved k [] told e = cc
primary_reserved k (Present n ∷ codes) told e = primary_reserved k codes (All-tail (IsTold k) (Present n) codes told) e
primary_reserved k (Primary ∷ codes) told e = All-head (IsTold k) Primary codes told
primary_reserved k (Secondary ∷ codes) told e = primary_reserved k codes (All-tail (IsTold k) Secondary codes told) e

widths_fitting : (k w : ℕ) (codes : List Code) (lengths : List ℕ) → w ≡ width_bits_of k codes → k ≤ 2 → All (IsTold k) codes
    → All (λ run. width_of k run < 2 ^ w) (runs lengths codes)
widths_fitting k w codes lengths is few told =
    let small = small_run k codes few (all_below k codes told) in
    let most = width-few k codes small in
    let fits : width_of k codes < 2 ^ digits (width_of k codes) = digits-lt (width_of k codes) (omega arith) in
    let power : 2 ^ w ≡ 2 ^ digits (width_of k codes) = ap (λ n. 2 ^ n) is in
    widths_below k _ _ (2 ^ w) _ _ _ lengths codes small (λ primary secondary. primary_reserved k codes told primary)
    (omega (arith, fits, power, width_of-by k codes)) (within_all codes)

pub widths_fit : (k j w : ℕ) (codes : List Code) (lengths : List ℕ) → j ≡ k → w ≡ width_bits_of k codes → k ≤ 2 → All (IsTold k) codes
    → All (λ run. width_of j run < 2 ^ w) (runs lengths codes)
widths_fit k j w codes lengths same is few told =
    subst (λ (i : ℕ). All (λ run. width_of i run < 2 ^ w) (runs lengths codes)) (sym same) (widths_fitting k w codes lengths is few told)

pub widths_few : (k : ℕ) (codes : List Code) (lengths : List ℕ) → k ≤ 2 → All (IsTold k) codes → All (λ run. width_of k run ≤ 32) (runs lengths codes)
widths_few k codes lengths few told =
    let small = small_run k codes few (all_below k codes told) in
    let most = width-few k codes small in
    All-weaker (λ run. width_of k run < 33) (λ run. width_of k run ≤ 32) (λ run h. omega (arith, h)) (runs lengths codes)
    (widths_below k _ _ 33 _ _ _ lengths codes small (λ primary secondary. primary_reserved k codes told primary)
    (omega (arith, most, width_of-by k codes)) (within_all codes))

pub width_bits-few : (k w : ℕ) (codes : List Code) → w ≡ width_bits_of k codes → k ≤ 2 → All (IsTold k) codes → w ≤ 6
width_bits-few k w codes is few told =
    let small = small_run k codes few (all_below k codes told) in
    let most = width-few k codes small in
    omega (arith, is, digits-most (width_of k codes) 6 (omega arith) (omega arith))
