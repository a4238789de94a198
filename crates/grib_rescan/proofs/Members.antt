-- Places that hold, and runs of them.
use Rattle.std.proofs.Common.{◌≡◌, ℕ, zero, suc, ◌+◌, ◌-◌, ◌<◌, ◌≤◌, inl, inr, Bool, true, false, cond, Some, None, List, [], ◌∷◌, ◌++◌, length, get_or, filter, refl, sym, ap, ap₂, ◌∙◌, subst, arith, append-nil, eq-eqb}
use Rattle.std.specs.List.{range_with_len}
use Rattle.std.proofs.lemmas.Bool.{eqb-true, cases_eq, cases_Bool}
use Rattle.std.proofs.lemmas.List.FromFn.{length-range_with_len, get_or-range_with_len}
use Rattle.std.proofs.lemmas.List.Elements.{filter-append}
use Rattle.grib_bits.proofs.Arithmetic.{range_append}
use Rattle.grib_rescan.specs.declared.places.Run.{Run}
use Rattle.grib_rescan.specs.Bounds.{held, run_in, run_of}
use Rattle.grib_rescan.specs.Places.{IsRun}

-- ---- one place more

more : (holds : ℕ → Bool) (n : ℕ) → held holds (n + 1) ≡ held holds n ++ cond (holds (0 + n)) ((0 + n) ∷ []) []
more holds n = ap (filter holds) (range_append 0 n 1) ∙ filter-append holds (range_with_len 0 n) (range_with_len (0 + n) 1)

pub held_in : (holds : ℕ → Bool) (n : ℕ) → holds n ≡ true → held holds (n + 1) ≡ held holds n ++ n ∷ []
held_in holds n is =
    let same : 0 + n ≡ n = omega arith in
    more holds n ∙ ap (λ k. held holds n ++ cond (holds k) (k ∷ []) []) same ∙ ap (λ b. held holds n ++ cond b (n ∷ []) []) is

pub held_out : (holds : ℕ → Bool) (n : ℕ) → holds n ≡ false → held holds (n + 1) ≡ held holds n
held_out holds n is =
    let same : 0 + n ≡ n = omega arith in
    more holds n ∙ ap (λ k. held holds n ++ cond (holds k) (k ∷ []) []) same ∙ ap (λ b. held holds n ++ cond b (n ∷ []) []) is ∙ append-nil (held holds n)

-- ---- those from a on

fewer : (b : Bool) (a n : ℕ) (xs : List ℕ) → length xs ≤ n → length (cond b (a ∷ xs) xs) ≤ suc n
fewer true a n xs few = omega (arith, few)
fewer false a n xs few = omega (arith, few)

few_from : (holds : ℕ → Bool) (a n : ℕ) → length (filter holds (range_with_len a n)) ≤ n
few_from holds a zero = omega arith
few_from holds a (suc n) = fewer (holds a) a n (filter holds (range_with_len (a + 1) n)) (few_from holds (a + 1) n)

pub held-few : (holds : ℕ → Bool) (n : ℕ) → length (held holds n) ≤ n
held-few holds n = few_from holds 0 n

ascends_on : (b : Bool) (a i : ℕ) (xs : List ℕ) → ((i : ℕ) → i < length xs → a + 1 + i ≤ get_or xs i 0) → i < length (cond b (a ∷ xs) xs) → a + i ≤ get_or (cond b (a ∷ xs) xs) i 0
ascends_on true a zero xs later small = omega arith
ascends_on true a (suc i) xs later small = let h = later i (omega (arith, small)) in omega (arith, h)
ascends_on false a i xs later small = let h = later i small in omega (arith, h)

ascends : (holds : ℕ → Bool) (a n i : ℕ) → i < length (filter holds (range_with_len a n)) → a + i ≤ get_or (filter holds (range_with_len a n)) i 0
ascends holds a zero i small = absurd (omega (arith, small))
ascends holds a (suc n) i small = ascends_on (holds a) a i (filter holds (range_with_len (a + 1) n)) (ascends holds (a + 1) n) small

below_on : (b : Bool) (a n i : ℕ) (xs : List ℕ) → ((i : ℕ) → i < length xs → get_or xs i 0 < a + 1 + n) → i < length (cond b (a ∷ xs) xs) → get_or (cond b (a ∷ xs) xs) i 0 < a + suc n
below_on true a n zero xs later small = omega arith
below_on true a n (suc i) xs later small = let h = later i (omega (arith, small)) in omega (arith, h)
below_on false a n i xs later small = let h = later i small in omega (arith, h)

below : (holds : ℕ → Bool) (a n i : ℕ) → i < length (filter holds (range_with_len a n)) → get_or (filter holds (range_with_len a n)) i 0 < a + n
below holds a zero i small = absurd (omega (arith, small))
below holds a (suc n) i small = below_on (holds a) a n i (filter holds (range_with_len (a + 1) n)) (below holds (a + 1) n) small

-- each holds
hold_on : (holds : ℕ → Bool) (b : Bool) (a i : ℕ) (xs : List ℕ) → holds a ≡ b → ((i : ℕ) → i < length xs → holds (get_or xs i 0) ≡ true)
    → i < length (cond b (a ∷ xs) xs) → holds (get_or (cond b (a ∷ xs) xs) i 0) ≡ true
hold_on holds true a zero xs is later small = is
hold_on holds true a (suc i) xs is later small = later i (omega (arith, small))
hold_on holds false a i xs is later small = later i small

hold : (holds : ℕ → Bool) (a n i : ℕ) → i < length (filter holds (range_with_len a n)) → holds (get_or (filter holds (range_with_len a n)) i 0) ≡ true
hold holds a zero i small = absurd (omega (arith, small))
hold holds a (suc n) i small = hold_on holds (holds a) a i (filter holds (range_with_len (a + 1) n)) refl (hold holds (a + 1) n) small

-- each that holds is there
abbrev IsThere : List ℕ → ℕ → Type 0
IsThere xs k = (i : ℕ) × (i < length xs) × (get_or xs i 0 ≡ k)

there_on : (b : Bool) (a k : ℕ) (xs : List ℕ) → IsThere xs k → IsThere (cond b (a ∷ xs) xs) k
there_on true a k xs at = (suc at.0, omega (arith, at.1), at.2)
there_on false a k xs at = at

here : (b : Bool) (a k : ℕ) (xs : List ℕ) → b ≡ true → a ≡ k → IsThere (cond b (a ∷ xs) xs) k
here true a k xs is same = (0, omega arith, same)
here false a k xs is same = cc

there : (holds : ℕ → Bool) (a n k : ℕ) → a ≤ k → k < a + n → holds k ≡ true → IsThere (filter holds (range_with_len a n)) k
there holds a zero k low high is = absurd (omega (arith, low, high))
there holds a (suc n) k low high is = elim (cases_eq a k) [
  | inl same ↦ here (holds a) a k (filter holds (range_with_len (a + 1) n)) (ap holds same ∙ is) same
  | inr other ↦ there_on (holds a) a k (filter holds (range_with_len (a + 1) n)) (there holds (a + 1) n k (omega (arith, low, other)) (omega (arith, high)) is)
]

-- places that are m apart in the list are m apart at least
gap_on : (b : Bool) (a i m : ℕ) (xs : List ℕ) → ((i : ℕ) → i < length xs → a + 1 + i ≤ get_or xs i 0)
    → ((i : ℕ) → i + m < length xs → get_or xs i 0 + m ≤ get_or xs (i + m) 0)
    → i + m < length (cond b (a ∷ xs) xs) → get_or (cond b (a ∷ xs) xs) i 0 + m ≤ get_or (cond b (a ∷ xs) xs) (i + m) 0
gap_on true a zero zero xs up later small = omega arith
gap_on true a zero (suc m) xs up later small =
    let at : 0 + suc m ≡ suc m = omega arith in
    let h = up m (omega (arith, small)) in
    subst (λ (k : ℕ). a + suc m ≤ get_or (a ∷ xs) k 0) (sym at) (omega (arith, h))
gap_on true a (suc i) m xs up later small =
    let at : suc i + m ≡ suc (i + m) = omega arith in
    let h = later i (omega (arith, small)) in
    subst (λ (k : ℕ). get_or xs i 0 + m ≤ get_or (a ∷ xs) k 0) (sym at) h
gap_on false a i m xs up later small = later i small

gap : (holds : ℕ → Bool) (a n m i : ℕ) → i + m < length (filter holds (range_with_len a n))
    → get_or (filter holds (range_with_len a n)) i 0 + m ≤ get_or (filter holds (range_with_len a n)) (i + m) 0
gap holds a zero m i small = absurd (omega (arith, small))
gap holds a (suc n) m i small =
    gap_on (holds a) a i m (filter holds (range_with_len (a + 1) n)) (ascends holds (a + 1) n) (gap holds (a + 1) n m) small

-- ---- runs

got : (b : Bool) (made run : Run) → cond b (Some made) None ≡ Some run → (b ≡ true) × (made ≡ run)
got true made run is = (refl, cc)
got false made run is = absurd (cc)

-- that there are as many as from the first to the last
record IsTight (xs : List ℕ) : Type 0 where
  count : length xs ≡ get_or xs (length xs - 1) 0 + 1 - get_or xs 0 0

some_in : (xs : List ℕ) → IsTight xs → 1 ≤ length xs
some_in [] tight = absurd (omega (arith, tight.count))
some_in (x ∷ xs) tight = omega arith

module _ (holds : ℕ → Bool) (n : ℕ) (tight : IsTight (held holds n)) where
  abbrev xs : List ℕ
  xs = held holds n

  each_at : (i : ℕ) → i < length xs → get_or xs i 0 ≡ get_or xs 0 0 + i
  each_at i small =
      let some = some_in xs tight in
      let last : length xs - 1 ≡ i + (length xs - 1 - i) = omega (arith, small) in
      let front : 0 + i ≡ i = omega arith in
      let before = subst (λ (k : ℕ). get_or xs 0 0 + i ≤ get_or xs k 0) front (gap holds 0 n i 0 (omega (arith, small))) in
      let after = subst (λ (k : ℕ). get_or xs i 0 + (length xs - 1 - i) ≤ get_or xs k 0) (sym last) (gap holds 0 n (length xs - 1 - i) i (omega (arith, small))) in
      omega (arith, before, after, tight.count, some, small)

  tight_run : IsRun holds n (record { first = get_or xs 0 0; count = length xs })
  tight_run =
      let some = some_in xs tight in
      let last = below holds 0 n (length xs - 1) (omega (arith, some)) in
      let at_last = each_at (length xs - 1) (omega (arith, some)) in
      record {
        some = some;
        within = omega (arith, last, at_last, some);
        inside = λ k low high.
            let small : k - get_or xs 0 0 < length xs = omega (arith, low, high) in
            let at : get_or xs (k - get_or xs 0 0) 0 ≡ k = each_at (k - get_or xs 0 0) small ∙ omega (arith, low) in
            subst (λ (m : ℕ). holds m ≡ true) at (hold holds 0 n (k - get_or xs 0 0) small);
        all = λ k small is.
            let at = there holds 0 n k (omega arith) (omega (arith, small)) is in
            let place = each_at at.0 at.1 in
            (omega (arith, place, at.2), omega (arith, place, at.2, at.1));
      }

pub run_is : (holds : ℕ → Bool) (n : ℕ) (run : Run) → run_of holds n ≡ Some run → IsRun holds n run
run_is holds n run is =
    let both = got _ _ run is in
    subst (IsRun holds n) both.1 (tight_run holds n (record { count = eqb-true _ _ both.0 }))

-- ---- each run is found

none_on : (b : Bool) (a : ℕ) (xs : List ℕ) → b ≡ false → xs ≡ [] → cond b (a ∷ xs) xs ≡ []
none_on true a xs is none = cc
none_on false a xs is none = none

none_hold : (holds : ℕ → Bool) (a n : ℕ) → ((k : ℕ) → a ≤ k → k < a + n → holds k ≡ false) → filter holds (range_with_len a n) ≡ []
none_hold holds a zero each = refl
none_hold holds a (suc n) each =
    none_on (holds a) a (filter holds (range_with_len (a + 1) n)) (each a (omega arith) (omega arith))
    (none_hold holds (a + 1) n (λ k low high. each k (omega (arith, low)) (omega (arith, high))))

all_on : (b : Bool) (a : ℕ) (xs ys : List ℕ) → b ≡ true → xs ≡ ys → cond b (a ∷ xs) xs ≡ a ∷ ys
all_on true a xs ys is same = ap (λ zs. a ∷ zs) same
all_on false a xs ys is same = cc

all_hold : (holds : ℕ → Bool) (a n : ℕ) → ((k : ℕ) → a ≤ k → k < a + n → holds k ≡ true) → filter holds (range_with_len a n) ≡ range_with_len a n
all_hold holds a zero each = refl
all_hold holds a (suc n) each =
    all_on (holds a) a (filter holds (range_with_len (a + 1) n)) (range_with_len (a + 1) n) (each a (omega arith) (omega arith))
    (all_hold holds (a + 1) n (λ k low high. each k (omega (arith, low)) (omega (arith, high))))

not_held : (holds : ℕ → Bool) (k : ℕ) → (holds k ≡ true → ⊥) → holds k ≡ false
not_held holds k never = elim (cases_Bool (holds k)) [
  | inl is ↦ absurd (never is)
  | inr is ↦ is
]

same_run : (a b : Run) → a.first ≡ b.first → a.count ≡ b.count → a ≡ b
same_run a b first count = λ j. record { first = first j; count = count j }

run_found : (a : Bool) (made run : Run) → a ≡ true → made ≡ run → cond a (Some made) None ≡ Some run
run_found true made run is same = ap Some same
run_found false made run is same = cc

pub is_run : (holds : ℕ → Bool) (n : ℕ) (run : Run) → IsRun holds n run → run_of holds n ≡ Some run
is_run holds n run is =
    let behind = n - run.first - run.count in
    let front : 0 + run.first ≡ run.first = omega arith in
    let whole : run.first + (run.count + behind) ≡ n = omega (arith, is.within) in
    let end = run.first + run.count in
    let before =
    none_hold holds 0 run.first
    (λ k low high. not_held holds k (λ held. let at = is.all k (omega (arith, high, is.within)) held in let h = at.0 in omega (arith, h, high))) in
    let inside = all_hold holds run.first run.count is.inside in
    let after =
    none_hold holds end behind
    (λ k low high. not_held holds k (λ held. let at = is.all k (omega (arith, high, is.within)) held in let h = at.1 in omega (arith, h, low))) in
    let places : held holds n ≡ range_with_len run.first run.count =
    ap (λ m. held holds m) (sym whole)
    ∙ ap (filter holds) (range_append 0 run.first (run.count + behind))
    ∙ filter-append holds (range_with_len 0 run.first) (range_with_len (0 + run.first) (run.count + behind))
    ∙ ap₂ (λ xs m. xs ++ filter holds (range_with_len m (run.count + behind))) before front
    ∙ ap (filter holds) (range_append run.first run.count behind)
    ∙ filter-append holds (range_with_len run.first run.count) (range_with_len end behind)
    ∙ ap₂ (λ xs ys. xs ++ ys) inside after
    ∙ append-nil (range_with_len run.first run.count) in
    let count = length-range_with_len run.first run.count in
    let first : get_or (range_with_len run.first run.count) 0 0 ≡ run.first = get_or-range_with_len run.first run.count 0 0 is.some ∙ omega arith in
    let last : get_or (range_with_len run.first run.count) (length (range_with_len run.first run.count) - 1) 0 ≡ run.first + (run.count - 1) =
    get_or-range_with_len run.first run.count _ 0 (omega (arith, count, is.some)) ∙ ap (λ m. run.first + (m - 1)) count in
    ap run_in places
    ∙ run_found _ _ run
    (eq-eqb (length (range_with_len run.first run.count))
    (get_or (range_with_len run.first run.count) (length (range_with_len run.first run.count) - 1) 0 + 1 - get_or (range_with_len run.first run.count) 0 0)
    (omega (arith, count, first, last, is.some)))
    (same_run _ run first count)
