-- Spans of runs, and their widths.
use Rattle.std.proofs.Common.{◌≡◌, ℕ, ◌+◌, ◌-◌, ◌^◌, ◌<◌, ◌≤◌, min, All, Bool, true, false, not, ◌&&◌, ◌||◌, cond, List, [], ◌∷◌, ◌++◌, length, ◌==◌, eq-eqb, ne_eqb, refl, ap, sym, ◌∙◌, arith}
use Rattle.std.specs.List.{list_any, list_all}
use Rattle.std.proofs.Math.Bool.{and-false}
use Rattle.grib_base.specs.declared.code.Code.{Code}
use Rattle.grib_base.specs.declared.code.Code.TheVariants.{Present, Primary, Secondary}
use Rattle.std.proofs.lemmas.List.{append-nil}
use Rattle.std.proofs.lemmas.List.Elements.{All-head, All-tail, filter_map-append}
use Rattle.grib_packing.specs.Entries.{present_code}
use Rattle.grib_codes.specs.declared.span.Span.{Span}
use Rattle.grib_packing.specs.Packed.{reference_of}
use Rattle.grib_codes.specs.Span.{IsBelow, IsSpan}
use Rattle.grib_packing.specs.Groupings.{digits, width_of, greatest, smallest, present_codes, is_present, is_primary, is_secondary}

-- ---- runs with one code more

pub smallest-more : (n : ℕ) (xs : List ℕ) → 0 < length xs → smallest (n ∷ xs) ≡ min n (smallest xs)
smallest-more n [] some = absurd (omega arith)
smallest-more n (x ∷ xs) some = refl

pub smallest-one : (n : ℕ) (xs : List ℕ) → length xs ≡ 0 → smallest (n ∷ xs) ≡ n
smallest-one n [] none = refl
smallest-one n (x ∷ xs) none = absurd (omega arith)

pub greatest-one : (n : ℕ) (xs : List ℕ) → length xs ≡ 0 → greatest (n ∷ xs) ≡ n
greatest-one n [] none = omega arith
greatest-one n (x ∷ xs) none = absurd (omega arith)

pub some_present : (run : List Code) → list_any is_present run ≡ true → 0 < length (present_codes run)
some_present [] e = cc
some_present (Present n ∷ run) e = omega arith
some_present (Primary ∷ run) e = some_present run e
some_present (Secondary ∷ run) e = some_present run e

pub none_present : (run : List Code) → list_any is_present run ≡ false → length (present_codes run) ≡ 0
none_present [] e = refl
none_present (Present n ∷ run) e = cc
none_present (Primary ∷ run) e = none_present run e
none_present (Secondary ∷ run) e = none_present run e

pub smallest_at_most : (xs : List ℕ) → smallest xs ≤ greatest xs
smallest_at_most [] = omega arith
smallest_at_most (x ∷ []) = omega arith
smallest_at_most (x ∷ y ∷ xs) = omega (arith, smallest_at_most (y ∷ xs))

-- ---- a code behind a run spans what it does before it

greatest-behind : (n : ℕ) (xs : List ℕ) → greatest (xs ++ n ∷ []) ≡ greatest (n ∷ xs)
greatest-behind n [] = refl
greatest-behind n (x ∷ xs) = omega (arith, greatest-behind n xs)

smallest-behind : (n : ℕ) (xs : List ℕ) → smallest (xs ++ n ∷ []) ≡ smallest (n ∷ xs)
smallest-behind n [] = refl
smallest-behind n (x ∷ []) = omega arith
smallest-behind n (x ∷ y ∷ xs) = omega (arith, smallest-behind n (y ∷ xs))

present_codes-behind : (code : Code) (run : List Code) → present_codes (run ++ code ∷ []) ≡ present_codes run ++ present_codes (code ∷ [])
present_codes-behind code run = filter_map-append present_code run (code ∷ [])

smallest-code : (code : Code) (run : List Code) → smallest (present_codes (run ++ code ∷ [])) ≡ smallest (present_codes (code ∷ run))
smallest-code (Present n) run = ap smallest (present_codes-behind (Present n) run) ∙ smallest-behind n (present_codes run)
smallest-code Primary run = ap smallest (present_codes-behind Primary run ∙ append-nil (present_codes run))
smallest-code Secondary run = ap smallest (present_codes-behind Secondary run ∙ append-nil (present_codes run))

greatest-code : (code : Code) (run : List Code) → greatest (present_codes (run ++ code ∷ [])) ≡ greatest (present_codes (code ∷ run))
greatest-code (Present n) run = ap greatest (present_codes-behind (Present n) run) ∙ greatest-behind n (present_codes run)
greatest-code Primary run = ap greatest (present_codes-behind Primary run ∙ append-nil (present_codes run))
greatest-code Secondary run = ap greatest (present_codes-behind Secondary run ∙ append-nil (present_codes run))

any-behind : (p : Code → Bool) (code : Code) (run : List Code) → list_any p (run ++ code ∷ []) ≡ list_any p (code ∷ run)
any-behind p code [] = refl
any-behind p code (x ∷ run) = ap (λ (b : Bool). p x || b) (any-behind p code run) ∙ swapped (p x) (p code) (list_any p run) where
  swapped : (a b c : Bool) → (a || (b || c)) ≡ (b || (a || c))
  swapped true true c = refl
  swapped true false c = refl
  swapped false true c = refl
  swapped false false c = refl

pub span-behind : (span : Span) (code : Code) (run : List Code) → IsSpan span (code ∷ run) → IsSpan span (run ++ code ∷ [])
span-behind span code run is = record {
  least = is.least ∙ sym (smallest-code code run);
  greatest = is.greatest ∙ sym (greatest-code code run);
  present = is.present ∙ sym (any-behind is_present code run);
  primary = is.primary ∙ sym (any-behind is_primary code run);
  secondary = is.secondary ∙ sym (any-behind is_secondary code run);
}

-- ---- which kinds of codes a run has

all_primary : (run : List Code) → list_all is_primary run ≡ (not (list_any is_present run) && not (list_any is_secondary run))
all_primary [] = refl
all_primary (Present n ∷ run) = refl
all_primary (Primary ∷ run) = all_primary run
all_primary (Secondary ∷ run) = sym (and-false (not (list_any is_present run)))

all_secondary : (run : List Code) → list_all is_secondary run ≡ (not (list_any is_present run) && not (list_any is_primary run))
all_secondary [] = refl
all_secondary (Present n ∷ run) = refl
all_secondary (Primary ∷ run) = sym (and-false (not (list_any is_present run)))
all_secondary (Secondary ∷ run) = all_secondary run

all_present : (run : List Code) → list_all is_present run ≡ (not (list_any is_primary run) && not (list_any is_secondary run))
all_present [] = refl
all_present (Present n ∷ run) = all_present run
all_present (Primary ∷ run) = refl
all_present (Secondary ∷ run) = sym (and-false (not (list_any is_primary run)))

-- ---- widths by kinds

abbrev pub width_by : Bool → Bool → Bool → ℕ → ℕ → ℕ → ℕ
width_by present primary secondary least most k =
    cond present (cond ((not primary && not secondary) && (most == least)) 0 (digits (most - least + k)))
    (cond (primary && secondary) 1 0)

width_cases : (present primary secondary : Bool) (count least most k : ℕ)
    → (present ≡ true → 0 < count) → (present ≡ false → count ≡ 0)
    → cond (((not present && not secondary) || (not present && not primary)) || ((not primary && not secondary) && (most == least))) 0
    (cond (count == 0) 1 (digits (most - least + k)))
    ≡ width_by present primary secondary least most k
width_cases true true secondary count least most k some none = rw (ne_eqb count 0 (λ e. let more = some refl in omega arith)) refl
width_cases true false true count least most k some none = rw (ne_eqb count 0 (λ e. let more = some refl in omega arith)) refl
width_cases true false false count least most k some none = rw (ne_eqb count 0 (λ e. let more = some refl in omega arith)) refl
width_cases false true true count least most k some none = rw (eq-eqb count 0 (none refl)) refl
width_cases false true false count least most k some none = refl
width_cases false false true count least most k some none = refl
width_cases false false false count least most k some none = refl

pub width_of-by : (k : ℕ) (run : List Code)
    → width_of k run ≡ width_by (list_any is_present run) (list_any is_primary run) (list_any is_secondary run) (smallest (present_codes run)) (greatest (present_codes run)) k
width_of-by k run =
    let numbers = present_codes run in
    let primary = all_primary run in
    let secondary = all_secondary run in
    let present = all_present run in
    rw (primary, secondary, present)
    (width_cases (list_any is_present run) (list_any is_primary run) (list_any is_secondary run) (length numbers) (smallest numbers) (greatest numbers) k
    (some_present run) (none_present run))

-- a run with a number, all its codes being the same or not, and one without
pub width_of-marks : (k : ℕ) (run : List Code) → list_any is_present run ≡ false
    → width_of k run ≡ cond (list_any is_primary run && list_any is_secondary run) 1 0
width_of-marks k run none = width_of-by k run ∙ rw none refl

pub width_of-constant : (k : ℕ) (run : List Code) → list_any is_present run ≡ true
    → ((not (list_any is_primary run) && not (list_any is_secondary run)) && (greatest (present_codes run) == smallest (present_codes run))) ≡ true
    → width_of k run ≡ 0
width_of-constant k run some same = width_of-by k run ∙ rw (some, same) refl

pub width_of-numbers : (k : ℕ) (run : List Code) → list_any is_present run ≡ true
    → ((not (list_any is_primary run) && not (list_any is_secondary run)) && (greatest (present_codes run) == smallest (present_codes run))) ≡ false
    → width_of k run ≡ digits (greatest (present_codes run) - smallest (present_codes run) + k)
width_of-numbers k run some other = width_of-by k run ∙ rw (some, other) refl

-- ---- references by kinds

abbrev pub reference_by : Bool → Bool → Bool → ℕ → ℕ → ℕ
reference_by present primary secondary least b = cond present least (cond secondary (cond primary 0 (2 ^ b - 2)) (2 ^ b - 1))

reference_cases : (present primary secondary : Bool) (count least b : ℕ)
    → (present ≡ true → 0 < count) → (present ≡ false → count ≡ 0)
    → cond (count == 0) (cond (not present && not secondary) (2 ^ b - 1) (cond (not present && not primary) (2 ^ b - 2) 0)) least
    ≡ reference_by present primary secondary least b
reference_cases true primary secondary count least b some none = rw (ne_eqb count 0 (λ e. let more = some refl in omega arith)) refl
reference_cases false true true count least b some none = rw (eq-eqb count 0 (none refl)) refl
reference_cases false true false count least b some none = rw (eq-eqb count 0 (none refl)) refl
reference_cases false false true count least b some none = rw (eq-eqb count 0 (none refl)) refl
reference_cases false false false count least b some none = rw (eq-eqb count 0 (none refl)) refl

pub reference_of-by : (b : ℕ) (run : List Code)
    → reference_of b run ≡ reference_by (list_any is_present run) (list_any is_primary run) (list_any is_secondary run) (smallest (present_codes run)) b
reference_of-by b run =
    let numbers = present_codes run in
    let primary = all_primary run in
    let secondary = all_secondary run in
    rw (primary, secondary)
    (reference_cases (list_any is_present run) (list_any is_primary run) (list_any is_secondary run) (length numbers) (smallest numbers) b
    (some_present run) (none_present run))

-- ---- how large numbers are

pub small_run : (k : ℕ) (run : List Code) → k ≤ 2 → All (IsBelow k) run → greatest (present_codes run) + k < 2 ^ 32
small_run k [] few each = omega arith
small_run k (Present n ∷ run) few each =
    let here : n + k < 2 ^ 32 = All-head (IsBelow k) (Present n) run each in
    omega (arith, here, small_run k run few (All-tail (IsBelow k) (Present n) run each))
small_run k (Primary ∷ run) few each = small_run k run few (All-tail (IsBelow k) Primary run each)
small_run k (Secondary ∷ run) few each = small_run k run few (All-tail (IsBelow k) Secondary run each)
