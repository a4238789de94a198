-- The runs of a place by the places of their ends, and with one code more.
use Rattle.std.proofs.Common.{◌≡◌, ℕ, suc, ◌+◌, ◌-◌, ◌*◌, ◌^◌, ◌%◌, ◌<◌, ◌≤◌, ◌⊎◌, inl, inr, List, ◌∷◌, length, get_or, take, drop, All, ap, ap₂, sym, ◌∙◌, subst, arith, drop-cons, drop-drop, length-drop}
use Rattle.std.specs.Prelude.{slice_index}
use Rattle.std.specs.Int.{bit_at}
use Rattle.std.proofs.Math.Nat.{mul-le-mul}
use Rattle.std.proofs.lemmas.List.Elements.{All-take, All-drop}
use Rattle.grib_base.specs.declared.code.Code.{Code}
use Rattle.grib_packing.specs.Groupings.{IsGrouping, cost_of, width_of, greatest, present_codes}
use Rattle.grib_codes.specs.Span.{IsBelow}
use Rattle.grib_codes.proofs.Spans.{small_run}
use Rattle.grib_split.specs.declared.choosing.Costs.{Costs}
use Rattle.grib_split.specs.declared.behind.Behind.{Behind}
use Rattle.grib_split.specs.declared.slots.Slots.{Slots}
use Rattle.grib_split.specs.Costs.{CanSplit, header_of}
use Rattle.grib_split.specs.Least as least
use Rattle.grib_split.specs.Least.{IsLeast, with_first}
use Rattle.grib_split.specs.Runs.{Run, Runs, Waits, After, Afters, after_of, WideAt, WideBut, Told, length_to, price_at, cost_at, IsNear}
use Rattle.grib_split.proofs.Bounds.{cost_bound, least_bound}
use Rattle.grib_split.proofs.Optimal.{code_joined}

-- ---- places

pub back : (at p : ℕ) → p < 64 → (at + length_to at p) % 64 ≡ p
back at p within = omega arith

pub forth : (at l : ℕ) → 1 ≤ l → l ≤ 64 → length_to at ((at + l) % 64) ≡ l
forth at l some most = omega arith

pub length_some : (at p : ℕ) → 1 ≤ length_to at p
length_some at p = omega arith

pub length_most : (at p : ℕ) → length_to at p ≤ 64
length_most at p = omega arith

pub runs_by : (k : ℕ) (codes : List Code) (at : ℕ) (slots : Slots)
    → ((p : ℕ) → p < 64 → Run k slots p (take (length_to at p) (drop at codes))) → Runs k codes at slots
runs_by k codes at slots r l some most =
    let p = (at + l) % 64 in
    let P : ℕ → Type 0 = λ n. Run k slots p (take n (drop at codes)) in
    subst P (forth at l some most) (r p (omega arith))

pub waits_by : (k : ℕ) (codes : List Code) (at : ℕ) (slots : Slots) → Waits k codes at slots
    → (p : ℕ) → p < 64 → Run k slots p (take (length_to at p - 1) (drop (at + 1) codes))
waits_by k codes at slots w p within =
    let l = length_to at p in
    let P : ℕ → Type 0 = λ n. Run k slots n (take (l - 1) (drop (at + 1) codes)) in
    subst P (back at p within) (w l (length_some at p) (length_most at p))

-- ---- runs with one code more before them

pub run_more : (codes : List Code) (at l : ℕ) (d : Code) → at < length codes → 1 ≤ l
    → take l (drop at codes) ≡ get_or codes at d ∷ take (l - 1) (drop (at + 1) codes)
run_more codes at l d within some =
    let next : drop at codes ≡ get_or codes at d ∷ drop (at + 1) codes =
    drop-cons codes at d within ∙ (let e : suc at ≡ at + 1 = omega arith in ap (λ k. get_or codes at d ∷ drop k codes) e) in
    let size : l ≡ suc (l - 1) = omega arith in
    ap (take l) next ∙ ap (λ k. take k (get_or codes at d ∷ drop (at + 1) codes)) size

pub run_small : (k : ℕ) (codes : List Code) (at l : ℕ) → k ≤ 2 → All (IsBelow k) codes
    → greatest (present_codes (take l (drop at codes))) + k < 2 ^ 32
run_small k codes at l few each = small_run k (take l (drop at codes)) few (All-take (IsBelow k) l (drop at codes) (All-drop (IsBelow k) at codes each))

pub told_small : (k : ℕ) (codes : List Code) (at l p : ℕ) (slots : Slots) → k ≤ 2 → All (IsBelow k) codes → Told slots p (take l (drop at codes))
    → slice_index slots.greatest p + k < 2 ^ 32
told_small k codes at l p slots few each t = omega (arith, t.tells.most, run_small k codes at l few each)

-- ---- what comes after

either : (a b : ℕ) → (a ≤ b) ⊎ (b < a)
either a b = grind arith

-- the least cost is at most that of a first run and the least cost after it
least_with : (header : ℕ) (width : List Code → ℕ) (codes : List Code) (from l cost rest : ℕ) → 1 ≤ l → l ≤ 64 → from + l ≤ length codes
    → IsLeast header width (drop from codes) cost → IsLeast header width (drop (from + l) codes) rest
    → cost ≤ header + l * width (take l (drop from codes)) + rest
least_with header width codes from l cost rest some most fits is after =
    let behind : drop l (drop from codes) ≡ drop (from + l) codes = drop-drop l from codes in
    let P : List Code → Type 0 = λ xs. IsGrouping (length xs) after.lengths in
    let grouping = code_joined (drop from codes) l after.lengths some most (omega (arith, fits, length-drop from codes)) (subst P (sym behind) after.grouping) in
    let reached : cost_of header width after.lengths (drop l (drop from codes)) ≡ rest = ap (cost_of header width after.lengths) behind ∙ after.reached in
    omega (arith, is.least (l ∷ after.lengths) grouping, reached)

-- the least cost from a place on is hardly more than those after the runs from there on
pub near_runs : (costs : Costs) (codes : List Code) (at cost : ℕ) (slots : Slots) → CanSplit costs codes → at < length codes
    → Runs costs.reserved codes (at + 1) slots → Afters (header_of costs) costs.reserved codes (at + 1) slots
    → IsLeast (header_of costs) (width_of costs.reserved) (drop (at + 1) codes) cost → IsNear slots.after ((at + 1) % 64) cost
near_runs costs codes at cost slots split place runs afters is other within differs =
    let l = length_to (at + 1) other in
    let short : l ≤ 63 = omega (arith, within, differs) in
    let P : ℕ → Type 0 = λ p. cost ≤ cost_at slots.after p + 4096 in
    subst P (back (at + 1) other within) (near_run costs codes at cost l slots split place (length_some (at + 1) other) short runs afters is)
  where
    near_run : (costs : Costs) (codes : List Code) (at cost l : ℕ) (slots : Slots) → CanSplit costs codes → at < length codes → 1 ≤ l → l ≤ 63
        → Runs costs.reserved codes (at + 1) slots → Afters (header_of costs) costs.reserved codes (at + 1) slots
        → IsLeast (header_of costs) (width_of costs.reserved) (drop (at + 1) codes) cost → cost ≤ after_of slots (at + 1) l + 4096
    near_run costs codes at cost l slots split place some short runs afters is = elim (either (at + 1 + l) (length codes)) [
      | inl inside ↦
          let r = (runs l some (omega arith)).wide in
          let rest = (afters l some (omega arith)).some inside in
          let first = least_with (header_of costs) (width_of costs.reserved) codes (at + 1) l cost (after_of slots (at + 1) l) some (omega arith) inside is rest in
          let w : width_of costs.reserved (take l (drop (at + 1) codes)) ≤ 32 = omega (arith, r.is, r.few) in
          let m : l * width_of costs.reserved (take l (drop (at + 1) codes)) ≤ 63 * 32 = mul-le-mul short w in
          omega (arith, first, m, split.references, split.widths)
      | inr outside ↦
          let few : length (drop (at + 1) codes) ≤ 63 = omega (arith, outside, short, length-drop (at + 1) codes) in
          let b = least_bound (header_of costs) costs.reserved (drop (at + 1) codes) cost is in
          let low : header_of costs ≤ 44 = omega (arith, split.references, split.widths) in
          let m : length (drop (at + 1) codes) * header_of costs ≤ 63 * 44 = mul-le-mul few low in
          omega (arith, (afters l some (omega arith)).none outside, b, m)
    ]

-- ---- prices

-- a price fits 16 bits
pub fits_price : (l w a : ℕ) → l ≤ 64 → w ≤ 32 → a ≤ 60000 → l * w + a < 65536
fits_price l w a most few low = let m : l * w ≤ 64 * 32 = mul-le-mul most few in omega (arith, m, low)

-- ---- the best of the runs

-- what each run costs
abbrev pub Costing : ℕ → List Code → ℕ → Slots → Type 0
Costing k codes at slots = (l : ℕ) → 1 ≤ l → l ≤ 64
    → slice_index slots.cost ((at + l) % 64) + slots.after.base ≡ l * width_of k (take l (drop at codes)) + after_of slots at l

pub costing : (k : ℕ) (codes : List Code) (at : ℕ) (slots : Slots) → Runs k codes at slots
    → ((p : ℕ) → p < 64 → slice_index slots.cost p ≡ price_at slots at p) → Costing k codes at slots
costing k codes at slots r price l some most =
    let p = (at + l) % 64 in
    let w : length_to at p * slice_index slots.width p ≡ l * width_of k (take l (drop at codes)) = ap₂ (λ m n. m * n) (forth at l some most) (r l some most).wide.is in
    omega (arith, price p (omega arith), w)

-- the cost of the run of one code
pub first_cost : (costs : Costs) (codes : List Code) (at : ℕ) (slots : Slots) → at < length codes → CanSplit costs codes
    → Afters (header_of costs) costs.reserved codes at slots → Runs costs.reserved codes at slots → Costing costs.reserved codes at slots
    → slice_index slots.cost ((at + 1) % 64) + slots.after.base ≤ 1476395040
first_cost costs codes at slots place split afters r each =
    let wide = (r 1 (omega arith) (omega arith)).wide in
    let b = cost_bound costs (drop (at + 1) codes) (after_of slots at 1) split.references split.widths (omega (arith, split.most, length-drop (at + 1) codes)) ((afters 1 (omega arith) (omega arith)).some (omega arith)) in
    omega (arith, each 1 (omega arith) (omega arith), wide.is, wide.few, b)

-- it is low where fewer than 64 codes follow
first_short : (costs : Costs) (codes : List Code) (at : ℕ) (slots : Slots) → at < length codes → length codes < at + 64 → CanSplit costs codes
    → Afters (header_of costs) costs.reserved codes at slots → Runs costs.reserved codes at slots → Costing costs.reserved codes at slots
    → slice_index slots.cost ((at + 1) % 64) + slots.after.base < 60000
first_short costs codes at slots place short split afters r each =
    let wide = (r 1 (omega arith) (omega arith)).wide in
    let header = header_of costs in
    let few : length (drop (at + 1) codes) ≤ 63 = omega (arith, short, length-drop (at + 1) codes) in
    let b = least_bound header costs.reserved (drop (at + 1) codes) (after_of slots at 1) ((afters 1 (omega arith) (omega arith)).some (omega arith)) in
    let low : header ≤ 44 = omega (arith, split.references, split.widths) in
    let m : length (drop (at + 1) codes) * header ≤ 63 * 44 = mul-le-mul few low in
    omega (arith, each 1 (omega arith) (omega arith), wide.is, wide.few, b, m)

pub best_by : (costs : Costs) (codes : List Code) (at n cost : ℕ) (slots : Slots) → at < length codes → CanSplit costs codes
    → Afters (header_of costs) costs.reserved codes at slots → Runs costs.reserved codes at slots → Costing costs.reserved codes at slots
    → 1 ≤ n → n ≤ 64 → slice_index slots.cost ((at + n) % 64) ≡ cost → ((p : ℕ) → p < 64 → cost ≤ slice_index slots.cost p)
    → ((l : ℕ) → 1 ≤ l → l < n → cost < slice_index slots.cost ((at + l) % 64))
    → least.Best (header_of costs) (width_of costs.reserved) (drop at codes) (after_of slots at) n
best_by costs codes at n cost slots place split afters r each some within is low first =
    let place_of : (l : ℕ) → (at + l) % 64 < 64 = λ l. omega arith in
    record {
      some = some;
      most = within;
      fits = elim (either (at + n) (length codes)) [
        | inl inside ↦ omega (arith, inside, length-drop at codes)
        | inr outside ↦ absurd (
            let none = (afters n some within).none outside in
            let one = first_short costs codes at slots place (omega (arith, outside, within)) split afters r each in
            omega (arith, none, each n some within, is, low ((at + 1) % 64) (place_of 1), one)
            )
      ];
      least = λ l l_some l_most l_fits. omega (arith, each n some within, each l l_some l_most, is, low ((at + l) % 64) (place_of l));
      first = λ l l_some less. omega (arith, each n some within, each l l_some (omega (arith, less, within)), is, first l l_some less);
    }

-- ---- after a code is put before each run

pub told_taken : (k : ℕ) (codes : List Code) (at : ℕ) (d : Code) (a b : Slots) → at < length codes → Waits k codes at a
    → ((p : ℕ) (run : List Code) → p < 64 → Told a p run → Told b p (get_or codes at d ∷ run))
    → (p : ℕ) → p < 64 → Told b p (take (length_to at p) (drop at codes))
told_taken k codes at d a b place waits told p within =
    let l = length_to at p in
    let P : List Code → Type 0 = λ run. Told b p run in
    subst P (sym (run_more codes at l d place (length_some at p))) (told p (take (l - 1) (drop (at + 1) codes)) within (waits_by k codes at a waits p within).told)

pub wide_taken : (k : ℕ) (codes : List Code) (at places : ℕ) (d : Code) (a b : Slots) → at < length codes
    → k ≤ 2 → All (IsBelow k) codes → Waits k codes at a
    → ((p : ℕ) (run : List Code) → p < 64 → bit_at places p ≡ 0 → slice_index a.greatest p + k < 2 ^ 32
    → Told a p run → WideAt k a p run → WideAt k b p (get_or codes at d ∷ run))
    → WideBut k b places (λ p. take (length_to at p) (drop at codes))
wide_taken k codes at places d a b place few each waits wide p within unset =
    let l = length_to at p in
    let w = waits_by k codes at a waits p within in
    let small = told_small k codes (at + 1) (l - 1) p a few each w.told in
    let run = get_or codes at d ∷ take (l - 1) (drop (at + 1) codes) in
    let wider = wide p (take (l - 1) (drop (at + 1) codes)) within unset small w.told w.wide in
    let P : List Code → Type 0 = λ run. WideAt k b p run in
    subst P (sym (run_more codes at l d place (length_some at p))) wider

pub afters_same : (header k : ℕ) (codes : List Code) (at : ℕ) (a b : Slots) → b.after ≡ a.after → Afters header k codes at a → Afters header k codes at b
afters_same header k codes at a b same afters l some most =
    let P : Behind → Type 0 = λ x. After header k codes (at + l) (cost_at x ((at + l) % 64)) in
    subst P (sym same) (afters l some most)

pub best_same : (header : ℕ) (width : List Code → ℕ) (codes : List Code) (at n : ℕ) (a b : Slots) → b.after ≡ a.after
    → least.Best header width codes (after_of b at) n → least.Best header width codes (after_of a at) n
best_same header width codes at n a b same best =
    let P : Behind → Type 0 = λ x. least.Best header width codes (λ l. cost_at x ((at + l) % 64)) n in
    subst P same best
