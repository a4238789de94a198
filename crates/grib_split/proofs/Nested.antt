-- The runs that wait for a code hold one another.
use Rattle.std.proofs.Common.{◌≡◌, ℕ, zero, suc, ◌+◌, ◌-◌, ◌^◌, ◌%◌, ◌<◌, ◌≤◌, min, cond, List, [], ◌∷◌, take, drop, All, refl, sym, subst, arith}
use Rattle.std.specs.List.{list_any}
use Rattle.std.proofs.lemmas.List.Elements.{All-head, All-tail, All-drop}
use Rattle.grib_base.specs.declared.code.Code.{Code}
use Rattle.grib_base.specs.declared.code.Code.TheVariants.{Present, Primary, Secondary}
use Rattle.grib_packing.specs.Groupings.{greatest, smallest, present_codes, is_present}
use Rattle.grib_codes.specs.Span.{IsBelow}
use Rattle.grib_codes.proofs.Spans.{some_present, none_present}
use Rattle.grib_split.specs.declared.slots.Slots.{Slots}
use Rattle.grib_split.specs.Runs.{Waits, Told, Nested}
use Rattle.grib_split.proofs.Widths.{with_number}

-- the least number of a run, or 4,294,967,295
abbrev low_of : List Code → ℕ
low_of run = cond (list_any is_present run) (smallest (present_codes run)) 4294967295

low_more : (n : ℕ) (run : List Code) → n ≤ 4294967295 → min (low_of run) n ≡ low_of (Present n ∷ run)
low_more n run small = with_number (list_any is_present run) (low_of run) n (present_codes run) small (some_present run) (none_present run) refl

number_small : (k n : ℕ) (run : List Code) → All (IsBelow k) (Present n ∷ run) → n ≤ 4294967295
number_small k n run each = let here : n + k < 2 ^ 32 = All-head (IsBelow k) (Present n) run each in omega (arith, here)

low_falls : (k i j : ℕ) (run : List Code) → All (IsBelow k) run → i ≤ j → low_of (take j run) ≤ low_of (take i run)
low_falls k zero zero run each le = omega arith
low_falls k zero (suc j) [] each le = omega arith
low_falls k zero (suc j) (Present n ∷ run) each le =
    omega (arith, low_more n (take j run) (number_small k n run each), number_small k n run each)
low_falls k zero (suc j) (Primary ∷ run) each le = low_falls k zero j run (All-tail (IsBelow k) Primary run each) (omega arith)
low_falls k zero (suc j) (Secondary ∷ run) each le = low_falls k zero j run (All-tail (IsBelow k) Secondary run each) (omega arith)
low_falls k (suc i) zero run each le = absurd (omega (arith, le))
low_falls k (suc i) (suc j) [] each le = omega arith
low_falls k (suc i) (suc j) (Present n ∷ run) each le =
    let small = number_small k n run each in
    omega (arith, low_more n (take i run) small, low_more n (take j run) small, low_falls k i j run (All-tail (IsBelow k) (Present n) run each) (omega (arith, le)))
low_falls k (suc i) (suc j) (Primary ∷ run) each le = low_falls k i j run (All-tail (IsBelow k) Primary run each) (omega (arith, le))
low_falls k (suc i) (suc j) (Secondary ∷ run) each le = low_falls k i j run (All-tail (IsBelow k) Secondary run each) (omega (arith, le))

high_rises : (i j : ℕ) (run : List Code) → i ≤ j → greatest (present_codes (take i run)) ≤ greatest (present_codes (take j run))
high_rises zero j run le = omega arith
high_rises (suc i) zero run le = absurd (omega (arith, le))
high_rises (suc i) (suc j) [] le = omega arith
high_rises (suc i) (suc j) (Present n ∷ run) le = omega (arith, high_rises i j run (omega (arith, le)))
high_rises (suc i) (suc j) (Primary ∷ run) le = high_rises i j run (omega (arith, le))
high_rises (suc i) (suc j) (Secondary ∷ run) le = high_rises i j run (omega (arith, le))

-- the place of the run of i codes
waits_place : (at i : ℕ) → ((at + 1) % 64 + i) % 64 ≡ (at + (i + 1)) % 64
waits_place at i = omega arith

told_at : (k : ℕ) (codes : List Code) (at i : ℕ) (slots : Slots) → Waits k codes at slots → i < 64
    → Told slots (((at + 1) % 64 + i) % 64) (take i (drop (at + 1) codes))
told_at k codes at i slots waits within =
    let P : ℕ → Type 0 = λ p. Told slots p (take i (drop (at + 1) codes)) in
    let Q : ℕ → Type 0 = λ n. Told slots ((at + (i + 1)) % 64) (take n (drop (at + 1) codes)) in
    let same : i + 1 - 1 ≡ i = omega arith in
    subst P (sym (waits_place at i)) (subst Q same (waits (i + 1) (omega arith) (omega (arith, within))).told)

pub nested_waits : (k : ℕ) (codes : List Code) (at : ℕ) (slots : Slots) → All (IsBelow k) codes → Waits k codes at slots → Nested slots ((at + 1) % 64)
nested_waits k codes at slots each waits =
    let rest = drop (at + 1) codes in
    let below = All-drop (IsBelow k) (at + 1) codes each in
    record {
      least = λ i j le within. omega (
        arith,
        (told_at k codes at i slots waits (omega (arith, le, within))).tells.least,
        (told_at k codes at j slots waits within).tells.least,
        low_falls k i j rest below le,
      );
      greatest = λ i j le within. omega (
        arith,
        (told_at k codes at i slots waits (omega (arith, le, within))).tells.most,
        (told_at k codes at j slots waits within).tells.most,
        high_rises i j rest le,
      );
    }
