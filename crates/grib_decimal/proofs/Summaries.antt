-- What is summed up of the points of a field.
use Rattle.std.proofs.Common.{◌≡◌, ◌≢◌, ℕ, zero, suc, ◌+◌, ◌-◌, ◌%◌, ◌^◌, ◌<◌, ◌≤◌, inl, inr, Bool, true, false, cond, Option, Some, None, List, [], ◌∷◌, length, take, get_or, fold, count_by, Contains, All, ℤ, ◌≤ℤ◌, refl, sym, ap, subst, ◌∙◌, arith}
use Rattle.std.specs.Int.{int_min, int_max}
use Rattle.std.specs.Ordering.{int_eq}
use Rattle.std.specs.Option.{option_map_or}
use Rattle.std.proofs.Math.Seq.{take-length}
use Rattle.std.proofs.lemmas.Bool.Decides.{Decides-int_eq}
use Rattle.std.proofs.lemmas.Int.{ints, fold-int_min_bounds, fold-int_min_reached, fold-int_max_bounds, fold-int_max_reached}
use Rattle.std.proofs.lemmas.List.{length-take}
use Rattle.std.proofs.lemmas.List.Elements.{All-cons, All-contains}
use Rattle.std.proofs.lemmas.List.Sums.{count_by_more_yes, count_by_more_no, count_by-le-length, sum_by-cons}
use Rattle.std.proofs.lemmas.Bool.{false_from_ne_true}
use Rattle.grib_base.specs.declared.limits.TheConstants.{MOST_POINTS}
use Rattle.grib_packing.specs.declared.column.Point.{Point}
use Rattle.grib_packing.specs.declared.column.Point.TheVariants.{Scaled, Missing, Missing2}
use Rattle.grib_packing.specs.Misfits.{is_missing, is_missing2, scaled_numbers}
use Rattle.grib_decimal.specs.declared.extreme.Extremes.{Extremes}
use Rattle.grib_decimal.specs.declared.extreme.Summary.{Summary}
use Rattle.grib_decimal.specs.declared.tally.Tally.{Tally}
use Rattle.grib_decimal.specs.declared.bounds.Greatest.{Greatest}
use Rattle.grib_decimal.specs.declared.bounds.Least.{Least}
use Rattle.grib_decimal.specs.Bounds.{IsBound, AreExtremesSoFar, IsLeastSoFar, IsGreatestSoFar}
use Rattle.grib_decimal.specs.Summary.{is_present, has_number, place_of, extremes_among, extremes_of, IsTally, SumUp}
use Rattle.grib_decimal.proofs.Orders.{number_past}
use Rattle.grib_decimal.proofs.Positions.{position_is}

later : (x y : ℤ) (ys : List ℤ) → Contains ys x → Contains (y ∷ ys) x
later x y ys (k, within, is) = (suc k, omega arith, is)

-- a number that stands at a place is among the numbers
numbers_at : (points : List Point) (k : ℕ) (x : ℤ) → k < length points → get_or points k Missing ≡ Scaled x → Contains (scaled_numbers points) x
numbers_at [] k x within here = absurd (omega arith)
numbers_at (p ∷ points) zero x within here =
    subst (λ q. Contains (scaled_numbers (q ∷ points)) x) (sym here) (0, omega arith, refl)
numbers_at (Scaled y ∷ points) (suc k) x within here = later x y (scaled_numbers points) (numbers_at points k x (omega arith) here)
numbers_at (Missing ∷ points) (suc k) x within here = numbers_at points k x (omega arith) here
numbers_at (Missing2 ∷ points) (suc k) x within here = numbers_at points k x (omega arith) here

-- what holds of each number that stands at a place holds of all
numbers_all : (R : ℤ → Type 0) (points : List Point) → ((k : ℕ) (y : ℤ) → k < length points → get_or points k Missing ≡ Scaled y → R y) → All R (scaled_numbers points)
numbers_all R [] each = λ k d within. absurd (omega arith)
numbers_all R (Scaled y ∷ points) each =
    All-cons R y (scaled_numbers points) (each 0 y (omega arith) refl) (numbers_all R points (λ k z within here. each (suc k) z (omega arith) here))
numbers_all R (Missing ∷ points) each = numbers_all R points (λ k z within here. each (suc k) z (omega arith) here)
numbers_all R (Missing2 ∷ points) each = numbers_all R points (λ k z within here. each (suc k) z (omega arith) here)

-- a bound that is one of the numbers is the least
least_is : (a : ℤ) (xs : List ℤ) (m : ℤ) → All (λ y. m ≤ℤ y) (a ∷ xs) → Contains (a ∷ xs) m → fold int_min a xs ≡ m
least_is a xs m below among =
    let r : ℤ = fold int_min a xs in
    let bounds = fold-int_min_bounds a xs r refl in
    let low : r ≤ℤ m = All-contains (λ y. r ≤ℤ y) (a ∷ xs) m (All-cons (λ y. r ≤ℤ y) a xs bounds.0 bounds.1) among in
    let reached : Contains (a ∷ xs) r = elim (fold-int_min_reached a xs r refl) [
      | inl is ↦ (0, omega arith, sym is)
      | inr inside ↦ later r a xs inside
    ] in
    let high : m ≤ℤ r = All-contains (λ y. m ≤ℤ y) (a ∷ xs) r below reached in
    omega (arith, ints)

greatest_is : (a : ℤ) (xs : List ℤ) (m : ℤ) → All (λ y. y ≤ℤ m) (a ∷ xs) → Contains (a ∷ xs) m → fold int_max a xs ≡ m
greatest_is a xs m above among =
    let r : ℤ = fold int_max a xs in
    let bounds = fold-int_max_bounds a xs r refl in
    let high : m ≤ℤ r = All-contains (λ y. y ≤ℤ r) (a ∷ xs) m (All-cons (λ y. y ≤ℤ r) a xs bounds.0 bounds.1) among in
    let reached : Contains (a ∷ xs) r = elim (fold-int_max_reached a xs r refl) [
      | inl is ↦ (0, omega arith, sym is)
      | inr inside ↦ later r a xs inside
    ] in
    let low : r ≤ℤ m = All-contains (λ y. y ≤ℤ m) (a ∷ xs) r above reached in
    omega (arith, ints)

other_number : (x : ℤ) (q : Point) → q ≢ Scaled x → has_number x q ≡ false
other_number x (Scaled y) other = false_from_ne_true (int_eq y x) (λ e. other (ap Scaled ((Decides-int_eq y x).0 e)))
other_number x Missing other = refl
other_number x Missing2 other = refl

place_is : (points : List Point) (x : ℤ) (place : ℕ) → 1 ≤ place → place ≤ length points → get_or points (place - 1) Missing ≡ Scaled x → ((k : ℕ) → k + 1 < place → get_or points k Missing ≢ Scaled x) → place_of x points ≡ place
place_is points x place some within here first =
    let found = position_is (has_number x) points (place - 1) Missing (omega arith) (λ k before. other_number x (get_or points k Missing) (first k (omega arith)))
    (ap (has_number x) here ∙ (Decides-int_eq x x).1 refl) in
    ap (λ o. option_map_or (λ n. n + 1) o 0) found ∙ omega arith

module _ (Before : ℤ → ℤ → Type 0) (points : List Point) (x : ℤ) (place : ℕ) (is : IsBound Before points (length points) x place) where
  bound_within : place - 1 < length points
  bound_within = let some = is.counted in let within = is.within in omega arith

  bound_among : Contains (scaled_numbers points) x
  bound_among = numbers_at points (place - 1) x bound_within is.stands

  bound_all : All (λ y. Before x y) (scaled_numbers points)
  bound_all = numbers_all (λ y. Before x y) points is.bound

  bound_place : place_of x points ≡ place
  bound_place = place_is points x place is.counted is.within is.stands is.first

same_extremes : (m : Extremes) (least greatest : ℤ) (least_place greatest_place : ℕ) → least ≡ m.least → greatest ≡ m.greatest → least_place ≡ m.least_place → greatest_place ≡ m.greatest_place → m ≡ record { least = least; least_place = least_place; greatest = greatest; greatest_place = greatest_place }
same_extremes m least greatest least_place greatest_place p q r s = rw (p, q, r, s) refl

extremes_by : (points : List Point) (numbers : List ℤ) → numbers ≡ scaled_numbers points → (found : Option Extremes) → AreExtremesSoFar points (length points) found → found ≡ extremes_among points numbers
extremes_by points [] e None is = refl
extremes_by points [] e (Some m) is =
    let among : Contains [] m.least = subst (λ xs. Contains xs m.least) (sym e) (bound_among (λ x y. x ≤ℤ y) points m.least m.least_place is.least) in
    absurd (omega (arith, among.1))
extremes_by points (a ∷ xs) e None is =
    let none : All (λ y. ⊥) (a ∷ xs) = subst (All (λ y. ⊥)) (sym e) (numbers_all (λ y. ⊥) points (λ k y within here. is k y within here)) in
    absurd (none 0 a (omega arith))
extremes_by points (a ∷ xs) e (Some m) is =
    let Low : ℤ → ℤ → Type 0 = λ x y. x ≤ℤ y in
    let High : ℤ → ℤ → Type 0 = λ x y. y ≤ℤ x in
    let least = least_is a xs m.least (subst (All (Low m.least)) (sym e) (bound_all Low points m.least m.least_place is.least))
    (subst (λ ys. Contains ys m.least) (sym e) (bound_among Low points m.least m.least_place is.least)) in
    let greatest = greatest_is a xs m.greatest (subst (All (High m.greatest)) (sym e) (bound_all High points m.greatest m.greatest_place is.greatest))
    (subst (λ ys. Contains ys m.greatest) (sym e) (bound_among High points m.greatest m.greatest_place is.greatest)) in
    let least_place = ap (λ x. place_of x points) least ∙ bound_place Low points m.least m.least_place is.least in
    let greatest_place = ap (λ x. place_of x points) greatest ∙ bound_place High points m.greatest m.greatest_place is.greatest in
    ap Some (same_extremes m _ _ _ _ least greatest least_place greatest_place)

pub extremes_is : (points : List Point) (found : Option Extremes) → AreExtremesSoFar points (length points) found → found ≡ extremes_of points
extremes_is points found is = extremes_by points (scaled_numbers points) refl found is

pub same_summary : (s : Summary) (present missing missing2 : ℕ) (extremes : Option Extremes) → s.present ≡ present → s.missing ≡ missing → s.missing2 ≡ missing2 → s.extremes ≡ extremes → s ≡ record { present = present; missing = missing; missing2 = missing2; extremes = extremes }
same_summary s present missing missing2 extremes p q r e = rw (← p, ← q, ← r, ← e) refl

-- one point more at the front
pub count_first : (test : Point → Bool) (q : Point) (points : List Point) → count_by test (q ∷ points) ≡ cond (test q) 1 0 + count_by test points
count_first test q points = sum_by-cons (λ p. cond (test p) 1 0) q points

-- each point is counted once
pub counted : (points : List Point) → count_by is_present points + count_by is_missing points + count_by is_missing2 points ≡ length points
counted [] = refl
counted (Scaled x ∷ points) =
    omega (arith, counted points, count_first is_present (Scaled x) points, count_first is_missing (Scaled x) points, count_first is_missing2 (Scaled x) points)
counted (Missing ∷ points) =
    omega (arith, counted points, count_first is_present Missing points, count_first is_missing Missing points, count_first is_missing2 Missing points)
counted (Missing2 ∷ points) =
    omega (arith, counted points, count_first is_present Missing2 points, count_first is_missing Missing2 points, count_first is_missing2 Missing2 points)

pub all_summed : (points : List Point) (s : Tally) (present : ℕ) (extremes : Option Extremes) → length points ≤ MOST_POINTS
    → present ≡ ((s.count + (2 ^ 32 - s.missing)) % 2 ^ 32 + (2 ^ 32 - s.missing2)) % 2 ^ 32 → AreExtremesSoFar points (length points) extremes → IsTally points (length points) s
    → SumUp points (record { present = present; missing = s.missing; missing2 = s.missing2; extremes = extremes })
all_summed points s present extremes few is are tally =
    let all : take (length points) points ≡ points = take-length points in
    let missing : s.missing ≡ count_by is_missing points = tally.missing_is ∙ ap (count_by is_missing) all in
    let missing2 : s.missing2 ≡ count_by is_missing2 points = tally.missing2_is ∙ ap (count_by is_missing2) all in
    let present_is : present ≡ count_by is_present points = omega (arith, is, few, missing, missing2, counted points, tally.count_is) in
    record {
      summary_is = same_summary _ _ _ _ _ present_is missing missing2 (extremes_is points extremes are);
      extremes_are = are;
    }

-- one more point
more_yes : (test : Point → Bool) (points : List Point) (n : ℕ) (q : Point) (count : ℕ) → n < length points → get_or points n Missing ≡ q → test q ≡ true → count ≡ count_by test (take n points) → count + 1 ≡ count_by test (take (n + 1) points)
more_yes test points n q count within here passes old =
    ap (λ k. k + 1) old ∙ sym (count_by_more_yes test points n Missing within (ap test here ∙ passes))

more_no : (test : Point → Bool) (points : List Point) (n : ℕ) (q : Point) (count : ℕ) → n < length points → get_or points n Missing ≡ q → test q ≡ false → count ≡ count_by test (take n points) → count ≡ count_by test (take (n + 1) points)
more_no test points n q count within here fails old = old ∙ sym (count_by_more_no test points n Missing within (ap test here ∙ fails))

pub one_scaled : (points : List Point) (n : ℕ) (x : ℤ) (s : Tally) (count : ℕ) (least : Least) (greatest : Greatest) → n < length points → get_or points n Missing ≡ Scaled x → count ≡ n + 1
    → IsLeastSoFar points (n + 1) least → IsGreatestSoFar points (n + 1) greatest → IsTally points n s
    → IsTally points (n + 1) (record { count = count; missing = s.missing; missing2 = s.missing2; least = least; greatest = greatest })
one_scaled points n x s count least greatest within here is is_least is_greatest old = record {
  count_is = is;
  missing_is = more_no is_missing points n (Scaled x) s.missing within here refl old.missing_is;
  missing2_is = more_no is_missing2 points n (Scaled x) s.missing2 within here refl old.missing2_is;
  least_is = is_least;
  greatest_is = is_greatest;
}

no_number : (points : List Point) (n : ℕ) (q : Point) → get_or points n Missing ≡ q → ((x : ℤ) → q ≢ Scaled x) → (x : ℤ) → get_or points n Missing ≢ Scaled x
no_number points n q here other x e = other x (sym here ∙ e)

-- as many as points that were counted
few : (test : Point → Bool) (points : List Point) (n : ℕ) → count_by test (take n points) ≤ n
few test points n = omega (arith, count_by-le-length test (take n points), length-take n points)

pub one_missing : (points : List Point) (n : ℕ) (s : Tally) (count missing : ℕ) → length points ≤ MOST_POINTS → n < length points → get_or points n Missing ≡ Missing → count ≡ n + 1
    → missing ≡ (s.missing + 1) % 2 ^ 32 → IsTally points n s
    → IsTally points (n + 1) (record { count = count; missing = missing; missing2 = s.missing2; least = s.least; greatest = s.greatest })
one_missing points n s count missing short within here is is_missing' old =
    let exact : missing ≡ s.missing + 1 = omega (arith, is_missing', old.missing_is, few is_missing points n) in
    let none = no_number points n Missing here (λ x e. cc) in
    record {
      count_is = is;
      missing_is = exact ∙ more_yes is_missing points n Missing s.missing within here refl old.missing_is;
      missing2_is = more_no is_missing2 points n Missing s.missing2 within here refl old.missing2_is;
      least_is = number_past _ _ points n s.least.number s.least.place none old.least_is;
      greatest_is = number_past _ _ points n s.greatest.number s.greatest.place none old.greatest_is;
    }

pub one_missing2 : (points : List Point) (n : ℕ) (s : Tally) (count missing2 : ℕ) → length points ≤ MOST_POINTS → n < length points → get_or points n Missing ≡ Missing2 → count ≡ n + 1
    → missing2 ≡ (s.missing2 + 1) % 2 ^ 32 → IsTally points n s
    → IsTally points (n + 1) (record { count = count; missing = s.missing; missing2 = missing2; least = s.least; greatest = s.greatest })
one_missing2 points n s count missing2 short within here is is_missing2' old =
    let exact : missing2 ≡ s.missing2 + 1 = omega (arith, is_missing2', old.missing2_is, few is_missing2 points n) in
    let none = no_number points n Missing2 here (λ x e. cc) in
    record {
      count_is = is;
      missing_is = more_no is_missing points n Missing2 s.missing within here refl old.missing_is;
      missing2_is = exact ∙ more_yes is_missing2 points n Missing2 s.missing2 within here refl old.missing2_is;
      least_is = number_past _ _ points n s.least.number s.least.place none old.least_is;
      greatest_is = number_past _ _ points n s.greatest.number s.greatest.place none old.greatest_is;
    }
