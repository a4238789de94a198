-- Small points fit every packing.
use Rattle.std.proofs.Common.{◌≡◌, ℕ, ◌+◌, ◌-◌, ◌*◌, ◌^◌, ◌≤◌, ◌||◌, ◌==◌, Bool, true, false, cond, None, List, [], ◌∷◌, length, All, ℤ, pos, negsuc, nat_abs, nat_lt, int_lt, ◌+ℤ◌, ◌-ℤ◌, ◌*ℤ◌, get_or, ap₂, refl, arith, le-ltb, inl, inr}
use Rattle.std.specs.List.{list_any, range_with_len}
use Rattle.std.proofs.lemmas.Bool.{cases_lt}
use Rattle.std.proofs.lemmas.Int.{ints}
use Rattle.std.proofs.lemmas.List.{get_or_past}
use Rattle.std.proofs.lemmas.List.Elements.{All-nil, All-cons, All-head, All-tail, All-map, All-weaker}
use Rattle.std.proofs.lemmas.List.Folds.{list_any_none}
use Rattle.std.proofs.lemmas.List.FromFn.{length-map-range_with_len}
use Rattle.std.proofs.lemmas.Nat.{mul-le}
use Rattle.grib_packing.specs.declared.column.Point.{Point}
use Rattle.grib_packing.specs.declared.column.Point.TheVariants.{Scaled, Missing, Missing2}
use Rattle.grib_packing.specs.Differences.{lesser, least, least_of, difference_at, differences, code_at, difference_codes}
use Rattle.grib_packing.specs.Entries.{is_out_of_range}
use Rattle.grib_packing.specs.Misfits.{Misfit, SecondaryMissing, OutOfRange, Target, ToSimple, ToComplex, ToSpatial, ToCoded, misfit_at, first_misfit, is_missing, is_missing2, is_outside, is_scaled_outside, scaled_numbers, management_of, greatest_code, are_differences_out}
use Rattle.grib_packing.specs.Written.{MayBePacked}
use Rattle.grib_synthetic.specs.Points.{made_point, made_points, made_column}
use Rattle.grib_synthetic.specs.Made.{MayBeMade}
use Rattle.grib_synthetic.proofs.OneByOne.{few_points}
use Rattle.grib_synthetic.proofs.Small.{IsSmall, inside_from, small_points}

-- ---- wherever the end of the range is

inside_more : (m : ℕ) (x : ℤ) → 16383 ≤ m → is_outside 16383 x ≡ false → is_outside m x ≡ false
inside_more m (pos n) more inside = elim (cases_lt 16383 n) as (λ _. is_outside m (pos n) ≡ false) [
  | inl great ↦ absurd (grind (arith, inside, great))
  | inr few ↦ inside_from m n (omega arith)
]
inside_more m (negsuc n) more inside = absurd (cc)

point_inside : (m : ℕ) (point : Point) → 16383 ≤ m → IsSmall point → is_scaled_outside m point ≡ false
point_inside m (Scaled x) more small = inside_more m x more small.inside
point_inside m Missing more small = refl
point_inside m Missing2 more small = refl

module _ (points : List Point) (small : All IsSmall points) where
  pub none_outside : (m : ℕ) → 16383 ≤ m → list_any (is_scaled_outside m) points ≡ false
  none_outside m more = list_any_none (is_scaled_outside m) points
      (All-weaker IsSmall (λ point. is_scaled_outside m point ≡ false) (λ point h. point_inside m point more h) points small)

  pub none_secondary : list_any is_missing2 points ≡ false
  none_secondary = list_any_none is_missing2 points (All-weaker IsSmall (λ point. is_missing2 point ≡ false) (λ point h. h.told) points small)

no_misfit : (misfit : ℕ → Misfit) (test : Point → Bool) (points : List Point) → list_any test points ≡ false → misfit_at misfit test points ≡ None
no_misfit misfit test points none = rw none refl

-- so few codes are reserved
few_reserved : (points : List Point) → management_of points ≤ 2
few_reserved points = few (list_any is_missing2 points) (list_any is_missing points) where
  few : (a b : Bool) → cond a 2 (cond b 1 0) ≤ 2
  few true b = omega arith
  few false true = omega arith
  few false false = omega arith

-- ---- differences

-- a number from -n to n
abbrev IsNear : ℕ → ℤ → Type 0
IsNear n x = nat_abs x ≤ n

near_difference : (n m : ℕ) (x y : ℤ) → nat_abs x ≤ n → nat_abs y ≤ m → nat_abs (x -ℤ y) ≤ n + m
near_difference n m x y a b = grind (arith, ints)

near_sum : (n m : ℕ) (x y : ℤ) → nat_abs x ≤ n → nat_abs y ≤ m → nat_abs (x +ℤ y) ≤ n + m
near_sum n m x y a b = grind (arith, ints)

near_double : (n : ℕ) (x : ℤ) → nat_abs x ≤ n → nat_abs (pos 2 *ℤ x) ≤ n + n
near_double n x a = grind (arith, ints)

near_lesser : (n : ℕ) (x y : ℤ) → nat_abs x ≤ n → nat_abs y ≤ n → nat_abs (lesser x y) ≤ n
near_lesser n x y a b = elim (int_lt y x) as (λ t. nat_abs (cond t y x) ≤ n) [ true ↦ b | false ↦ a ]

near_least_of : (n : ℕ) (x : ℤ) (ys : List ℤ) → nat_abs x ≤ n → All (IsNear n) ys → nat_abs (least_of x ys) ≤ n
near_least_of n x [] here each = here
near_least_of n x (y ∷ ys) here each =
    near_least_of n (lesser x y) ys (near_lesser n x y here (All-head (IsNear n) y ys each)) (All-tail (IsNear n) y ys each)

near_least : (n : ℕ) (xs : List ℤ) → All (IsNear n) xs → nat_abs (least xs) ≤ n
near_least n [] each = omega arith
near_least n (x ∷ xs) each = near_least_of n x xs (All-head (IsNear n) x xs each) (All-tail (IsNear n) x xs each)

-- a number that is inside
abbrev IsInside : ℤ → Type 0
IsInside x = is_outside 16383 x ≡ false

near_inside : (x : ℤ) → IsInside x → nat_abs x ≤ 16383
near_inside (pos n) inside = elim (cases_lt 16383 n) as (λ _. n ≤ 16383) [
  | inl great ↦ absurd (grind (arith, inside, great))
  | inr few ↦ few
]
near_inside (negsuc n) inside = absurd (cc)

numbers_inside : (points : List Point) → All IsSmall points → All IsInside (scaled_numbers points)
numbers_inside [] each = All-nil IsInside
numbers_inside (Scaled x ∷ points) each =
    let here = All-head IsSmall (Scaled x) points each in
    All-cons IsInside x (scaled_numbers points) here.inside (numbers_inside points (All-tail IsSmall (Scaled x) points each))
numbers_inside (Missing ∷ points) each = numbers_inside points (All-tail IsSmall Missing points each)
numbers_inside (Missing2 ∷ points) each = numbers_inside points (All-tail IsSmall Missing2 points each)

module _ (xs : List ℤ) (each : All IsInside xs) where
  number_inside : (k : ℕ) → IsInside (get_or xs k (pos 0))
  number_inside k = elim (cases_lt k (length xs)) [
    | inl within ↦ each k (pos 0) within
    | inr past ↦ rw (get_or_past xs k (pos 0) past) refl
  ]

module _ (xs : List ℤ) (each : All IsInside xs) where
  number_near : (k : ℕ) → nat_abs (get_or xs k (pos 0)) ≤ 16383
  number_near k = near_inside (get_or xs k (pos 0)) (number_inside xs each k)

module _ (xs : List ℤ) (each : All IsInside xs) where
  difference_near : (order k : ℕ) → nat_abs (difference_at order xs k) ≤ 65532
  difference_near order k =
      let x = get_or xs k (pos 0) in
      let y = get_or xs (k - 1) (pos 0) in
      let z = get_or xs (k - 2) (pos 0) in
      let x_near = number_near xs each k in
      let y_near = number_near xs each (k - 1) in
      let z_near = number_near xs each (k - 2) in
      let first = near_difference 16383 16383 x y x_near y_near in
      let double = near_double 16383 y y_near in
      let second = near_sum 49149 16383 (x -ℤ (pos 2 *ℤ y)) z (near_difference 16383 32766 x (pos 2 *ℤ y) x_near double) z_near in
      elim (order == 1) as (λ t. nat_abs (cond t (x -ℤ y) ((x -ℤ (pos 2 *ℤ y)) +ℤ z)) ≤ 65532) [ true ↦ omega arith | false ↦ second ]

module _ (xs : List ℤ) (each : All IsInside xs) (order : ℕ) where
  least_near : nat_abs (least (differences order xs)) ≤ 65532
  least_near = near_least 65532 (differences order xs)
      (All-map (IsNear 65532) (difference_at order xs) (range_with_len order (length xs - order))
      (λ k d within. difference_near xs each order (get_or (range_with_len order (length xs - order)) k d)))

module _ (xs : List ℤ) (each : All IsInside xs) (order : ℕ) where
  code_small : (k : ℕ) → code_at order xs k ≤ 131064
  code_small k =
      let code = near_difference 65532 65532 (difference_at order xs k) (least (differences order xs)) (difference_near xs each order k) (least_near xs each order) in
      elim (nat_lt k order) as (λ t. cond t 0 (nat_abs (difference_at order xs k -ℤ least (differences order xs))) ≤ 131064) [ true ↦ omega arith | false ↦ code ]

  second_inside : is_outside (2 ^ 31 - 1) (cond (order == 1) (pos 0) (get_or xs 1 (pos 0))) ≡ false
  second_inside =
      let value = inside_more (2 ^ 31 - 1) (get_or xs 1 (pos 0)) (omega arith) (number_inside xs each 1) in
      elim (order == 1) as (λ t. is_outside (2 ^ 31 - 1) (cond t (pos 0) (get_or xs 1 (pos 0))) ≡ false) [ true ↦ refl | false ↦ value ]

module _ (xs : List ℤ) (each : All IsInside xs) (order k : ℕ) (few : k ≤ 2) where
  none_great : list_any (λ code. nat_lt (greatest_code k) code) (difference_codes order xs) ≡ false
  none_great = list_any_none (λ code. nat_lt (greatest_code k) code) (difference_codes order xs)
      (All-map (λ code. nat_lt (greatest_code k) code ≡ false) (code_at order xs) (range_with_len 0 (length xs))
      (λ j d within. let small = code_small xs each order (get_or (range_with_len 0 (length xs)) j d) in le-ltb (greatest_code k) _ (omega arith)))

module _ (xs : List ℤ) (each : All IsInside xs) (order k : ℕ) (few : k ≤ 2) where
  none_differs_out : are_differences_out order k xs ≡ false
  none_differs_out =
      let first = inside_more (2 ^ 31 - 1) (get_or xs 0 (pos 0)) (omega arith) (number_inside xs each 0) in
      let second = second_inside xs each order in
      let near = least_near xs each order in
      let minimum : nat_lt (2 ^ 31 - 1) (nat_abs (least (differences order xs))) ≡ false = le-ltb (2 ^ 31 - 1) _ (omega arith) in
      ap₂ ◌||◌ (ap₂ ◌||◌ (ap₂ ◌||◌ first second) minimum) (none_great xs each order k few)

-- ---- every packing

pub small_fits : (target : Target) (points : List Point) → All IsSmall points → first_misfit target points ≡ None
small_fits ToSimple points small =
    rw (no_misfit SecondaryMissing is_missing2 points (none_secondary points small))
    (no_misfit OutOfRange (is_scaled_outside (2 ^ 48 - 1)) points (none_outside points small (2 ^ 48 - 1) (omega arith)))
small_fits ToComplex points small =
    let few = few_reserved points in
    no_misfit OutOfRange (is_scaled_outside (greatest_code (management_of points))) points (none_outside points small (greatest_code (management_of points)) (omega arith))
small_fits (ToSpatial order) points small =
    rw (none_differs_out (scaled_numbers points) (numbers_inside points small) order (management_of points) (few_reserved points)) refl
small_fits (ToCoded block interval) points small =
    rw (no_misfit SecondaryMissing is_missing2 points (none_secondary points small))
    (no_misfit OutOfRange (is_scaled_outside (2 ^ 32 - 1)) points (none_outside points small (2 ^ 32 - 1) (omega arith)))

in_range : (point : Point) → IsSmall point → is_out_of_range point ≡ false
in_range (Scaled x) small = let near = near_inside x small.inside in le-ltb (2 ^ 60) (nat_abs x) (omega arith)
in_range Missing small = refl
in_range Missing2 small = refl

pub small_within : (points : List Point) → All IsSmall points → list_any is_out_of_range points ≡ false
small_within points small =
    list_any_none is_out_of_range points (All-weaker IsSmall (λ point. is_out_of_range point ≡ false) in_range points small)

-- ---- what is made

pub made_fits : (target : Target) (seed ni nj : ℕ) → first_misfit target (made_points seed ni nj) ≡ None
made_fits target seed ni nj = small_fits target (made_points seed ni nj) (small_points seed ni nj)

pub length-made_points : (seed ni nj : ℕ) → length (made_points seed ni nj) ≡ ni * nj
length-made_points seed ni nj = length-map-range_with_len (made_point seed ni) 1 (ni * nj)

pub made_may_be_packed : (seed ni nj : ℕ) → MayBeMade seed ni nj → MayBePacked (made_column seed ni nj)
made_may_be_packed seed ni nj may =
    let long = length-made_points seed ni nj in
    let some : 1 * 1 ≤ ni * nj = mul-le 1 1 ni nj may.some_columns may.some_rows in
    record {
      some = omega (arith, long, some);
      few = omega (arith, long, few_points ni nj may.few_columns may.few_rows);
      within = small_within (made_points seed ni nj) (small_points seed ni nj);
      finite = refl;
    }
