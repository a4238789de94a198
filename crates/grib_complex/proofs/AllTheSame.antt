-- Columns of which all points are the same.
use Rattle.std.proofs.Common.{◌≡◌, ℕ, zero, suc, ◌+◌, ◌-◌, ◌^◌, ◌<◌, ◌≤◌, ◌⊎◌, inl, inr, Bool, true, false, cond, ℤ, pos, nat_lt, ◌==◌, ◌+ℤ◌, ◌-ℤ◌, ◌*ℤ◌, eq-eqb, ne_eqb, lt-ltb, le-ltb, List, [], ◌∷◌, get_or, map, take, replicate, refl, sym, ap, ap₂, ◌∙◌, arith}
use Rattle.std.specs.List.{list_any, range_with_len}
use Rattle.std.proofs.lemmas.Bool.{cases_lt}
use Rattle.std.proofs.lemmas.Int.{ints}
use Rattle.std.proofs.lemmas.List.{get_or-replicate, get_or_past, take_all, take-replicate, drop-replicate, length-replicate}
use Rattle.grib_base.specs.declared.code.Code.{Code}
use Rattle.grib_base.specs.declared.code.Code.TheVariants.{Present, Primary, Secondary}
use Rattle.grib_packing.specs.declared.column.Point.{Point}
use Rattle.grib_packing.specs.declared.column.Point.TheVariants.{Scaled, Missing, Missing2}
use Rattle.grib_packing.specs.Differences.{Descriptors, descriptors_of, difference_codes, difference_at, differences, code_at, least, least_of}
use Rattle.grib_packing.specs.Misfits.{ToSpatial, are_differences_out, is_outside, is_missing, is_missing2, greatest_code, management_of, scaled_numbers}
use Rattle.grib_packing.specs.Packed.{placed_codes, target_codes}
use Rattle.grib_packing.specs.Groupings.{width_of}
use Rattle.grib_codes.specs.Span.{IsSpan}
use Rattle.grib_codes.specs.declared.span.Span.{Span}
use Rattle.grib_split.specs.Fewest.{TakesNone}
use Rattle.grib_groups.proofs.Same.{any_same, span_same, width_same}
use Rattle.grib_spatial.specs.declared.differences.Differences.{Differences}
use Rattle.grib_spatial.specs.Undoing.{read_with}
use Rattle.grib_complex.specs.Constant.{DifferencesOf}

-- ---- codes that are all the same

pub span_of_all : (span : Span) (n : ℕ) (c : Code) → 1 ≤ n → IsSpan span (c ∷ []) → IsSpan span (replicate n c)
span_of_all span zero c some is = absurd (omega arith)
span_of_all span (suc n) c some is = span_same span c n is

pub takes_none : (k n : ℕ) (c : Code) → TakesNone (width_of k) (replicate n c)
takes_none k n c from m = ap (λ (cs : List Code). width_of k (take m cs)) (drop-replicate from n c) ∙ go (cases_lt (n - from) m) where
  go : ((n - from) < m) ⊎ (m ≤ (n - from)) → width_of k (take m (replicate (n - from) c)) ≡ 0
  go (inl more) = ap (width_of k) (take_all m (replicate (n - from) c) (omega (arith, length-replicate (n - from) c))) ∙ width_same k c (n - from)
  go (inr few) = ap (width_of k) (take-replicate m (n - from) c few) ∙ width_same k c m

-- ---- plain codes

pub management_same : (p : Point) (n : ℕ) → management_of (replicate (suc n) p) ≡ management_of (p ∷ [])
management_same p n = rw (any_same is_missing2 p n, any_same is_missing p n) refl

pub primary_placed : (numbers : List ℕ) (n : ℕ) → placed_codes (replicate n Missing) numbers ≡ replicate n Primary
primary_placed numbers zero = refl
primary_placed numbers (suc n) = ap (λ (cs : List Code). Primary ∷ cs) (primary_placed numbers n)

pub secondary_placed : (numbers : List ℕ) (n : ℕ) → placed_codes (replicate n Missing2) numbers ≡ replicate n Secondary
secondary_placed numbers zero = refl
secondary_placed numbers (suc n) = ap (λ (cs : List Code). Secondary ∷ cs) (secondary_placed numbers n)

none_same : {X : Type 0} (test : X → Bool) (x : X) (n : ℕ) → test x ≡ false → list_any test (replicate n x) ≡ false
none_same test x zero is = refl
none_same test x (suc n) is = rw is (none_same test x n is)

-- ---- codes of differences

numbers_of_all : (x : ℤ) (n : ℕ) → scaled_numbers (replicate n (Scaled x)) ≡ replicate n x
numbers_of_all x zero = refl
numbers_of_all x (suc n) = ap (λ (xs : List ℤ). x ∷ xs) (numbers_of_all x n)

none_primary : (n : ℕ) → scaled_numbers (replicate n Missing) ≡ []
none_primary zero = refl
none_primary (suc n) = none_primary n

none_secondary : (n : ℕ) → scaled_numbers (replicate n Missing2) ≡ []
none_secondary zero = refl
none_secondary (suc n) = none_secondary n

map_range : {A : Type 0} (f : ℕ → A) (v : A) (a m : ℕ) → ((k : ℕ) → a ≤ k → k < a + m → f k ≡ v) → map f (range_with_len a m) ≡ replicate m v
map_range f v a zero is = refl
map_range f v a (suc m) is =
    ap₂ (λ x xs. x ∷ xs) (is a (omega arith) (omega arith)) (map_range f v (a + 1) m (λ k low high. is k (omega arith) (omega arith)))

least_zero : (m : ℕ) → least_of (pos 0) (replicate m (pos 0)) ≡ pos 0
least_zero zero = refl
least_zero (suc m) = least_zero m

least_zeros : (m : ℕ) → least (replicate m (pos 0)) ≡ pos 0
least_zeros zero = refl
least_zeros (suc m) = least_zero m

no_first : (x : ℤ) → (x -ℤ x) ≡ pos 0
no_first x = omega (arith, ints)

no_second : (x : ℤ) → ((x -ℤ (pos 2 *ℤ x)) +ℤ x) ≡ pos 0
no_second x = omega (arith, ints)

module _ (order : ℕ) (either : (order ≡ 1) ⊎ (order ≡ 2)) (n : ℕ) (x : ℤ) where
  no_difference : (k : ℕ) → order ≤ k → k < n → difference_at order (replicate n x) k ≡ pos 0
  no_difference k low high =
      let here : get_or (replicate n x) k (pos 0) ≡ x = get_or-replicate n k x (pos 0) high in
      let one : get_or (replicate n x) (k - 1) (pos 0) ≡ x = get_or-replicate n (k - 1) x (pos 0) (omega arith) in
      let two : get_or (replicate n x) (k - 2) (pos 0) ≡ x = get_or-replicate n (k - 2) x (pos 0) (omega arith) in
      rw (here, one, two) (go either)
    where
      go : (order ≡ 1) ⊎ (order ≡ 2) → cond (order == 1) (x -ℤ x) ((x -ℤ (pos 2 *ℤ x)) +ℤ x) ≡ pos 0
      go (inl e) = rw (eq-eqb order 1 e) (no_first x)
      go (inr e) = rw (ne_eqb order 1 (λ z. omega (arith, e))) (no_second x)

  no_minimum : least (differences order (replicate n x)) ≡ pos 0
  no_minimum =
      ap (λ (m : ℕ). least (map (difference_at order (replicate n x)) (range_with_len order (m - order)))) (length-replicate n x)
      ∙ ap least (map_range (difference_at order (replicate n x)) (pos 0) order (n - order) (λ k low high. no_difference k low (omega arith)))
      ∙ least_zeros (n - order)

  no_code : (k : ℕ) → k < n → code_at order (replicate n x) k ≡ 0
  no_code k high = go (cases_lt k order) where
    go : (k < order) ⊎ (order ≤ k) → code_at order (replicate n x) k ≡ 0
    go (inl early) = rw (lt-ltb k order early) refl
    go (inr late) = rw (le-ltb k order late, no_difference k late high, no_minimum) refl

  no_codes : difference_codes order (replicate n x) ≡ replicate n 0
  no_codes =
      ap (λ (m : ℕ). map (code_at order (replicate n x)) (range_with_len 0 m)) (length-replicate n x)
      ∙ map_range (code_at order (replicate n x)) 0 0 n (λ k low high. no_code k (omega arith))

  fits_31 : is_outside (2 ^ 31 - 1) x ≡ false → (i : ℕ) → is_outside (2 ^ 31 - 1) (get_or (replicate n x) i (pos 0)) ≡ false
  fits_31 inside i = go (cases_lt i n) where
    go : (i < n) ⊎ (n ≤ i) → is_outside (2 ^ 31 - 1) (get_or (replicate n x) i (pos 0)) ≡ false
    go (inl within) = ap (is_outside (2 ^ 31 - 1)) (get_or-replicate n i x (pos 0) within) ∙ inside
    go (inr past) = ap (is_outside (2 ^ 31 - 1)) (get_or_past (replicate n x) i (pos 0) (omega (arith, length-replicate n x)))

  fits_second : is_outside (2 ^ 31 - 1) x ≡ false → is_outside (2 ^ 31 - 1) (descriptors_of order (replicate n x)).second ≡ false
  fits_second inside = go either where
    go : (order ≡ 1) ⊎ (order ≡ 2) → is_outside (2 ^ 31 - 1) (cond (order == 1) (pos 0) (get_or (replicate n x) 1 (pos 0))) ≡ false
    go (inl e) = rw (eq-eqb order 1 e) refl
    go (inr e) = rw (ne_eqb order 1 (λ z. omega (arith, e))) (fits_31 inside 1)

  small_zeros : (k : ℕ) → list_any (λ code. nat_lt (greatest_code k) code) (replicate n 0) ≡ false
  small_zeros k = none_same (λ code. nat_lt (greatest_code k) code) 0 n (le-ltb (greatest_code k) 0 (omega arith))

  pub differences_fit : (k : ℕ) → is_outside (2 ^ 31 - 1) x ≡ false → are_differences_out order k (replicate n x) ≡ false
  differences_fit k inside = rw (fits_31 inside 0, fits_second inside, no_minimum, no_codes, small_zeros k) refl

zeros_placed : (x : ℤ) (n : ℕ) → placed_codes (replicate n (Scaled x)) (replicate n 0) ≡ replicate n (Present 0)
zeros_placed x zero = refl
zeros_placed x (suc n) = ap (λ (cs : List Code). Present 0 ∷ cs) (zeros_placed x n)

same_descriptors : (order n : ℕ) (x first second : ℤ) → (order ≡ 1) ⊎ (order ≡ 2) → first ≡ get_or (replicate n x) 0 (pos 0)
    → second ≡ cond (order == 1) (pos 0) (get_or (replicate n x) 1 (pos 0))
    → record { order = order; first = first; second = second; minimum = pos 0 } ≡ descriptors_of order (replicate n x)
same_descriptors order n x first second either is_first is_second = rw (no_minimum order either n x, is_first, is_second) refl

numbers_told : (order n : ℕ) (x : ℤ) → (order ≡ 1) ⊎ (order ≡ 2) → target_codes (ToSpatial order) (replicate n (Scaled x)) ≡ replicate n (Present 0)
numbers_told order n x either =
    ap (λ (xs : List ℤ). placed_codes (replicate n (Scaled x)) (difference_codes order xs)) (numbers_of_all x n)
    ∙ ap (placed_codes (replicate n (Scaled x))) (no_codes order either n x) ∙ zeros_placed x n

pub one_number_told : (order n : ℕ) (x first second : ℤ) → 1 ≤ n → (order ≡ 1) ⊎ (order ≡ 2) → is_outside (2 ^ 31 - 1) x ≡ false → first ≡ get_or (replicate n x) 0 (pos 0)
    → second ≡ cond (order == 1) (pos 0) (get_or (replicate n x) 1 (pos 0))
    → DifferencesOf order (replicate n (Scaled x)) (record { order = order; first = first; second = second; minimum = pos 0 }) (replicate n (Present 0)) 0
one_number_told order zero x first second some either inside is_first is_second = absurd (omega arith)
one_number_told order (suc n) x first second some either inside is_first is_second = record {
  told = same_descriptors order (suc n) x first second either is_first is_second ∙ ap (descriptors_of order) (sym (numbers_of_all x (suc n)));
  codes_are = sym (numbers_told order (suc n) x either);
  management = sym (management_same (Scaled x) n);
  fit = ap (are_differences_out order 0) (numbers_of_all x (suc n)) ∙ differences_fit order either (suc n) x 0 inside;
}

no_numbers_told : (order k : ℕ) (points : List Point) (c : Code) (n : ℕ) (d : Descriptors) → (order ≡ 1) ⊎ (order ≡ 2) → d ≡ record { order = order; first = pos 0; second = pos 0; minimum = pos 0 }
    → scaled_numbers points ≡ [] → ((numbers : List ℕ) → placed_codes points numbers ≡ replicate n c) → k ≡ management_of points
    → DifferencesOf order points d (replicate n c) k
no_numbers_told order k points c n d either is_d none placed is_k = record {
  told = is_d ∙ same_descriptors order 0 (pos 0) (pos 0) (pos 0) either refl (nothing (order == 1)) ∙ ap (descriptors_of order) (sym none);
  codes_are = sym (placed (difference_codes order (scaled_numbers points)));
  management = is_k;
  fit = ap (are_differences_out order k) none ∙ differences_fit order either 0 (pos 0) k refl;
} where
  nothing : (b : Bool) → pos 0 ≡ cond b (pos 0) (pos 0)
  nothing true = refl
  nothing false = refl

pub primary_told : (order n : ℕ) → 1 ≤ n → (order ≡ 1) ⊎ (order ≡ 2)
    → DifferencesOf order (replicate n Missing) (record { order = order; first = pos 0; second = pos 0; minimum = pos 0 }) (replicate n Primary) 1
primary_told order zero some either = absurd (omega arith)
primary_told order (suc n) some either =
    no_numbers_told order 1 (replicate (suc n) Missing) Primary (suc n) _ either refl (none_primary (suc n)) (λ ns. primary_placed ns (suc n)) (sym (management_same Missing n))

pub secondary_told : (order n : ℕ) → 1 ≤ n → (order ≡ 1) ⊎ (order ≡ 2)
    → DifferencesOf order (replicate n Missing2) (record { order = order; first = pos 0; second = pos 0; minimum = pos 0 }) (replicate n Secondary) 2
secondary_told order zero some either = absurd (omega arith)
secondary_told order (suc n) some either =
    no_numbers_told order 2 (replicate (suc n) Missing2) Secondary (suc n) _ either refl (none_secondary (suc n)) (λ ns. secondary_placed ns (suc n)) (sym (management_same Missing2 n))

-- the differences as they are known
pub read_is : (order : ℕ) (d : Differences) (first second : ℤ) → d.first ≡ first → d.second ≡ second → d.minimum ≡ pos 0
    → record { order = order; first = first; second = second; minimum = pos 0 } ≡ read_with order d
read_is order d first second is_first is_second is_minimum =
    sym (ap (λ (f : ℤ). record { order = order; first = f; second = d.second; minimum = d.minimum }) is_first
    ∙ ap (λ (s : ℤ). record { order = order; first = first; second = s; minimum = d.minimum }) is_second
    ∙ ap (λ (m : ℤ). record { order = order; first = first; second = second; minimum = m }) is_minimum)
