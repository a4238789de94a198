-- Lemmas on differences that can be written.
use Rattle.std.proofs.Common.{◌≡◌, ◌⊎◌, ◌==◌, ℕ, ◌+◌, ◌-◌, ◌*◌, ◌^◌, ◌<◌, ◌≤◌, ◌||◌, inl, inr, Bool, true, false, cond, ℤ, sym, pos, negsuc, nat_abs, nat_lt, List, [], ◌∷◌, ◌++◌, length, All, ap, ◌∙◌, arith, subst, subst₂, eq-eqb, ne_eqb, ltb-false}
use Rattle.std.specs.List.{list_any}
use Rattle.std.proofs.lemmas.List.{length-append}
use Rattle.std.proofs.lemmas.List.Elements.{All-nil, All-cons}
use Rattle.std.proofs.lemmas.List.FromFn.{length-map-range_with_len}
use Rattle.grib_bits.specs.Bits.{bits_of}
use Rattle.grib_bits.specs.Octets.{octets}
use Rattle.grib_bits.proofs.Numbers.{length-bits_of}
use Rattle.grib_base.specs.declared.code.Code.{Code}
use Rattle.grib_packing.specs.declared.column.Column.{Column}
use Rattle.grib_packing.specs.declared.column.Point.{Point}
use Rattle.grib_packing.specs.declared.column.Point.TheVariants.{Scaled, Missing, Missing2}
use Rattle.grib_packing.specs.Differences.{Descriptors, descriptors_of, difference_codes, code_at}
use Rattle.grib_packing.specs.Entries.{is_out_of_range}
use Rattle.grib_packing.specs.Groupings.{greatest}
use Rattle.grib_packing.specs.Misfits.{ToSpatial, are_differences_out, greatest_code, is_outside, management_of, scaled_numbers}
use Rattle.grib_packing.specs.Packed.{IsSpatial, descriptor_fields, descriptor_size, signed_field, target_codes}
use Rattle.grib_codes.specs.Span.{IsTold}
use Rattle.grib_simple.proofs.Fitting.{parts_false}
use Rattle.grib_codes.proofs.Reserved.{placed_told, reserved_1, reserved_2, management-few}
use Rattle.grib_complex.proofs.Wholly.{GroupedBy}

-- numbers within plus and minus 2 ^ 60
pub numbers_within : (points : List Point) → list_any is_out_of_range points ≡ false → All (λ x. nat_abs x ≤ 2 ^ 60) (scaled_numbers points)
numbers_within [] e = All-nil (λ x. nat_abs x ≤ 2 ^ 60)
numbers_within (Scaled x ∷ points) e =
    let both = parts_false (nat_lt (2 ^ 60) (nat_abs x)) (list_any is_out_of_range points) e in
    All-cons (λ x. nat_abs x ≤ 2 ^ 60) x (scaled_numbers points) (ltb-false (2 ^ 60) (nat_abs x) both.0) (numbers_within points both.1)
numbers_within (Missing ∷ points) e = numbers_within points e
numbers_within (Missing2 ∷ points) e = numbers_within points e

-- ---- differences that fit

codes_small : (k : ℕ) (codes : List ℕ) → k ≤ 2 → list_any (λ code. nat_lt (greatest_code k) code) codes ≡ false → All (λ n. n + k < 2 ^ 32) codes
codes_small k [] few e = All-nil (λ n. n + k < 2 ^ 32)
codes_small k (n ∷ codes) few e =
    let both = parts_false (nat_lt (greatest_code k) n) (list_any (λ code. nat_lt (greatest_code k) code) codes) e in
    let most = ltb-false (greatest_code k) n both.0 in
    All-cons (λ n. n + k < 2 ^ 32) n codes (omega arith) (codes_small k codes few both.1)

value_small : (x : ℤ) → is_outside (2 ^ 31 - 1) x ≡ false → nat_abs x < 2 ^ 31
value_small (pos n) e =
    let both = parts_false (nat_lt n 0) (nat_lt (2 ^ 31 - 1) n) e in
    omega (arith, ltb-false (2 ^ 31 - 1) n both.1)
value_small (negsuc n) e = absurd (cc)

module _ (order k : ℕ) (numbers : List ℤ) (fits : are_differences_out order k numbers ≡ false) where
  abbrev pub d : Descriptors
  d = descriptors_of order numbers

  pub small_values : (nat_abs (descriptors_of order numbers).first < 2 ^ 31) × (nat_abs (descriptors_of order numbers).second < 2 ^ 31) × (nat_abs (descriptors_of order numbers).minimum < 2 ^ 31)
  small_values =
      let four = parts_false ((is_outside (2 ^ 31 - 1) d.first || is_outside (2 ^ 31 - 1) d.second) || nat_lt (2 ^ 31 - 1) (nat_abs d.minimum)) (list_any (λ code. nat_lt (greatest_code k) code) (difference_codes order numbers)) fits in
      let three = parts_false (is_outside (2 ^ 31 - 1) d.first || is_outside (2 ^ 31 - 1) d.second) (nat_lt (2 ^ 31 - 1) (nat_abs d.minimum)) four.0 in
      let two = parts_false (is_outside (2 ^ 31 - 1) d.first) (is_outside (2 ^ 31 - 1) d.second) three.0 in
      let least = ltb-false (2 ^ 31 - 1) (nat_abs d.minimum) three.1 in
      (value_small d.first two.0, value_small d.second two.1, omega arith)

  pub small_codes : k ≤ 2 → All (λ n. n + k < 2 ^ 32) (difference_codes order numbers)
  small_codes few =
      let four = parts_false ((is_outside (2 ^ 31 - 1) d.first || is_outside (2 ^ 31 - 1) d.second) || nat_lt (2 ^ 31 - 1) (nat_abs d.minimum)) (list_any (λ code. nat_lt (greatest_code k) code) (difference_codes order numbers)) fits in
      codes_small k (difference_codes order numbers) few four.1

pub length-codes : (order : ℕ) (numbers : List ℤ) → length (difference_codes order numbers) ≡ length numbers
length-codes order numbers = length-map-range_with_len (code_at order numbers) 0 (length numbers)

pub spatial_told : (order : ℕ) (points : List Point) → are_differences_out order (management_of points) (scaled_numbers points) ≡ false
    → All (IsTold (management_of points)) (target_codes (ToSpatial order) points)
spatial_told order points fits =
    let k = management_of points in
    placed_told k points (difference_codes order (scaled_numbers points)) (reserved_1 points) (reserved_2 points)
    (small_codes order k (scaled_numbers points) fits (management-few points))

-- ---- extra descriptors

pub size_some : (d : Descriptors) → 1 ≤ descriptor_size d
size_some d =
    let most = greatest (nat_abs d.first ∷ nat_abs d.second ∷ nat_abs d.minimum ∷ []) in
    go (nat_lt most (2 ^ 7)) (nat_lt most (2 ^ 15)) (nat_lt most (2 ^ 23))
  where
    go : (a b c : Bool) → 1 ≤ cond a 1 (cond b 2 (cond c 3 4))
    go true b c = omega arith
    go false true c = omega arith
    go false false true = omega arith
    go false false false = omega arith

fields_length : (order w a b : ℕ) (m : ℤ) → 1 ≤ w → (order ≡ 1) ⊎ (order ≡ 2)
    → length ((bits_of w a ++ cond (order == 1) [] (bits_of w b)) ++ signed_field w m) ≡ (order + 1) * w
fields_length order w a b m some (inl one) =
    let first = length-append (bits_of w a) [] in
    rw (eq-eqb order 1 one, one)
    (omega (arith, length-append (bits_of w a ++ []) (signed_field w m), length-append (bits_of w a) ([]), length-bits_of w a, length-bits_of (w - 1) (nat_abs m)))
fields_length order w a b m some (inr two) =
    rw (ne_eqb order 1 (λ e. omega (arith, two)), two)
    (omega (arith, length-append (bits_of w a ++ bits_of w b) (signed_field w m), length-append (bits_of w a) (bits_of w b), length-bits_of w a, length-bits_of w b, length-bits_of (w - 1) (nat_abs m)))

pub length-descriptors : (d : Descriptors) → (d.order ≡ 1) ⊎ (d.order ≡ 2) → length (descriptor_fields d) ≡ 8 * ((d.order + 1) * descriptor_size d)
length-descriptors d order =
    let size = descriptor_size d in
    let some = size_some d in
    fields_length d.order (8 * size) (nat_abs d.first) (nat_abs d.second) d.minimum (omega arith) order ∙ product d.order size order
  where
    product : (o n : ℕ) → (o ≡ 1) ⊎ (o ≡ 2) → (o + 1) * (8 * n) ≡ 8 * ((o + 1) * n)
    product o n (inl e) = rw e (omega arith)
    product o n (inr e) = rw e (omega arith)

pub is_spatial : (order : ℕ) (column : Column) (kind k : ℕ) (codes : List Code) (d : Descriptors) (s5 s6 s7 : List ℕ) → codes ≡ target_codes (ToSpatial order) column.points
    → k ≡ management_of column.points → d ≡ descriptors_of order (scaled_numbers column.points) → length s5 ≡ 49 → octets s5 48 48 ≡ order → octets s5 49 49 ≡ descriptor_size d
    → GroupedBy column kind 3 k codes (descriptor_fields d) s5 s6 s7 → IsSpatial order column kind s5 s6 s7
is_spatial order column kind k codes d s5 s6 s7 is_codes is_k is_d long is_order is_size h =
    let g = subst (λ (e : Descriptors). GroupedBy column kind 3 (management_of column.points) (target_codes (ToSpatial order) column.points) (descriptor_fields e) s5 s6 s7) is_d
    (subst₂ (λ (j : ℕ) (cs : List Code). GroupedBy column kind 3 j cs (descriptor_fields d) s5 s6 s7) is_k is_codes h) in
    record {
      lengths = g.lengths;
      as_long = long;
      numbers = g.numbers;
      layout = g.layout;
      order_stands = is_order;
      size_stands = is_size ∙ ap descriptor_size is_d;
      chosen = g.chosen;
      bitmap = g.bitmap;
      values = g.values;
    }

-- ---- whether differences have a place, by their values and by their codes

abbrev pub are_values_out : Descriptors → Bool
are_values_out d = (is_outside (2 ^ 31 - 1) d.first || is_outside (2 ^ 31 - 1) d.second) || nat_lt (2 ^ 31 - 1) (nat_abs d.minimum)

module _ (order k : ℕ) (numbers : List ℤ) (values : Descriptors) (is : values ≡ descriptors_of order numbers) where
  pub out_by_values : are_values_out values ≡ true → are_differences_out order k numbers ≡ true
  out_by_values out =
      ap (λ (b : Bool). b || list_any (λ code. nat_lt (greatest_code k) code) (difference_codes order numbers)) (ap are_values_out (sym is) ∙ out)

  pub out_by_codes : are_values_out values ≡ false → are_differences_out order k numbers ≡ list_any (λ code. nat_lt (greatest_code k) code) (difference_codes order numbers)
  out_by_codes inside =
      ap (λ (b : Bool). b || list_any (λ code. nat_lt (greatest_code k) code) (difference_codes order numbers)) (ap are_values_out (sym is) ∙ inside)
