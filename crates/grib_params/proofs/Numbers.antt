-- Digits, one after another.
use Rattle.std.proofs.Common.{◌≡◌, ◌<◌, ◌≤◌, ℕ, Bool, true, false, List, [], ◌∷◌, None, Some, not, length, drop, get_or, nat_lt, suc, refl, arith}
use Rattle.std.specs.List.{fold, list_all}
use Rattle.std.specs.Prelude.{◌==◌, ◌&&◌, if◌then◌else◌}
use Rattle.std.specs.Char.{is_ascii_digit}
use Rattle.std.proofs.lemmas.List.{drop_all}
use Rattle.std.proofs.lemmas.Bool.{le-ltb, lt-ltb, ltb-true, ne_eqb}
use Rattle.std.proofs.Math.Bool.{and-false}
use Rattle.std.proofs.Math.Seq.{drop-cons}
use Rattle.grib_params.specs.Fields.{Field, decimal, is_number, long_number_in, number_below, with_digit}

-- digits behind a number make it no smaller
pub grows : (number : ℕ) (digits : List ℕ) → number ≤ fold with_digit number digits
grows number [] = omega arith
grows number (digit ∷ digits) = omega (arith, grows (with_digit number digit) digits)

-- a field whose digits spell more than four octets hold has no number
pub beyond : (field : Field) → 4294967296 ≤ decimal field → long_number_in field ≡ None
beyond field more = rw (le-ltb (decimal field) 4294967296 more, and-false (is_number field)) refl

-- digits so far that make more than that
pub refused : (field : Field) (i number : ℕ) → i < length field → fold with_digit number (drop i field) ≡ decimal field
    → 4294967296 ≤ with_digit number (get_or field i 0) → long_number_in field ≡ None
refused field i number within spelled more =
    let next = drop-cons field i 0 within in
    let whole : fold with_digit (with_digit number (get_or field i 0)) (drop (suc i) field) ≡ decimal field = rw next at spelled in
    beyond field (omega (arith, whole, grows (with_digit number (get_or field i 0)) (drop (suc i) field)))

-- all digits are read, and the number so far is of four octets
pub spelled_out : (field : Field) (i number : ℕ) → length field ≤ i → number < 4294967296 → is_number field ≡ true
    → fold with_digit number (drop i field) ≡ decimal field → Some number ≡ long_number_in field
spelled_out field i number end below well spelled =
    let whole : number ≡ decimal field = rw (drop_all i field end) at spelled in
    rw (← whole, well, lt-ltb number 4294967296 below) refl

-- a field that spells a number spells no other
record Spelled (field : Field) (number : ℕ) : Type 0 where
  well : is_number field ≡ true
  value : decimal field ≡ number

spelled : (limit : ℕ) (field : Field) (number : ℕ) → Some number ≡ number_below limit field → Spelled field number
spelled limit field number e = by (is_number field) (nat_lt (decimal field) limit) refl e
  where
    by : (a b : Bool) → is_number field ≡ a → Some number ≡ (if a && b then Some (decimal field) else None) → Spelled field number
    by true true well e = let value : decimal field ≡ number = cc in record { well = well; value = value }
    by true false well e = cc e
    by false b well e = cc e

-- what has no long number has no shorter one
pub none_shorter : (limit : ℕ) (field : Field) → limit ≤ 4294967296 → None ≡ long_number_in field → None ≡ number_below limit field
none_shorter limit field low e = by (is_number field) (nat_lt (decimal field) limit) refl refl
  where
    by : (a b : Bool) → is_number field ≡ a → nat_lt (decimal field) limit ≡ b → None ≡ (if a && b then Some (decimal field) else None)
    by true true p q =
        let below : nat_lt (decimal field) 4294967296 ≡ true = lt-ltb (decimal field) 4294967296 (omega (arith, ltb-true (decimal field) limit q, low)) in
        let there : Some (decimal field) ≡ long_number_in field = rw (p, below) refl in
        cc (e, there)
    by true false p q = refl
    by false b p q = refl

-- a long number below a limit, and one that is not
pub shorter : (limit : ℕ) (field : Field) (number : ℕ) → Some number ≡ long_number_in field → number < limit → Some number ≡ number_below limit field
shorter limit field number e low =
    let s = spelled 4294967296 field number e in
    rw (s.well, s.value, lt-ltb number limit low) refl

pub not_shorter : (limit : ℕ) (field : Field) (number : ℕ) → Some number ≡ long_number_in field → limit ≤ number → None ≡ number_below limit field
not_shorter limit field number e high =
    let s = spelled 4294967296 field number e in
    rw (s.well, s.value, le-ltb number limit high) refl

-- digits that do not begin with 0 are a number
pub begins-otherwise : (field : Field) → (length field == 0) ≡ false → list_all is_ascii_digit field ≡ true → (get_or field 0 0 ≡ 48 → ⊥)
    → not (get_or field 0 0 == 48) ≡ is_number field
begins-otherwise field here digits other = rw (here, digits, ne_eqb (get_or field 0 0) 48 other) refl
