-- Lemmas on numbers that are taken from words of eight octets, one after another.
use Rattle.std.proofs.Common.{◌≡◌, ℕ, zero, suc, ◌+◌, ◌-◌, ◌*◌, ◌/◌, ◌<◌, ◌≤◌, Bool, List, [], ◌∷◌, ◌++◌, take, drop, map, replicate, refl, sym, ap, ap₂, ◌∙◌, arith, append_assoc, zero-add, Result, Ok, Err, OnOk, IfOk}
use Rattle.std.proofs.Math.Nat.{div-mul-le_self, mul-le-mul_right}
use Rattle.std.proofs.lemmas.List.{append-nil, map-append}
use Rattle.std.proofs.lemmas.List.FromFn.{map-range_with_len_more}
use Rattle.std.specs.List.{range_with_len}
use Rattle.grib_bits.specs.Bits.{num}
use Rattle.grib_bits.specs.Plain.{plain_at}
use Rattle.grib_simple_reading.specs.Part.{plain_from}

-- eight numbers take as many octets as one has bits
pub eights_within : (octets width k : ℕ) → 1 ≤ width → 8 ≤ octets → k < (octets - 8) / width * 8 → k * width / 8 + 8 ≤ octets
eights_within octets width k some enough below =
    let eights = (octets - 8) / width in
    let taken : eights * width ≤ octets - 8 = div-mul-le_self (octets - 8) width in
    let before : k * width ≤ eights * 8 * width = mul-le-mul_right width (omega arith) in
    omega arith

-- one number more
plain_more : {T : Type 0} (f : ℕ → T) (xs : List Bool) (width first k index : ℕ) → first + k ≡ index
    → map f (plain_from xs width first (k + 1)) ≡ map f (plain_from xs width first k) ++ f (plain_at xs width index) ∷ []
plain_more f xs width first k index e =
    ap (map f) (map-range_with_len_more (plain_at xs width) first k index e) ∙ map-append f (plain_from xs width first k) (plain_at xs width index ∷ [])

-- what was made of one number more
pub pushed : {T : Type 0} (f : ℕ → T) (xs : List Bool) (width first index at number : ℕ) (item : T) (old items new : List T) → first ≤ index
    → items ≡ old ++ map f (plain_from xs width first (index - first)) → at ≡ index * width → number ≡ num (take width (drop at xs)) → item ≡ f number → new ≡ items ++ item ∷ []
    → new ≡ old ++ map f (plain_from xs width first (index + 1 - first))
pushed f xs width first index at number item old items new begun before is_place is_number is_item is_new =
    let here = is_item ∙ ap f (is_number ∙ ap (λ (n : ℕ). num (take width (drop n xs))) is_place) in
    let count : (index - first) + 1 ≡ index + 1 - first = omega arith in
    let part = map f (plain_from xs width first (index - first)) in
    is_new ∙ ap₂ (λ ys y. ys ++ y ∷ []) before here
    ∙ append_assoc old part (f (plain_at xs width index) ∷ [])
    ∙ ap (λ ys. old ++ ys) (sym (plain_more f xs width first (index - first) index (omega arith)) ∙ ap (λ (n : ℕ). map f (plain_from xs width first n)) count)

-- numbers that follow others
range-append : (first m n : ℕ) → range_with_len first (m + n) ≡ range_with_len first m ++ range_with_len (first + m) n
range-append first zero n =
    let same : first ≡ first + 0 = omega arith in
    ap (range_with_len first) (zero-add n) ∙ ap (λ (a : ℕ). range_with_len a n) same
range-append first (suc m) n =
    let count : suc m + n ≡ suc (m + n) = omega arith in
    let place : first + 1 + m ≡ first + suc m = omega arith in
    ap (range_with_len first) count
    ∙ ap (λ (xs : List ℕ). first ∷ xs) (range-append (first + 1) m n ∙ ap (λ (a : ℕ). range_with_len (first + 1) m ++ range_with_len a n) place)

pub plain_from-append : (xs : List Bool) (width first m n : ℕ) → plain_from xs width first (m + n) ≡ plain_from xs width first m ++ plain_from xs width (first + m) n
plain_from-append xs width first m n =
    ap (map (plain_at xs width)) (range-append first m n) ∙ map-append (plain_at xs width) (range_with_len first m) (range_with_len (first + m) n)

pub pushed_both : {T : Type 0} (f : ℕ → T) (xs : List Bool) (width first middle last : ℕ) (old items new : List T) → first ≤ middle → middle ≤ last
    → items ≡ old ++ map f (plain_from xs width first (middle - first)) → new ≡ items ++ map f (plain_from xs width middle (last - middle))
    → new ≡ old ++ map f (plain_from xs width first (last - first))
pushed_both f xs width first middle last old items new begun ended before is_new =
    let m = middle - first in
    let n = last - middle in
    let place : first + m ≡ middle = omega arith in
    let count : m + n ≡ last - first = omega arith in
    let both : plain_from xs width first (last - first) ≡ plain_from xs width first m ++ plain_from xs width middle n =
    ap (plain_from xs width first) (sym count) ∙ plain_from-append xs width first m n ∙ ap (λ (a : ℕ). plain_from xs width first m ++ plain_from xs width a n) place in
    is_new ∙ ap (λ ys. ys ++ map f (plain_from xs width middle n)) before
    ∙ append_assoc old (map f (plain_from xs width first m)) (map f (plain_from xs width middle n))
    ∙ ap (λ ys. old ++ ys) (sym (map-append f (plain_from xs width first m) (plain_from xs width middle n)) ∙ ap (map f) (sym both))

-- numbers of no bits
pub no_bits : {T : Type 0} (f : ℕ → T) (xs : List Bool) (first count : ℕ) → map f (plain_from xs 0 first count) ≡ replicate count (f 0)
no_bits f xs first zero = refl
no_bits f xs first (suc count) = ap (λ ys. f 0 ∷ ys) (no_bits f xs (first + 1) count)

-- before the first number, and after the last
pub pushed_none : {T : Type 0} (f : ℕ → T) (xs : List Bool) (width first : ℕ) (old : List T) → old ≡ old ++ map f (plain_from xs width first (first - first))
pushed_none f xs width first old =
    let none : first - first ≡ 0 = omega arith in
    sym (ap (λ (n : ℕ). old ++ map f (plain_from xs width first n)) none ∙ append-nil old)

pub pushed_all : {T : Type 0} (f : ℕ → T) (xs : List Bool) (width first index last : ℕ) (old new : List T) → index ≡ last
    → new ≡ old ++ map f (plain_from xs width first (index - first)) → new ≡ old ++ map f (plain_from xs width first (last - first))
pushed_all f xs width first index last old new e before = before ∙ ap (λ (n : ℕ). old ++ map f (plain_from xs width first (n - first))) e

-- what follows where a call succeeds
pub on_ok : {T E : Type 0} {P Q : Type 0} (r : Result T E) → (P → Q) → OnOk r P → OnOk r Q
on_ok (Ok x) f h = f h
on_ok (Err e) f h = h

-- what else holds of the value where a call succeeds
pub if_ok : {T E : Type 0} (P Q : T → Type 0) (r : Result T E) → ((x : T) → P x → Q x) → IfOk r P → IfOk r Q
if_ok P Q (Ok x) f h = f x h
if_ok P Q (Err e) f h = h
