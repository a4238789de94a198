-- Lemmas on numbers that stand one after another.
use Rattle.std.proofs.Common.{◌≡◌, ℕ, zero, suc, ◌+◌, ◌-◌, ◌*◌, ◌^◌, ◌<◌, ◌≤◌, List, [], ◌∷◌, ◌++◌, length, map, take, get_or, All, refl, sym, ap, ap₂, ◌∙◌, arith, append_assoc, subst, inl, inr}
use Rattle.std.proofs.Math.Nat.{mul-le-mul_right}
use Rattle.std.proofs.lemmas.Bool.{cases_lt}
use Rattle.std.proofs.lemmas.List.{length-append, append-nil, take_more, get_or_past}
use Rattle.std.proofs.lemmas.List.Elements.{All-get_or}
use Rattle.std.proofs.lemmas.List.FromFn.{map-range_with_len_more, length-map-range_with_len, get_or-map-range_with_len, fill_by_all}
use Rattle.std.specs.List.{range_with_len}
use Rattle.grib_bits.specs.Octets.{octets}
use Rattle.grib_bits.specs.Encoding.{octets_of}
use Rattle.grib_bits.specs.Listed.{number_at, numbers_at, numbers_octets}
use Rattle.grib_bits.proofs.OctetBits.{AreOctets, pow_256}
use Rattle.grib_bits.proofs.OctetNumbers.{octets-lt}
use Rattle.grib_bits.proofs.Encoding.{length-octets_of, octets-within, num_on-octets_of}
pub use Rattle.grib_bits.proofs.Encoding.{All-from_AreOctets}

-- ---- octets below 256, said in two ways

pub AreOctets-from_All : (s : List ℕ) → All (λ (x : ℕ). x < 256) s → AreOctets s
AreOctets-from_All s h i = elim (cases_lt i (length s)) [
  | inl before ↦ All-get_or (λ (x : ℕ). x < 256) s i 0 before h
  | inr after ↦ subst (λ (x : ℕ). x < 256) (sym (get_or_past s i 0 after)) (omega arith)
]

-- ---- lists that are made by an index

-- one item more
pub one_more : {X : Type 0} (f : ℕ → X) (k : ℕ) (item : X) (items new : List X) → items ≡ map f (range_with_len 0 k) → item ≡ f k → new ≡ items ++ item ∷ []
    → new ≡ map f (range_with_len 0 (k + 1))
one_more f k item items new before is_item is_new =
    is_new ∙ ap₂ (λ xs x. xs ++ x ∷ []) before is_item ∙ sym (map-range_with_len_more f 0 k k (omega arith))

-- ---- numbers that are read

-- the number with index k of `count` ends with the list
pub ends_within : (k count size : ℕ) → k < count → k * size + size ≤ count * size
ends_within k count size below =
    let more : (k + 1) * size ≤ count * size = mul-le-mul_right size (omega arith) in
    omega arith

pub length-numbers_at : (s : List ℕ) (first size count : ℕ) → length (numbers_at s first size count) ≡ count
length-numbers_at s first size count = length-map-range_with_len (number_at s first size) 0 count

-- each has no more than its octets
pub numbers_at-lt : (s : List ℕ) (first size count : ℕ) → AreOctets s → 1 ≤ first → 1 ≤ size → first + count * size ≤ length s + 1
    → (k : ℕ) → k < count → get_or (numbers_at s first size count) k 0 < 256 ^ size
numbers_at-lt s first size count known counted some within k below =
    let here = get_or-map-range_with_len (number_at s first size) 0 count k k 0 below (omega arith) in
    let ends = ends_within k count size below in
    let fits = octets-lt s (first + k * size) (first + k * size + size - 1) size known (omega arith) (omega arith) (omega arith) in
    let power = pow_256 size in
    omega arith

-- ---- numbers that are written

pub numbers_octets-append : (size : ℕ) (xs ys : List ℕ) → numbers_octets size (xs ++ ys) ≡ numbers_octets size xs ++ numbers_octets size ys
numbers_octets-append size [] ys = refl
numbers_octets-append size (x ∷ xs) ys =
    ap (λ (zs : List ℕ). octets_of size x ++ zs) (numbers_octets-append size xs ys)
    ∙ sym (append_assoc (octets_of size x) (numbers_octets size xs) (numbers_octets size ys))

-- one number more
pub numbers_octets-more : (size : ℕ) (numbers : List ℕ) (k : ℕ) → k < length numbers
    → numbers_octets size (take (k + 1) numbers) ≡ numbers_octets size (take k numbers) ++ octets_of size (get_or numbers k 0)
numbers_octets-more size numbers k within =
    ap (numbers_octets size) (take_more numbers k 0 within) ∙ numbers_octets-append size (take k numbers) (get_or numbers k 0 ∷ [])
    ∙ ap (λ (zs : List ℕ). numbers_octets size (take k numbers) ++ zs) (append-nil (octets_of size (get_or numbers k 0)))

pub length-numbers_octets : (size : ℕ) (numbers : List ℕ) → length (numbers_octets size numbers) ≡ size * length numbers
length-numbers_octets size [] = omega arith
length-numbers_octets size (x ∷ numbers) =
    omega (arith, length-append (octets_of size x) (numbers_octets size numbers), length-octets_of size x, length-numbers_octets size numbers)

-- a number of those that stand behind some octets
pub number_at-behind : (front : List ℕ) (size : ℕ) (numbers : List ℕ) (first k : ℕ) → first ≡ length front + 1 → 1 ≤ size
    → ((k : ℕ) → k < length numbers → get_or numbers k 0 < 256 ^ size) → k < length numbers → number_at (front ++ numbers_octets size numbers) first size k ≡ get_or numbers k 0
number_at-behind front size [] f k is_place some fit within = absurd (omega arith)
number_at-behind front size (x ∷ numbers) f zero is_place some fit within =
    let first : f + 0 * size ≡ length front + 1 = omega arith in
    let last : f + 0 * size + size - 1 ≡ length front + length (octets_of size x) = omega (arith, length-octets_of size x) in
    octets-within front (octets_of size x) (numbers_octets size numbers) _ _ first last ∙ num_on-octets_of size x (fit 0 (omega arith))
number_at-behind front size (x ∷ numbers) f (suc k) is_place some fit within =
    let longer = front ++ octets_of size x in
    let place : f + size ≡ length longer + 1 = omega (arith, length-append front (octets_of size x), length-octets_of size x) in
    let rest = number_at-behind longer size numbers (f + size) k place some (λ j h. fit (suc j) (omega arith)) (omega arith) in
    let first : f + suc k * size ≡ f + size + k * size = omega arith in
    let joined : front ++ (octets_of size x ++ numbers_octets size numbers) ≡ longer ++ numbers_octets size numbers = sym (append_assoc front (octets_of size x) (numbers_octets size numbers)) in
    ap (λ (zs : List ℕ). octets zs (f + suc k * size) (f + suc k * size + size - 1)) joined
    ∙ ap (λ (n : ℕ). octets (longer ++ numbers_octets size numbers) n (n + size - 1)) first ∙ rest

-- they are read again as they were written
pub numbers_at-behind : (front : List ℕ) (size : ℕ) (numbers : List ℕ) (first : ℕ) → first ≡ length front + 1 → 1 ≤ size
    → ((k : ℕ) → k < length numbers → get_or numbers k 0 < 256 ^ size) → numbers ≡ numbers_at (front ++ numbers_octets size numbers) first size (length numbers)
numbers_at-behind front size numbers first place some fit =
    fill_by_all (number_at (front ++ numbers_octets size numbers) first size) numbers (length numbers) 0 refl
    (λ k below. sym (number_at-behind front size numbers first k place some fit below))
