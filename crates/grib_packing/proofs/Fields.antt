-- Numbers of one width that are written one after another, and read again.
use Rattle.std.proofs.Common.{◌≡◌, ℕ, zero, suc, ◌+◌, ◌*◌, ◌/◌, ◌^◌, ◌<◌, ◌≤◌, Bool, false, List, [], ◌∷◌, ◌++◌, length, take, drop, replicate, All, refl, sym, ap, ap₂, ◌∙◌, arith, append_assoc, mod-eq_of_lt, add-mul, mul_comm}
use Rattle.std.proofs.lemmas.List.{length-append, append-nil, drop-drop, length-replicate, take_at, drop_at}
use Rattle.std.proofs.lemmas.List.Elements.{All-head, All-tail}
use Rattle.std.proofs.lemmas.List.FromFn.{map-range_with_len_more, length-map-range_with_len}
use Rattle.grib_bits.specs.Bits.{bits, bits_of, num}
use Rattle.grib_bits.specs.Plain.{plain, plain_at}
use Rattle.grib_bits.specs.Written.{padding}
use Rattle.grib_bits.proofs.Numbers.{length-bits_of, num-bits_of}
use Rattle.grib_bits.proofs.OctetBits.{length-bits, drop-bits}
use Rattle.grib_packing.specs.Groups.{octets_for}
use Rattle.grib_packing.specs.Packed.{fields, padded}

-- one number more
pub plain_more : (xs : List Bool) (width k : ℕ) → plain xs width (k + 1) ≡ plain xs width k ++ plain_at xs width k ∷ []
plain_more xs width k = map-range_with_len_more (plain_at xs width) 0 k k (omega arith)

pub length-plain : (xs : List Bool) (width count : ℕ) → length (plain xs width count) ≡ count
length-plain xs width count = length-map-range_with_len (plain_at xs width) 0 count

-- the number that stands there, of the bits from a place on
pub plain_at-drop : (xs : List Bool) (width at k : ℕ) → plain_at (drop at xs) width k ≡ num (take width (drop (at + k * width) xs))
plain_at-drop xs width at k = ap (λ (ys : List Bool). num (take width ys)) (drop-drop (k * width) at xs)

-- m + n numbers are m of them, and n of the bits after those
pub plain-add : (xs : List Bool) (width m n : ℕ) → plain xs width (m + n) ≡ plain xs width m ++ plain (drop (width * m) xs) width n
plain-add xs width m zero =
    let same : m + 0 ≡ m = omega arith in
    ap (plain xs width) same ∙ sym (append-nil (plain xs width m))
plain-add xs width m (suc n) =
    let rest = drop (width * m) xs in
    let more : m + suc n ≡ (m + n) + 1 = omega arith in
    let last : suc n ≡ n + 1 = omega arith in
    let place : (m + n) * width ≡ width * m + n * width = omega (arith, add-mul m n width, mul_comm m width) in
    let here : plain_at xs width (m + n) ≡ plain_at rest width n =
    ap (λ (k : ℕ). num (take width (drop k xs))) place ∙ sym (plain_at-drop xs width (width * m) n) in
    ap (plain xs width) more
    ∙ plain_more xs width (m + n)
    ∙ ap₂ (λ ys y. ys ++ y ∷ []) (plain-add xs width m n) here
    ∙ append_assoc (plain xs width m) (plain rest width n) (plain_at rest width n ∷ [])
    ∙ ap (λ ys. plain xs width m ++ ys) (sym (plain_more rest width n))
    ∙ ap (λ (k : ℕ). plain xs width m ++ plain rest width k) (sym last)

-- numbers of w bits take this many bits
pub length-fields : (w : ℕ) (ns : List ℕ) → length (fields w ns) ≡ length ns * w
length-fields w [] = omega arith
length-fields w (n ∷ ns) = omega (arith, length-append (bits_of w n) (fields w ns), length-bits_of w n, length-fields w ns, add-mul 1 (length ns) w)

plain_one : (xs : List Bool) (w : ℕ) → plain xs w 1 ≡ num (take w xs) ∷ []
plain_one xs w = let none : 0 * w ≡ 0 = omega arith in ap (λ (k : ℕ). num (take w (drop k xs)) ∷ []) none

pub plain-fields : (w : ℕ) (ns : List ℕ) (after : List Bool) → All (λ n. n < 2 ^ w) ns → plain (fields w ns ++ after) w (length ns) ≡ ns
plain-fields w [] after each = refl
plain-fields w (n ∷ ns) after each =
    let here : n < 2 ^ w = All-head (λ m. m < 2 ^ w) n ns each in
    let rest = fields w ns ++ after in
    let split : fields w (n ∷ ns) ++ after ≡ bits_of w n ++ rest = append_assoc (bits_of w n) (fields w ns) after in
    let more : suc (length ns) ≡ 1 + length ns = omega arith in
    let long : length (bits_of w n) ≡ w * 1 = omega (arith, length-bits_of w n) in
    let first : num (take w (bits_of w n ++ rest)) ≡ n =
    ap num (take_at (bits_of w n) rest w (length-bits_of w n)) ∙ num-bits_of w n ∙ mod-eq_of_lt here in
    ap₂ (λ (xs : List Bool) (k : ℕ). plain xs w k) split more
    ∙ plain-add (bits_of w n ++ rest) w 1 (length ns)
    ∙ ap₂ ◌++◌ (plain_one (bits_of w n ++ rest) w ∙ ap (λ (m : ℕ). m ∷ []) first)
    (ap (λ (xs : List Bool). plain xs w (length ns)) (drop_at (bits_of w n) rest (w * 1) long) ∙ plain-fields w ns after (All-tail (λ m. m < 2 ^ w) n ns each))

-- ---- padded to a whole octet

pub length-padded8 : (xs : List Bool) → length (padded xs) ≡ 8 * ((length xs + 7) / 8)
length-padded8 xs = omega (arith, length-append xs (replicate (padding xs) false), length-replicate (padding xs) false)

pub padded_octets : (w count : ℕ) (ns : List ℕ) → count ≡ length ns → length (padded (fields w ns)) ≡ 8 * octets_for w count
padded_octets w count ns is =
    let product : count * w ≡ length ns * w = ap (λ (n : ℕ). n * w) is in
    omega (arith, length-padded8 (fields w ns), length-fields w ns, product)

pub plain-padded : (w count : ℕ) (ns : List ℕ) (after : List Bool) → count ≡ length ns → All (λ n. n < 2 ^ w) ns → plain (padded (fields w ns) ++ after) w count ≡ ns
plain-padded w count ns after is each =
    ap₂ (λ (xs : List Bool) (m : ℕ). plain xs w m) (append_assoc (fields w ns) (replicate (padding (fields w ns)) false) after) is
    ∙ plain-fields w ns (replicate (padding (fields w ns)) false ++ after) each

pub segment : (octets : List ℕ) (before rest : List Bool) (n : ℕ) → bits octets ≡ before ++ rest → length before ≡ 8 * n → bits (drop n octets) ≡ rest
segment octets before rest n is long =
    let within : n ≤ length octets = omega (arith, length-bits octets, ap length is, length-append before rest, long) in
    sym (drop-bits n octets within) ∙ ap (drop (8 * n)) is ∙ drop_at before rest (8 * n) long
