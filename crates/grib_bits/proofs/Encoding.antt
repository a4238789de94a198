-- Lemmas on numbers that are written as octets, and on what was written before and behind.
use Rattle.std.proofs.Common.{◌≡◌, ℕ, zero, suc, ◌+◌, ◌-◌, ◌*◌, ◌/◌, ◌%◌, ◌^◌, ◌<◌, ◌≤◌, Bool, List, [], ◌∷◌, ◌++◌, length, take, drop, get_or, All, subst, take-append-drop, take-take, refl, sym, ap, ap₂, ◌∙◌, arith, append_assoc, mod-eq_of_lt}
use Rattle.std.proofs.lemmas.List.{length-append, append-nil, take_at, drop_at, drop-take, take_more, take_rest, take_all}
use Rattle.std.proofs.lemmas.List.Elements.{All-nil, All-cons, All-append, All-from_get_or}
use Rattle.std.proofs.lemmas.Nat.{mod_below}
use Rattle.std.specs.Int.{byte_at}
use Rattle.grib_bits.specs.Bits.{bits, bits_of, num}
use Rattle.grib_bits.specs.Octets.{num_on, octet_list, octets, StatesItself}
use Rattle.grib_bits.specs.Written.{Written}
use Rattle.grib_bits.proofs.Numbers.{bits_of-add, bits_of-mod, num-bits_of}
use Rattle.grib_bits.proofs.OctetBits.{length-bits, bits-append, num_on-bits, AreOctets, byte_at-pow}
pub use Rattle.grib_bits.proofs.OctetBits.{pow_256}
use Rattle.byteorder.specs.Endian.{big_number}
use Rattle.grib_bits.proofs.OctetNumbers.{AreOctets-octet_list, length-octet_list, big_number-rest, bits_of-octets}
use Rattle.grib_bits.specs.Encoding.{octets_of, section_of, AddsOctets}

-- the octets of a number have its bits
pub bits-octets_of : (k n : ℕ) → bits (octets_of k n) ≡ bits_of (8 * k) n
bits-octets_of zero n = refl
bits-octets_of (suc k) n =
    let octet : bits_of 8 (byte_at k n) ≡ bits_of 8 (n / 2 ^ (8 * k)) =
    ap (bits_of 8) (byte_at-pow k n) ∙ bits_of-mod 8 (n / 2 ^ (8 * k)) in
    let whole : 8 + 8 * k ≡ 8 * suc k = omega arith in
    ap₂ ◌++◌ octet (bits-octets_of k n) ∙ sym (bits_of-add 8 (8 * k) n) ∙ ap (λ (j : ℕ). bits_of j n) whole

pub length-octets_of : (k n : ℕ) → length (octets_of k n) ≡ k
length-octets_of zero n = refl
length-octets_of (suc k) n = ap suc (length-octets_of k n)

drop-octets_of : (k size n : ℕ) → drop k (octets_of (k + size) n) ≡ octets_of size n
drop-octets_of zero size n = let e : 0 + size ≡ size = omega arith in ap (λ (j : ℕ). octets_of j n) e
drop-octets_of (suc k) size n =
    let e : suc k + size ≡ suc (k + size) = omega arith in
    ap (λ (j : ℕ). drop (suc k) (octets_of j n)) e ∙ drop-octets_of k size n

-- the last of the eight octets of a number, as the slice `&octets[8 - size..]`
pub last_octets : (size n : ℕ) → size ≤ 8 → take (8 - (8 - size)) (drop (8 - size) (octets_of 8 n)) ≡ octets_of size n
last_octets size n few =
    let e : 8 ≡ 8 - size + size = omega arith in
    take_rest (octets_of 8 n) (8 - size) ∙ ap (λ (j : ℕ). drop (8 - size) (octets_of j n)) e ∙ drop-octets_of (8 - size) size n

-- the last octet of a number is below 256, and so is each other
byte_at-lt : (k n : ℕ) → byte_at k n < 256
byte_at-lt zero n = mod_below n 256 (omega arith)
byte_at-lt (suc k) n = mod_below (n / 256 ^ suc k) 256 (omega arith)

pub AreOctets-octets_of : (k n : ℕ) → AreOctets (octets_of k n)
AreOctets-octets_of zero n i = omega arith
AreOctets-octets_of (suc k) n zero = byte_at-lt k n
AreOctets-octets_of (suc k) n (suc i) = AreOctets-octets_of k n i

-- the octets of a number that has no more make that number again
pub num_on-octets_of : (k n : ℕ) → n < 256 ^ k → num_on 0 (octets_of k n) ≡ n
num_on-octets_of k n fits =
    let value : num (bits (octets_of k n)) ≡ n =
    ap num (bits-octets_of k n) ∙ num-bits_of (8 * k) n ∙ ap (λ (m : ℕ). n % m) (sym (pow_256 k)) ∙ mod-eq_of_lt fits in
    omega (arith, num_on-bits 0 (octets_of k n) (AreOctets-octets_of k n), value)

-- octets that stand somewhere in a section make the number that they make alone
pub octets-within : (before xs after : List ℕ) (first last : ℕ) → first ≡ length before + 1 → last ≡ length before + length xs
    → octets (before ++ (xs ++ after)) first last ≡ num_on 0 xs
octets-within before xs after first last is_first is_last =
    let skipped : length before ≡ first - 1 = omega arith in
    let long : length xs ≡ last + 1 - first = omega arith in
    ap (λ (ys : List ℕ). num_on 0 (take (last + 1 - first) ys)) (drop_at before (xs ++ after) (first - 1) skipped)
    ∙ ap (num_on 0) (take_at xs after (last + 1 - first) long)

-- ---- each octet is below 256

pub All-octets_of : (k n : ℕ) → All (λ (x : ℕ). x < 256) (octets_of k n)
All-octets_of zero n = All-nil (λ (x : ℕ). x < 256)
All-octets_of (suc k) n = All-cons (λ (x : ℕ). x < 256) (byte_at k n) (octets_of k n) (byte_at-lt k n) (All-octets_of k n)

-- ---- what was written

-- a number of k octets that `put` wrote
pub written_octets : (before now : Written) (k width n : ℕ) → width ≡ 8 * k → now.bits ≡ before.bits ++ bits_of width n → now.spare + width ≡ before.spare
    → AddsOctets before now (octets_of k n)
written_octets before now k width n is_width is_bits is_spare = record {
  small = All-octets_of k n;
  bits = is_bits ∙ ap (λ (w : ℕ). before.bits ++ bits_of w n) is_width ∙ ap (λ (xs : List Bool). before.bits ++ xs) (sym (bits-octets_of k n));
  spare = omega (arith, length-octets_of k n);
}

-- octets behind octets
pub AddsOctets-append : {before between now : Written} {xs ys : List ℕ} → AddsOctets before between xs → AddsOctets between now ys → AddsOctets before now (xs ++ ys)
AddsOctets-append {before} {between} {now} {xs} {ys} first second = record {
  small = All-append (λ (x : ℕ). x < 256) xs ys first.small second.small;
  bits = second.bits ∙ ap (λ (zs : List Bool). zs ++ bits ys) first.bits ∙ append_assoc before.bits (bits xs) (bits ys)
      ∙ ap (λ (zs : List Bool). before.bits ++ zs) (sym (bits-append xs ys));
  spare = omega (arith, length-append xs ys, first.spare, second.spare);
}

-- before anything is written
pub AddsOctets-nil : (before : Written) → AddsOctets before before []
AddsOctets-nil before = record {
  small = All-nil (λ (x : ℕ). x < 256);
  bits = sym (append-nil before.bits);
  spare = omega arith;
}

pub AddsOctets-same : {before now : Written} (xs ys : List ℕ) → xs ≡ ys → AddsOctets before now xs → AddsOctets before now ys
AddsOctets-same {before} {now} xs ys e h = subst (λ (zs : List ℕ). AddsOctets before now zs) e h

-- an octet as a number of one octet
pub octets_of-one : (n : ℕ) → n < 256 → octets_of 1 n ≡ n ∷ []
octets_of-one n fits = ap (λ (m : ℕ). m ∷ []) (mod-eq_of_lt fits)

pub All-from_AreOctets : (s : List ℕ) → AreOctets s → All (λ (x : ℕ). x < 256) s
All-from_AreOctets s known = All-from_get_or (λ (x : ℕ). x < 256) s 0 (λ i below. known i)

-- n octets of a section that `put` wrote as the number that was read there
pub written_list : (before now : Written) (s : List ℕ) (first last n width value : ℕ) → AreOctets s → 1 ≤ first → first + n ≡ last + 1 → last ≤ length s
    → width ≡ 8 * n → value ≡ big_number n (take (length s - (first - 1)) (drop (first - 1) s))
    → now.bits ≡ before.bits ++ bits_of width value → now.spare + width ≡ before.spare → AddsOctets before now (octet_list s first last)
written_list before now s first last n width value known counted count within is_width is_value is_bits is_spare =
    let same : value ≡ octets s first last = is_value ∙ big_number-rest s first last n known counted count within in record {
      small = All-from_AreOctets (octet_list s first last) (AreOctets-octet_list s first last known);
      bits = is_bits ∙ ap (λ (v : ℕ). before.bits ++ bits_of width v) same
          ∙ ap (λ (xs : List Bool). before.bits ++ xs) (bits_of-octets s first last n known counted count within width is_width);
      spare = omega (arith, length-octet_list s first last n known counted count within);
    }

take_add : (a b : ℕ) (s : List ℕ) → take (a + b) s ≡ take a s ++ take b (drop a s)
take_add a b s =
    sym (take-append-drop a (take (a + b) s)) ∙ ap₂ ◌++◌ (take-take a (a + b) s (omega arith)) (drop-take a b s)

-- one word of eight octets more
pub word_more : (before between now : Written) (s : List ℕ) (k value : ℕ) → AreOctets s → 8 * k + 8 ≤ length s
    → value ≡ big_number 8 (take (length s - 8 * k) (drop (8 * k) s))
    → AddsOctets before between (take (8 * k) s) → now.bits ≡ between.bits ++ bits_of 64 value → now.spare + 64 ≡ between.spare
    → AddsOctets before now (take (8 * (k + 1)) s)
word_more before between now s k value known within is_value so_far is_bits is_spare =
    let at = 8 * k in
    let place : at ≡ at + 1 - 1 = omega arith in
    let read : value ≡ big_number 8 (take (length s - (at + 1 - 1)) (drop (at + 1 - 1) s)) =
    is_value ∙ ap (λ (i : ℕ). big_number 8 (take (length s - i) (drop i s))) place in
    let eight : (at + 8) + 1 - (at + 1) ≡ 8 = omega arith in
    let word : octet_list s (at + 1) (at + 8) ≡ take 8 (drop at s) =
    ap (λ (n : ℕ). take n (drop (at + 1 - 1) s)) eight ∙ ap (λ (i : ℕ). take 8 (drop i s)) (sym place) in
    let more : take at s ++ octet_list s (at + 1) (at + 8) ≡ take (8 * (k + 1)) s =
    ap (λ (xs : List ℕ). take at s ++ xs) word ∙ sym (take_add at 8 s)
    ∙ ap (λ (n : ℕ). take n s) (let e : at + 8 ≡ 8 * (k + 1) = omega arith in e) in
    AddsOctets-same (take at s ++ octet_list s (at + 1) (at + 8)) (take (8 * (k + 1)) s) more
    (AddsOctets-append so_far (written_list between now s (at + 1) (at + 8) 8 64 value known (omega arith) (omega arith) within refl read is_bits is_spare))

-- one octet more
pub octet_more : (before between now : Written) (s : List ℕ) (i : ℕ) → AreOctets s → i < length s → AddsOctets before between (take i s)
    → AddsOctets between now (octets_of 1 (get_or s i 0)) → AddsOctets before now (take (i + 1) s)
octet_more before between now s i known within so_far next =
    AddsOctets-same (take i s ++ octets_of 1 (get_or s i 0)) (take (i + 1) s)
    (ap (λ (xs : List ℕ). take i s ++ xs) (octets_of-one (get_or s i 0) (known i)) ∙ sym (take_more s i 0 within))
    (AddsOctets-append so_far next)

-- the octets after the words, all of them, behind the words
pub octets_end : (before between now : Written) (s : List ℕ) (at i : ℕ) → AddsOctets before between (take at s)
    → AddsOctets between now (take i (take (length s - at) (drop at s))) → length (take (length s - at) (drop at s)) ≤ i → AddsOctets before now s
octets_end before between now s at i words last all =
    let rest : take i (take (length s - at) (drop at s)) ≡ drop at s =
    take_all i (take (length s - at) (drop at s)) all ∙ take_rest s at in
    AddsOctets-same (take at s ++ take i (take (length s - at) (drop at s))) s
    (ap (λ (xs : List ℕ). take at s ++ xs) rest ∙ take-append-drop at s)
    (AddsOctets-append words last)

-- whole octets stay whole
pub AddsOctets-whole : {before now : Written} {xs : List ℕ} → AddsOctets before now xs → length before.bits % 8 ≡ 0 → length now.bits % 8 ≡ 0
AddsOctets-whole {before} {now} {xs} h whole =
    let long : length now.bits ≡ length before.bits + 8 * length xs =
    ap length h.bits ∙ length-append before.bits (bits xs) ∙ ap (λ (n : ℕ). length before.bits + n) (length-bits xs) in
    omega arith

-- a section that is made of its contents states its length and its number
pub StatesItself-section_of : (number : ℕ) (contents : List ℕ) → length contents < 2 ^ 32 - 5 → StatesItself number (section_of number contents)
StatesItself-section_of number contents most = record {
  length_stands = num_on-octets_of 4 (5 + length contents) (omega arith) ∙ (omega arith);
  least = omega arith;
  number_stands = omega arith;
}
