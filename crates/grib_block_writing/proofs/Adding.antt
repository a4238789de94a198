-- Bits that are written one part after another.
use Rattle.std.proofs.Common.{◌≡◌, ℕ, suc, ◌+◌, ◌-◌, ◌*◌, ◌/◌, ◌%◌, ◌^◌, ◌<◌, ◌≤◌, Bool, true, false, List, [], ◌∷◌, ◌++◌, length, get_or, drop, replicate, bit_and, refl, sym, ap, ap₂, ◌∙◌, arith, subst, append_assoc, append-nil, length-append}
use Rattle.std.proofs.lemmas.List.{at_drop_more, drop_more, length-replicate, replicate-append-replicate}
use Rattle.std.proofs.lemmas.Nat.{one_shl, and_mask}
use Rattle.grib_bits.specs.Bits.{bits_of}
use Rattle.grib_bits.specs.Written.{Written}
use Rattle.grib_bits.proofs.Numbers.{length-bits_of, bits_of-zero, bits_of-add}
use Rattle.grib_coding.specs.Items.{sequence, all_bits, pair_number}
use Rattle.grib_coding.specs.Written.{pair_numbers}
use Rattle.grib_block_writing.specs.Steps.{AddsBits, Leaves}

-- ---- all bits, part after part

pub begin : (start : Written) (all : List Bool) → Leaves start start all all
begin start all = record { bits = refl; spare = refl }

pub next : (start now later : Written) (all part left : List Bool) → Leaves start now all (part ++ left) → AddsBits now later part
    → Leaves start later all left
next start now later all part left h a = record {
  bits = ap (λ (xs : List Bool). xs ++ left) a.added ∙ append_assoc now.bits part left ∙ h.bits;
  spare = omega (arith, h.spare, a.spare, length-append part left);
}

pub done : (start now : Written) (all left : List Bool) → Leaves start now all left → left ≡ [] → AddsBits start now all
done start now all left h none = record {
  added = sym (append-nil now.bits) ∙ ap (λ (xs : List Bool). now.bits ++ xs) (sym none) ∙ h.bits;
  spare = omega (arith, h.spare, ap length none);
}

pub room : (start now : Written) (all part left : List Bool) → Leaves start now all (part ++ left) → length all ≤ start.spare
    → length part ≤ now.spare
room start now all part left h enough = omega (arith, h.spare, length-append part left)

pub left-same : (start now : Written) (all left left' : List Bool) → left ≡ left' → Leaves start now all left → Leaves start now all left'
left-same start now all left left' same h = subst (λ (xs : List Bool). Leaves start now all xs) same h

pub follows : (start between now : Written) (all left left' : List Bool) → Leaves start between all left → Leaves between now left left'
    → Leaves start now all left'
follows start between now all left left' first second = record {
  bits = second.bits ∙ first.bits;
  spare = omega (arith, first.spare, second.spare);
}

-- ---- a part for each number of a list

pub each_next : (F : List ℕ → List Bool) (numbers : List ℕ) (i : ℕ) (part : List Bool) (start now later : Written) → i < length numbers
    → F (get_or numbers i 0 ∷ drop (i + 1) numbers) ≡ part ++ F (drop (i + 1) numbers)
    → Leaves start now (F numbers) (F (drop i numbers)) → AddsBits now later part → Leaves start later (F numbers) (F (drop (i + 1) numbers))
each_next F numbers i part start now later within cut h a =
    next start now later (F numbers) part (F (drop (i + 1) numbers))
    (left-same start now (F numbers) (F (drop i numbers)) (part ++ F (drop (i + 1) numbers)) (at_drop_more F numbers i 0 within ∙ cut) h) a

pub each_room : (F : List ℕ → List Bool) (numbers : List ℕ) (i : ℕ) (part : List Bool) (start now : Written) → i < length numbers
    → F (get_or numbers i 0 ∷ drop (i + 1) numbers) ≡ part ++ F (drop (i + 1) numbers)
    → Leaves start now (F numbers) (F (drop i numbers)) → length (F numbers) ≤ start.spare → length part ≤ now.spare
each_room F numbers i part start now within cut h enough =
    room start now (F numbers) part (F (drop (i + 1) numbers))
    (left-same start now (F numbers) (F (drop i numbers)) (part ++ F (drop (i + 1) numbers)) (at_drop_more F numbers i 0 within ∙ cut) h) enough

-- ---- one number

pub number_added : (before now : Written) (width value : ℕ) → now.bits ≡ before.bits ++ bits_of width value
    → now.spare + width ≡ before.spare → AddsBits before now (bits_of width value)
number_added before now width value bits spare = record { added = bits; spare = omega (arith, spare, length-bits_of width value) }

pub same_bits : (before now : Written) (xs ys : List Bool) → xs ≡ ys → AddsBits before now xs → AddsBits before now ys
same_bits before now xs ys same h = subst (λ (zs : List Bool). AddsBits before now zs) same h

-- two parts
pub both : (before between now : Written) (xs ys : List Bool) → AddsBits before between xs → AddsBits between now ys → AddsBits before now (xs ++ ys)
both before between now xs ys first second = record {
  added = second.added ∙ ap (λ (zs : List Bool). zs ++ ys) first.added ∙ append_assoc before.bits xs ys;
  spare = omega (arith, length-append xs ys, first.spare, second.spare);
}

-- ---- sequences

pub length-sequence : (count : ℕ) → length (sequence count) ≡ count + 1
length-sequence count = omega (arith, length-append (replicate count false) (true ∷ []), length-replicate count false)

-- the last bits of a sequence as a number
pub sequence_number : (count : ℕ) → bits_of (count + 1) 1 ≡ sequence count
sequence_number count = bits_of-add count 1 1 ∙ ap (λ (xs : List Bool). xs ++ true ∷ []) (bits_of-zero count)

-- the first zeros of it
pub sequence_zeros : (some count : ℕ) → some ≤ count → sequence count ≡ bits_of some 0 ++ sequence (count - some)
sequence_zeros some count within =
    let whole : some + (count - some) ≡ count = omega (arith, within) in
    let rest = replicate (count - some) false in
    ap (λ (n : ℕ). replicate n false ++ true ∷ []) (sym whole)
    ∙ (ap (λ (xs : List Bool). xs ++ true ∷ []) (sym (replicate-append-replicate some (count - some) false))
    ∙ (append_assoc (replicate some false) rest (true ∷ [])
    ∙ ap (λ (xs : List Bool). xs ++ sequence (count - some)) (sym (bits_of-zero some))))

pub number_room : (width value spare : ℕ) → length (bits_of width value) ≤ spare → width ≤ spare
number_room width value spare enough = omega (arith, length-bits_of width value)

pub number_is : (before now : Written) (width value number : ℕ) → now.bits ≡ before.bits ++ bits_of width value
    → now.spare + width ≡ before.spare → value ≡ number → AddsBits before now (bits_of width number)
number_is before now width value number bits spare same =
    same_bits before now (bits_of width value) (bits_of width number) (ap (bits_of width) same) (number_added before now width value bits spare)

pub last_bits : (code k : ℕ) → k < 32 → bit_and code (1 * 2 ^ k % 2 ^ 32 - 1) ≡ code % 2 ^ k
last_bits code k small = ap (λ (m : ℕ). bit_and code (m - 1)) (one_shl k 32 small) ∙ and_mask code k

-- ---- pairs

pub pairs_cut : (codes : List ℕ) (pair : ℕ) → length codes % 2 ≡ 0 → pair < length codes / 2
    → all_bits sequence (pair_numbers (drop (2 * pair) codes))
    ≡ sequence (pair_number (get_or codes (2 * pair) 0) (get_or codes (2 * pair + 1) 0)) ++ all_bits sequence (pair_numbers (drop (2 * (pair + 1)) codes))
pairs_cut codes pair even within =
    let at = 2 * pair in
    let F : List ℕ → List Bool = λ (xs : List ℕ). all_bits sequence (pair_numbers xs) in
    let one = get_or codes at 0 in
    let other = get_or codes (at + 1) 0 in
    let first : drop at codes ≡ one ∷ drop (at + 1) codes = drop_more codes at 0 (omega arith) in
    let second : drop (at + 1) codes ≡ other ∷ drop (at + 1 + 1) codes = drop_more codes (at + 1) 0 (omega arith) in
    let two : at + 1 + 1 ≡ 2 * (pair + 1) = omega arith in
    ap F first ∙ (ap (λ (xs : List ℕ). F (one ∷ xs)) second ∙ ap (λ (n : ℕ). F (one ∷ other ∷ drop n codes)) two)

pub room_left : (start now : Written) (all left : List Bool) → Leaves start now all left → length all ≤ start.spare → length left ≤ now.spare
room_left start now all left h enough = omega (arith, h.spare, enough)
