-- Bits written one part after another.
use Rattle.std.proofs.Common.{◌≡◌, ℕ, ◌+◌, ◌%◌, ◌≤◌, Bool, false, List, [], ◌++◌, length, replicate, refl, sym, ap, ap₂, ◌∙◌, arith, append_assoc}
use Rattle.std.proofs.lemmas.List.{length-append, append-nil, length-replicate}
use Rattle.grib_bits.specs.Written.{Written, padding}
use Rattle.grib_packing.specs.Packed.{padded}

-- of the whole that is being written, this is left
pub record Left (start now : Written) (whole left : List Bool) : Type 0 where
  pub bits : now.bits ++ left ≡ start.bits ++ whole
  pub spare : now.spare + length whole ≡ start.spare + length left

pub left-all : (start : Written) (whole : List Bool) → Left start start whole whole
left-all start whole = record { bits = refl; spare = refl }

-- the next bits of it are written
pub left_more : (start now after : Written) (whole next left left_now : List Bool) → left_now ≡ next ++ left → Left start now whole left_now
    → after.bits ≡ now.bits ++ next → after.spare + length next ≡ now.spare → Left start after whole left
left_more start now after whole next left left_now split so_far bits spare = record {
  bits = ap (λ xs. xs ++ left) bits ∙ append_assoc now.bits next left ∙ ap (λ xs. now.bits ++ xs) (sym split) ∙ so_far.bits;
  spare = omega (arith, so_far.spare, spare, ap length split, length-append next left);
}

-- there is room for them
pub left_room : (start now : Written) (whole next left left_now : List Bool) → left_now ≡ next ++ left → Left start now whole left_now → length whole ≤ start.spare
    → length next ≤ now.spare
left_room start now whole next left left_now split so_far room = omega (arith, so_far.spare, ap length split, length-append next left)

-- nothing is left
pub left_none : (start now : Written) (whole left : List Bool) → left ≡ [] → Left start now whole left → (now.bits ≡ start.bits ++ whole) × (now.spare + length whole ≡ start.spare)
left_none start now whole left none so_far =
    (sym (append-nil now.bits) ∙ ap (λ xs. now.bits ++ xs) (sym none) ∙ so_far.bits, omega (arith, so_far.spare, ap length none))

-- ---- padded to a whole octet

pub length-padded : (xs : List Bool) → length (padded xs) % 8 ≡ 0
length-padded xs = omega (arith, length-append xs (replicate (padding xs) false), length-replicate (padding xs) false)

pub padding-behind : (before xs : List Bool) → length before % 8 ≡ 0 → padding (before ++ xs) ≡ padding xs
padding-behind before xs whole = omega (arith, length-append before xs)

pub whole-behind : (before xs : List Bool) → length before % 8 ≡ 0 → length (before ++ padded xs) % 8 ≡ 0
whole-behind before xs whole = omega (arith, length-append before (padded xs), length-padded xs)

-- what is left is nothing, and then an octet is filled
pub record Ended (start after : Written) (whole : List Bool) : Type 0 where
  pub bits : after.bits ≡ start.bits ++ padded whole
  pub spare : after.spare + length (padded whole) ≡ start.spare

pub left_padded : (start now after : Written) (whole left : List Bool) → left ≡ [] → Left start now whole left → length start.bits % 8 ≡ 0
    → after.bits ≡ now.bits ++ replicate (padding now.bits) false → after.spare + padding now.bits ≡ now.spare → Ended start after whole
left_padded start now after whole left none so_far even bits spare =
    let ended = left_none start now whole left none so_far in
    let pad : padding now.bits ≡ padding whole = ap padding ended.0 ∙ padding-behind start.bits whole even in
    record {
      bits =
          bits ∙ ap₂ (λ (xs : List Bool) (k : ℕ). xs ++ replicate k false) ended.0 pad
          ∙ append_assoc start.bits whole (replicate (padding whole) false);
      spare = omega (arith, spare, ended.1, pad, length-append whole (replicate (padding whole) false), length-replicate (padding whole) false);
    }

pub padded-more : (xs : List Bool) → length xs ≤ length (padded xs)
padded-more xs = omega (arith, length-append xs (replicate (padding xs) false))

pub even_after : (before after xs : List Bool) → length before % 8 ≡ 0 → after ≡ before ++ padded xs → length after % 8 ≡ 0
even_after before after xs whole is = omega (arith, ap length is, whole-behind before xs whole)
