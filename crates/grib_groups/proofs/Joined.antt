-- Packed numbers of a group that are written several at once.
use Rattle.std.proofs.Common.{◌≡◌, ℕ, suc, ◌+◌, ◌*◌, ◌^◌, ◌<◌, ◌≤◌, Bool, true, pow_mono, List, [], ◌∷◌, ◌++◌, length, take, drop, get_or, map, All, refl, sym, ap, ap₂, ◌∙◌, arith, append_assoc, drop-cons, add-mul, mul_comm}
use Rattle.std.specs.List.{list_all}
use Rattle.std.proofs.Math.Seq.{take-add}
use Rattle.std.proofs.lemmas.Nat.{mul-add-lt, pow-add}
use Rattle.std.proofs.lemmas.List.{append-nil, take-append-drop, drop-drop, drop_all}
use Rattle.std.proofs.lemmas.List.Elements.{All-cons, All-head, All-tail}
use Rattle.grib_bits.specs.Bits.{bits_of}
use Rattle.grib_bits.specs.Written.{Written}
use Rattle.grib_bits.proofs.Numbers.{bits_of-join, length-bits_of}
use Rattle.grib_base.specs.declared.code.Code.{Code}
use Rattle.grib_base.specs.declared.code.Code.TheVariants.{Present, Primary, Secondary}
use Rattle.grib_packing.specs.Groupings.{is_present}
use Rattle.grib_packing.specs.Packed.{fields}
use Rattle.grib_codes.specs.Span.{IsTold}
use Rattle.grib_packing.proofs.Left.{Left, left_more, left_room}
use Rattle.grib_groups.specs.Encoding.{IsNumber, IsPackable}

-- ---- a group without marks

pub all_present : (k : ℕ) (run : List Code) → k ≡ 0 → All (IsTold k) run → list_all is_present run ≡ true
all_present k [] none told = refl
all_present k (Present n ∷ run) none told = all_present k run none (All-tail (IsTold k) (Present n) run told)
all_present k (Primary ∷ run) none told = absurd (omega (arith, none, All-head (IsTold k) Primary run told))
all_present k (Secondary ∷ run) none told = absurd (omega (arith, none, All-head (IsTold k) Secondary run told))

pub numbers : (w r : ℕ) (run : List Code) → list_all is_present run ≡ true → All (IsPackable w r) run → All (IsNumber w r) run
numbers w r [] present each = λ i d within. absurd (omega (arith, within))
numbers w r (Present n ∷ run) present each =
    All-cons (IsNumber w r) (Present n) run (refl, All-head (IsPackable w r) (Present n) run each)
    (numbers w r run present (All-tail (IsPackable w r) (Present n) run each))
numbers w r (Primary ∷ run) present each = cc
numbers w r (Secondary ∷ run) present each = cc

-- ---- the numbers of two runs

pub fields-append : (w : ℕ) (f : Code → ℕ) (xs ys : List Code) → fields w (map f (xs ++ ys)) ≡ fields w (map f xs) ++ fields w (map f ys)
fields-append w f [] ys = refl
fields-append w f (x ∷ xs) ys =
    ap (λ bits. bits_of w (f x) ++ bits) (fields-append w f xs ys) ∙ sym (append_assoc (bits_of w (f x)) (fields w (map f xs)) (fields w (map f ys)))

pub square : (w s : ℕ) → s ≡ 2 ^ w → s * s ≡ 2 ^ (2 * w)
square w s scale =
    let twice : w + w ≡ 2 * w = omega arith in
    ap₂ (λ (x y : ℕ). x * y) scale scale ∙ sym (pow-add 2 w w) ∙ ap (λ (k : ℕ). 2 ^ k) twice

-- two numbers of k bits are one of n bits, the double
pub joined_fit : (k n a b s : ℕ) → s ≡ 2 ^ k → n ≡ k + k → a < 2 ^ k → b < 2 ^ k → a * s + b < 2 ^ n
joined_fit k n a b s scale double first second =
    let power : 2 ^ k * 2 ^ k ≡ 2 ^ n = sym (pow-add 2 k k) ∙ ap (λ (m : ℕ). 2 ^ m) (sym double) in
    let below : a * 2 ^ k + b < 2 ^ k * 2 ^ k = mul-add-lt a (2 ^ k) b (2 ^ k) first second in
    let same : a * s + b ≡ a * 2 ^ k + b = ap (λ (x : ℕ). a * x + b) scale in
    omega (arith, power, below, same)

-- and so it is a word
pub joined_word : (k n a b s : ℕ) → s ≡ 2 ^ k → n ≡ k + k → n ≤ 64 → a < 2 ^ k → b < 2 ^ k → a * s + b < 2 ^ 64
joined_word k n a b s scale double word first second =
    let power : 2 ^ n ≤ 2 ^ 64 = pow_mono word in
    omega (arith, power, joined_fit k n a b s scale double first second)

module _ (w : ℕ) (f : Code → ℕ) (run : List Code) (at : ℕ) where
  next_two : (d : Code) → at + 2 ≤ length run → take 2 (drop at run) ≡ get_or run at d ∷ get_or run (at + 1) d ∷ []
  next_two d within =
      let one : suc at ≡ at + 1 = omega arith in
      ap (take 2) (drop-cons run at d (omega arith))
      ∙ ap (λ (k : ℕ). get_or run at d ∷ take 1 (drop k run)) one
      ∙ ap (λ xs. get_or run at d ∷ take 1 xs) (drop-cons run (at + 1) d (omega arith))

  pub two_joined : (d : Code) (a b s : ℕ) → at + 2 ≤ length run → s ≡ 2 ^ w → a ≡ f (get_or run at d) → b ≡ f (get_or run (at + 1) d) → b < 2 ^ w
      → bits_of (2 * w) (a * s + b) ≡ fields w (map f (take 2 (drop at run)))
  two_joined d a b s within scale first second fits =
      let twice : 2 * w ≡ w + w = omega arith in
      ap₂ (λ (k x : ℕ). bits_of k (a * x + b)) twice scale
      ∙ bits_of-join w w a b fits
      ∙ ap₂ (λ (m n : ℕ). bits_of w m ++ bits_of w n) first second
      ∙ ap (λ bits. bits_of w (f (get_or run at d)) ++ bits) (sym (append-nil (bits_of w (f (get_or run (at + 1) d)))))
      ∙ ap (λ codes. fields w (map f codes)) (sym (next_two d within))

  pub four_joined : (a b s : ℕ) → s ≡ 2 ^ w → b < 2 ^ (2 * w)
      → bits_of (2 * w) a ≡ fields w (map f (take 2 (drop at run))) → bits_of (2 * w) b ≡ fields w (map f (take 2 (drop (at + 2) run)))
      → bits_of (4 * w) (a * (s * s) + b) ≡ fields w (map f (take 4 (drop at run)))
  four_joined a b s scale fits first second =
      let twice : 4 * w ≡ 2 * w + 2 * w = omega arith in
      let two = take 2 (drop at run) in
      let more = take 2 (drop (at + 2) run) in
      let both : two ++ more ≡ take 4 (drop at run) =
      ap (λ (codes : List Code). two ++ take 2 codes) (sym (drop-drop 2 at run)) ∙ sym (take-add 2 2 (drop at run)) in
      ap₂ (λ (k x : ℕ). bits_of k (a * x + b)) twice (square w s scale)
      ∙ bits_of-join (2 * w) (2 * w) a b fits
      ∙ ap₂ (λ (xs ys : List Bool). xs ++ ys) first second
      ∙ sym (fields-append w f two more)
      ∙ ap (λ codes. fields w (map f codes)) both

-- ---- some more are written at once

module _ (w : ℕ) (f : Code → ℕ) (run : List Code) (k done : ℕ) where
  next_few : (number : ℕ) → bits_of (k * w) number ≡ fields w (map f (take k (drop (k * done) run)))
      → fields w (map f (drop (k * done) run)) ≡ bits_of (k * w) number ++ fields w (map f (drop (k * (done + 1)) run))
  next_few number is =
      let rest = drop (k * done) run in
      let next : k * done + k ≡ k * (done + 1) = omega (arith, mul_comm k done, mul_comm k (done + 1), add-mul done 1 k) in
      ap (λ codes. fields w (map f codes)) (sym (take-append-drop k rest))
      ∙ fields-append w f (take k rest) (drop k rest)
      ∙ ap₂ (λ (xs : List Bool) (codes : List Code). xs ++ fields w (map f codes)) (sym is) (drop-drop k (k * done) run ∙ ap (λ (j : ℕ). drop j run) next)

  pub few_room : (start now : Written) (whole : List Bool) (number : ℕ) → bits_of (k * w) number ≡ fields w (map f (take k (drop (k * done) run)))
      → Left start now whole (fields w (map f (drop (k * done) run))) → length whole ≤ start.spare → k * w ≤ now.spare
  few_room start now whole number is so_far room =
      let next = left_room start now whole (bits_of (k * w) number) _ _ (next_few number is) so_far room in
      omega (arith, next, length-bits_of (k * w) number)

  pub few_more : (start now after : Written) (whole : List Bool) (number : ℕ) → bits_of (k * w) number ≡ fields w (map f (take k (drop (k * done) run)))
      → Left start now whole (fields w (map f (drop (k * done) run))) → after.bits ≡ now.bits ++ bits_of (k * w) number → after.spare + k * w ≡ now.spare
      → Left start after whole (fields w (map f (drop (k * (done + 1)) run)))
  few_more start now after whole number is so_far bits spare =
      left_more start now after whole (bits_of (k * w) number) _ _ (next_few number is) so_far bits (omega (arith, spare, length-bits_of (k * w) number))

  pub no_codes : length run ≤ k * done → fields w (map f (drop (k * done) run)) ≡ []
  no_codes past = ap (λ codes. fields w (map f codes)) (drop_all (k * done) run past)

-- ---- the first numbers and then the others

pub parts_joined : (w : ℕ) (f : Code → ℕ) (run first rest : List Code) (n : ℕ) → first ≡ take n run → rest ≡ drop n run
    → fields w (map f run) ≡ fields w (map f first) ++ fields w (map f rest)
parts_joined w f run first rest n is_first is_rest =
    ap (λ codes. fields w (map f codes)) (sym (take-append-drop n run) ∙ ap₂ (λ (xs ys : List Code). xs ++ ys) (sym is_first) (sym is_rest))
    ∙ fields-append w f first rest
