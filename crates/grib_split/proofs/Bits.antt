-- The first of some places from one on, counted round 64.
use Rattle.std.proofs.Common.{◌≡◌, ◌≢◌, ℕ, ◌+◌, ◌-◌, ◌*◌, ◌/◌, ◌%◌, ◌^◌, ◌<◌, ◌≤◌, ◌⊎◌, inl, inr, sym, ap, ◌∙◌, arith, div-add-mod'}
use Rattle.std.proofs.Math.Nat.{mod-lt, one-le-pow}
use Rattle.std.specs.Int.{w64, trailing_zeros, bit_at}
use Rattle.std.specs.Prelude.{bit_and}
use Rattle.std.proofs.lemmas.Nat.{shr-shr, shr_le, and_le_r}
use Rattle.std.proofs.lemmas.Nat.Bits.{bit_at-trailing_zeros, bit_at-zero, bit_at_above, bit_at_and, bit_at_cat_low, bit_at_cat_high}

-- bits behind a shift
shifted : (n start i : ℕ) → bit_at (n / 2 ^ start) i ≡ bit_at n (start + i)
shifted n start i = ap (λ m. m % 2) (shr-shr n start i)

below_or_not : (a b : ℕ) → (a < b) ⊎ (b ≤ a)
below_or_not a b = grind arith

set_below : (n i : ℕ) → n < 2 ^ 64 → bit_at n i ≡ 1 → i < 64
set_below n i small set = elim (below_or_not i 64) [
  | inl below ↦ below
  | inr above ↦ absurd (let none = bit_at_above n 64 i small above in omega (arith, none, set))
]

pub record FirstFrom (places start count : ℕ) : Type 0 where
  pub within : count < 64
  pub is : bit_at places ((start + count) % 64) ≡ 1
  pub first : (n : ℕ) → n < count → bit_at places ((start + n) % 64) ≡ 0

pub first_later : (places start : ℕ) → start < 64 → places < 2 ^ 64 → places / 2 ^ start ≢ 0
    → FirstFrom places start (trailing_zeros w64 (places / 2 ^ start))
first_later places start within small some =
    let later = places / 2 ^ start in
    let t = bit_at-trailing_zeros w64 later (omega (arith, some)) (omega (arith, shr_le places start, small)) in
    let count = trailing_zeros w64 later in
    let set : bit_at places (start + count) ≡ 1 = sym (shifted places start count) ∙ t.1 in
    let below = set_below places (start + count) small set in
    let here : (start + count) % 64 ≡ start + count = omega (arith, below) in
    record {
      within = omega (arith, below);
      is = ap (bit_at places) here ∙ set;
      first = λ n less.
          let there : (start + n) % 64 ≡ start + n = omega (arith, below, less) in
          ap (bit_at places) there ∙ (sym (shifted places start n) ∙ t.2 n less);
    }

none_later : (places start i : ℕ) → places / 2 ^ start ≡ 0 → start ≤ i → bit_at places i ≡ 0
none_later places start i none from =
    let e : start + (i - start) ≡ i = omega arith in
    ap (bit_at places) (sym e) ∙ (sym (shifted places start (i - start)) ∙ (ap (λ n. bit_at n (i - start)) none ∙ bit_at-zero (i - start)))

pub first_round : (places start : ℕ) → start < 64 → 0 < places → places < 2 ^ 64 → places / 2 ^ start ≡ 0
    → FirstFrom places start (64 - start + trailing_zeros w64 places)
first_round places start within some small none =
    let t = bit_at-trailing_zeros w64 places some small in
    let at = trailing_zeros w64 places in
    let before : at < start = elim (below_or_not at start) [
      | inl below ↦ below
      | inr above ↦ absurd (let zero_there = none_later places start at none above in omega (arith, zero_there, t.1))
    ] in
    let here : (start + (64 - start + at)) % 64 ≡ at = omega (arith, before, within) in
    record {
      within = omega (arith, before, within);
      is = ap (bit_at places) here ∙ t.1;
      first = λ n less. elim (below_or_not (start + n) 64) [
        | inl below ↦
            let there : (start + n) % 64 ≡ start + n = omega (arith, below) in
            ap (bit_at places) there ∙ none_later places start (start + n) none (omega arith)
        | inr above ↦
            let there : (start + n) % 64 ≡ start + n - 64 = omega (arith, above, less, before, within) in
            ap (bit_at places) there ∙ t.2 (start + n - 64) (omega (arith, above, less, before, within))
      ];
    }

-- ---- without the lowest bit

pub cleared_less : (n : ℕ) → n ≢ 0 → bit_and n (n - 1) < n
cleared_less n some = omega (arith, and_le_r n (n - 1), some)

-- one less has the same bits above one that is set
same_above : (n k place : ℕ) → k < place → bit_at n k ≡ 1 → bit_at (n - 1) place ≡ bit_at n place
same_above n k place above set =
    let a = n / 2 ^ place in
    let b = n % 2 ^ place in
    let whole : a * 2 ^ place + b ≡ n = div-add-mod' n (2 ^ place) in
    let low : bit_at b k ≡ 1 = sym (bit_at_cat_low a place b k above) ∙ (ap (λ m. bit_at m k) whole ∙ set) in
    let some : 0 < b = elim (none_or_some b) [
      | inl none ↦ absurd (let no_bit : bit_at b k ≡ 0 = ap (λ m. bit_at m k) none ∙ bit_at-zero k in omega (arith, no_bit, low))
      | inr some ↦ some
    ] in
    let small : b < 2 ^ place = mod-lt n (let some : 1 ≤ 2 ^ place = one-le-pow place 2 (omega arith) in omega (arith, some)) in
    let one_less : a * 2 ^ place + (b - 1) ≡ n - 1 = omega (arith, whole, some) in
    let here = bit_at_cat_high a place (b - 1) place (omega (arith, small)) (omega arith) in
    let there = bit_at_cat_high a place b place small (omega arith) in
    ap (λ m. bit_at m place) (sym one_less) ∙ (here ∙ (sym there ∙ ap (λ m. bit_at m place) whole))
  where
    none_or_some : (b : ℕ) → (b ≡ 0) ⊎ (0 < b)
    none_or_some b = grind arith

pub cleared_other : (n place : ℕ) → n < 2 ^ 64 → n ≢ 0 → trailing_zeros w64 n ≢ place → bit_at (bit_and n (n - 1)) place ≡ 0 → bit_at n place ≡ 0
cleared_other n place small some other unset =
    let k = trailing_zeros w64 n in
    let t = bit_at-trailing_zeros w64 n (omega (arith, some)) small in
    elim (below_or_not place k) [
      | inl below ↦ t.2 place below
      | inr above ↦
          let same = same_above n k place (omega (arith, above, other)) t.1 in
          omega (arith, bit_at_and n (n - 1) place, unset, same)
    ]
