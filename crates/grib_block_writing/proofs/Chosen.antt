-- The choice of a block, by the number of low bits that takes the fewest.
use Rattle.std.proofs.Common.{lit<, length, subst, inl, inr, min, ◌≡◌, ℕ, ◌+◌, ◌-◌, ◌*◌, ◌/◌, ◌%◌, ◌^◌, ◌<◌, ◌≤◌, true, false, cond, nat_lt, List, map, sym, ap, ◌∙◌, arith}
use Rattle.std.specs.List.{range_with_len}
use Rattle.std.proofs.lemmas.Bool.{cases_lt, lt-ltb, le-ltb}
use Rattle.std.proofs.lemmas.Bool.Decides.{nat_tests}
use Rattle.std.proofs.lemmas.Nat.{one_shl}
use Rattle.std.proofs.Math.Nat.{pow-le-pow_right}
use Rattle.grib_coding.specs.declared.coding.Coding.{Coding}
use Rattle.grib_coding.specs.Coding.{identifier_width}
use Rattle.grib_coding.specs.declared.choice.Choice.{Choice}
use Rattle.grib_coding.specs.declared.choice.Choice.TheVariants.{Plain, Second, Split}
use Rattle.grib_coding.specs.Choices.{bits_as, pair_sum, others, chosen, IsOption}
use Rattle.grib_block_writing.specs.Splits.{split_bits, IsLeastSplit}
use Rattle.grib_block_writing.proofs.Fewest.{fewest_split, fewest-le, fewest-split-le, better_le}

-- the better of a plain block and one in pairs
pub better : Coding → ℕ → List ℕ → Choice
better c skip codes = cond (nat_lt (bits_as c skip codes Second) (bits_as c skip codes Plain)) Second Plain

pub better-second : (c : Coding) (skip : ℕ) (codes : List ℕ) → bits_as c skip codes Second < bits_as c skip codes Plain
    → better c skip codes ≡ Second
unfolding better
better-second c skip codes less = ap (λ t. cond t Second Plain) (lt-ltb (bits_as c skip codes Second) (bits_as c skip codes Plain) less)

pub better-plain : (c : Coding) (skip : ℕ) (codes : List ℕ) → bits_as c skip codes Plain ≤ bits_as c skip codes Second
    → better c skip codes ≡ Plain
unfolding better
better-plain c skip codes more = ap (λ t. cond t Second Plain) (le-ltb (bits_as c skip codes Second) (bits_as c skip codes Plain) more)

chosen-with : (c : Coding) (skip : ℕ) (codes : List ℕ) (k bits : ℕ) → 3 ≤ 2 ^ identifier_width c
    → IsLeastSplit (c.block - skip) codes (2 ^ identifier_width c - 3) k bits
    → chosen c skip codes ≡ cond (nat_lt (bits_as c skip codes (Split k)) (bits_as c skip codes (better c skip codes))) (Split k) (better c skip codes)
unfolding better
chosen-with c skip codes k bits some split =
    fewest_split (bits_as c skip codes) (better c skip codes) k (2 ^ identifier_width c - 2) 0 (omega arith) (omega (arith, split.within))
    (λ j from to. omega (arith, split.is, split.least j (omega arith)))
    (λ j from less. omega (arith, split.is, split.first j less))

pub chosen-split : (c : Coding) (skip : ℕ) (codes : List ℕ) (best : Choice) (k bits : ℕ) → 3 ≤ 2 ^ identifier_width c
    → IsLeastSplit (c.block - skip) codes (2 ^ identifier_width c - 3) k bits → better c skip codes ≡ best
    → bits < bits_as c skip codes best → Split k ≡ chosen c skip codes
chosen-split c skip codes best k bits some split is less =
    let B = bits_as c skip codes in
    let as_best : B (better c skip codes) ≡ B best = ap B is in
    let test : nat_lt (B (Split k)) (B (better c skip codes)) ≡ true =
    lt-ltb (B (Split k)) (B (better c skip codes)) (omega (arith, split.is, as_best)) in
    sym (chosen-with c skip codes k bits some split ∙ ap (λ t. cond t (Split k) (better c skip codes)) test)

pub chosen-best : (c : Coding) (skip : ℕ) (codes : List ℕ) (best : Choice) (k bits : ℕ) → 3 ≤ 2 ^ identifier_width c
    → IsLeastSplit (c.block - skip) codes (2 ^ identifier_width c - 3) k bits → better c skip codes ≡ best
    → bits_as c skip codes best ≤ bits → best ≡ chosen c skip codes
chosen-best c skip codes best k bits some split is more =
    let B = bits_as c skip codes in
    let as_best : B (better c skip codes) ≡ B best = ap B is in
    let test : nat_lt (B (Split k)) (B (better c skip codes)) ≡ false =
    le-ltb (B (Split k)) (B (better c skip codes)) (omega (arith, split.is, as_best)) in
    sym (chosen-with c skip codes k bits some split ∙ (ap (λ t. cond t (Split k) (better c skip codes)) test ∙ is))

-- the better of the two, by bits that are no fewer than the plain ones where those of pairs are not
pub better-by : (c : Coding) (skip : ℕ) (codes : List ℕ) (plain pairs : ℕ) (best : Choice) → plain ≡ bits_as c skip codes Plain
    → (pairs < plain → pairs ≡ bits_as c skip codes Second) → (plain ≤ pairs → plain ≤ bits_as c skip codes Second)
    → (pairs < plain → best ≡ Second) → (plain ≤ pairs → best ≡ Plain)
    → (better c skip codes ≡ best) × (bits_as c skip codes best ≡ min pairs plain)
better-by c skip codes plain pairs best is fewer no_fewer second first = elim (cases_lt pairs plain) [
  | inl less ↦ (
    better-second c skip codes (omega (arith, fewer less)) ∙ sym (second less),
    ap (bits_as c skip codes) (second less) ∙ (sym (fewer less) ∙ omega arith),
  )
  | inr more ↦ (
    better-plain c skip codes (omega (arith, no_fewer more)) ∙ sym (first more),
    ap (bits_as c skip codes) (first more) ∙ (sym is ∙ omega arith),
  )
]

-- identifiers of more than one bit tell some Split
pub wide : (c : Coding) → (identifier_width c ≡ 1 → ⊥) → 3 ≤ 2 ^ identifier_width c
wide c more =
    let some : 1 ≤ identifier_width c = grind (arith, nat_tests) in
    let two : 2 ≤ identifier_width c = omega (arith, more) in
    let four : 2 ^ 2 ≤ 2 ^ identifier_width c = pow-le-pow_right {n = 2} (lit< tt) two in
    omega (arith, four)

-- the greatest number of low bits, as a word of 32 bits has it
pub most_low : (c : Coding) (width : ℕ) → width ≡ identifier_width c → width ≤ 5 → 1 * 2 ^ width % 2 ^ 32 - 3 ≡ 2 ^ identifier_width c - 3
most_low c width is small = ap (λ n. n - 3) (one_shl width 32 (omega arith)) ∙ ap (λ w. 2 ^ w - 3) is

-- the choice, by what was found of the block
pub choice_is : (c : Coding) (skip : ℕ) (codes : List ℕ) (best : Choice) (plain pairs kept most k bits : ℕ)
    → length codes ≡ c.block → kept ≡ c.block - skip → plain ≡ kept * c.bits
    → (pairs < plain → pairs ≡ 1 + length codes / 2 + pair_sum codes) → (plain ≤ pairs → plain ≤ 1 + length codes / 2 + pair_sum codes)
    → (pairs < plain → best ≡ Second) → (plain ≤ pairs → best ≡ Plain)
    → (identifier_width c ≡ 1 → ⊥) → most ≡ 2 ^ identifier_width c - 3 → IsLeastSplit kept codes most k bits
    → (bits < min pairs plain → Split k ≡ chosen c skip codes) × (min pairs plain ≤ bits → best ≡ chosen c skip codes)
choice_is c skip codes best plain pairs kept most k bits block kept_is plain_is fewer no_fewer second first more most_is split =
    let bits_plain : plain ≡ bits_as c skip codes Plain = plain_is ∙ ap (λ n. n * c.bits) kept_is in
    let half : length codes / 2 ≡ c.block / 2 = ap (λ n. n / 2) block in
    let told = better-by c skip codes plain pairs best bits_plain
    (λ less. fewer less ∙ ap (λ n. 1 + n + pair_sum codes) half) (λ same. omega (arith, no_fewer same, half)) second first in
    let P : ℕ → Type 0 = λ n. IsLeastSplit n codes most k bits in
    let Q : ℕ → Type 0 = λ n. IsLeastSplit (c.block - skip) codes n k bits in
    let least : IsLeastSplit (c.block - skip) codes (2 ^ identifier_width c - 3) k bits = subst Q most_is (subst P kept_is split) in (
      λ less. chosen-split c skip codes best k bits (wide c more) least told.0 (omega (arith, less, told.1)),
      λ not_less. chosen-best c skip codes best k bits (wide c more) least told.0 (omega (arith, not_less, told.1)),
    )

-- no item has fewer bits
pub chosen-least : (c : Coding) (skip : ℕ) (codes : List ℕ) (choice : Choice) → IsOption c choice
    → bits_as c skip codes (chosen c skip codes) ≤ bits_as c skip codes choice
chosen-least c skip codes Plain is = fewest-le (bits_as c skip codes) Plain (others c)
chosen-least c skip codes Second is =
    let B = bits_as c skip codes in
    let splits = map Split (range_with_len 0 (2 ^ identifier_width c - 2)) in
    let first = fewest-le B (cond (nat_lt (B Second) (B Plain)) Second Plain) splits in
    omega (arith, first, (better_le B Plain Second).1)
chosen-least c skip codes (Split k) is =
    let B = bits_as c skip codes in
    fewest-split-le B (cond (nat_lt (B Second) (B Plain)) Second Plain) (2 ^ identifier_width c - 2) 0 k (omega arith) (omega (arith, is))
