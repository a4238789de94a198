-- The first of the fewest bits.
use Rattle.std.proofs.Common.{◌≡◌, ℕ, zero, suc, ◌+◌, ◌-◌, ◌<◌, ◌≤◌, ◌⊎◌, inl, inr, true, false, cond, nat_lt, List, [], ◌∷◌, map, refl, sym, ap, ◌∙◌, subst, arith}
use Rattle.std.specs.List.{range_with_len}
use Rattle.std.proofs.lemmas.Bool.{cases_lt, cases_eq, lt-ltb, le-ltb}
use Rattle.grib_coding.specs.declared.choice.Choice.{Choice}
use Rattle.grib_coding.specs.declared.choice.Choice.TheVariants.{Split}
use Rattle.grib_coding.specs.Choices.{fewest_of}

splits : ℕ → ℕ → List Choice
splits low n = map Split (range_with_len low n)

-- what has no more bits than all that follow stays
stays : (bits : Choice → ℕ) (best : Choice) (n low : ℕ) → ((j : ℕ) → low ≤ j → j < low + n → bits best ≤ bits (Split j))
    → fewest_of bits best (map Split (range_with_len low n)) ≡ best
stays bits best zero low none = refl
stays bits best (suc n) low none =
    let here : nat_lt (bits (Split low)) (bits best) ≡ false = le-ltb (bits (Split low)) (bits best) (none low (omega arith) (omega arith)) in
    ap (λ t. fewest_of bits (cond t (Split low) best) (map Split (range_with_len (low + 1) n))) here
    ∙ stays bits best n (low + 1) (λ j m l. none j (omega arith) (omega arith))

pub fewest_split : (bits : Choice → ℕ) (best : Choice) (k n low : ℕ) → low ≤ k → k < low + n
    → ((j : ℕ) → low ≤ j → j < low + n → bits (Split k) ≤ bits (Split j))
    → ((j : ℕ) → low ≤ j → j < k → bits (Split k) < bits (Split j))
    → fewest_of bits best (map Split (range_with_len low n)) ≡ cond (nat_lt (bits (Split k)) (bits best)) (Split k) best
fewest_split bits best k zero low from to least first = absurd (omega arith)
fewest_split bits best k (suc n) low from to least first =
    let rest = map Split (range_with_len (low + 1) n) in
    elim (cases_eq low k) [
      | inl same ↦ elim (cases_lt (bits (Split k)) (bits best)) [
        | inl less ↦
            let here : nat_lt (bits (Split low)) (bits best) ≡ true = ap (λ i. nat_lt (bits (Split i)) (bits best)) same ∙ lt-ltb (bits (Split k)) (bits best) less in
            ap (λ t. fewest_of bits (cond t (Split low) best) rest) here
            ∙ (ap (λ i. fewest_of bits (Split i) rest) same
            ∙ (stays bits (Split k) n (low + 1) (λ j m l. least j (omega arith) (omega arith))
            ∙ ap (λ t. cond t (Split k) best) (sym (lt-ltb (bits (Split k)) (bits best) less))))
        | inr more ↦
            let here : nat_lt (bits (Split low)) (bits best) ≡ false = ap (λ i. nat_lt (bits (Split i)) (bits best)) same ∙ le-ltb (bits (Split k)) (bits best) more in
            ap (λ t. fewest_of bits (cond t (Split low) best) rest) here
            ∙ (stays bits best n (low + 1) (λ j m l. omega (arith, least j (omega arith) (omega arith)))
            ∙ ap (λ t. cond t (Split k) best) (sym (le-ltb (bits (Split k)) (bits best) more)))
      ]
      | inr other ↦
          let next : low < k = omega (arith, other) in
          let later : (b : Choice) → fewest_of bits b rest ≡ cond (nat_lt (bits (Split k)) (bits b)) (Split k) b =
          λ b. fewest_split bits b k n (low + 1) (omega arith) (omega arith)
          (λ j m l. least j (omega arith) (omega arith)) (λ j m l. first j (omega arith) l) in
          elim (cases_lt (bits (Split low)) (bits best)) [
            | inl less ↦
                let k_less : bits (Split k) < bits (Split low) = first low (omega arith) next in
                ap (λ t. fewest_of bits (cond t (Split low) best) rest) (lt-ltb (bits (Split low)) (bits best) less)
                ∙ (later (Split low)
                ∙ (ap (λ t. cond t (Split k) (Split low)) (lt-ltb (bits (Split k)) (bits (Split low)) k_less)
                ∙ ap (λ t. cond t (Split k) best) (sym (lt-ltb (bits (Split k)) (bits best) (omega arith)))))
            | inr more ↦
                ap (λ t. fewest_of bits (cond t (Split low) best) rest) (le-ltb (bits (Split low)) (bits best) more)
                ∙ later best
          ]
    ]

pub better_le : (bits : Choice → ℕ) (best choice : Choice)
    → (bits (cond (nat_lt (bits choice) (bits best)) choice best) ≤ bits best) × (bits (cond (nat_lt (bits choice) (bits best)) choice best) ≤ bits choice)
better_le bits best choice = elim (cases_lt (bits choice) (bits best)) [
  | inl less ↦ rw (lt-ltb (bits choice) (bits best) less) (omega arith, omega arith)
  | inr more ↦ rw (le-ltb (bits choice) (bits best) more) (omega arith, omega arith)
]

-- the fewest are no more than those of the first, and of each that follows
pub fewest-le : (bits : Choice → ℕ) (best : Choice) (list : List Choice) → bits (fewest_of bits best list) ≤ bits best
fewest-le bits best [] = omega arith
fewest-le bits best (choice ∷ list) =
    let rest = fewest-le bits (cond (nat_lt (bits choice) (bits best)) choice best) list in
    omega (arith, rest, (better_le bits best choice).0)

pub fewest-split-le : (bits : Choice → ℕ) (best : Choice) (n low k : ℕ) → low ≤ k → k < low + n
    → bits (fewest_of bits best (map Split (range_with_len low n))) ≤ bits (Split k)
fewest-split-le bits best zero low k from to = absurd (omega arith)
fewest-split-le bits best (suc n) low k from to = elim (cases_eq low k) [
  | inl same ↦
      let first = fewest-le bits (cond (nat_lt (bits (Split low)) (bits best)) (Split low) best) (map Split (range_with_len (low + 1) n)) in
      let here : bits (Split low) ≡ bits (Split k) = ap (λ i. bits (Split i)) same in
      omega (arith, first, here, (better_le bits best (Split low)).1)
  | inr other ↦ fewest-split-le bits (cond (nat_lt (bits (Split low)) (bits best)) (Split low) best) n (low + 1) k (omega (arith, other)) (omega arith)
]
