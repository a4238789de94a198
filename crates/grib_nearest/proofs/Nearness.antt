-- The word that is worked out is nearest to the number, and no other is.
use Rattle.std.proofs.Common.{◌≡◌, ℕ, ◌+◌, ◌-◌, ◌*◌, ◌/◌, ◌%◌, ◌^◌, ◌<◌, ◌≤◌, inl, inr, sym, ap, subst, ◌∙◌, arith}
use Rattle.std.proofs.Math.Nat.{mul-le-mul_right, mul-lt-mul_of_pos_right, mul_assoc, mul_comm}
use Rattle.std.proofs.lemmas.Nat.{mod_below, div-add-mod', pow-add}
use Rattle.std.proofs.lemmas.Bool.{cases_lt}
use lib.Ieee.{Format, prec, low}
use Rattle.core.proofs.dec2flt.Patterns.{shape}
use Rattle.grib_decimal.specs.Rounding.{nearest}
use Rattle.grib_nearest.specs.Nearest.{field_unit, infinity, units_of, distance, IsNearest, nearest_word}
use Rattle.grib_nearest.proofs.Units.{units_are, units_rise, units_differ}
use Rattle.grib_nearest.proofs.Rounds.{dropped, step, step_some, kept, kept_few, kept_full, nearest_down, nearest_up, nearest_tie}

-- Of three numbers that rise, the one in the middle is nearer than the outer ones where these are as near.
middle : (exact a b c : ℕ) → a < b → b < c → (exact - a) + (a - exact) ≡ (exact - c) + (c - exact) → (exact - b) + (b - exact) < (exact - a) + (a - exact)
middle exact a b c less less' same = omega arith

-- of two words of one number that are nearest, the first is not below the second
apart : (f : Format) (n d a b : ℕ) → 0 < d → IsNearest f n d a → IsNearest f n d b → a < b → ⊥
apart f n d a b some left right less =
    let same : distance f n d b ≡ distance f n d a = omega (arith, left.nearest b right.within, right.nearest a left.within) in
    let even : a % 2 ≡ 0 = left.even b right.within same (λ e. omega arith) in
    let even' : b % 2 ≡ 0 = right.even a left.within (sym same) (λ e. omega arith) in
    let two : a + 1 < b = omega arith in
    let within : a + 1 ≤ infinity f = let w = right.within in omega arith in
    let low' = mul-lt-mul_of_pos_right (units_differ f a (a + 1) (omega arith)) some in
    let high = mul-lt-mul_of_pos_right (units_differ f (a + 1) b two) some in
    let nearer = middle (n * 2 ^ low f) (units_of f a * d) (units_of f (a + 1) * d) (units_of f b * d) low' high (sym same) in
    omega (arith, nearer, left.nearest (a + 1) within)

pub only_one : (f : Format) (n d a b : ℕ) → 0 < d → IsNearest f n d a → IsNearest f n d b → a ≡ b
only_one f n d a b some left right = elim (cases_lt a b) [
  | inl less ↦ absurd (apart f n d a b some left right less)
  | inr more ↦ elim (cases_lt b a) [ inl less ↦ absurd (apart f n d b a some right left less) | inr same ↦ omega arith ]
]

-- the greatest word whose number is not above n / d, as if the numbers went on above infinity
abbrev pub floor_word : Format → ℕ → ℕ → ℕ
floor_word f n d = dropped f n d * field_unit f + kept f n d

times : (m k d : ℕ) → m * 2 ^ k * d ≡ m * (d * 2 ^ k)
times m k d = omega (arith, mul_assoc m (2 ^ k) d, mul_comm (2 ^ k) d)

floor_units : (f : Format) (n d : ℕ) → units_of f (floor_word f n d) * d ≡ kept f n d * step f n d
floor_units f n d =
    ap (λ x. x * d) (units_are f (dropped f n d) (kept f n d) (let few = kept_few f n d in omega arith) (kept_full f n d)) ∙ times (kept f n d) (dropped f n d) d

next_units : (f : Format) (n d : ℕ) → units_of f (floor_word f n d + 1) * d ≡ (kept f n d + 1) * step f n d
next_units f n d =
    ap (λ x. x * d) (ap (units_of f) {x = floor_word f n d + 1} {y = dropped f n d * field_unit f + (kept f n d + 1)} (omega arith) ∙ units_are f (dropped f n d) (kept f n d + 1) (let few = kept_few f n d in omega arith) (λ drops. omega (arith, kept_full f n d drops))) ∙ times (kept f n d + 1) (dropped f n d) d

-- the parts of the number, for which the names are short
record Parts (f : Format) (n d rest step' : ℕ) : Type 0 where
  some : 0 < d
  step_is : 0 < step'
  below : rest < step'
  from : n * 2 ^ low f ≡ units_of f (floor_word f n d) * d + rest
  next : units_of f (floor_word f n d + 1) * d ≡ units_of f (floor_word f n d) * d + step'

parts : (f : Format) (n d : ℕ) → 0 < d → Parts f n d (n * 2 ^ low f % step f n d) (step f n d)
parts f n d some = record {
  some = some;
  step_is = step_some f n d some;
  below = mod_below (n * 2 ^ low f) (step f n d) (step_some f n d some);
  from = omega (arith, floor_units f n d, div-add-mod' (n * 2 ^ low f) (step f n d));
  next = omega (arith, floor_units f n d, next_units f n d);
}

-- how far each word is: by `rest` below the number, by what is missing to the step above it
data Side (f : Format) (n d rest step' other : ℕ) : Type 0 where
  lower : other < floor_word f n d → rest < distance f n d other → Side f n d rest step' other
  floor : other ≡ floor_word f n d → distance f n d other ≡ rest → Side f n d rest step' other
  next : other ≡ floor_word f n d + 1 → distance f n d other ≡ step' - rest → Side f n d rest step' other
  higher : floor_word f n d + 1 < other → step' - rest < distance f n d other → Side f n d rest step' other

module _ (f : Format) (n d rest step' : ℕ) (is : Parts f n d rest step') where
  side : (other : ℕ) → Side f n d rest step' other
  side other =
      let word = floor_word f n d in
      let below = is.below in
      let from = is.from in
      let above = is.next in
      elim (cases_lt other word) [
        | inl less ↦ lower less (omega (arith, mul-lt-mul_of_pos_right (units_differ f other word less) is.some))
        | inr not_less ↦ elim (cases_lt word other) [
          | inl more ↦ elim (cases_lt (word + 1) other) [
            | inl higher' ↦ higher higher' (omega (arith, mul-lt-mul_of_pos_right (units_differ f (word + 1) other higher') is.some))
            | inr not_higher ↦
                let e : other ≡ word + 1 = omega arith in
                next e (omega (arith, ap (λ v. units_of f v * d) e))
          ]
          | inr not_more ↦
              let e : other ≡ word = omega arith in
              floor e (omega (arith, ap (λ v. units_of f v * d) e))
        ]
      ]

  floor_far : distance f n d (floor_word f n d) ≡ rest
  floor_far = let below = is.below in let from = is.from in omega arith

  next_far : distance f n d (floor_word f n d + 1) ≡ step' - rest
  next_far = let below = is.below in let from = is.from in let above = is.next in omega arith

  down : 2 * rest < step' → floor_word f n d ≤ infinity f → IsNearest f n d (floor_word f n d)
  down less within = record {
    within = within;
    nearest = λ other _. elim (side other) [
      | lower _ far ↦ omega (arith, floor_far)
      | floor _ far ↦ omega (arith, floor_far)
      | next _ far ↦ omega (arith, floor_far)
      | higher _ far ↦ omega (arith, floor_far)
    ];
    even = λ other _ same other'. elim (side other) [
      | lower _ far ↦ absurd (omega (arith, floor_far))
      | floor e far ↦ absurd (other' e)
      | next _ far ↦ absurd (omega (arith, floor_far))
      | higher _ far ↦ absurd (omega (arith, floor_far))
    ];
  }

  up : step' < 2 * rest → floor_word f n d + 1 ≤ infinity f → IsNearest f n d (floor_word f n d + 1)
  up more within = record {
    within = within;
    nearest = λ other _. elim (side other) [
      | lower _ far ↦ omega (arith, next_far)
      | floor _ far ↦ omega (arith, next_far)
      | next _ far ↦ omega (arith, next_far)
      | higher _ far ↦ omega (arith, next_far)
    ];
    even = λ other _ same other'. let below = is.below in elim (side other) [
      | lower _ far ↦ absurd (omega (arith, next_far))
      | floor _ far ↦ absurd (omega (arith, next_far))
      | next e far ↦ absurd (other' e)
      | higher _ far ↦ absurd (omega (arith, next_far))
    ];
  }

  -- both are as near
  either : (word : ℕ) → 2 * rest ≡ step' → distance f n d word ≡ rest → word % 2 ≡ 0 → word ≤ infinity f → IsNearest f n d word
  either word half far even within = record {
    within = within;
    nearest = λ other _. elim (side other) [
      | lower _ far' ↦ omega arith
      | floor _ far' ↦ omega arith
      | next _ far' ↦ omega arith
      | higher _ far' ↦ omega arith
    ];
    even = λ other _ same other'. even;
  }

  -- the number is not below where infinity stands
  at_infinity : infinity f ≤ floor_word f n d → IsNearest f n d (infinity f)
  at_infinity over = record {
    within = omega arith;
    nearest = λ other within. omega (arith, mul-le-mul_right d (units_rise f other (infinity f) within), reached);
    even = λ other within same other'. absurd (omega (arith, mul-lt-mul_of_pos_right (units_differ f other (infinity f) (omega arith)) is.some, reached));
  }
    where
      reached : units_of f (infinity f) * d ≤ n * 2 ^ low f
      reached = let from = is.from in omega (arith, mul-le-mul_right d (units_rise f (infinity f) (floor_word f n d) over))

even_unit : (f : Format) → (h : ℕ) × (field_unit f ≡ 2 * h)
even_unit f =
    let s = shape f in
    let digits = s.digits in
    (2 ^ (prec f - 2), ap (λ k. 2 ^ k) {x = prec f - 1} {y = 1 + (prec f - 2)} (omega arith) ∙ pow-add 2 1 (prec f - 2))

-- the parity of the word is that of what is kept
parity : (f : Format) (k m : ℕ) → m % 2 ≡ 0 → (k * field_unit f + m) % 2 ≡ 0
parity f k m even =
    let h = even_unit f in
    let twice : k * field_unit f ≡ 2 * (k * h.0) = ap (λ u. k * u) h.1 ∙ omega arith in
    omega arith

abbrev rounded_word : Format → ℕ → ℕ → ℕ → ℕ
rounded_word f n d q = dropped f n d * field_unit f + q

module _ (f : Format) (n d rest step' q : ℕ) (is : Parts f n d rest step') (within : rounded_word f n d q ≤ infinity f) where
  chosen_down : 2 * rest < step' → q ≡ kept f n d → IsNearest f n d (rounded_word f n d q)
  chosen_down less e =
      let word : floor_word f n d ≡ rounded_word f n d q = omega arith in
      subst (IsNearest f n d) word (down f n d rest step' is less (omega arith))

  chosen_up : step' < 2 * rest → q ≡ kept f n d + 1 → IsNearest f n d (rounded_word f n d q)
  chosen_up more e =
      let word : floor_word f n d + 1 ≡ rounded_word f n d q = omega arith in
      subst (IsNearest f n d) word (up f n d rest step' is more (omega arith))

  chosen_tie : 2 * rest ≡ step' → q ≡ kept f n d + kept f n d % 2 → IsNearest f n d (rounded_word f n d q)
  chosen_tie half e =
      let even : rounded_word f n d q % 2 ≡ 0 = parity f (dropped f n d) q (omega arith) in
      let far : distance f n d (rounded_word f n d q) ≡ rest =
      elim (cases_lt 0 (kept f n d % 2)) [
        | inl odd ↦
            let word : rounded_word f n d q ≡ floor_word f n d + 1 = omega arith in
            ap (distance f n d) word ∙ next_far f n d rest step' is ∙ omega arith
        | inr none ↦
            let word : rounded_word f n d q ≡ floor_word f n d = omega arith in
            ap (distance f n d) word ∙ floor_far f n d rest step' is
      ] in
      either f n d rest step' is (rounded_word f n d q) half far even within

rounded : (f : Format) (n d : ℕ) → 0 < d → (word : ℕ) → word ≡ rounded_word f n d (nearest (n * 2 ^ low f) (step f n d)) → word ≤ infinity f → IsNearest f n d word
rounded f n d some word e within =
    let exact = n * 2 ^ low f in
    let u = step f n d in
    let p = parts f n d some in
    let q = nearest exact u in
    let within' : rounded_word f n d q ≤ infinity f = omega arith in
    subst (IsNearest f n d) (sym e) (elim (cases_lt (2 * (exact % u)) u) [
      | inl less ↦ chosen_down f n d (exact % u) u q p within' less (nearest_down exact u less)
      | inr not_less ↦ elim (cases_lt u (2 * (exact % u))) [
        | inl more ↦ chosen_up f n d (exact % u) u q p within' more (nearest_up exact u more)
        | inr not_more ↦
            let half : 2 * (exact % u) ≡ u = omega arith in
            chosen_tie f n d (exact % u) u q p within' half (nearest_tie exact u half)
      ]
    ])

next_at_most : (n d : ℕ) → nearest n d ≤ n / d + 1
next_at_most n d = elim (cases_lt (2 * (n % d)) d) [
  | inl less ↦ omega (arith, nearest_down n d less)
  | inr not_less ↦ elim (cases_lt d (2 * (n % d))) [
    | inl more ↦ omega (arith, nearest_up n d more)
    | inr not_more ↦ let half : 2 * (n % d) ≡ d = omega arith in omega (arith, nearest_tie n d half)
  ]
]

pub is_nearest : (f : Format) (n d : ℕ) → 0 < d → IsNearest f n d (nearest_word f n d)
unfolding nearest_word
is_nearest f n d some =
    let word = rounded_word f n d (nearest (n * 2 ^ low f) (step f n d)) in
    elim (cases_lt (infinity f) word) [
      | inl over ↦
          let e : infinity f ≡ nearest_word f n d = omega arith in
          subst (IsNearest f n d) e (at_infinity f n d (n * 2 ^ low f % step f n d) (step f n d) (parts f n d some) (omega (arith, next_at_most (n * 2 ^ low f) (step f n d))))
      | inr within ↦ rounded f n d some (nearest_word f n d) (omega arith) (omega arith)
    ]
