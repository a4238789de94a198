-- What words stand for, in units of the least number above 0: the numbers rise with the words.
use Rattle.std.proofs.Common.{◌≡◌, ℕ, zero, suc, ◌+◌, ◌-◌, ◌*◌, ◌/◌, ◌%◌, ◌^◌, ◌<◌, ◌≤◌, inl, inr, cond, ◌==◌, ap, ◌∙◌, arith}
use Rattle.std.proofs.Math.Nat.{mul-le-mul_right, pow-suc}
use Rattle.std.proofs.lemmas.Nat.{pow_pos, mod_below, div-add-mod'}
use Rattle.std.proofs.lemmas.Bool.{cases_lt}
use borrow.Author.Tests.{ne_eqb}
use lib.Arith.{digits_div, digits_mod}
use lib.Ieee.{Format, prec}
use Rattle.grib_nearest.specs.Nearest.{field_unit, units_of}

pub unit_some : (f : Format) → 0 < field_unit f
unit_some f = pow_pos (prec f - 1)

units_by_fields : (f : Format) (field fraction : ℕ) → ℕ
units_by_fields f field fraction = cond (field == 0) fraction ((field_unit f + fraction) * 2 ^ (field - 1))

at_fields : (f : Format) (x t : ℕ) → t < field_unit f → units_of f (x * field_unit f + t) ≡ units_by_fields f x t
unfolding units_by_fields
at_fields f x t small = λ i. units_by_fields f (digits_div x small i) (digits_mod x small i)

pub no_field : (f : Format) (t : ℕ) → t < field_unit f → units_of f t ≡ t
unfolding units_by_fields
no_field f t small = ap (units_of f) {x = t} {y = 0 * field_unit f + t} (omega arith) ∙ at_fields f 0 t small

some_field : (f : Format) (j t : ℕ) → t < field_unit f → units_of f (suc j * field_unit f + t) ≡ (field_unit f + t) * 2 ^ j
unfolding units_by_fields
some_field f j t small =
    at_fields f (suc j) t small ∙ ap (λ b. cond b t ((field_unit f + t) * 2 ^ (suc j - 1))) (ne_eqb (suc j) 0 (omega arith))
    ∙ ap (λ k. (field_unit f + t) * 2 ^ k) {x = suc j - 1} {y = j} (omega arith)

doubled : (h k m : ℕ) → m ≡ 2 * h → (h + 0) * 2 ^ suc k ≡ m * 2 ^ k
doubled h k m e = omega (arith, ap (λ x. (h + 0) * x) (pow-suc 2 k), ap (λ x. x * 2 ^ k) e)

none_of : (k m h : ℕ) → (0 < k → h ≤ m) → m < h → k ≡ 0
none_of k m h full small = elim (cases_lt 0 k) [ inl some ↦ absurd (omega (arith, full some)) | inr n ↦ omega arith ]

-- The word of m * 2 ^ k: the field is 0 below its unit, k + 1 from there on, and k + 2 where m has one digit more.
pub units_are : (f : Format) (k m : ℕ) → m ≤ 2 * field_unit f → (0 < k → field_unit f ≤ m) → units_of f (k * field_unit f + m) ≡ m * 2 ^ k
units_are f k m few full = elim (cases_lt m (field_unit f)) [
  | inl small ↦
      let none : k ≡ 0 = none_of k m (field_unit f) full small in
      let word : k * field_unit f + m ≡ m = omega (arith, ap (λ j. j * field_unit f) none) in
      let times : m ≡ m * 2 ^ k = omega (arith, ap (λ j. m * 2 ^ j) none) in
      ap (units_of f) word ∙ no_field f m small ∙ times
  | inr large ↦ elim (cases_lt m (2 * field_unit f)) [
    | inl below ↦
        ap (units_of f) {x = k * field_unit f + m} {y = suc k * field_unit f + (m - field_unit f)} (omega arith) ∙ some_field f k (m - field_unit f) (omega arith)
        ∙ ap (λ n. n * 2 ^ k) {x = field_unit f + (m - field_unit f)} {y = m} (omega arith)
    | inr above ↦
        ap (units_of f) {x = k * field_unit f + m} {y = suc (suc k) * field_unit f + 0} (omega arith) ∙ some_field f (suc k) 0 (unit_some f)
        ∙ doubled (field_unit f) k m (omega arith)
  ]
]

-- a word as m * 2 ^ k
pub record IsFloat (f : Format) (word k m : ℕ) : Type 0 where
  pub word_is : word ≡ k * field_unit f + m
  pub few : m < 2 * field_unit f
  pub full : 0 < k → field_unit f ≤ m

pub float_of : (f : Format) (word : ℕ) → (k : ℕ) × (m : ℕ) × IsFloat f word k m
float_of f word =
    let h = field_unit f in
    let whole : word / h * h + word % h ≡ word = div-add-mod' word h in
    let rest : word % h < h = mod_below word h (unit_some f) in
    elim (cases_lt 0 (word / h)) [
      | inl some ↦ (
        word / h - 1,
        h + word % h,
        record {
          word_is = omega (arith, one_of (word / h) h some, sub_one (word / h) h some);
          few = omega arith;
          full = λ _. omega arith;
        },
      )
      | inr none ↦ (0, word, record { word_is = omega arith; few = omega (arith, ap (λ x. x * h) {x = word / h} {y = 0} (omega arith)); full = λ p. absurd (omega arith) })
    ]
  where
    one_of : (x h : ℕ) → 0 < x → h ≤ x * h
    one_of x h some = omega (arith, mul-le-mul_right h some)

    sub_one : (x h : ℕ) → 0 < x → x * h ≡ (x - 1) * h + h
    sub_one x h some = ap (λ y. y * h) {x = x} {y = x - 1 + 1} (omega arith) ∙ omega arith

-- the next word stands for more
next_above : (f : Format) (word : ℕ) → units_of f word < units_of f (word + 1)
next_above f word =
    let p = float_of f word in
    let k : ℕ = p.0 in
    let m : ℕ = p.1 in
    let is : IsFloat f word k m = p.2 in
    let here : units_of f word ≡ m * 2 ^ k = ap (units_of f) is.word_is ∙ units_are f k m (let few = is.few in omega arith) is.full in
    let there : units_of f (word + 1) ≡ (m + 1) * 2 ^ k =
    ap (units_of f) {x = word + 1} {y = k * field_unit f + (m + 1)} (let e = is.word_is in omega arith) ∙ units_are f k (m + 1) (let few = is.few in omega arith) (λ some. omega (arith, is.full some)) in
    omega (arith, here, there, pow_pos k)

above_by : (f : Format) (word more : ℕ) → units_of f word ≤ units_of f (word + more)
above_by f word zero = omega (arith, ap (units_of f) {x = word} {y = word + 0} (omega arith))
above_by f word (suc more) =
    omega (arith, above_by f word more, next_above f (word + more), ap (units_of f) {x = word + more + 1} {y = word + suc more} (omega arith))

pub units_rise : (f : Format) (a b : ℕ) → a ≤ b → units_of f a ≤ units_of f b
units_rise f a b less = omega (arith, above_by f a (b - a), ap (units_of f) {x = a + (b - a)} {y = b} (omega arith))

pub units_differ : (f : Format) (a b : ℕ) → a < b → units_of f a < units_of f b
units_differ f a b less = omega (arith, next_above f a, units_rise f (a + 1) b (omega arith))
