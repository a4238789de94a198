-- Lemmas on numbers that stay within the range, whatever their codes are.
use Rattle.grib_packing.proofs.Fields.{plain_more}
use Rattle.std.proofs.Common.{◌≡◌, ℕ, zero, suc, ◌+◌, ◌-◌, ◌*◌, ◌^◌, ◌<◌, ◌≤◌, ◌⊎◌, max, min, Bool, true, false, cond, not, ◌&&◌, eqb, List, [], ◌∷◌, ◌++◌, length, drop, map, ℤ, pos, nat_abs, ◌+ℤ◌, ◌-ℤ◌, ◌*ℤ◌, refl, sym, ap, ◌∙◌, arith, le-ltb, mul_comm, add-mul, subst, inl, inr}
use Rattle.std.proofs.Math.Nat.{mul-le-mul_left}
use Rattle.std.proofs.lemmas.Bool.{cond-true, cond-false, eq-eqb, ne_eqb}
use Rattle.std.proofs.lemmas.Int.{ints}
use Rattle.std.proofs.lemmas.List.{map-append}
use Rattle.std.proofs.lemmas.List.Sums.{sum_by-cons}
use Rattle.grib_bits.specs.Plain.{plain, plain_at}
use Rattle.grib_base.specs.declared.code.Code.{Code}
use Rattle.grib_base.specs.declared.code.Code.TheVariants.{Present, Primary, Secondary}
use Rattle.grib_base.specs.Rules.{first_place}
use Rattle.grib_base.proofs.Places.{NoneOf, first_place-none}
use Rattle.grib_packing.specs.declared.column.Point.TheVariants.{Scaled}
use Rattle.grib_packing.specs.declared.group.Group.{Group}
use Rattle.grib_packing.specs.declared.layout.Layout.{Layout}
use Rattle.grib_packing.specs.Differences.{Descriptors, NoNumber, One, Two, is_beyond}
use Rattle.grib_packing.specs.Entries.{is_out_of_range}
use Rattle.grib_packing.specs.Groups.{code_of, codes_from, marked}
use Rattle.grib_bits.proofs.WordNumbers.{number-lt}
use Rattle.grib_complex_reading.specs.Told.{After, told}
use Rattle.grib_complex_reading.specs.Range.{stretch, reach}

-- how far a number and the overall minimum m move the next difference, and all codes together
abbrev weight : ℤ → ℕ → ℕ
weight m n = nat_abs (pos n +ℤ m)

abbrev pub weights : ℤ → List Code → ℕ
weights m [] = 0
weights m (Present n ∷ codes) = weight m n + weights m codes
weights m (Primary ∷ codes) = weights m codes
weights m (Secondary ∷ codes) = weights m codes

is_within : (x : ℤ) → nat_abs x ≤ 2 ^ 60 → is_beyond x ≡ false
is_within x small = le-ltb (2 ^ 60) (nat_abs x) small

-- ---- differences of order 1

one_within : (d : Descriptors) (x : ℤ) (codes : List Code) → d.order ≡ 1 → nat_abs x + weights d.minimum codes ≤ 2 ^ 60 → NoneOf is_out_of_range (told (After d (One x)) codes)
one_within d x [] one small = tt
one_within d x (Primary ∷ codes) one small = (refl, one_within d x codes one small)
one_within d x (Secondary ∷ codes) one small = (refl, one_within d x codes one small)
one_within d x (Present n ∷ codes) one small =
    let z = (pos n +ℤ d.minimum) +ℤ x in
    let moved : nat_abs z ≤ nat_abs x + weight d.minimum n = omega (arith, ints) in
    let next = λ (b : Bool). cond b z d.second in
    subst (λ (b : Bool). NoneOf is_out_of_range (Scaled (next b) ∷ told (After d (cond b (One (next b)) (Two x (next b)))) codes)) (sym (eq-eqb d.order 1 one))
    (is_within z (omega arith), one_within d z codes one (omega arith))

-- ---- differences of order 2

two_within : (d : Descriptors) (x y : ℤ) (codes : List Code) (k : ℕ) → length codes ≤ k → nat_abs y + k * (nat_abs (y -ℤ x) + weights d.minimum codes) ≤ 2 ^ 60
    → NoneOf is_out_of_range (told (After d (Two x y)) codes)
two_within d x y [] k long small = tt
two_within d x y (Primary ∷ codes) k long small = (refl, two_within d x y codes k (omega arith) small)
two_within d x y (Secondary ∷ codes) k long small = (refl, two_within d x y codes k (omega arith) small)
two_within d x y (Present n ∷ codes) zero long small = absurd (omega arith)
two_within d x y (Present n ∷ codes) (suc k) long small =
    let z = ((pos n +ℤ d.minimum) +ℤ (pos 2 *ℤ y)) -ℤ x in
    let w = weight d.minimum n in
    let rest = weights d.minimum codes in
    let all = nat_abs (y -ℤ x) + (w + rest) in
    let step : nat_abs (z -ℤ y) ≤ nat_abs (y -ℤ x) + w = omega (arith, ints) in
    let moved : nat_abs z ≤ nat_abs y + nat_abs (z -ℤ y) = omega (arith, ints) in
    let less : k * (nat_abs (z -ℤ y) + rest) ≤ k * all = mul-le-mul_left k (omega arith) in
    let product : suc k * all ≡ all + k * all = omega (arith, add-mul k 1 all) in
    (is_within z (omega arith), two_within d y z codes k (omega arith) (omega arith))

second_within : (d : Descriptors) (x : ℤ) (codes : List Code) (k far : ℕ) → d.order ≡ 2 → nat_abs x + nat_abs d.second ≤ far → length codes ≤ k
    → far + k * (far + weights d.minimum codes) ≤ 2 ^ 60 → NoneOf is_out_of_range (told (After d (One x)) codes)
second_within d x [] k far two near long small = tt
second_within d x (Primary ∷ codes) k far two near long small = (refl, second_within d x codes k far two near (omega arith) small)
second_within d x (Secondary ∷ codes) k far two near long small = (refl, second_within d x codes k far two near (omega arith) small)
second_within d x (Present n ∷ codes) k far two near long small =
    let z = (pos n +ℤ d.minimum) +ℤ x in
    let y = d.second in
    let next = λ (b : Bool). cond b z y in
    let apart : nat_abs (y -ℤ x) ≤ far = omega (arith, ints) in
    let less : k * (nat_abs (y -ℤ x) + weights d.minimum codes) ≤ k * (far + (weight d.minimum n + weights d.minimum codes)) = mul-le-mul_left k (omega arith) in
    let not_one : d.order ≡ 1 → ⊥ = λ one. absurd (omega arith) in
    subst (λ (b : Bool). NoneOf is_out_of_range (Scaled (next b) ∷ told (After d (cond b (One (next b)) (Two x (next b)))) codes)) (sym (ne_eqb d.order 1 not_one))
    (is_within y (omega arith), two_within d x y codes k (omega arith) (omega arith))

-- ---- from the first number on

pub first_within_1 : (d : Descriptors) (codes : List Code) → d.order ≡ 1 → nat_abs d.first + weights d.minimum codes ≤ 2 ^ 60 → NoneOf is_out_of_range (told (After d NoNumber) codes)
first_within_1 d [] one small = tt
first_within_1 d (Primary ∷ codes) one small = (refl, first_within_1 d codes one small)
first_within_1 d (Secondary ∷ codes) one small = (refl, first_within_1 d codes one small)
first_within_1 d (Present n ∷ codes) one small = (is_within d.first (omega arith), one_within d d.first codes one (omega arith))

pub first_within_2 : (d : Descriptors) (codes : List Code) (k far : ℕ) → d.order ≡ 2 → nat_abs d.first + nat_abs d.second ≤ far → length codes ≤ k
    → far + k * (far + weights d.minimum codes) ≤ 2 ^ 60 → NoneOf is_out_of_range (told (After d NoNumber) codes)
first_within_2 d [] k far two near long small = tt
first_within_2 d (Primary ∷ codes) k far two near long small = (refl, first_within_2 d codes k far two near (omega arith) small)
first_within_2 d (Secondary ∷ codes) k far two near long small = (refl, first_within_2 d codes k far two near (omega arith) small)
first_within_2 d (Present n ∷ codes) k far two near long small =
    let w = weight d.minimum n in
    let less : k * (far + weights d.minimum codes) ≤ k * (far + (w + weights d.minimum codes)) = mul-le-mul_left k (omega arith) in
    (is_within d.first (omega arith), second_within d d.first codes k far two near (omega arith) (omega arith))

-- ---- the codes of groups

weights-append : (m : ℤ) (codes more : List Code) → weights m (codes ++ more) ≡ weights m codes + weights m more
weights-append m [] more = omega arith
weights-append m (Present n ∷ codes) more = omega (arith, weights-append m codes more)
weights-append m (Primary ∷ codes) more = weights-append m codes more
weights-append m (Secondary ∷ codes) more = weights-append m codes more

-- a code moves no further than its group says
abbrev IsNear : ℤ → ℕ → Code → Type 0
IsNear m most code = weights m (code ∷ []) ≤ most

between : (m : ℤ) (r top n : ℕ) → r ≤ n → n ≤ top → nat_abs (pos n +ℤ m) ≤ max (nat_abs (pos r +ℤ m)) (nat_abs (pos top +ℤ m))
between m r top n above below = omega (arith, ints)

near_cond : (m : ℤ) (most n : ℕ) (primary secondary : Bool) → weight m n ≤ most → IsNear m most (cond primary Primary (cond secondary Secondary (Present n)))
near_cond m most n true secondary near = omega arith
near_cond m most n false true near = omega arith
near_cond m most n false false near = omega arith

module _ (m : ℤ) (layout : Layout) (group : Group) where
  code_near : (n : ℕ) → n < 2 ^ group.width → IsNear m (stretch m group) (code_of layout group n)
  code_near n small =
      let r = group.reference in
      let most = stretch m group in
      let at_reference : weight m r ≤ most = between m r (r + (2 ^ group.width - 1)) r (omega arith) (omega arith) in
      let at_number : weight m (r + n) ≤ most = between m r (r + (2 ^ group.width - 1)) (r + n) (omega arith) (omega arith) in
      let empty = near_cond m most r (not (eqb layout.management 0) && eqb (r + 1) (2 ^ layout.reference_bits)) (eqb layout.management 2 && eqb (r + 2) (2 ^ layout.reference_bits)) at_reference in
      let wide = near_cond m most (r + n) (not (eqb layout.management 0) && eqb (n + 1) (2 ^ group.width)) (eqb layout.management 2 && eqb (n + 2) (2 ^ group.width)) at_number in
      either (eqb group.width 0) (marked layout.management r (2 ^ layout.reference_bits) (Present r)) (marked layout.management n (2 ^ group.width) (Present (r + n))) empty wide where
        either : (b : Bool) (x y : Code) → IsNear m (stretch m group) x → IsNear m (stretch m group) y → IsNear m (stretch m group) (cond b x y)
        either true x y near_x near_y = near_x
        either false x y near_x near_y = near_y

  group_near : (xs : List Bool) (k : ℕ) → weights m (map (code_of layout group) (plain xs group.width k)) ≤ k * stretch m group
  group_near xs zero = omega arith
  group_near xs (suc k) =
      let w = group.width in
      let code = code_of layout group in
      let last : suc k ≡ k + 1 = omega arith in
      let codes : map code (plain xs w (suc k)) ≡ map code (plain xs w k) ++ code (plain_at xs w k) ∷ [] =
      ap (λ (n : ℕ). map code (plain xs w n)) last ∙ ap (map code) (plain_more xs w k) ∙ map-append code (plain xs w k) (plain_at xs w k ∷ []) in
      let here = code_near (plain_at xs w k) (number-lt w (drop (k * w) xs)) in
      let before = group_near xs k in
      omega (arith, ap (weights m) codes, weights-append m (map code (plain xs w k)) (code (plain_at xs w k) ∷ []), here, before, add-mul k 1 (stretch m group))

pub groups_near : (m : ℤ) (layout : Layout) (groups : List Group) (xs : List Bool) → weights m (codes_from layout groups xs) ≤ reach m groups
groups_near m layout [] xs = omega arith
groups_near m layout (group ∷ groups) xs =
    let first = group_near m layout group xs group.count in
    let codes = map (code_of layout group) (plain xs group.width group.count) in
    let rest = drop (group.width * group.count) xs in
    omega (arith, weights-append m codes (codes_from layout groups rest), first, groups_near m layout groups rest, sum_by-cons (λ (g : Group). g.count * stretch m g) group groups)

-- ---- all together

-- a bound that holds for both orders
pub stays : (d : Descriptors) (codes : List Code) (k far s : ℕ) → (d.order ≡ 1) ⊎ (d.order ≡ 2) → nat_abs d.first + nat_abs d.second ≤ far → length codes ≤ k → weights d.minimum codes ≤ s
    → far + (far + s) * cond (eqb d.order 2) k 1 ≤ 2 ^ 60 → first_place is_out_of_range (told (After d NoNumber) codes) ≡ 0
stays d codes k far s orders near long small fits = first_place-none is_out_of_range (told (After d NoNumber) codes) (elim orders [
  | inl one ↦
      let other : d.order ≡ 2 → ⊥ = λ two. absurd (omega arith) in
      let times : cond (eqb d.order 2) k 1 ≡ 1 = cond-false (eqb d.order 2) k 1 (ne_eqb d.order 2 other) in
      let product : (far + s) * cond (eqb d.order 2) k 1 ≡ (far + s) * 1 = ap (λ (n : ℕ). (far + s) * n) times in
      first_within_1 d codes one (omega arith)
  | inr two ↦
      let times : cond (eqb d.order 2) k 1 ≡ k = cond-true (eqb d.order 2) k 1 (eq-eqb d.order 2 two) in
      let product : (far + s) * cond (eqb d.order 2) k 1 ≡ k * (far + s) = ap (λ (n : ℕ). (far + s) * n) times ∙ mul_comm (far + s) k in
      let less : k * (far + weights d.minimum codes) ≤ k * (far + s) = mul-le-mul_left k (omega arith) in
      first_within_2 d codes k far two near long (omega arith)
])

-- the same, of sums that stand still at the top
pub stays_by : (d : Descriptors) (codes : List Code) (k far s each more all : ℕ) → (d.order ≡ 1) ⊎ (d.order ≡ 2) → nat_abs d.first + nat_abs d.second ≤ far → length codes ≤ k → weights d.minimum codes ≤ s
    → each ≡ min (far + min s (2 ^ 64 - 1)) (2 ^ 64 - 1) → more ≡ min (each * cond (eqb d.order 2) k 1) (2 ^ 64 - 1) → all ≡ min (far + more) (2 ^ 64 - 1) → all ≤ 2 ^ 60 → 1 ≤ k
    → first_place is_out_of_range (told (After d NoNumber) codes) ≡ 0
stays_by d codes k far s each more all orders near long small is_each is_more is_all fits some =
    let times : 1 ≤ cond (eqb d.order 2) k 1 = at_least_one (eqb d.order 2) in
    let up : each * 1 ≤ each * cond (eqb d.order 2) k 1 = mul-le-mul_left each times in
    let exact : each ≡ far + s = omega arith in
    let product : each * cond (eqb d.order 2) k 1 ≡ (far + s) * cond (eqb d.order 2) k 1 = ap (λ (n : ℕ). n * cond (eqb d.order 2) k 1) exact in
    stays d codes k far s orders near long small (omega arith) where
      at_least_one : (b : Bool) → 1 ≤ cond b k 1
      at_least_one true = some
      at_least_one false = omega arith
