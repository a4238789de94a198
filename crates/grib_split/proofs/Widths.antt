-- Widths of runs, and what is kept of runs, with one code more.
use Rattle.std.proofs.Common.{◌≡◌, ℕ, ◌+◌, ◌-◌, ◌^◌, ◌<◌, ◌≤◌, ◌⊎◌, inl, inr, min, max, Bool, true, false, cond, List, [], ◌∷◌, length, refl, sym, ap, ap₂, ◌∙◌, arith, eq-eqb, ne_eqb, nat_eq}
use Rattle.std.specs.List.{list_any}
use Rattle.grib_base.specs.declared.code.Code.{Code}
use Rattle.grib_base.specs.declared.code.Code.TheVariants.{Present, Primary, Secondary}
use Rattle.grib_packing.specs.Groupings.{width_of, digits, greatest, smallest, present_codes, is_present, is_primary, is_secondary}
use Rattle.std.proofs.Math.Nat.{pow-le-pow_right}
use Rattle.grib_packing.proofs.Digits.{digits-is}
use Rattle.grib_codes.proofs.Spans.{smallest-more, smallest-one, some_present, none_present, smallest_at_most, width_by, width_of-by}
use Rattle.grib_packing.proofs.Digits.{digits-most, digits-mono}
use Rattle.grib_split.specs.Runs.{Tells, Wide}

-- ---- what is kept of a run

pub with_number : (present : Bool) (low n : ℕ) (numbers : List ℕ) → n ≤ 4294967295
    → (present ≡ true → 0 < length numbers) → (present ≡ false → length numbers ≡ 0)
    → low ≡ cond present (smallest numbers) 4294967295 → min low n ≡ smallest (n ∷ numbers)
with_number true low n numbers small some none is = omega (arith, is, smallest-more n numbers (some refl))
with_number false low n numbers small some none is = omega (arith, is, smallest-one n numbers (none refl))

pub tells_number : (low high p s n : ℕ) (run : List Code) → n ≤ 4294967295 → Tells low high p s run
    → Tells (min low n) (max high n) p s (Present n ∷ run)
tells_number low high p s n run small t = record {
  least = with_number (list_any is_present run) low n (present_codes run) small (some_present run) (none_present run) t.least;
  most = omega (arith, t.most);
  primary = t.primary;
  secondary = t.secondary;
}

pub tells_primary : (low high p s : ℕ) (run : List Code) → Tells low high p s run → Tells low high 1 s (Primary ∷ run)
tells_primary low high p s run t = record { least = t.least; most = t.most; primary = refl; secondary = t.secondary }

pub tells_secondary : (low high p s : ℕ) (run : List Code) → Tells low high p s run → Tells low high p 1 (Secondary ∷ run)
tells_secondary low high p s run t = record { least = t.least; most = t.most; primary = t.primary; secondary = refl }

-- ---- widths that stay

digits_same : (m n w : ℕ) → m ≤ n → n < 2 ^ 32 → w ≡ digits m → n < 2 ^ w → w ≡ digits n
digits_same m n w below small is holds = omega (arith, is, digits-mono m n below small, digits-most n w small holds)

same_all : (q r : Bool) (low high low' high' k w : ℕ) → low ≤ high → low' ≤ low → high ≤ high' → high' - low' ≡ 0
    → w ≡ width_by true q r low high k → w ≡ width_by true q r low' high' k
same_all q r low high low' high' k w order lower higher none is =
    let a : low ≡ low' = omega arith in
    let b : high ≡ high' = omega arith in
    is ∙ ap₂ (λ x y. width_by true q r x y k) a b

same_wide : (q r : Bool) (low high low' high' k w limit : ℕ) → low ≤ high → low' ≤ low → high ≤ high' → high' + k < 2 ^ 32
    → high' - low' < limit → limit + k ≤ 2 ^ w → w ≡ width_by true q r low high k → w ≡ width_by true q r low' high' k
same_wide true r low high low' high' k w limit order lower higher small less room is =
    digits_same (high - low + k) (high' - low' + k) w (omega arith) (omega arith) is (omega arith)
same_wide false true low high low' high' k w limit order lower higher small less room is =
    digits_same (high - low + k) (high' - low' + k) w (omega arith) (omega arith) is (omega arith)
same_wide false false low high low' high' k w limit order lower higher small less room is = elim (one_or_more (high - low)) [
  | inl none ↦
      let same : high ≡ low = omega (arith, none) in
      let zero_wide : w ≡ 0 = is ∙ rw (eq-eqb high low same) refl in
      let one : 2 ^ w ≡ 1 = ap (λ n. 2 ^ n) zero_wide in
      same_all false false low high low' high' k w order lower higher (omega (arith, one)) is
  | inr some ↦
      let wide : w ≡ digits (high - low + k) = is ∙ rw (ne_eqb high low (λ e. omega (arith, some, e))) refl in
      digits_same (high - low + k) (high' - low' + k) w (omega arith) (omega arith) wide (omega arith)
      ∙ sym (let e : width_by true false false low' high' k ≡ digits (high' - low' + k) = rw (ne_eqb high' low' (λ e. omega (arith, some, e))) refl in e)
]
  where
    one_or_more : (n : ℕ) → (n ≡ 0) ⊎ (1 ≤ n)
    one_or_more n = grind arith

pub same_width : (q r : Bool) (low high low' high' k w limit : ℕ) → low ≤ high → low' ≤ low → high ≤ high' → high' + k < 2 ^ 32
    → high' - low' < limit → (limit ≤ 1) ⊎ (limit + k ≤ 2 ^ w) → w ≡ width_by true q r low high k → w ≡ width_by true q r low' high' k
same_width q r low high low' high' k w limit order lower higher small less (inl few) is =
    same_all q r low high low' high' k w order lower higher (omega arith) is
same_width q r low high low' high' k w limit order lower higher small less (inr room) is =
    same_wide q r low high low' high' k w limit order lower higher small less room is

-- a run of one number has no width
one_number : (k n : ℕ) → width_of k (Present n ∷ []) ≡ 0
one_number k n = rw (eq-eqb (max n 0) n (omega arith)) refl

wide_first : (k bits limit n : ℕ) → Wide k bits limit [] → Wide k bits limit (Present n ∷ [])
wide_first k bits limit n w = record {
  is = w.is ∙ sym (one_number k n);
  few = w.few;
  none = λ e some. cc;
  stays = w.stays;
}

none_left : (k bits limit : ℕ) (run : List Code) → Wide k bits limit run → 0 < limit → 0 < length run → list_any is_present run ≡ false → ⊥
none_left k bits limit run w some long e = omega (arith, w.none e long)

true_or_false : (b : Bool) → (b ≡ true) ⊎ (b ≡ false)
true_or_false true = inl refl
true_or_false false = inr refl

wide_next : (k bits limit low high p s n : ℕ) (run : List Code) → Tells low high p s run → n + k < 2 ^ 32 → high + k < 2 ^ 32
    → max high n - min low n < limit → list_any is_present run ≡ true → Wide k bits limit run → Wide k bits limit (Present n ∷ run)
wide_next k bits limit low high p s n run t small below less some w =
    let numbers = present_codes run in
    let low_is : low ≡ smallest numbers = t.least ∙ rw some refl in
    let more = smallest-more n numbers (some_present run some) in
    let is : bits ≡ width_by true (list_any is_primary run) (list_any is_secondary run) (smallest numbers) (greatest numbers) k =
    w.is ∙ (width_of-by k run ∙ ap (λ b. width_by b (list_any is_primary run) (list_any is_secondary run) (smallest numbers) (greatest numbers) k) some) in
    record {
      is = same_width (list_any is_primary run) (list_any is_secondary run) (smallest numbers) (greatest numbers) (smallest (n ∷ numbers)) (max n (greatest numbers)) k bits limit
          (smallest_at_most numbers) (omega (arith, more)) (omega arith) (omega (arith, t.most)) (omega (arith, more, low_is, t.most, less)) w.stays is
          ∙ sym (width_of-by k (Present n ∷ run));
      few = w.few;
      none = λ e long. cc;
      stays = w.stays;
    }

pub wide_number : (k bits limit low high p s n : ℕ) (run : List Code) → Tells low high p s run → n + k < 2 ^ 32 → high + k < 2 ^ 32
    → max high n - min low n < limit → Wide k bits limit run → Wide k bits limit (Present n ∷ run)
wide_number k bits limit low high p s n [] t small below less w = wide_first k bits limit n w
wide_number k bits limit low high p s n (code ∷ codes) t small below less w = elim (true_or_false (list_any is_present (code ∷ codes))) [
  | inl some ↦ wide_next k bits limit low high p s n (code ∷ codes) t small below less some w
  | inr none ↦ absurd (none_left k bits limit (code ∷ codes) w (omega (arith, less)) (omega arith) none)
]

none_greatest : (run : List Code) → list_any is_present run ≡ false → greatest (present_codes run) ≡ 0
none_greatest [] e = refl
none_greatest (Present n ∷ run) e = cc
none_greatest (Primary ∷ run) e = none_greatest run e
none_greatest (Secondary ∷ run) e = none_greatest run e

-- a number between the least and the greatest one changes neither
covered_some : (k bits limit low high p s n : ℕ) (run : List Code) → Tells low high p s run → low ≤ n → n ≤ high
    → list_any is_present run ≡ true → Wide k bits limit run → Wide k bits limit (Present n ∷ run)
covered_some k bits limit low high p s n run t lower higher some w =
    let numbers = present_codes run in
    let q = list_any is_primary run in
    let r = list_any is_secondary run in
    let low_is : low ≡ smallest numbers = t.least ∙ rw some refl in
    let more = smallest-more n numbers (some_present run some) in
    let least_stays : smallest numbers ≡ smallest (n ∷ numbers) = omega (arith, more, low_is, lower) in
    let greatest_stays : greatest numbers ≡ max n (greatest numbers) = omega (arith, t.most, higher) in
    record {
      is = w.is ∙ (width_of-by k run
          ∙ (ap (λ b. width_by b q r (smallest numbers) (greatest numbers) k) some
          ∙ (ap₂ (λ x y. width_by true q r x y k) least_stays greatest_stays
          ∙ sym (width_of-by k (Present n ∷ run)))));
      few = w.few;
      none = λ e long. cc;
      stays = w.stays;
    }

pub wide_covered : (k bits limit low high p s n : ℕ) (run : List Code) → Tells low high p s run → n + k < 2 ^ 32 → low ≤ n → n ≤ high
    → Wide k bits limit run → Wide k bits limit (Present n ∷ run)
wide_covered k bits limit low high p s n run t below lower higher w = elim (true_or_false (list_any is_present run)) [
  | inl some ↦ covered_some k bits limit low high p s n run t lower higher some w
  | inr none ↦ absurd (
      let low_is : low ≡ 4294967295 = t.least ∙ rw none refl in
      let high_is : high ≡ 0 = t.most ∙ none_greatest run none in
      omega (arith, low_is, high_is, lower, higher)
      )
]

long_where : (f : Code → Bool) (run : List Code) → list_any f run ≡ true → 0 < length run
long_where f [] e = cc
long_where f (code ∷ run) e = omega arith

has_mark : (b : Bool) (mark : ℕ) → mark ≡ cond b 1 0 → 0 < mark → b ≡ true
has_mark true mark is some = refl
has_mark false mark is some = absurd (omega (arith, is, some))

pub wide_primary : (k bits limit low high p s : ℕ) (run : List Code) → Tells low high p s run → 0 < p
    → Wide k bits limit run → Wide k bits limit (Primary ∷ run)
wide_primary k bits limit low high p s run t some w =
    let marked : list_any is_primary run ≡ true = has_mark (list_any is_primary run) p t.primary some in
    let numbers = present_codes run in
    record {
      is = w.is ∙ (width_of-by k run
          ∙ (ap (λ b. width_by (list_any is_present run) b (list_any is_secondary run) (smallest numbers) (greatest numbers) k) marked
          ∙ sym (width_of-by k (Primary ∷ run))));
      few = w.few;
      none = λ e long. w.none e (long_where is_primary run marked);
      stays = w.stays;
    }

pub wide_secondary : (k bits limit low high p s : ℕ) (run : List Code) → Tells low high p s run → 0 < s
    → Wide k bits limit run → Wide k bits limit (Secondary ∷ run)
wide_secondary k bits limit low high p s run t some w =
    let marked : list_any is_secondary run ≡ true = has_mark (list_any is_secondary run) s t.secondary some in
    let numbers = present_codes run in
    record {
      is = w.is ∙ (width_of-by k run
          ∙ (ap (λ b. width_by (list_any is_present run) (list_any is_primary run) b (smallest numbers) (greatest numbers) k) marked
          ∙ sym (width_of-by k (Secondary ∷ run))));
      few = w.few;
      none = λ e long. w.none e (long_where is_secondary run marked);
      stays = w.stays;
    }

-- ---- the width by what is kept

wide_by : (present q r : Bool) (low high p s k bits limit sm gr : ℕ) → low ≡ cond present sm 4294967295 → high ≡ gr → (present ≡ false → gr ≡ 0)
    → sm ≤ gr → p ≡ cond q 1 0 → s ≡ cond r 1 0 → high < low → bits ≡ min (min p s) 1 → bits ≡ width_by present q r sm gr k
wide_by true q r low high p s k bits limit sm gr a b none order d e less is = absurd (omega arith)
wide_by false true true low high p s k bits limit sm gr a b none order d e less is = omega (arith, d, e, is)
wide_by false true false low high p s k bits limit sm gr a b none order d e less is = omega (arith, d, e, is)
wide_by false false r low high p s k bits limit sm gr a b none order d e less is = omega (arith, d, is)

one_by : (present q r : Bool) (low high p s k sm gr : ℕ) → low ≡ cond present sm 4294967295 → high ≡ gr → (present ≡ false → gr ≡ 0)
    → p ≡ cond q 1 0 → s ≡ cond r 1 0 → low ≤ high → max (high - low) (max p s) ≡ 0 → 0 ≡ width_by present q r sm gr k
one_by true true r low high p s k sm gr a b none d e order is = absurd (omega (arith, d, is))
one_by true false true low high p s k sm gr a b none d e order is = absurd (omega (arith, e, is))
one_by true false false low high p s k sm gr a b none d e order is = rw (eq-eqb gr sm (omega (arith, a, b, is, order))) refl
one_by false q r low high p s k sm gr a b none d e order is = absurd (omega (arith, a, b, none refl, order))

many_by : (present q r : Bool) (low high p s k sm gr : ℕ) → low ≡ cond present sm 4294967295 → high ≡ gr → (present ≡ false → gr ≡ 0)
    → p ≡ cond q 1 0 → s ≡ cond r 1 0 → low ≤ high → (max (high - low) (max p s) ≡ 0 → ⊥) → digits (high - low + k) ≡ width_by present q r sm gr k
many_by true true r low high p s k sm gr a b none d e order more = ap₂ (λ x y. digits (x - y + k)) b a
many_by true false true low high p s k sm gr a b none d e order more = ap₂ (λ x y. digits (x - y + k)) b a
many_by true false false low high p s k sm gr a b none d e order more =
    let other : gr ≡ sm → ⊥ = λ same. more (omega (arith, a, b, d, e, same)) in
    let is : width_by true false false sm gr k ≡ digits (gr - sm + k) = rw (ne_eqb gr sm other) refl in
    ap₂ (λ x y. digits (x - y + k)) b a ∙ sym is
many_by false q r low high p s k sm gr a b none d e order more = absurd (omega (arith, a, b, none refl, order))

pub wide_marks : (low high p s k bits : ℕ) (run : List Code) → Tells low high p s run → high < low → bits ≡ min (min p s) 1 → bits ≤ 32 → Wide k bits 0 run
wide_marks low high p s k bits run t less is few = record {
  is = wide_by (list_any is_present run) (list_any is_primary run) (list_any is_secondary run) low high p s k bits 0 (smallest (present_codes run)) (greatest (present_codes run))
      t.least t.most (none_greatest run) (smallest_at_most (present_codes run)) t.primary t.secondary less is ∙ sym (width_of-by k run);
  few = few;
  none = λ e long. refl;
  stays = inl (omega arith);
}

with_numbers : (present : Bool) (low high sm gr : ℕ) → low ≡ cond present sm 4294967295 → high ≡ gr → (present ≡ false → gr ≡ 0) → low ≤ high → present ≡ false → ⊥
with_numbers present low high sm gr a b none order e = let z = none e in let l : low ≡ 4294967295 = a ∙ rw e refl in omega (arith, b, z, l, order)

pub wide_one : (low high p s k : ℕ) (run : List Code) → Tells low high p s run → low ≤ high → max (high - low) (max p s) ≡ 0 → Wide k 0 1 run
wide_one low high p s k run t order is = record {
  is = one_by (list_any is_present run) (list_any is_primary run) (list_any is_secondary run) low high p s k (smallest (present_codes run)) (greatest (present_codes run))
      t.least t.most (none_greatest run) t.primary t.secondary order is ∙ sym (width_of-by k run);
  few = omega arith;
  none = λ e long. absurd (with_numbers (list_any is_present run) low high (smallest (present_codes run)) (greatest (present_codes run)) t.least t.most (none_greatest run) order e);
  stays = inl (omega arith);
}

pub wide_many : (low high p s k bits limit : ℕ) (run : List Code) → Tells low high p s run → low ≤ high → (max (high - low) (max p s) ≡ 0 → ⊥)
    → bits ≡ digits (high - low + k) → bits ≤ 32 → (limit ≤ 1) ⊎ (limit + k ≤ 2 ^ bits) → Wide k bits limit run
wide_many low high p s k bits limit run t order more is few stays = record {
  is = is ∙ (many_by (list_any is_present run) (list_any is_primary run) (list_any is_secondary run) low high p s k (smallest (present_codes run)) (greatest (present_codes run))
      t.least t.most (none_greatest run) t.primary t.secondary order more ∙ sym (width_of-by k run));
  few = few;
  none = λ e long. absurd (with_numbers (list_any is_present run) low high (smallest (present_codes run)) (greatest (present_codes run)) t.least t.most (none_greatest run) order e);
  stays = stays;
}

-- ---- a width that is found anew, where no code is reserved

cond_most : (b : Bool) (n : ℕ) → cond b 0 n ≤ n
cond_most true n = omega arith
cond_most false n = omega arith

-- that of numbers is at most the bits of their difference
many_most : (q r : Bool) (low high k : ℕ) → k ≡ 0 → width_by true q r low high k ≤ digits (high - low)
many_most true r low high k none = let e : digits (high - low + k) ≡ digits (high - low) = ap digits (omega arith) in omega (arith, e)
many_most false true low high k none = let e : digits (high - low + k) ≡ digits (high - low) = ap digits (omega arith) in omega (arith, e)
many_most false false low high k none =
    let e : digits (high - low + k) ≡ digits (high - low) = ap digits (omega arith) in
    omega (arith, e, cond_most (nat_eq high low) (digits (high - low + k)))

-- and no less
many_alone : (q r : Bool) (low high k : ℕ) → k ≡ 0 → low ≤ high → digits (high - low) ≡ width_by true q r low high k
many_alone true r low high k none order = ap digits (omega arith)
many_alone false true low high k none order = ap digits (omega arith)
many_alone false false low high k none order = elim (one_or_more (high - low)) [
  | inl one ↦
      let same : high ≡ low = omega (arith, one, order) in
      let zero_wide : digits (high - low) ≡ 0 = ap digits one ∙ digits-is 0 0 (omega arith) (omega arith) (λ some. absurd (omega (arith, some))) in
      zero_wide ∙ sym (let e : width_by true false false low high k ≡ 0 = rw (eq-eqb high low same) refl in e)
  | inr some ↦
      let wide : width_by true false false low high k ≡ digits (high - low + k) = rw (ne_eqb high low (λ e. omega (arith, some, e))) refl in
      ap digits (omega arith) ∙ sym wide
]
  where
    one_or_more : (n : ℕ) → (n ≡ 0) ⊎ (1 ≤ n)
    one_or_more n = grind arith

-- the limit of a run holds with one number more
limit_next : (k bits limit low high p s n w : ℕ) (run : List Code) → Tells low high p s run → n + k < 2 ^ 32 → high + k < 2 ^ 32
    → list_any is_present run ≡ true → k ≡ 0 → w ≡ digits (max high n - min low n) → limit + k ≤ 2 ^ bits → Wide k bits limit run → limit + k ≤ 2 ^ w
limit_next k bits limit low high p s n w run t small below some none is room wide =
    let numbers = present_codes run in
    let low_is : low ≡ smallest numbers = t.least ∙ rw some refl in
    let bits_are : bits ≡ width_by true (list_any is_primary run) (list_any is_secondary run) (smallest numbers) (greatest numbers) k =
    wide.is ∙ (width_of-by k run ∙ ap (λ b. width_by b (list_any is_primary run) (list_any is_secondary run) (smallest numbers) (greatest numbers) k) some) in
    let most = many_most (list_any is_primary run) (list_any is_secondary run) (smallest numbers) (greatest numbers) k none in
    let more = digits-mono (greatest numbers - smallest numbers) (max high n - min low n) (omega (arith, t.most, low_is, smallest_at_most numbers)) (omega (arith, small, below)) in
    let grows : 2 ^ bits ≤ 2 ^ w = pow-le-pow_right (omega arith) (omega (arith, bits_are, most, more, is)) in
    omega (arith, room, grows)

limit_holds : (k bits limit low high p s n w : ℕ) (run : List Code) → Tells low high p s run → n + k < 2 ^ 32 → high + k < 2 ^ 32
    → k ≡ 0 → w ≡ digits (max high n - min low n) → Wide k bits limit run → (limit ≤ 1) ⊎ (limit + k ≤ 2 ^ bits) → (limit ≤ 1) ⊎ (limit + k ≤ 2 ^ w)
limit_holds k bits limit low high p s n w run t small below none is wide (inl few) = inl few
limit_holds k bits limit low high p s n w [] t small below none is wide (inr room) = let one : 2 ^ bits ≡ 1 = ap (λ b. 2 ^ b) wide.is in inl (omega (arith, one, room))
limit_holds k bits limit low high p s n w (code ∷ codes) t small below none is wide (inr room) = elim (true_or_false (list_any is_present (code ∷ codes))) [
  | inl some ↦ inr (limit_next k bits limit low high p s n w (code ∷ codes) t small below some none is room wide)
  | inr marks ↦ inl (omega (arith, wide.none marks (omega arith)))
]

pub wide_anew : (k bits limit low high p s n w : ℕ) (run : List Code) → Tells low high p s run → n + k < 2 ^ 32 → high + k < 2 ^ 32
    → k ≡ 0 → w ≡ digits (max high n - min low n) → Wide k bits limit run → Wide k w limit (Present n ∷ run)
wide_anew k bits limit low high p s n w run t small below none is wide =
    let now = tells_number low high p s n run (omega (arith, small)) t in
    let numbers = n ∷ present_codes run in
    record {
      is = is
          ∙ (ap₂ (λ x y. digits (x - y)) now.most now.least
          ∙ (many_alone (list_any is_primary run) (list_any is_secondary run) (smallest numbers) (greatest numbers) k none (smallest_at_most numbers)
          ∙ sym (width_of-by k (Present n ∷ run))));
      few = omega (arith, is, digits-most (max high n - min low n) 32 (omega (arith, small, below)) (omega (arith, small, below)));
      none = λ e long. cc;
      stays = limit_holds k bits limit low high p s n w run t small below none is wide wide.stays;
    }

pub tells_as : (low high p s low' high' p' s' : ℕ) (run : List Code) → Tells low high p s run
    → low' ≡ low → high' ≡ high → p' ≡ p → s' ≡ s → Tells low' high' p' s' run
tells_as low high p s low' high' p' s' run t a b d e = record {
  least = a ∙ t.least;
  most = b ∙ t.most;
  primary = d ∙ t.primary;
  secondary = e ∙ t.secondary;
}
