-- The best first group where 64 codes are the same and the least cost does not rise from one place to the next.
use Rattle.std.proofs.Common.{◌≡◌, ℕ, zero, suc, ◌+◌, ◌-◌, ◌*◌, ◌%◌, ◌<◌, ◌≤◌, ◌⊎◌, inl, inr, List, take, drop, ap, sym, ◌∙◌, subst, arith, length-drop}
use Rattle.grib_base.specs.declared.code.Code.{Code}
use Rattle.grib_packing.specs.Groupings.{width_of}
use Rattle.grib_split.specs.Alike.{Alike}
use Rattle.grib_split.specs.declared.slots.Slots.{Slots}
use Rattle.grib_split.specs.Least as least
use Rattle.grib_split.specs.Least.{with_first}
use Rattle.grib_split.specs.Runs.{Falls, Soonest, OthersStay, IsNear, after_of, cost_at, length_to}
use Rattle.grib_split.proofs.Alike.{width_alike}
use Rattle.grib_split.proofs.Begin.{apart}
use Rattle.grib_split.proofs.Going.{back, length_some, length_most}

-- ---- costs that do not rise

pub falls_on : (f : ℕ → ℕ) → ((l : ℕ) → 1 ≤ l → l < 64 → f (l + 1) ≤ f l) → (a d : ℕ) → 1 ≤ a → a + d ≤ 64 → f (a + d) ≤ f a
falls_on f next a zero some most = let e : a + 0 ≡ a = omega arith in let same : f (a + 0) ≡ f a = ap f e in omega (arith, same)
falls_on f next a (suc d) some most =
    let e : a + suc d ≡ a + d + 1 = omega arith in
    let same : f (a + suc d) ≡ f (a + d + 1) = ap f e in
    omega (arith, same, next (a + d) (omega arith) (omega arith), falls_on f next a d some (omega arith))

pub falls_to : (f : ℕ → ℕ) → ((l : ℕ) → 1 ≤ l → l < 64 → f (l + 1) ≤ f l) → (a b : ℕ) → 1 ≤ a → a ≤ b → b ≤ 64 → f b ≤ f a
falls_to f next a b some order most =
    let e : a + (b - a) ≡ b = omega arith in
    let P : ℕ → Type 0 = λ n. f n ≤ f a in
    subst P e (falls_on f next a (b - a) some (omega arith))

-- ---- one place on

two_on : (at l : ℕ) → (at + (l + 1)) % 64 ≡ (at + 1 + l) % 64
two_on at l = omega arith

pub after_next : (at cost l : ℕ) (a b : Slots) → OthersStay a b ((at + 1) % 64) → 1 ≤ l → l < 64
    → after_of b at (l + 1) ≡ after_of a (at + 1) l
after_next at cost l a b is some most =
    is ((at + (l + 1)) % 64) (omega arith) (λ e. apart at (l + 1) (omega arith) (omega arith) (sym e))
    ∙ ap (λ p. cost_at a.after p) (two_on at l)

one_or_more : (l : ℕ) → 1 ≤ l → (l ≡ 1) ⊎ (2 ≤ l)
one_or_more l some = grind arith

pub falls_next : (at cost : ℕ) (a b : Slots) → OthersStay a b ((at + 1) % 64) → after_of b at 1 ≡ cost → Falls a (at + 1) cost
    → (l : ℕ) → 1 ≤ l → l < 64 → after_of b at (l + 1) ≤ after_of b at l
falls_next at cost a b is here falls l some most = elim (one_or_more l some) [
  | inl one ↦
      let e : after_of b at l ≡ cost = ap (after_of b at) one ∙ here in
      let f : after_of a (at + 1) l ≡ after_of a (at + 1) 1 = ap (after_of a (at + 1)) one in
      omega (arith, e, f, after_next at cost l a b is some most, falls.here)
  | inr more ↦
      let e : l - 1 + 1 ≡ l = omega arith in
      let f : after_of b at l ≡ after_of a (at + 1) (l - 1) = sym (ap (after_of b at) e) ∙ after_next at cost (l - 1) a b is (omega arith) (omega arith) in
      let g : after_of a (at + 1) l ≡ after_of a (at + 1) (l - 1 + 1) = sym (ap (after_of a (at + 1)) e) in
      omega (arith, f, g, after_next at cost l a b is some most, falls.next (l - 1) (omega arith) (omega arith))
]

-- the cost at this place is not less than at the next
pub falls_here : (header at cost now : ℕ) (a b : Slots) → OthersStay a b ((at + 1) % 64) → after_of b at 1 ≡ cost → Falls a (at + 1) cost
    → cost ≡ header + after_of a (at + 1) 64 → now ≡ header + after_of b at 64 → Falls b at now
falls_here header at cost now a b is here falls cost_is now_is = record {
  here = omega (arith, here, cost_is, now_is, after_next at cost 63 a b is (omega arith) (omega arith), falls.next 63 (omega arith) (omega arith));
  next = falls_next at cost a b is here falls;
}

-- the cost is hardly more than those after it
pub near_falls : (header at cost : ℕ) (slots : Slots) → Falls slots (at + 1) cost → cost ≡ header + after_of slots (at + 1) 64 → header ≤ 44
    → IsNear slots.after ((at + 1) % 64) cost
near_falls header at cost slots falls is few other within differs =
    let l = length_to (at + 1) other in
    let low = falls_to (after_of slots (at + 1)) falls.next l 64 (length_some (at + 1) other) (length_most (at + 1) other) (omega arith) in
    let P : ℕ → Type 0 = λ p. cost ≤ cost_at slots.after p + 4096 in
    subst P (back (at + 1) other within) (omega (arith, low, is, few))

-- ---- the first length with the least cost after it

-- it goes on by one code, and the cost after 64 codes stays
least_stays : (at cost n : ℕ) (a b : Slots) → OthersStay a b ((at + 1) % 64) → after_of b at 1 ≡ cost → Falls a (at + 1) cost
    → Soonest a (at + 1) n → n < 64 → after_of b at 64 ≡ after_of a (at + 1) 64
least_stays at cost n a b is here falls soonest more =
    omega (
      arith,
      soonest.least,
      after_next at cost n a b is soonest.some more,
      falls_to (after_of b at) (falls_next at cost a b is here falls) (n + 1) 64 (omega arith) (omega (arith, more)) (omega arith),
      after_next at cost 63 a b is (omega arith) (omega arith),
      falls.next 63 (omega arith) (omega arith),
    )

pub soonest_on : (header at cost n : ℕ) (a b : Slots) → OthersStay a b ((at + 1) % 64) → after_of b at 1 ≡ cost → Falls a (at + 1) cost
    → cost ≡ header + after_of a (at + 1) 64 → 1 ≤ header → Soonest a (at + 1) n → n < 64 → Soonest b at (n + 1)
soonest_on header at cost n a b is here falls cost_is some soonest more =
    let stays = least_stays at cost n a b is here falls soonest more in
    record {
      some = omega arith;
      most = omega (arith, more);
      least = omega (arith, stays, soonest.least, after_next at cost n a b is soonest.some more);
      first = λ l l_some less. elim (one_or_more l l_some) [
        | inl one ↦ let e : after_of b at l ≡ cost = ap (after_of b at) one ∙ here in omega (arith, e, cost_is, some, stays)
        | inr two ↦
            let e : l - 1 + 1 ≡ l = omega arith in
            let f : after_of b at l ≡ after_of a (at + 1) (l - 1) = sym (ap (after_of b at) e) ∙ after_next at cost (l - 1) a b is (omega arith) (omega (arith, less, more)) in
            omega (arith, f, stays, soonest.first (l - 1) (omega arith) (omega (arith, less)))
      ];
    }

pub cost_on : (header at cost n : ℕ) (a b : Slots) → OthersStay a b ((at + 1) % 64) → after_of b at 1 ≡ cost → Falls a (at + 1) cost
    → cost ≡ header + after_of a (at + 1) 64 → Soonest a (at + 1) n → n < 64 → cost ≡ header + after_of b at 64
cost_on header at cost n a b is here falls cost_is soonest more =
    omega (arith, cost_is, least_stays at cost n a b is here falls soonest more)

-- ---- the best of the runs

-- what a first group of one code and its rest cost
first_alike : (header k : ℕ) (codes : List Code) (at l rest : ℕ) → Alike codes at 64 → 1 ≤ l → l ≤ 64
    → with_first header (width_of k) (drop at codes) l rest ≡ header + rest
first_alike header k codes at l rest alike some most =
    let none : l * width_of k (take l (drop at codes)) ≡ l * 0 = ap (λ w. l * w) (width_alike k codes at l alike some most) in
    omega (arith, none)

before_or_not : (l n : ℕ) → (l < n) ⊎ (n ≤ l)
before_or_not l n = grind arith

pub best_alike : (header k : ℕ) (codes : List Code) (at n : ℕ) (slots : Slots) → Alike codes at 64
    → ((l : ℕ) → 1 ≤ l → l < 64 → after_of slots at (l + 1) ≤ after_of slots at l) → 1 ≤ n → n ≤ 64 → after_of slots at n ≡ after_of slots at 64
    → ((l : ℕ) → 1 ≤ l → l < n → after_of slots at 64 < after_of slots at l)
    → least.Best header (width_of k) (drop at codes) (after_of slots at) n
best_alike header k codes at n slots alike falls some most is first =
    let here = first_alike header k codes at n (after_of slots at n) alike some most in
    record {
      some = some;
      most = most;
      fits = omega (arith, alike.fits, length-drop at codes);
      least = λ l l_some l_most l_fits.
          omega (arith, here, first_alike header k codes at l (after_of slots at l) alike l_some l_most, is, falls_to (after_of slots at) falls l 64 l_some l_most (omega arith));
      first = λ l l_some less.
          omega (arith, here, first_alike header k codes at l (after_of slots at l) alike l_some (omega (arith, less, most)), is, first l l_some less);
    }

pub cost_alike : (header k : ℕ) (codes : List Code) (at n cost : ℕ) (slots : Slots) → Alike codes at 64 → 1 ≤ n → n ≤ 64
    → after_of slots at n ≡ after_of slots at 64 → cost ≡ header + after_of slots at 64
    → cost ≡ with_first header (width_of k) (drop at codes) n (after_of slots at n)
cost_alike header k codes at n cost slots alike some most same is =
    omega (arith, is, same, first_alike header k codes at n (after_of slots at n) alike some most)

-- the best of all runs costs as the one of 64 codes
pub cost_steady : (header k : ℕ) (codes : List Code) (at n cost now : ℕ) (slots : Slots) → Alike codes at 64 → Falls slots at now
    → least.Best header (width_of k) (drop at codes) (after_of slots at) n
    → cost ≡ with_first header (width_of k) (drop at codes) n (after_of slots at n) → cost ≡ header + after_of slots at 64
cost_steady header k codes at n cost now slots alike falls best is =
    let all = best.least 64 (omega arith) (omega arith) (omega (arith, alike.fits, length-drop at codes)) in
    omega (
      arith,
      is,
      all,
      first_alike header k codes at n (after_of slots at n) alike best.some best.most,
      first_alike header k codes at 64 (after_of slots at 64) alike (omega arith) (omega arith),
      falls_to (after_of slots at) falls.next n 64 best.some best.most (omega arith),
    )

pub soonest_best : (header k : ℕ) (codes : List Code) (at n now : ℕ) (slots : Slots) → Alike codes at 64 → Falls slots at now
    → least.Best header (width_of k) (drop at codes) (after_of slots at) n → Soonest slots at n
soonest_best header k codes at n now slots alike falls best =
    let here = first_alike header k codes at n (after_of slots at n) alike best.some best.most in
    let all = best.least 64 (omega arith) (omega arith) (omega (arith, alike.fits, length-drop at codes)) in
    let last = first_alike header k codes at 64 (after_of slots at 64) alike (omega arith) (omega arith) in
    let low = falls_to (after_of slots at) falls.next n 64 best.some best.most (omega arith) in
    record {
      some = best.some;
      most = best.most;
      least = omega (arith, here, all, last, low);
      first = λ l l_some less.
          omega (arith, here, all, last, low, best.first l l_some less, first_alike header k codes at l (after_of slots at l) alike l_some (omega (arith, less, best.most)));
    }
