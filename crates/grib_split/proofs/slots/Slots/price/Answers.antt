use Rattle.std.proofs.Common.{◌≡◌, ℕ, zero, suc, ◌+◌, ◌-◌, ◌*◌, ◌%◌, ◌^◌, ◌<◌, ◌≤◌, ◌≢◌, ◌⊎◌, inl, inr, List, length, length-set, min, refl, ap, ap₂, ◌∙◌, subst, arith}
use Rattle.std.specs.Prelude.{slice_index, slice_set}
use Rattle.std.proofs.lemmas.List.{get_or-set_same, get_or-set_other}
use Rattle.grib_split.specs.declared.behind.Behind.{Behind}
use Rattle.grib_split.specs.declared.slots.Slots.{Slots}
use Rattle.grib_split.specs.Runs.{AreLengths, SameWidths, length_to, price_at}
use Rattle.grib_split.proofs.Going.{fits_price, length_most}
use Rattle.grib_split.proofs.slots.Slots.price.Goals as goal

below_or_here : (p n : ℕ) → p < n + 1 → (p < n) ⊎ (n ≡ p)
below_or_here p n within = grind arith

order : (a b : ℕ) → (a < b) ⊎ (b ≤ a)
order a b = grind arith

apart_below : (p n : ℕ) → p < n → p ≢ n
apart_below p n below e = omega (arith, below, e)

-- the cost of this turn beside those before it
done_here : (sums : ℕ → ℕ) (costs : List ℕ) (n cost : ℕ) → n < length costs → cost ≡ sums n
    → ((p : ℕ) → p < n → slice_index costs p ≡ sums p) → (p : ℕ) → p < n + 1 → slice_index (slice_set costs n cost) p ≡ sums p
done_here sums costs n cost inside is done p within = elim (below_or_here p n within) [
  | inl before ↦ get_or-set_other costs n p cost 0 (apart_below p n before) ∙ done p before
  | inr here ↦
      let P : ℕ → Type 0 = λ k. slice_index (slice_set costs n cost) k ≡ sums k in
      subst P here (get_or-set_same costs n cost 0 inside ∙ is)
]

least_here : (sums : ℕ → ℕ) (n least cost now : ℕ) → cost ≡ sums n → now ≡ min least cost → ((p : ℕ) → p < n → least ≤ sums p)
    → (p : ℕ) → p < n + 1 → now ≤ sums p
least_here sums n least cost now is min_is below p within = elim (below_or_here p n within) [
  | inl before ↦ omega (arith, min_is, below p before)
  | inr here ↦ let P : ℕ → Type 0 = λ k. now ≤ sums k in subst P here (omega (arith, min_is, is))
]

one_here : (sums : ℕ → ℕ) (n least cost now : ℕ) → cost ≡ sums n → now ≡ min least cost → n < 64 → cost < 2 ^ 16
    → (n ≡ 0 → least ≡ 65535) → (0 < n → (p : ℕ) × (p < 64) × (sums p ≡ least)) → (p : ℕ) × (p < 64) × (sums p ≡ now)
one_here sums n least cost now is min_is within small first one = elim (order least cost) [
  | inl kept ↦
      let before = one (some n least cost kept small first) in
      (before.0, before.1, before.2 ∙ omega (arith, min_is, kept))
  | inr new ↦ (n, within, omega (arith, min_is, is, new))
]
  where
    some : (n least cost : ℕ) → least < cost → cost < 2 ^ 16 → (n ≡ 0 → least ≡ 65535) → 0 < n
    some zero least cost kept small first = absurd (omega (arith, kept, small, first refl))
    some (suc n) least cost kept small first = omega arith

-- the length of the run that ends at a place
length_here : (lengths : List ℕ) (at p : ℕ) → AreLengths lengths → p < 64 → slice_index lengths (63 - at % 64 + p) ≡ length_to at p
length_here lengths at p are within = are (63 - at % 64 + p) (omega (arith, within)) ∙ omega (arith, within)

-- its price by what stands at the place
price_here : (lengths : List ℕ) (at p : ℕ) (old now : Slots) → AreLengths lengths → p < 64 → SameWidths old now → now.after ≡ old.after
    → slice_index lengths (63 - at % 64 + p) * slice_index now.width p + slice_index now.after.above p ≡ price_at old at p
price_here lengths at p old now are within widths after =
    ap₂ (λ m n. m + n) (ap₂ (λ m n. m * n) (length_here lengths at p are within) (ap (λ xs. slice_index xs p) widths.width)) (ap (λ (x : Behind). slice_index x.above p) after)

pub loop-place-preserved : goal.loop-place-preserved
loop-place-preserved c =
    let l = c.loop-place in
    let i = l.invariant in
    let q = c.requires in
    let n = l.place in
    let at = c.args.at in
    let old = c.args.self.now in
    let within = c.loop-place-test.true in
    let cost = slice_index c.args.lengths.now (63 - at % 64 + n) * slice_index l.self.width n + slice_index l.self.after.above n in
    let is : cost ≡ price_at old at n = price_here c.args.lengths.now at n old l.self q.lengths within i.widths i.after in
    let small = fits_price (length_to at n) (slice_index old.width n) (slice_index old.after.above n) (length_most at n) (q.wide n within) (q.low n within) in
    record {
      size = length-set l.self.cost n cost ∙ i.size;
      first = λ e. absurd (omega (arith, e));
      done = done_here (price_at old at) l.self.cost n cost (omega (arith, within, i.size)) is i.done;
      least = least_here (price_at old at) n l.least cost c.min-least.result is c.min-least.ensures i.least;
      one = λ some. one_here (price_at old at) n l.least cost c.min-least.result is c.min-least.ensures within (omega (arith, is, small)) i.first i.one;
      numbers = record { least = i.numbers.least; greatest = i.numbers.greatest };
      marks = record { primary = i.marks.primary; secondary = i.marks.secondary };
      widths = record { width = i.widths.width; limit = i.widths.limit };
      after = i.after;
    }
