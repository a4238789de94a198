use Rattle.std.proofs.Common.{◌≡◌, ℕ, ◌+◌, ◌*◌, ◌^◌, ◌%◌, ◌<◌, ◌≤◌, List, ◌∷◌, take, drop, ap, ap₂, sym, ◌∙◌, subst, arith}
use Rattle.std.specs.Prelude.{slice_index}
use Rattle.std.specs.Int.{bit_at}
use Rattle.std.proofs.lemmas.Nat.Bits.{bit_at-zero}
use Rattle.grib_base.specs.declared.code.Code.{Code}
use Rattle.grib_base.specs.declared.code.Code.TheVariants.{Present}
use Rattle.grib_codes.specs.Span.{IsBelow}
use Rattle.grib_split.specs.declared.behind.Behind.{Behind}
use Rattle.grib_split.specs.declared.slots.Slots.{Slots}
use Rattle.grib_packing.specs.Groupings.{width_of}
use Rattle.grib_split.specs.Costs.{header_of}
use Rattle.grib_split.specs.Runs.{Run, Runs, Afters, Told, WideAt, IsLow, length_to, price_at, cost_at, after_of}
use Rattle.grib_split.proofs.Kept.{told_same, wide_as}
use Rattle.grib_split.proofs.Nested.{nested_waits}
use Rattle.grib_split.proofs.Going.{runs_by, told_small, told_taken, wide_taken, afters_same, best_same, Costing, costing, first_cost, best_by}
use Rattle.grib_split.proofs.choosing.best_at.Goals as goal
use Rattle.grib_split.proofs.choosing.best_at.Goals.{After-mend, After-shortest}

-- what is told of runs that a code is put before holds of another name of this code
told_code : (old new : Slots) (a b : Code) → a ≡ b
    → ((p : ℕ) (run : List Code) → p < 64 → Told old p run → Told new p (a ∷ run))
    → (p : ℕ) (run : List Code) → p < 64 → Told old p run → Told new p (b ∷ run)
told_code old new a b is told =
    let P : Code → Type 0 = λ code. (p : ℕ) (run : List Code) → p < 64 → Told old p run → Told new p (code ∷ run) in
    subst P is told

-- the widths are right at the places that are not among these
abbrev WideTaken : Slots → Slots → ℕ → ℕ → Code → Type 0
WideTaken old new places k code = (p : ℕ) (run : List Code) → p < 64 → bit_at places p ≡ 0
    → slice_index old.greatest p + k < 2 ^ 32 → Told old p run → WideAt k old p run → WideAt k new p (code ∷ run)

pub take-places-requires-clause-below : goal.take-places-requires-clause-below
take-places-requires-clause-below c =
    subst (IsBelow c.args.costs.now.reserved) (sym (c.at.ensures (Present 0)))
    (c.requires.split.codes c.args.at (Present 0) c.requires.place)

pub take-places-requires-clause-nested : goal.take-places-requires-clause-nested
take-places-requires-clause-nested c =
    nested_waits c.args.costs.now.reserved c.args.codes.now c.args.at c.args.slots.now c.requires.split.codes c.requires.runs

pub mend-requires-clause-small : goal.mend-requires-clause-small
mend-requires-clause-small c place within =
    let q = c.requires in
    let told = told_taken c.args.costs.now.reserved c.args.codes.now c.args.at (Present 0) c.args.slots.now c.take-places.new.self q.place q.runs (told_code c.args.slots.now c.take-places.new.self _ _ (c.at.ensures (Present 0)) c.take-places.ensures.told) in
    told_small c.args.costs.now.reserved c.args.codes.now c.args.at (length_to c.args.at place) place c.take-places.new.self q.split.reserved q.split.codes (told place within)

-- the runs that begin with the code are right again
mended_run : (c : After-mend) (p : ℕ) → p < 64
    → Run c.args.costs.now.reserved c.mend.new.self p (take (length_to c.args.at p) (drop c.args.at c.args.codes.now))
mended_run c p within =
    let q = c.requires in
    let t = c.take-places.ensures in
    let k = c.args.costs.now.reserved in
    let codes = c.args.codes.now in
    let at = c.args.at in
    let taken = c.take-places.new.self in
    let told = told_taken k codes at (Present 0) c.args.slots.now taken q.place q.runs (told_code c.args.slots.now taken _ _ (c.at.ensures (Present 0)) t.told) in
    let wide = wide_taken k codes at c.take-places.result (Present 0) c.args.slots.now taken q.place q.split.reserved q.split.codes q.runs
    (subst (WideTaken c.args.slots.now taken c.take-places.result k) (c.at.ensures (Present 0)) t.wide) in
    record {
      told = told_same taken c.mend.new.self p (take (length_to at p) (drop at codes)) c.mend.ensures.numbers c.mend.ensures.marks (told p within);
      wide = c.mend.ensures.wide (λ p. take (length_to at p) (drop at codes)) told wide p within (bit_at-zero p);
    }

pub price-cost-requires-clause-wide : goal.price-cost-requires-clause-wide
price-cost-requires-clause-wide c place within = (mended_run (goal.at.price-cost-requires-clause-wide c).After-mend place within).wide.few

pub price-cost-requires-clause-low : goal.price-cost-requires-clause-low
price-cost-requires-clause-low c =
    let P : Behind → Type 0 = IsLow in
    subst P (sym (c.mend.ensures.after ∙ c.take-places.ensures.after)) c.requires.low

-- and stay so
priced_runs : (c : After-shortest) → Runs c.args.costs.now.reserved c.args.codes.now c.args.at c.price-cost.new.self
priced_runs c =
    let k = c.args.costs.now.reserved in
    let codes = c.args.codes.now in
    let at = c.args.at in
    let e = c.price-cost.ensures in
    let mended = c.mend.new.self in
    let new = c.price-cost.new.self in
    let run : (p : ℕ) → p < 64 → Run k new p (take (length_to at p) (drop at codes)) = λ p within.
    let r = mended_run c.before.before.before p within in record {
      told = told_same mended new p (take (length_to at p) (drop at codes)) e.numbers e.marks r.told;
      wide = wide_as k mended new p (take (length_to at p) (drop at codes)) (ap (λ xs. slice_index xs p) e.widths.width) (ap (λ xs. slice_index xs p) e.widths.limit) r.wide;
    } in
    runs_by k codes at new run

-- what each of them costs
priced : (c : After-shortest) → Costing c.args.costs.now.reserved c.args.codes.now c.args.at c.price-cost.new.self
priced c =
    let e = c.price-cost.ensures in
    let at = c.args.at in
    let mended = c.mend.new.self in
    let new = c.price-cost.new.self in
    let same : (p : ℕ) → price_at mended at p ≡ price_at new at p = λ p.
    ap₂ (λ (w : ℕ) (a : ℕ). length_to at p * w + a) (sym (ap (λ xs. slice_index xs p) e.widths.width)) (sym (ap (λ (x : Behind). slice_index x.above p) e.after)) in
    costing c.args.costs.now.reserved c.args.codes.now at new (priced_runs c) (λ p within. e.cost p within ∙ same p)

-- what comes after them stays
after_stays : (c : After-shortest) → c.price-cost.new.self.after ≡ c.args.slots.now.after
after_stays c = c.price-cost.ensures.after ∙ (c.mend.ensures.after ∙ c.take-places.ensures.after)

afters_stay : (c : After-shortest) → Afters (header_of c.args.costs.now) c.args.costs.now.reserved c.args.codes.now c.args.at c.price-cost.new.self
afters_stay c = afters_same (header_of c.args.costs.now) c.args.costs.now.reserved c.args.codes.now c.args.at c.args.slots.now c.price-cost.new.self (after_stays c) c.requires.after

-- the least cost leaves room for a header
least_cost : (c : After-shortest) → c.price-cost.result + c.price-cost.new.self.after.base ≤ 1476395040
least_cost c =
    let q = c.requires in
    let at = c.args.at in
    let one = first_cost c.args.costs.now c.args.codes.now at c.price-cost.new.self q.place q.split (afters_stay c) (priced_runs c) (priced c) in
    omega (arith, one, c.price-cost.ensures.least ((at + 1) % 64) (omega arith))

pub whole-requires : goal.whole-requires
whole-requires c = omega (arith, least_cost (goal.at.whole-requires c).After-shortest)

pub overflow_add-result : goal.overflow_add-result
overflow_add-result c = record { fits = omega (arith, least_cost (goal.at.overflow_add-result c).After-shortest, c.whole.ensures, c.header.ensures, c.requires.split.references, c.requires.split.widths) }

pub returns-clause-runs : goal.returns-clause-runs
returns-clause-runs c = priced_runs (goal.at.returns-clause-runs c).After-shortest

pub returns-clause-best : goal.returns-clause-best
returns-clause-best c =
    let q = c.requires in
    let costs = c.args.costs.now in
    let at = c.args.at in
    let new = c.price-cost.new.self in
    let best = c.shortest.ensures in
    let after = (goal.at.returns-clause-best c).After-shortest in
    best_same (header_of costs) (width_of costs.reserved) (drop at c.args.codes.now) at c.shortest.result c.args.slots.now new (after_stays after)
    (best_by costs c.args.codes.now at c.shortest.result c.price-cost.result new q.place q.split (afters_stay after) (priced_runs after) (priced after)
    best.some best.most best.here c.price-cost.ensures.least best.first)

pub returns-clause-cost : goal.returns-clause-cost
returns-clause-cost c =
    let best = c.shortest.ensures in
    let at = c.args.at in
    let n = c.shortest.result in
    let is = priced (goal.at.returns-clause-cost c).After-shortest n best.some best.most in
    let same : after_of c.price-cost.new.self at n ≡ after_of c.args.slots.now at n = ap (λ (x : Behind). cost_at x ((at + n) % 64)) (after_stays (goal.at.returns-clause-cost c).After-shortest) in
    omega (arith, is, same, best.here, c.header.ensures, c.whole.ensures)
