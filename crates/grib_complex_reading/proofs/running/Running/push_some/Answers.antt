use Rattle.std.proofs.Common.{◌≡◌, ℕ, suc, ◌-◌, ◌^◌, ◌≤◌, ℤ, pos, ◌+ℤ◌, nat_abs, sym, ap, ap₂, ◌∙◌, subst, arith, to_z, of_z, w64, SFits, to_z-of_z, rules}
use Rattle.std.proofs.lemmas.Int.{ints}
use Rattle.grib_packing.specs.Differences.{Descriptors}
use Rattle.grib_complex_reading.specs.Follows.{last_of}
use Rattle.grib_complex_reading.specs.Reach.{reach_of}
use Rattle.grib_complex_reading.specs.Running.{Run}
use Rattle.grib_complex_reading.specs.Same.{StaysWithin, after_same, number_after}
use Rattle.grib_complex_reading.proofs.RunRepeated.{stays_near, walked_on}
use Rattle.grib_complex_reading.proofs.running.Running.push_some.Goals as goal
use Rattle.grib_complex_reading.proofs.running.Running.push_some.Goals.{After-steps_within-steps}

-- what the fields hold, and how far the numbers reach
record Held (c : After-steps_within-steps) : Type 0 where
  all : c.self.inside.order ≡ c.self.inside.told
  before : to_z w64 (of_z w64 c.self.inside.before) ≡ c.self.inside.before
  last : to_z w64 (of_z w64 c.self.inside.last) ≡ c.self.inside.last
  moves : to_z w64 (of_z w64 (to_z w64 c.args.code +ℤ to_z w64 (of_z w64 c.self.inside.minimum))) ≡ pos c.args.code +ℤ c.self.inside.minimum
  near : reach_of c.self.inside.order c.self.inside.before c.self.inside.last (nat_abs (pos c.args.code +ℤ c.self.inside.minimum)) c.steps_within-steps.result ≤ 2 ^ 60

held : (c : After-steps_within-steps) → Held c
held c =
    let r = c.self.inside in
    let i = c.self.invariant in
    let before : to_z w64 (of_z w64 r.before) ≡ r.before = omega (arith, ints, i.5) in
    let last : to_z w64 (of_z w64 r.last) ≡ r.last = omega (arith, ints, i.6) in
    let moves : to_z w64 (of_z w64 (to_z w64 c.args.code +ℤ to_z w64 (of_z w64 r.minimum))) ≡ pos c.args.code +ℤ r.minimum = omega (arith, ints, i.3, c.requires.code) in
    record {
      all = omega (arith, i.4, c.if-self.false);
      before = before;
      last = last;
      moves = moves;
      near = rw (before, last, moves) at c.steps_within-steps.ensures.near;
    }

pub returns-clause-within : goal.returns-clause-within
returns-clause-within c =
    let r = c.self.inside in
    let h = held (goal.at.returns-clause-within c).After-steps_within-steps in
    let d : Descriptors = record { order = r.order; first = r.first; second = r.second; minimum = r.minimum } in
    let stays = stays_near d c.args.code c.self.invariant.0 r.before r.last c.steps_within-steps.result h.near in
    rw (← c.self.view_is) (subst (λ (k : ℕ). StaysWithin (record { told = d; last = last_of k r.before r.last }) c.args.code c.steps_within-steps.result) h.all stays)

pub returns-clause-after : goal.returns-clause-after
returns-clause-after c =
    let r = c.self.inside in
    let code = c.args.code in
    let h = held (goal.at.returns-clause-after c).After-steps_within-steps in
    let d : Descriptors = record { order = r.order; first = r.first; second = r.second; minimum = r.minimum } in
    let steps = c.steps_within-steps.result in
    let n = steps - 1 in
    let whole : suc n ≡ steps = omega (arith, c.if-steps-eq0.false) in
    let before_is = rw (h.before, h.last, h.moves) at c.after_steps-before.ensures.number in
    let last_is = rw (h.before, h.last, h.moves) at c.after_steps-self-inside.ensures.number in
    let first : SFits w64 c.after_steps-before.result = search rules in
    let second : SFits w64 c.after_steps-self-inside.result = search rules in
    let at = number_after r.order r.before r.last (pos code +ℤ r.minimum) in
    let run : ℕ → ℤ → ℤ → Run = λ k x y. record { told = d; last = last_of k x y } in
    let here : run r.told (to_z w64 (of_z w64 c.after_steps-before.result)) (to_z w64 (of_z w64 c.after_steps-self-inside.result)) ≡ run r.order (at n) (at (suc n)) =
    ap₂ (run r.told) (to_z-of_z first ∙ before_is) (to_z-of_z second ∙ last_is ∙ ap at (sym whole)) ∙ ap (λ (k : ℕ). run k (at n) (at (suc n))) (sym h.all) in
    let there : after_same (run r.order r.before r.last) code (suc n) ≡ after_same (run r.told r.before r.last) code steps =
    ap (λ (k : ℕ). after_same (run k r.before r.last) code (suc n)) h.all ∙ ap (after_same (run r.told r.before r.last) code) whole in
    rw (← c.self.view_is) (here ∙ sym (walked_on d code c.self.invariant.0 r.before r.last n) ∙ there)
