use Rattle.std.proofs.Common.{◌≡◌, ℕ, ◌+◌, ◌%◌, ap, arith}
use Rattle.grib_split.specs.declared.slots.Slots.{Slots}
use Rattle.grib_split.specs.Runs.{after_of, cost_at}
use Rattle.grib_split.proofs.Steadily.{falls_to}
use Rattle.grib_split.proofs.slots.Slots.soonest.Goals as goal

-- the cost after 64 codes
round : (at : ℕ) → (at + 64) % 64 ≡ at % 64
round at = omega arith

last_after : (slots : Slots) (at : ℕ) → after_of slots at 64 ≡ cost_at slots.after (at % 64)
last_after slots at = ap (λ p. cost_at slots.after p) (round at)

pub returns-clause-soonest : goal.returns-clause-soonest
returns-clause-soonest c =
    let f = c.first_of.ensures in
    let slots = c.args.self.now in
    let last = last_after slots c.args.at in
    record {
      some = f.some;
      most = f.most;
      least = omega (arith, f.here, last);
      first = λ l l_some less.
          let low = falls_to (after_of slots c.args.at) c.requires.falls l 64 l_some (omega (arith, less, f.most)) (omega arith) in
          omega (arith, low, last, f.first l l_some less);
    }
