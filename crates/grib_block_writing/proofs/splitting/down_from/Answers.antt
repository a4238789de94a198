use Rattle.std.proofs.Common.{◌≡◌, ℕ, ◌+◌, ◌-◌, ◌<◌, ◌≤◌, inl, inr, ap, ◌∙◌, arith}
use Rattle.std.proofs.lemmas.Bool.{cases_lt}
use Rattle.grib_block_writing.specs.Splits.{split_bits}
use Rattle.grib_block_writing.proofs.Walk.{below}
use Rattle.grib_block_writing.proofs.splitting.down_from.Goals as goal

pub returns-then-next-best : goal.returns-then-next-best
returns-then-next-best c =
    let k = c.loop-best.best.k in
    let bits = c.loop-best.best.bits in
    let before : k ≡ k - 1 + 1 = omega arith in
    let is : bits ≡ split_bits c.args.kept c.args.codes.now (k - 1 + 1) =
    c.loop-best.invariant.is ∙ ap (split_bits c.args.kept c.args.codes.now) before in
    let fewer : (j : ℕ) → j < k → bits < split_bits c.args.kept c.args.codes.now j =
    λ j less. below c.args.kept c.args.codes.now (k - 1) bits is (omega arith) j (omega arith) in
    record {
      is = c.loop-best.invariant.is;
      within = c.loop-best.invariant.within;
      least = λ j to. elim (cases_lt j k) [
        | inl less ↦ omega (arith, fewer j less)
        | inr more ↦ c.loop-best.invariant.least j more to
      ];
      first = fewer;
    }
