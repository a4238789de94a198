use Rattle.std.proofs.Common.{◌≡◌, ℕ, ◌+◌, ◌*◌, ◌^◌, ◌≤◌, nat_abs, Result, Ok, Err, IfOk, to_z-of_z, ap, sym, ◌∙◌, arith}
use Rattle.grib_long.proofs.Sums.{shift_is, top_some, some_abs, sum_of_one, sum_of_two, far_power}
use Rattle.grib_long.proofs.building.long_sum.Goals as goal

if_ok : {T E : Type 0} (r : Result T E) (P Q : T → Type 0) → ((t : T) → P t → Q t) → IfOk r P → IfOk r Q
if_ok (Ok t) P Q along p = along t p
if_ok (Err e) P Q along p = tt

pub lowered-requires-clause-top : goal.lowered-requires-clause-top
lowered-requires-clause-top c =
    let size : c.from.result ≡ nat_abs c.args.high = c.from.ensures ∙ c.unsigned_abs.ensures.value ∙ ap nat_abs (to_z-of_z c.ranges.high) in
    top_some c.from.result c.args.shift (omega (arith, size, some_abs c.args.high c.requires.some)) (omega (arith, c.from.ensures, c.unsigned_abs.ensures.bound))

pub returns-then-opposes-clause-value : goal.returns-then-opposes-clause-value
returns-then-opposes-clause-value c =
    let high = c.args.high in
    let low = c.args.low in
    let p : ℕ = 2 ^ c.args.shift in
    let size : c.from.result ≡ nat_abs high = c.from.ensures ∙ c.unsigned_abs.ensures.value ∙ ap nat_abs (to_z-of_z c.ranges.high) in
    let size' : c.unsigned_abs-then-opposes.result ≡ nat_abs low = c.unsigned_abs-then-opposes.ensures.value ∙ ap nat_abs (to_z-of_z c.ranges.low) in
    let small = c.unsigned_abs-then-opposes.ensures.bound in
    let few : nat_abs low ≤ p = omega (arith, size', small, far_power c.args.shift c.requires.far) in
    let shifted = shift_is c.from.result c.args.shift c.requires.far (omega (arith, c.from.ensures, c.unsigned_abs.ensures.bound)) in
    let lowers = rw (to_z-of_z c.ranges.high, to_z-of_z c.ranges.low) at (c.opposes.ensures.lowers c.if-opposes.true) in
    let raises = rw (to_z-of_z c.ranges.high, to_z-of_z c.ranges.low) at (c.opposes.ensures.raises c.if-opposes.true) in
    let sum = sum_of_two high low p c.requires.some few lowers raises in
    if_ok c.lowered.result _ _ (λ n e. omega (arith, e ∙ shifted ∙ ap (λ k. k * p) size, size', sum)) c.lowered.ensures.value

pub returns-else-opposes-clause-value : goal.returns-else-opposes-clause-value
returns-else-opposes-clause-value c =
    let high = c.args.high in
    let low = c.args.low in
    let p : ℕ = 2 ^ c.args.shift in
    let size : c.from.result ≡ nat_abs high = c.from.ensures ∙ c.unsigned_abs.ensures.value ∙ ap nat_abs (to_z-of_z c.ranges.high) in
    let size' : c.unsigned_abs-else-opposes.result ≡ nat_abs low = c.unsigned_abs-else-opposes.ensures.value ∙ ap nat_abs (to_z-of_z c.ranges.low) in
    let shifted = shift_is c.from.result c.args.shift c.requires.far (omega (arith, c.from.ensures, c.unsigned_abs.ensures.bound)) in
    let up = rw (to_z-of_z c.ranges.high, to_z-of_z c.ranges.low) at (c.opposes.ensures.up c.if-opposes.false) in
    let down = rw (to_z-of_z c.ranges.high, to_z-of_z c.ranges.low) at (c.opposes.ensures.down c.if-opposes.false) in
    let sum = sum_of_one high low p up down in
    if_ok c.raised.result _ _ (λ n e. e ∙ ap (λ k. k + c.unsigned_abs-else-opposes.result) (shifted ∙ ap (λ k. k * p) size) ∙ ap (λ k. nat_abs high * p + k) size' ∙ sym sum) c.raised.ensures.value
