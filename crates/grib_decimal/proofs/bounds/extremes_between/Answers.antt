use Rattle.std.proofs.Common.{◌≡◌, ◌≤◌, ◌≤ℤ◌, ◌^◌, ◌-◌, ℤ, pos, neg_ℤ, FitsSigned, to_z-of_z, rules, arith}
use Rattle.std.specs.Int.{w64}
use Rattle.std.proofs.lemmas.Int.{ints}
use Rattle.grib_decimal.proofs.Orders.{no_extremes, least_there, greatest_there}
use Rattle.grib_decimal.proofs.bounds.extremes_between.Goals as goal
use Rattle.grib_decimal.proofs.bounds.extremes_between.Goals.{else-least-eq0-via-then-least-eq0+else-greatest-eq0, else-least-eq0-via-else-least-eq0}

pub returns-then-greatest-eq0 : goal.returns-then-greatest-eq0
returns-then-greatest-eq0 c points n least greatest =
    no_extremes points n c.args.least.number c.args.greatest.number _ _ c.args.least.place c.args.greatest.place least greatest (omega (arith, ints)) c.if-least-eq0.true c.if-greatest-eq0.true

pub returns : goal.returns
returns c points n least greatest =
    let l = c.args.least in
    let g = c.args.greatest in
    let least_fits : FitsSigned w64 l.number = search rules in
    let greatest_fits : FitsSigned w64 g.number = search rules in
    let low : ℤ = neg_ℤ (pos (2 ^ 63)) in
    let high : ℤ = pos (2 ^ 63 - 1) in
    let top : g.number ≤ℤ high = omega (arith, ints) in
    let bottom : low ≤ℤ l.number = omega (arith, ints) in
    let one_least : l.place ≡ 0 → 1 ≤ g.place = λ none. elim c.else-least-eq0.branch [
      | else-least-eq0-via-then-least-eq0+else-greatest-eq0 w ↦ let other = w.if-greatest-eq0.false in omega arith
      | else-least-eq0-via-else-least-eq0 w ↦ absurd (w.if-least-eq0.false none)
    ] in
    let one_greatest : g.place ≡ 0 → 1 ≤ l.place = λ none. elim c.else-least-eq0.branch [
      | else-least-eq0-via-then-least-eq0+else-greatest-eq0 w ↦ absurd (w.if-greatest-eq0.false none)
      | else-least-eq0-via-else-least-eq0 w ↦ let other = w.if-least-eq0.false in omega arith
    ] in
    rw (to_z-of_z least_fits, to_z-of_z greatest_fits) (record {
      least = least_there points n l.number g.number low high l.place g.place least greatest top c.place_or.result c.place_or.ensures.some c.place_or.ensures.none one_least;
      greatest = greatest_there points n l.number g.number low high l.place g.place least greatest bottom c.place_or-2.result c.place_or-2.ensures.some c.place_or-2.ensures.none one_greatest;
    })
