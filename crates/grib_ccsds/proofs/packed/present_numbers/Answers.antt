use Rattle.std.proofs.Common.{◌≡◌, ◌^◌, ℕ, List, Vec, Global, nat_abs, ap, ◌∙◌, arith, w64, SFits, to_z-of_z, rules, ◌++◌, ◌+◌, drop}
use Rattle.grib_packing.specs.Packed.{simple_numbers}
use Rattle.grib_ccsds.proofs.Collected.{number_more, none_more, number_fits, all_numbers}
use Rattle.grib_ccsds.proofs.packed.present_numbers.Goals as goal
use Rattle.grib_ccsds.proofs.packed.present_numbers.Goals.{in_default, in-Scaled+in_ok-push}

pub overflow_cast-unsigned_abs : goal.overflow_cast-unsigned_abs
overflow_cast-unsigned_abs c =
    let back : SFits w64 c.in-Scaled.x = search rules in
    let small = number_fits (2 ^ 32) c.args.points.now c.loop-point.point-index _ c.in-Scaled.x c.loop-point-test.true c.in-Scaled.is c.requires in
    record { fits = omega (arith, small, c.unsigned_abs.ensures.value, ap nat_abs (to_z-of_z back)) }

pub loop-point-preserved : goal.loop-point-preserved
loop-point-preserved c =
    let points = c.args.points.now in
    let i = c.loop-point.point-index in
    let left = simple_numbers (drop (i + 1) points) in
    elim c.match-point.branch [
      | in-Scaled+in_ok-push w ↦
          let back : SFits w64 w.in-Scaled.x = search rules in
          let value : w.unsigned_abs.result ≡ nat_abs w.in-Scaled.x = w.unsigned_abs.ensures.value ∙ ap nat_abs (to_z-of_z back) in
          ap (λ (v : Vec ℕ Global). v.items ++ left) w.numbers-is
          ∙ ap (λ (ns : List ℕ). ns ++ left) w.in_ok-push.ensures.items
          ∙ number_more points i _ c.loop-point-test.true c.loop-point.numbers.items w.unsigned_abs.result w.in-Scaled.x w.in-Scaled.is value c.loop-point.invariant
      | in_default w ↦
          ap (λ (v : Vec ℕ Global). v.items ++ left) w.numbers-is
          ∙ none_more points i _ c.loop-point-test.true c.loop-point.numbers.items w.in_default.not-Scaled c.loop-point.invariant
    ]

pub returns : goal.returns
returns c =
    all_numbers c.args.points.now c.loop-point.point-index c.loop-point.numbers.items (omega arith) c.loop-point.invariant
