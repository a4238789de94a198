use Rattle.std.proofs.Common.{◌+◌, nat_abs, ap, arith, rules, w64, SFits, to_z-of_z}
use Rattle.grib_synthetic.specs.declared.summary.Summary.{Summary}
use Rattle.grib_synthetic.proofs.Summing.{sums-more, one_number, no_number}
use Rattle.grib_synthetic.proofs.summary.Summary.with.Goals as goal

pub returns-in-Scaled-clause-sums : goal.returns-in-Scaled-clause-sums
returns-in-Scaled-clause-sums c = λ points so_far.
    let back : SFits w64 c.in-Scaled.x = search rules in
    let one = one_number c.args.point c.in-Scaled.x c.in-Scaled.is in
    let now : Summary = record { present = c.args.self.present + 1; sum = c.args.self.sum + c.unsigned_abs.result } in
    sums-more c.args.self now points c.args.point so_far (omega (arith, one.0)) (omega (arith, one.1, c.unsigned_abs.ensures.value, ap nat_abs (to_z-of_z back)))

pub returns-in-Missing : goal.returns-in-Missing
returns-in-Missing c = record {
  sums = λ points so_far.
      let none = no_number c.args.point c.in-Missing.is in
      sums-more c.args.self c.args.self points c.args.point so_far (omega (arith, none.0)) (omega (arith, none.1));
  present = omega arith;
  sum = omega arith;
}
