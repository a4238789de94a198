use Rattle.std.proofs.Common.{ℕ, ◌-◌, ◌^◌, ◌<◌, arith, subst, subst₂}
use Rattle.grib_packing.specs.Groupings.{greatest}
use Rattle.grib_packing.specs.Packed.{HasNumbers, simple_numbers}
use Rattle.grib_simple.proofs.Fitting.{greatest_most}
use Rattle.grib_simple_values.specs.Written.{HasWritten}
use Rattle.grib_simple_values.proofs.sections.pack_written.Goals as goal

pub returns : goal.returns
returns c = λ column reference e d none count few bitmap has.
    let numbers = simple_numbers column.points in
    let small : greatest numbers < 2 ^ 48 = omega (arith, greatest_most (2 ^ 48 - 1) column.points none) in
    let stand = c.in_ok-section5.ensures.1 column reference e d in (
      none,
      record {
        as_long = c.in_ok-section5.ensures.0;
        numbers = subst₂ (λ (n w : ℕ). HasNumbers c.in_ok-section5.section5 column n 0 w c.args.simple.now.kind) count has.width_is stand;
        bitmap = bitmap;
        values =
            c.finish.ensures numbers (omega (arith, count, few)) small
            (subst (λ (n : ℕ). HasWritten n (greatest numbers) numbers c.args.written) count has);
      },
    )
