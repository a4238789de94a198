use Rattle.std.proofs.Common.{◌≡◌, ◌+◌, ◌-◌, arith, to_z-of_z}
use Rattle.std.proofs.lemmas.List.{drop-set, drop_all}
use Rattle.grib_text.proofs.points.write_number.Goals as goal

pub returns-clause-text : goal.returns-clause-text
returns-clause-text c =
    let w = c.write_signed-start in
    let e : w.result - 1 + 1 ≡ w.result = omega arith in
    let back = to_z-of_z c.ranges.number in
    rw (drop-set w.new.buffer (w.result - 1) 32 (omega arith), e, w.ensures.text, back, drop-set c.args.buffer.now 31 10 (omega arith), drop_all 32 c.args.buffer.now (omega arith))
