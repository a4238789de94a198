use Rattle.std.proofs.Common.{◌≡◌, ◌+◌, length, take, inl, refl, arith, length-take-le}
use Rattle.grib_stream.proofs.gathering.probe.Goals as goal

pub returns-in-Ok : goal.returns-in-Ok
returns-in-Ok g c =
    let long = c.read_behind.auto.octets in
    let size : length (take (0 + c.in-Ok.field-0) c.read_behind.new.octets) ≡ 1 =
    omega (arith, long, length-take-le (0 + c.in-Ok.field-0) c.read_behind.new.octets (omega (arith, long, c.in-Ok.ensures.bound)), c.in-Ok.ensures.bound, c.in-Ok.field-0-test.1) in
    record {
      ended = tt;
      goes_on = λ e. (_, size, c.in-Ok.ensures.taken);
      failed = λ e. cc;
      one_of = inl refl;
      counted = λ e. cc;
      calm = λ other. c.in-Ok.ensures.counted;
    }
