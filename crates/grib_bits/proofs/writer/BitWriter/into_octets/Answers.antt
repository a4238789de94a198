use Rattle.std.proofs.Common.{◌-◌, length, take, ap, ◌∙◌, arith, List, ℕ}
use Rattle.grib_bits.specs.Written.{Written}
use Rattle.grib_bits.proofs.Writing.{written, length-written, written_out}
use Rattle.grib_bits.proofs.writer.BitWriter.into_octets.Goals as goal

pub loop-count-init : goal.loop-count-init
loop-count-init c =
    let w = c.self.inside in
    let seen = ap (λ (v : Written). length v.bits) c.self.view_is in
    record {
      same = ap (λ (xs : List ℕ). written xs (64 - w.free) w.word) c.truncate.ensures.items ∙ ap (λ (v : Written). v.bits) c.self.view_is;
      whole = omega (arith, length-written (take w.len w.octets.items) (64 - w.free) w.word);
      below = omega arith;
      room = omega arith;
    }

pub loop-count-preserved : goal.loop-count-preserved
loop-count-preserved c =
    let l = c.loop-count in
    record {
      same = ap (λ (xs : List ℕ). written xs (l.count - 8) c.self.inside.word) c.in-Ok.ensures.items ∙ written_out l.octets.items l.count c.self.inside.word (omega arith) ∙ l.invariant.same;
      whole = omega arith;
      below = omega arith;
      room = omega arith;
    }
