use Rattle.std.proofs.Common.{◌≡◌, ℕ, ◌+◌, ◌-◌, ◌*◌, ap, ap₂, sym, ◌∙◌, arith}
use Rattle.grib_bits.specs.Octets.{octets}
use Rattle.grib_bits.specs.Listed.{number_at}
use Rattle.grib1_sections.proofs.Answered.{sum_more}
use Rattle.grib1_sections.proofs.checking.sum_rows.Goals as goal

pub loop-row-preserved : goal.loop-row-preserved
loop-row-preserved c =
    let s = c.args.octets.now in
    let place : c.args.first + 2 * c.loop-row.row ≡ c.args.first + c.loop-row.row * 2 = omega arith in
    let last : c.args.first + c.loop-row.row * 2 + 1 ≡ c.args.first + c.loop-row.row * 2 + 2 - 1 = omega arith in
    let number = ap (λ (n : ℕ). octets s n (n + 1)) place ∙ ap (octets s (c.args.first + c.loop-row.row * 2)) last in record {
      so_far = ap₂ (λ (n k : ℕ). n + k) c.loop-row.invariant.so_far (c.from-points.ensures ∙ c.u16_at.ensures ∙ number) ∙ sym (sum_more (number_at s c.args.first 2) c.loop-row.row);
      few = omega (arith, c.loop-row.invariant.few);
    }
