use Rattle.std.proofs.Common.{◌+◌, ◌*◌, ℕ}
use Rattle.grib_bits.proofs.Listed.{one_more}
use Rattle.grib2_products.specs.Spelled.{spec_at}
use Rattle.grib2_products.proofs.lists.read_specs.Goals as goal

pub loop-k-preserved : goal.loop-k-preserved
loop-k-preserved c =
    one_more (λ (k : ℕ). spec_at c.args.octets.now (c.args.first + 12 * k)) c.loop-k.k _ _ _ c.loop-k.invariant c.read_spec.ensures c.in_ok-push.ensures.items
