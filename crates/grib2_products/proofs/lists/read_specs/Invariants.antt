use Rattle.std.proofs.Common.{◌≡◌}
use Rattle.grib2_products.specs.Spelled.{specs_at}
use Rattle.grib2_products.proofs.lists.read_specs.Given as goal

abbrev pub invariant-loop-k : goal.invariant-loop-k
invariant-loop-k l = l.specs.items ≡ specs_at l.octets l.first l.k
