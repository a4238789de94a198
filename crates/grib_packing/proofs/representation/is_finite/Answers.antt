use Rattle.std.proofs.Common.{ap, ◌/◌, ◌^◌, ℕ, not, eqb}
use Rattle.std.proofs.lemmas.Nat.{and_mask}
use Rattle.grib_packing.proofs.representation.is_finite.Goals as goal

pub returns : goal.returns
returns c = ap (λ (n : ℕ). not (eqb n 255)) (and_mask (c.args.word / 2 ^ 23) 8)
