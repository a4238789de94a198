use Rattle.std.proofs.Common.{ℤ, [], ◌∷◌, ◌++◌, FitsSigned, to_z-of_z, ap, ◌∙◌, rules}
use Rattle.std.specs.Int.{w64}
use Rattle.grib_bits.proofs.Listed.{one_more}
use Rattle.grib_places.specs.Degrees.{micro_degrees}
use Rattle.grib_places.specs.Places.{stepped}
use Rattle.grib_places.proofs.line.Line.micros.Goals as goal

pub loop-k-preserved : goal.loop-k-preserved
loop-k-preserved c =
    let line = c.args.self in
    let fits : FitsSigned w64 c.micro.result = search rules in
    one_more (λ k. micro_degrees (stepped line.first line.way line.count k)) c.loop-k.k c.micro.result c.loop-k.micros.items c.push.new.self.items
    c.loop-k.invariant c.micro.ensures (c.in_ok-push.ensures.items ∙ ap (λ (x : ℤ). c.loop-k.micros.items ++ x ∷ []) (to_z-of_z fits))
