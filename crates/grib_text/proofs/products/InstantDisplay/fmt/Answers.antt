use Rattle.std.proofs.Common.{◌≡◌, arith, w64, to_z, of_z}
use Rattle.std.proofs.lemmas.Int.{ints}
use Rattle.std.proofs.Output.{has_written_of_eq}
use Rattle.grib_text.specs.Lines.{surface_of}
use Rattle.grib_text.proofs.Pieces.{instant_of-pieces}
use Rattle.grib_text.proofs.products.InstantDisplay.fmt.Goals as goal

pub returns-clause-writes : goal.returns-clause-writes
returns-clause-writes g c = λ plain ok.
    let p = c.args.self.now in
    let surface = surface_of p.surface.kind.0 p.surface.scale.0 p.surface.value.0 in
    let same : to_z w64 (of_z w64 p.ahead) ≡ p.ahead = omega (arith, ints) in
    has_written_of_eq _ _ _ _ _ (instant_of-pieces p.unit _ p.ahead surface same) (c.write.ensures.writes plain ok)
