use Rattle.grib_packings.proofs.representation.Representation.values.Goals as goal

pub returns : goal.returns
returns c = λ s5 read. (c.shared.ensures s5 read).values
