use Rattle.std.proofs.Output.{has_written_of_eq}
use Rattle.grib_text.proofs.Pieces1.{product1_of-pieces}
use Rattle.grib_text.proofs.edition1.ProductDisplay.fmt.Goals as goal

pub returns-clause-writes : goal.returns-clause-writes
returns-clause-writes g c = λ plain ok.
    let p = c.args.self.now in
    has_written_of_eq _ _ _ _ _ (product1_of-pieces p.version p.parameter p.unit p.range p.p1 p.p2 p.level_type p.level) (c.write.ensures.writes plain ok)
