use Rattle.grib_command.proofs.Answers.{by_output}
use Rattle.grib_command.proofs.answerer.ByOutputAnswerer.second.Goals as goal

pub returns : goal.returns
returns g c =
    by_output g.T.Sink.contents g.T.Sink.faults g.T.Sink.settled g.H.Shelf.contents g.H.Shelf.faults c.second.result _ _ _ _ _ _
    (g.met.W.Writer.unshelved c.args.self.now.0) c.second.ensures
