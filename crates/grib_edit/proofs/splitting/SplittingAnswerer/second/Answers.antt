use Rattle.grib_command.proofs.Answers.{by_shelf}
use Rattle.grib_edit.proofs.splitting.SplittingAnswerer.second.Goals as goal

pub returns : goal.returns
returns g c =
    by_shelf g.T.Sink.contents g.T.Sink.faults g.T.Sink.settled g.H.Shelf.contents g.H.Shelf.faults c.split.result _ _ _ _ _ (c.split.ensures c.args.place.now.message)
