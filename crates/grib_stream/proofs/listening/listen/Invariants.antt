use Rattle.std.proofs.Common.{◌≡◌}
use Rattle.grib_stream.proofs.Hearers.{Listening}
use Rattle.grib_stream.proofs.listening.listen.Given as goal

-- what was heard so far, and no fault
abbrev pub invariant-pieces : goal.invariant-pieces
invariant-pieces g l = record {
  so : Listening (g.K.Performer.task l.performer) (g.K.Performer.hears l.performer) (g.K.Hearer.Hearer.heard (g.K.Performer.judges l.performer) l.hearer) (g.S.Source.left l.fn.input) (g.S.Source.left l.input) l.fn.window.octets l.window.octets l.fn.left l.left;
  calm : g.S.Source.faults l.input ≡ g.S.Source.faults l.fn.input;
}

abbrev pub decreases-pieces : goal.decreases-pieces
decreases-pieces g l = l.left
