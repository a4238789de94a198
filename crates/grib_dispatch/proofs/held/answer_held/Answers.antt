use Rattle.std.proofs.Common.{sym, subst}
use Rattle.grib_command.specs.Answering.{AnswersMessage}
use Rattle.grib_dispatch.proofs.Editions.{given_of_first, given_of_second}
use Rattle.grib_dispatch.proofs.held.answer_held.Goals as goal

pub returns-in-One : goal.returns-in-One
returns-in-One g c =
    subst
    (λ given. AnswersMessage g.T.Sink.contents g.T.Sink.faults g.T.Sink.settled g.H.Shelf.contents g.H.Shelf.faults c.first.result c.args.place.now.message given
    (g.C.Answerer.definition c.args.answerer.now).uses_shelf c.args.output.now c.first.new.output c.args.shelf.now c.first.new.shelf)
    (sym (given_of_first (g.C.Answerer.definition c.args.answerer.now) c.args.place.now _ _ c.in-One.is c.octets.ensures.message.edition_stands)) c.first.ensures

pub returns-in-Two : goal.returns-in-Two
returns-in-Two g c =
    subst
    (λ given. AnswersMessage g.T.Sink.contents g.T.Sink.faults g.T.Sink.settled g.H.Shelf.contents g.H.Shelf.faults c.second.result c.args.place.now.message given
    (g.C.Answerer.definition c.args.answerer.now).uses_shelf c.args.output.now c.second.new.output c.args.shelf.now c.second.new.shelf)
    (sym (given_of_second (g.C.Answerer.definition c.args.answerer.now) c.args.place.now _ _ c.in-Two.is c.octets-in-Two.ensures.message.edition_stands)) c.second.ensures
