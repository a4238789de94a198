use Rattle.std.proofs.Common.{refl}
use Rattle.grib_stream.specs.declared.outcome.Outcome.TheVariants.{WriteFault, ShelfFault, Memory}
use Rattle.grib_command.specs.Command.{under}
use Rattle.grib_dispatch.proofs.Editions.{ends_within, ends_unread}
use Rattle.grib_dispatch.proofs.performing.AnsweringPerformer.perform.Goals as goal

pub returns-in-WriteFault-clause-performs : goal.returns-in-WriteFault-clause-performs
returns-in-WriteFault-clause-performs g c =
    ends_within (under c.args.self.now.profile (g.C.Answerer.definition c.args.self.now.answerer.now)) c.args.place.now c.args.octets.now c.in-Ok.held WriteFault _ _ refl c.in-Ok.ensures c.in-WriteFault.ensures.answers

pub returns-in-ShelfFault-clause-performs : goal.returns-in-ShelfFault-clause-performs
returns-in-ShelfFault-clause-performs g c =
    ends_within (under c.args.self.now.profile (g.C.Answerer.definition c.args.self.now.answerer.now)) c.args.place.now c.args.octets.now c.in-Ok.held ShelfFault _ _ refl c.in-Ok.ensures c.in-ShelfFault.ensures.answers

pub returns-clause-performs : goal.returns-clause-performs
returns-clause-performs g c =
    ends_within (under c.args.self.now.profile (g.C.Answerer.definition c.args.self.now.answerer.now)) c.args.place.now c.args.octets.now c.in-Ok.held Memory _ _ refl c.in-Ok.ensures c.in-Memory.ensures.answers

pub returns-in-Err-Memory-clause-performs : goal.returns-in-Err-Memory-clause-performs
returns-in-Err-Memory-clause-performs g c = ends_unread _ Memory _ refl
