use Rattle.std.proofs.Common.{Bool, true, refl, sym, subst}
use Rattle.grib_base.specs.Rules.{choose}
use Rattle.grib_reasons.specs.declared.cause.Cause.TheVariants.{EditionOne}
use Rattle.grib_stream.specs.Acts.{world}
use Rattle.grib_stream.proofs.Worlds.{did_none}
use Rattle.grib_command.specs.Answering.{AnswersMessage, AnswersByShelf}
use Rattle.grib_command.specs.Command.{kept_first}
use Rattle.grib_command.specs.declared.answered.Answered.TheVariants.{Kept}
use Rattle.grib_command.proofs.Answers.{by_shelf}
use Rattle.grib_edit.specs.Parts.{parts1_of}
use Rattle.grib_edit.specs.Splitting.{given_parts}
use Rattle.grib_edit.proofs.splitting.SplittingAnswerer.first.Goals as goal

pub returns-then-self : goal.returns-then-self
returns-then-self g c =
    let place = c.args.place.now in
    let message = c.args.message.now in
    let Own : Bool → Type 0 = λ edition_1.
    AnswersMessage g.T.Sink.contents g.T.Sink.faults g.T.Sink.settled g.H.Shelf.contents g.H.Shelf.faults c.put_whole.result place.message
    (choose edition_1 (λ _. given_parts (parts1_of c.args.self.now.name.now place.fields message)) (λ _. kept_first place.message)) true c.args._output.now c.args._output.now c.args.shelf.now c.put_whole.new.shelf in
    subst Own (sym c.if-self.true)
    (by_shelf g.T.Sink.contents g.T.Sink.faults g.T.Sink.settled g.H.Shelf.contents g.H.Shelf.faults c.put_whole.result _ _ _ _ _ (c.put_whole.ensures place.message))

pub returns : goal.returns
returns g c =
    let place = c.args.place.now in
    let message = c.args.message.now in
    let shelf = c.args.shelf.now in
    let Own : Bool → Type 0 = λ edition_1.
    AnswersMessage g.T.Sink.contents g.T.Sink.faults g.T.Sink.settled g.H.Shelf.contents g.H.Shelf.faults (Kept EditionOne) place.message
    (choose edition_1 (λ _. given_parts (parts1_of c.args.self.now.name.now place.fields message)) (λ _. kept_first place.message)) true c.args._output.now c.args._output.now shelf shelf in
    let own : AnswersByShelf g.H.Shelf.contents g.H.Shelf.faults (Kept EditionOne) place.message (kept_first place.message) shelf shelf = record {
      answers = λ output. (refl, did_none (world output (g.H.Shelf.contents shelf)));
      shelf_fault = λ no. absurd (cc no);
      shelf_stays = λ other. refl;
      unwritten = λ no. cc;
    } in
    subst Own (sym c.if-self.false)
    (by_shelf g.T.Sink.contents g.T.Sink.faults g.T.Sink.settled g.H.Shelf.contents g.H.Shelf.faults (Kept EditionOne) place.message (kept_first place.message) c.args._output.now shelf shelf own)
