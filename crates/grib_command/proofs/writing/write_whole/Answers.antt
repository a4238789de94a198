use Rattle.std.proofs.Common.{◌∙◌, sym, rules}
use Rattle.grib_command.proofs.Noted.{left_true}
use Rattle.grib_command.proofs.Outside.{written_more, written_front}
use Rattle.grib_command.proofs.Passing.{failed_passed}
use Rattle.grib_command.proofs.writing.write_whole.Goals as goal

pub returns-in_err-written-clause-writes : goal.returns-in_err-written-clause-writes
returns-in_err-written-clause-writes g c = record {
  octets = record {
    whole = search rules;
    front = written_front _ _ _ c.args.piece.now c.loop-written.written c.loop-written.invariant.appended c.in_err-written.ensures.octets;
  };
  counted = search rules;
  unfinished = λ all. c.loop-written.invariant.unfinished (sym c.in_err-written.ensures.settled ∙ all);
}

pub loop-written-preserved : goal.loop-written-preserved
loop-written-preserved g c = record {
  appended = written_more _ _ _ c.args.piece.now c.loop-written.written c.in_ok-written.field-0 c.loop-written.invariant.appended c.in_ok-written.ensures.octets;
  faults_stay = c.in_ok-written.ensures.counted ∙ c.loop-written.invariant.faults_stay;
  unfinished = λ all. c.loop-written.invariant.unfinished (left_true _ _ (sym c.in_ok-written.ensures.settled ∙ all));
  waits = search rules;
  within = search rules;
}

pub returns-in_err-written-clause-memory : goal.returns-in_err-written-clause-memory
returns-in_err-written-clause-memory g c = λ off.
    failed_passed c.from_residual.result _ c.from_residual.ensures.1 (c.in_err-written.ensures.memory off)
