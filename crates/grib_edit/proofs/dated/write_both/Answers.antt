use Rattle.std.proofs.Common.{◌+◌, rules}
use Rattle.grib_edit.proofs.Both.{second_front, both_written}
use Rattle.grib_edit.proofs.dated.write_both.Goals as goal

pub returns-in_err-after-clause-writes : goal.returns-in_err-after-clause-writes
returns-in_err-after-clause-writes g c = record {
  octets = record {
    whole = search rules;
    front = second_front _ _ _ c.args.front.now c.args.rest.now c.in_ok-before.ensures.writes.octets.whole c.write_counted-2.ensures.writes.octets.front;
  };
  counted = search rules;
  unfinished = search rules;
}

pub returns-clause-writes : goal.returns-clause-writes
returns-clause-writes g c =
    both_written g.T.Sink.contents g.T.Sink.faults g.T.Sink.settled c.in_ok-before.before c.in_ok-after.after (c.in_ok-before.before + c.in_ok-after.after) _ _ _
    c.args.front.now c.args.rest.now c.in_ok-before.ensures.writes c.in_ok-after.ensures.writes
