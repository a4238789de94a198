use Rattle.std.proofs.Common.{[], arith}
use Rattle.grib_group_reading.proofs.lists.Lists.read.Goals as goal

pub finish-requires-clause-whole : goal.finish-requires-clause-whole
finish-requires-clause-whole c = record {
  total = c.args.values;
  octets = c.args.octets.now;
  fed = c.push.ensures.fed c.args.values [] (omega arith) (c.start-lists.ensures.fed c.args.values c.in_ok-start.ensures);
  enough = c.requires.within;
}

pub returns : goal.returns
returns c =
    let octets = c.args.octets.now in
    c.finish.ensures c.args.values octets (c.push.ensures.fed c.args.values [] (omega arith) (c.start-lists.ensures.fed c.args.values c.in_ok-start.ensures)) c.requires.within
