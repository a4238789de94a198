use Rattle.std.proofs.Common.{rules}
use Rattle.grib_command.proofs.Outside.{front_more}
use Rattle.grib_report.proofs.Pending.{pending_then}
use Rattle.grib_report.proofs.points.append_text.Goals as goal

pub returns-in_err-make_room : goal.returns-in_err-make_room
returns-in_err-make_room g c = record {
  octets = record {
    whole = search rules;
    front = front_more _ _ c.args.lines.now.items c.args.text.now c.make_room.ensures.octets.front;
  };
  counted = search rules;
  unfinished = search rules;
}

pub returns : goal.returns
returns g c = record {
  octets = record {
    whole = pending_then _ _ c.args.lines.now.items c.make_room.new.lines.items c.args.text.now _ c.in_ok-make_room.ensures.octets.whole c.in_ok-extend_from_slice.ensures.items;
    front = front_more _ _ c.args.lines.now.items c.args.text.now c.make_room.ensures.octets.front;
  };
  counted = search rules;
  unfinished = search rules;
}
