use Rattle.std.proofs.Common.{rules}
use Rattle.grib_text.specs.Lines.{point_line}
use Rattle.grib_command.proofs.Outside.{front_more}
use Rattle.grib_report.proofs.Pending.{pending_then}
use Rattle.grib_report.proofs.points.append_point.Goals as goal

pub returns-in_err-make_room : goal.returns-in_err-make_room
returns-in_err-make_room g c = record {
  octets = record {
    whole = search rules;
    front = front_more _ _ c.args.lines.now.items (point_line c.args.place c.args.point.now) c.make_room.ensures.octets.front;
  };
  counted = search rules;
  unfinished = search rules;
}

pub returns-in_err-append_point_line : goal.returns-in_err-append_point_line
returns-in_err-append_point_line g c = record {
  octets = record {
    whole = search rules;
    front = front_more _ _ c.args.lines.now.items (point_line c.args.place c.args.point.now) c.make_room.ensures.octets.front;
  };
  counted = search rules;
  unfinished = search rules;
}

pub returns : goal.returns
returns g c = record {
  octets = record {
    whole = pending_then _ _ c.args.lines.now.items c.make_room.new.lines.items (point_line c.args.place c.args.point.now) _
        c.in_ok-make_room.ensures.octets.whole c.in_ok-append_point_line.ensures.appended;
    front = front_more _ _ c.args.lines.now.items (point_line c.args.place c.args.point.now) c.make_room.ensures.octets.front;
  };
  counted = search rules;
  unfinished = search rules;
}
