use Rattle.std.proofs.Common.{rules}
use Rattle.grib_arrays.specs.Values.{point_octets}
use Rattle.grib_command.proofs.Outside.{front_more}
use Rattle.grib_report.proofs.Pending.{pending_then}
use Rattle.grib_values.proofs.appending.append_value.Goals as goal

pub returns-in_err-make_room : goal.returns-in_err-make_room
returns-in_err-make_room g c = λ f r e d is. record {
  octets = record {
    whole = search rules;
    front = front_more _ _ c.args.octets.now.items (point_octets f r e d c.args.point.now) c.make_room.ensures.octets.front;
  };
  counted = search rules;
  unfinished = search rules;
}

pub returns-in_err-append : goal.returns-in_err-append
returns-in_err-append g c = λ f r e d is. record {
  octets = record {
    whole = search rules;
    front = front_more _ _ c.args.octets.now.items (point_octets f r e d c.args.point.now) c.make_room.ensures.octets.front;
  };
  counted = search rules;
  unfinished = search rules;
}

pub returns : goal.returns
returns g c = λ f r e d is. record {
  octets = record {
    whole = pending_then _ _ c.args.octets.now.items c.make_room.new.lines.items (point_octets f r e d c.args.point.now) _
        c.in_ok-make_room.ensures.octets.whole (c.in_ok-append.ensures f r e d is);
    front = front_more _ _ c.args.octets.now.items (point_octets f r e d c.args.point.now) c.make_room.ensures.octets.front;
  };
  counted = search rules;
  unfinished = search rules;
}
