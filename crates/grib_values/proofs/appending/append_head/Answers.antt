use Rattle.std.proofs.Common.{rules}
use Rattle.grib_arrays.specs.Header.{header}
use Rattle.grib_command.proofs.Outside.{front_more}
use Rattle.grib_report.proofs.Pending.{pending_then}
use Rattle.grib_values.proofs.appending.append_head.Goals as goal

pub returns-in_err-make_room : goal.returns-in_err-make_room
returns-in_err-make_room g c = record {
  octets = record {
    whole = search rules;
    front = front_more _ _ c.args.octets.now.items (header c.args.format c.args.shape) c.make_room.ensures.octets.front;
  };
  counted = search rules;
  unfinished = search rules;
}

pub returns-in_err-append_header : goal.returns-in_err-append_header
returns-in_err-append_header g c = record {
  octets = record {
    whole = search rules;
    front = front_more _ _ c.args.octets.now.items (header c.args.format c.args.shape) c.make_room.ensures.octets.front;
  };
  counted = search rules;
  unfinished = search rules;
}

pub returns : goal.returns
returns g c = record {
  octets = record {
    whole = pending_then _ _ c.args.octets.now.items c.make_room.new.lines.items (header c.args.format c.args.shape) _
        c.in_ok-make_room.ensures.octets.whole c.in_ok-append_header.ensures;
    front = front_more _ _ c.args.octets.now.items (header c.args.format c.args.shape) c.make_room.ensures.octets.front;
  };
  counted = search rules;
  unfinished = search rules;
}
