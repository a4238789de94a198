use Rattle.std.proofs.Common.{◌+◌, rules}
use Rattle.grib_command.proofs.Outside.{front_more}
use Rattle.grib_report.proofs.Pending.{pending_then}
use Rattle.grib_placed.specs.Lines.{placed_line}
use Rattle.grib_placed.specs.Texts.{text_in}
use Rattle.grib_placed.proofs.lines.append_placed_point.Goals as goal

pub returns-in_err-make_room : goal.returns-in_err-make_room
returns-in_err-make_room g c = λ s are. record {
  octets = record {
    whole = search rules;
    front = front_more _ _ c.args.lines.now.items (placed_line s (text_in c.args.form.now) (c.args.index + 1) c.args.point.now) c.make_room.ensures.octets.front;
  };
  counted = search rules;
  unfinished = search rules;
}

pub returns-in_err-append_line : goal.returns-in_err-append_line
returns-in_err-append_line g c = λ s are. record {
  octets = record {
    whole = search rules;
    front = front_more _ _ c.args.lines.now.items (placed_line s (text_in c.args.form.now) (c.args.index + 1) c.args.point.now) c.make_room.ensures.octets.front;
  };
  counted = search rules;
  unfinished = search rules;
}

pub returns : goal.returns
returns g c = λ s are. record {
  octets = record {
    whole = pending_then _ _ c.args.lines.now.items c.make_room.new.lines.items (placed_line s (text_in c.args.form.now) (c.args.index + 1) c.args.point.now) _
        c.in_ok-make_room.ensures.octets.whole (c.in_ok-append_line.ensures s are);
    front = front_more _ _ c.args.lines.now.items (placed_line s (text_in c.args.form.now) (c.args.index + 1) c.args.point.now) c.make_room.ensures.octets.front;
  };
  counted = search rules;
  unfinished = search rules;
}
