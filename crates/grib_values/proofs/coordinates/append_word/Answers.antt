use Rattle.std.proofs.Common.{ℕ, List, ◌++◌, ap, ◌∙◌, rules}
use Rattle.grib_nearest.specs.declared.format.Format.TheVariants.{Binary64}
use Rattle.grib_arrays.specs.Values.{word_octets}
use Rattle.grib_command.proofs.Outside.{front_more}
use Rattle.grib_report.proofs.Pending.{pending_then}
use Rattle.grib_values.proofs.coordinates.append_word.Goals as goal

pub returns-in_err-make_room : goal.returns-in_err-make_room
returns-in_err-make_room g c = record {
  octets = record {
    whole = search rules;
    front = front_more _ _ c.args.octets.now.items (word_octets Binary64 c.args.word) c.make_room.ensures.octets.front;
  };
  counted = search rules;
  unfinished = search rules;
}

pub returns-in_err-extend_from_slice : goal.returns-in_err-extend_from_slice
returns-in_err-extend_from_slice g c = record {
  octets = record {
    whole = search rules;
    front = front_more _ _ c.args.octets.now.items (word_octets Binary64 c.args.word) c.make_room.ensures.octets.front;
  };
  counted = search rules;
  unfinished = search rules;
}

pub returns : goal.returns
returns g c = record {
  octets = record {
    whole = pending_then _ _ c.args.octets.now.items c.make_room.new.lines.items (word_octets Binary64 c.args.word) _
        c.in_ok-make_room.ensures.octets.whole
        (c.in_ok-extend_from_slice.ensures.items ∙ ap (λ (xs : List ℕ). c.make_room.new.lines.items ++ xs) c.to_le_bytes.ensures);
    front = front_more _ _ c.args.octets.now.items (word_octets Binary64 c.args.word) c.make_room.ensures.octets.front;
  };
  counted = search rules;
  unfinished = search rules;
}
