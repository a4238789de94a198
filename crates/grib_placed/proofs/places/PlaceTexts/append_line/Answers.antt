use Rattle.grib_placed.specs.Texts.{text_in}
use Rattle.grib_placed.proofs.Placed.{line_is}
use Rattle.grib_placed.proofs.places.PlaceTexts.append_line.Goals as goal

pub returns : goal.returns
returns c = λ s are.
    line_is s (text_in c.args.form.now) c.args.index c.args.point.now c.args.lines.now.items c.append.new.lines.items c.append_point.new.lines.items c.push.new.self.items
    (c.in_ok-append.ensures s are) c.in_ok-append_point.ensures c.in_ok-push.ensures.items
