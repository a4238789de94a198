use Rattle.std.proofs.Common.{refl}
use Rattle.grib_compare.specs.Seen.{readable_octets}
use Rattle.grib_compare.proofs.Causes.{given_lines, given_kept, kept_is}
use Rattle.grib_compare.proofs.Written.{by_counting, by_cause}
use Rattle.grib_compare.proofs.comparing.Comparing.answer.Goals as goal

pub returns-in-Ok : goal.returns-in-Ok
returns-in-Ok g c =
    by_counting g.T.Sink.contents g.T.Sink.faults g.T.Sink.settled c.write.result c.written.result c.args.place.now.message _ c.in-Ok.lines.text.items c.in-Ok.lines.differing _ _
    c.written.ensures
    (given_lines c.args.self.now.sections c.args.self.now.quiet c.args.self.now.file.now.fields c.args.place.now (readable_octets c.args.message.now) c.in-Ok.lines c.requires c.in-Ok.ensures)
    c.write.ensures.count c.write.ensures.writes

pub returns-in-Err-Kept : goal.returns-in-Err-Kept
returns-in-Err-Kept g c =
    by_cause g.T.Sink.contents g.T.Sink.faults g.T.Sink.settled _ c.args.place.now.message _ c.in-Err-Kept.cause c.args.output.now refl
    (given_kept c.args.self.now.sections c.args.self.now.quiet c.args.self.now.file.now.fields c.args.place.now (readable_octets c.args.message.now) c.in-Err-Kept.cause c.requires
    (kept_is _ c.in-Err-Kept.field-0 c.in-Err-Kept.cause c.in-Err-Kept.field-0-is c.in-Err-Kept.ensures))
