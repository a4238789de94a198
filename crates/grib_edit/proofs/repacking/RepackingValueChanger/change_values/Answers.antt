use Rattle.std.proofs.Common.{option_map, ap, ◌∙◌}
use Rattle.grib_edit.specs.Repacking.{cause_of}
use Rattle.grib_command.proofs.Answers.{target_stands, by_octets}
use Rattle.grib_edit.proofs.KeptBy.{by_cause, not_repacked}
use Rattle.grib_edit.proofs.repacking.RepackingValueChanger.change_values.Goals as goal

pub repack-requires : goal.repack-requires
repack-requires g c = target_stands c.args.self.now.target c.args.self.now.target_stands

pub returns-in-Ok : goal.returns-in-Ok
returns-in-Ok g c = λ place.
    by_octets g.T.Sink.contents g.T.Sink.faults g.T.Sink.settled c.write_counted.result c.written.result _ _ _ c.as_slice.result.now _ _ c.written.ensures
    (ap (option_map cause_of) c.in-Ok.ensures.0) (c.as_slice.ensures.value ∙ c.in-Ok.ensures.1) c.write_counted.ensures.count c.write_counted.ensures.writes

pub returns-in-Err : goal.returns-in-Err
returns-in-Err g c = λ place. by_cause g.T.Sink.contents g.T.Sink.faults g.T.Sink.settled c.kept_by.result _ _ _ _ _ c.kept_by.ensures (not_repacked _ c.in-Err.fault c.in-Err.ensures)
