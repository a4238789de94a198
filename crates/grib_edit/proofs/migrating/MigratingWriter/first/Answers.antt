use Rattle.std.proofs.Common.{[], option_map, ap, ◌∙◌}
use Rattle.grib_base.specs.Rules.{choose}
use Rattle.grib_reasons.specs.declared.cause.Cause.TheVariants.{Lost}
use Rattle.grib_migrate.specs.Losses.{first_loss_with}
use Rattle.grib_migrate.specs.Migrated.{migrated_with}
use Rattle.grib_stream.specs.Task.{Gives}
use Rattle.grib_command.specs.Command.{given_unless}
use Rattle.grib_command.proofs.Answers.{by_octets, as_given}
use Rattle.grib_edit.proofs.KeptBy.{by_cause, not_migrated}
use Rattle.grib_edit.proofs.migrating.MigratingWriter.first.Goals as goal

pub returns-in-Ok : goal.returns-in-Ok
returns-in-Ok g c =
    let m = c.args._place.now.message in
    let octets = migrated_with c.args.self.now.table.now c.args.self.now.surfaces.now c.args.self.now.local c.args.message.now in
    let cause = option_map Lost (first_loss_with c.args.self.now.table.now c.args.self.now.surfaces.now c.args.self.now.local c.args.message.now) in
    as_given g.T.Sink.contents g.T.Sink.faults g.T.Sink.settled c.written.result m _ (given_unless cause m octets) _ _
    (ap (λ b. choose b (λ _. given_unless cause m octets) (λ _. Gives [] 0)) c.has_octets.ensures)
    (by_octets g.T.Sink.contents g.T.Sink.faults g.T.Sink.settled c.write_counted.result c.written.result cause m octets c.as_slice.result.now _ _ c.written.ensures
    (ap (option_map Lost) c.in-Ok.ensures.0) (c.as_slice.ensures.value ∙ c.in-Ok.ensures.1) c.write_counted.ensures.count c.write_counted.ensures.writes)

pub returns-in-Err : goal.returns-in-Err
returns-in-Err g c =
    let m = c.args._place.now.message in
    let octets = migrated_with c.args.self.now.table.now c.args.self.now.surfaces.now c.args.self.now.local c.args.message.now in
    let loss = first_loss_with c.args.self.now.table.now c.args.self.now.surfaces.now c.args.self.now.local c.args.message.now in
    let cause = option_map Lost loss in
    as_given g.T.Sink.contents g.T.Sink.faults g.T.Sink.settled c.kept_by.result m _ (given_unless cause m octets) _ _
    (ap (λ b. choose b (λ _. given_unless cause m octets) (λ _. Gives [] 0)) c.has_octets.ensures)
    (by_cause g.T.Sink.contents g.T.Sink.faults g.T.Sink.settled c.kept_by.result _ cause m octets _ c.kept_by.ensures (not_migrated loss c.in-Err.fault c.in-Err.ensures))
