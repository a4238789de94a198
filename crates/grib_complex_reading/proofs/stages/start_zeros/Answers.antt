use Rattle.std.proofs.Common.{[], ap, ◌∙◌}
use Rattle.grib_group_reading.specs.Feeding.{no_marks, plain_groups}
use Rattle.grib_group_reading.specs.Table.{groups_in}
use Rattle.grib_complex_reading.proofs.Starting.{passes_zeros, starts_zeros}
use Rattle.grib_complex_reading.proofs.stages.start_zeros.Goals as goal

pub returns-then-not-keeps : goal.returns-then-not-keeps
returns-then-not-keeps g c = λ s5 start l complex none is_count least.
    passes_zeros g.K.Keeper.kept s5 c.args.keeper start l c.args.count complex none is_count least (c.keeps.ensures c.if-not-keeps.true)

pub returns : goal.returns
returns g c = λ s5 start l complex none is_count least.
    starts_zeros g.K.Keeper.kept s5 c.args.keeper start l c.args.count complex none is_count least c.push.result c.push.ensures.feedable c.push.ensures.caught_up (ap groups_in c.push.ensures.table ∙ c.list.ensures.table)
    (c.push.ensures.fed no_marks (plain_groups 0 c.args.count) (record { keeper = c.args.keeper }) [] c.list.ensures.fed)
