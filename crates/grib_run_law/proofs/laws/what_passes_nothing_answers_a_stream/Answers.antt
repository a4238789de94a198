use Rattle.std.proofs.Common.{◌^◌}
use Rattle.grib_command.specs.Command.{task}
use Rattle.grib_command.specs.Texts.{texts}
use Rattle.grib_dispatch.specs.Lawful.{lawful}
use Rattle.grib_run_law.proofs.Plain.{plainly}
use Rattle.grib_run_law.proofs.laws.what_passes_nothing_answers_a_stream.Goals as goal

pub returns : goal.returns
returns c = λ command input law.
    plainly command law input (c.each_outcome_has_its_note.ensures (task command) (2 ^ 40) input)
    (c.nothing_is_passed.ensures (task command) texts (2 ^ 40) input (lawful command law))
