use Rattle.grib_help.proofs.Helped.{has_line}
use Rattle.grib_help.proofs.laws.help_has_a_line_on_each_command.Goals as goal

pub returns : goal.returns
returns c = has_line
