use Rattle.grib_nearest.proofs.Rounds.{machine_word}
use Rattle.grib_nearest.proofs.laws.machines_round_so.Goals as goal

pub returns : goal.returns
returns c = machine_word
