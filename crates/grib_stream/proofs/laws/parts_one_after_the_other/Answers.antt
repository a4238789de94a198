use Rattle.grib_stream.proofs.Parts.{parts_done, part_stopped}
use Rattle.grib_stream.proofs.laws.parts_one_after_the_other.Goals as goal

pub returns-clause-acts : goal.returns-clause-acts
returns-clause-acts c = λ task front rest lawful alone ends done. (parts_done task front rest lawful alone ends done).acts

pub returns-clause-outcome : goal.returns-clause-outcome
returns-clause-outcome c = λ task front rest lawful alone ends done. (parts_done task front rest lawful alone ends done).outcome

pub returns-clause-stopped : goal.returns-clause-stopped
returns-clause-stopped c = part_stopped
