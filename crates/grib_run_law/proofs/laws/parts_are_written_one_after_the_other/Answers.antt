use Rattle.grib_run_law.proofs.Cutting.{job_parts}
use Rattle.grib_run_law.proofs.laws.parts_are_written_one_after_the_other.Goals as goal

pub returns-clause-octets : goal.returns-clause-octets
returns-clause-octets c = λ profile job text front rest is each fits ends done. (job_parts profile job text front rest is each fits ends done).octets

pub returns-clause-outcome : goal.returns-clause-outcome
returns-clause-outcome c = λ profile job text front rest is each fits ends done. (job_parts profile job text front rest is each fits ends done).outcome
