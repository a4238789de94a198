use Rattle.grib_run_law.proofs.Accepting.{stands}
use Rattle.grib_run_law.proofs.Judged.{job_judges}
use Rattle.grib_run_law.proofs.laws.what_a_run_answers_is_in_the_grammar.Goals as goal

pub returns : goal.returns
returns c = λ profile. job_judges profile (stands profile c.items_stand.ensures.items)
