use Rattle.std.proofs.Common.{map, string_bytes, sym, ◌∙◌, subst, drop, Ok, Some, ◌≡◌}
use Rattle.grib_words.specs.Reading.{reading_of}
use Rattle.grib_words.specs.Words.{job_of_command, IsUnlessMemory}
use Rattle.grib_words.proofs.Asked.{has_read, read_behind, behind, asked, answer_is_job}
use Rattle.grib_words.proofs.job.job_of.Goals as goal

pub job_of_command-requires : goal.job_of_command-requires
job_of_command-requires c =
    subst (λ words. reading_of (Some c.in-Ok.command) words ≡ Ok c.in-Ok.command) (sym (behind string_bytes c.args.words.now))
    (read_behind (map string_bytes c.args.words.now) c.in-Ok.command (sym c.read_words.ensures ∙ c.in-Ok.is))

pub returns-in-Ok-clause-asked : goal.returns-in-Ok-clause-asked
returns-in-Ok-clause-asked c =
    asked (map string_bytes c.args.words.now) c.in-Ok.command c.job_of_command.result (sym c.read_words.ensures ∙ c.in-Ok.is)
    (subst (λ words. IsUnlessMemory c.job_of_command.result (job_of_command c.in-Ok.command words)) (behind string_bytes c.args.words.now) c.job_of_command.ensures)

pub returns-in-Ok-clause-is_job : goal.returns-in-Ok-clause-is_job
returns-in-Ok-clause-is_job c =
    let words = map string_bytes c.args.words.now in
    let read = has_read c.in-Ok.command (drop 1 words) (read_behind words c.in-Ok.command (sym c.read_words.ensures ∙ c.in-Ok.is)) in
    answer_is_job c.in-Ok.command (drop 1 words) c.job_of_command.result read
    (subst (λ words. IsUnlessMemory c.job_of_command.result (job_of_command c.in-Ok.command words)) (behind string_bytes c.args.words.now) c.job_of_command.ensures)
