-- What is written of an input that is cut at the end of one of its messages.
use Rattle.std.proofs.Common.{◌≡◌, ℕ, ◌^◌, ◌≤◌, true, Option, None, List, ◌++◌, length, sym, ap, ◌∙◌, arith, length-append}
use Rattle.std.proofs.lemmas.Bool.{false≢true}
use Rattle.grib_base.specs.declared.profile.Profile.{Profile}
use Rattle.grib_reasons.specs.declared.cause.Cause.{Cause}
use Rattle.grib_table.specs.declared.together.Tables.{Tables}
use Rattle.grib_table.specs.Together.{Together, AllGood, TableRefused, SurfacesRefused, Texts, together}
use Rattle.grib_reorder.specs.declared.edit.GridEdit.TheVariants as edits
use Rattle.grib_stream.specs.declared.outcome.Outcome.TheVariants.{Done}
use Rattle.grib_stream.specs.Acts.{written}
use Rattle.grib_stream.specs.Answer.{Answer, answer_of, answer_within}
use Rattle.grib_stream.specs.Cutting.{EndsAtMessage, later_by, message_count}
use Rattle.grib_stream.specs.Task.{Task}
use Rattle.grib_stream.proofs.Exits.{within_short}
use Rattle.grib_stream.proofs.Parts.{AsParts, parts_done}
use Rattle.grib_run_law.proofs.Alone.{Fixed, changing_fixed, values_fixed, choosing_fixed, filter1_fixed, set1_fixed, migrate_fixed, demote_fixed, stands_alone}
use Rattle.grib_run_law.proofs.Each.{written_join}
use Rattle.grib_command.specs.declared.job.Job.{Job}
use Rattle.grib_command.specs.declared.job.Job.TheVariants.{Check, List as Listing, Keys, Lines, Stats, Dump, Values, Coordinates, Compare, Filter, FilterNamed, Filter1, Split, Set, Set1, Repack, RepackLeast, Rescan, Crop, Within, Migrate, Demote, Make, Print}
use Rattle.grib_command.specs.Command.{Command, IsLawfulCommand, changing_unless, reading_values, task, under}
use Rattle.grib_command.specs.LawfulCommands.{under_lawful}
use Rattle.grib_run_law.specs.Each.{writes_each}
use Rattle.grib_edit.specs.Filtering.{fulfils, filter_command, filter_lawful}
use Rattle.grib_edit.specs.Filtering1.{filter1_command, filter1_lawful}
use Rattle.grib_edit.specs.FilteringNamed.{fulfils_named, filter_named_lawful}
use Rattle.grib_command.specs.Jobs.{IsJob}
use Rattle.grib_command.specs.Judging.{judge_under}
use Rattle.grib_dispatch.specs.Lawful.{lawful}
use Rattle.grib_edit.specs.Migrating.{migrate_lawful}
use Rattle.grib_edit.specs.Demoting.{demote_lawful}
use Rattle.grib_least.specs.Least.{least}
use Rattle.grib_edit.specs.Least.{least_lawful}
use Rattle.grib_edit.specs.Repacking.{repack_lawful}
use Rattle.grib_edit.specs.Rescanning.{edit_lawful}
use Rattle.grib_edit.specs.Setting.{set_lawful}
use Rattle.grib_edit.specs.Setting1.{set1_command, set1_lawful}
use Rattle.grib_run_spec.specs.Tasks.{answer_by, answer_under, by_parameters, by_names, demoting, filtering_named, migrating}

-- ---- what is written of the parts

-- what is answered to the whole, by what is answered to its first part, of this many messages, and to its second
pub record WrittenAsParts (whole first second : Answer) (count : ℕ) : Type 0 where
  pub octets : written whole.acts ≡ written first.acts ++ written second.acts
  pub outcome : whole.outcome ≡ later_by count second.outcome

module _ (profile : Profile) (limit : ℕ) (front rest : List ℕ) (fits : length (front ++ rest) ≤ limit) (ends : EndsAtMessage (judge_under profile) front) where
  abbrev AsWritten : (List ℕ → Answer) → Type 0
  AsWritten answer = (answer front).outcome ≡ Done → WrittenAsParts (answer (front ++ rest)) (answer front) (answer rest) (message_count (judge_under profile) front)

  written_parts : (command : Command) → IsLawfulCommand command → Fixed command → AsWritten (answer_within limit (task (under profile command)))
  written_parts command is_lawful fixed done =
      let t : Task = task (under profile command) in
      let law = lawful (under profile command) (under_lawful profile command is_lawful) in
      let alone = stands_alone (under profile command) fixed in
      let first_fits : length front ≤ limit = omega (arith, fits, length-append front rest) in
      let rest_fits : length rest ≤ limit = omega (arith, fits, length-append front rest) in
      let whole : answer_within limit t (front ++ rest) ≡ answer_of t (front ++ rest) = within_short t limit (front ++ rest) fits in
      let first : answer_within limit t front ≡ answer_of t front = within_short t limit front first_fits in
      let second : answer_within limit t rest ≡ answer_of t rest = within_short t limit rest rest_fits in
      let parts : AsParts t front rest = parts_done t front rest law alone ends (sym (ap (λ x. x.outcome) first) ∙ done) in
      record {
        octets = ap (λ x. written x.acts) whole
            ∙ (ap written parts.acts
            ∙ (written_join (answer_of t front).acts (answer_of t rest).acts
            ∙ (sym (ap (λ x. written x.acts ++ written (answer_of t rest).acts) first) ∙ sym (ap (λ x. written (answer_within limit t front).acts ++ written x.acts) second))));
        outcome = ap (λ x. x.outcome) whole ∙ (parts.outcome ∙ sym (ap (λ x. later_by (message_count (judge_under profile) front) x.outcome) second));
      }

  unless_parts : (cause : List ℕ → Option Cause) (octets : List ℕ → List ℕ) → IsLawfulCommand (changing_unless cause octets)
      → AsWritten (answer_within limit (task (under profile (changing_unless cause octets))))
  unless_parts cause octets law = written_parts (changing_unless cause octets) law (changing_fixed cause octets)

  values_parts : (cause : List ℕ → Option Cause) (octets : List ℕ → List ℕ) → IsLawfulCommand (reading_values (changing_unless cause octets))
      → AsWritten (answer_within limit (task (under profile (reading_values (changing_unless cause octets)))))
  values_parts cause octets law = written_parts (reading_values (changing_unless cause octets)) law (values_fixed cause octets)

-- tables that are refused end the run before its input
tabled_parts : (profile : Profile) (commands : Tables → Command) → ((tables : Tables) → IsLawfulCommand (commands tables)) → ((tables : Tables) → Fixed (commands tables)) → (t : Together) (front rest : List ℕ)
    → length (front ++ rest) ≤ 2 ^ 40 → EndsAtMessage (judge_under profile) front
    → (answer_by t (λ tables. under profile (commands tables)) front).outcome ≡ Done
    → WrittenAsParts (answer_by t (λ tables. under profile (commands tables)) (front ++ rest)) (answer_by t (λ tables. under profile (commands tables)) front) (answer_by t (λ tables. under profile (commands tables)) rest)
    (message_count (judge_under profile) front)
tabled_parts profile commands law fixed (AllGood tables) front rest fits ends done = written_parts profile (2 ^ 40) front rest fits ends (commands tables) (law tables) (fixed tables) done
tabled_parts profile commands law fixed (TableRefused refusal) front rest fits ends done = let no : ⊥ = cc in absurd no
tabled_parts profile commands law fixed (SurfacesRefused refusal) front rest fits ends done = let no : ⊥ = cc in absurd no

pub job_parts : (profile : Profile) (job : Job) (texts : Texts) (front rest : List ℕ) → IsJob job → writes_each job ≡ true → length (front ++ rest) ≤ 2 ^ 40 → EndsAtMessage (judge_under profile) front
    → (answer_under profile job texts front).outcome ≡ Done
    → WrittenAsParts (answer_under profile job texts (front ++ rest)) (answer_under profile job texts front) (answer_under profile job texts rest) (message_count (judge_under profile) front)
job_parts profile (Filter conditions) texts front rest is each fits ends done =
    written_parts profile (2 ^ 40) front rest fits ends (filter_command conditions) (filter_lawful conditions) (choosing_fixed (fulfils conditions)) done
job_parts profile (FilterNamed conditions name wanted) texts front rest is each fits ends done =
    tabled_parts profile (filtering_named conditions wanted) (λ tables. filter_named_lawful conditions wanted tables.names) (λ tables. choosing_fixed (fulfils_named conditions wanted tables.names))
    (together (by_names name) texts) front rest fits ends done
job_parts profile (Filter1 conditions) texts front rest is each fits ends done =
    written_parts profile (2 ^ 40) front rest fits ends (filter1_command conditions) (filter1_lawful conditions) (filter1_fixed conditions) done
job_parts profile (Set changes dates) texts front rest is each fits ends done =
    unless_parts profile (2 ^ 40) front rest fits ends _ _ (set_lawful dates changes is.changes_stand) done
job_parts profile (Set1 changes dates) texts front rest is each fits ends done =
    written_parts profile (2 ^ 40) front rest fits ends (set1_command dates changes) (set1_lawful dates changes is.changes1_stand) (set1_fixed dates changes) done
job_parts profile (Repack target) texts front rest is each fits ends done = values_parts profile (2 ^ 40) front rest fits ends _ _ (repack_lawful target) done
job_parts profile (RepackLeast tried) texts front rest is each fits ends done = values_parts profile (2 ^ 40) front rest fits ends (λ message. None) (least tried) (least_lawful tried) done
job_parts profile Rescan texts front rest is each fits ends done = values_parts profile (2 ^ 40) front rest fits ends _ _ (edit_lawful edits.Rescan) done
job_parts profile (Crop area) texts front rest is each fits ends done = values_parts profile (2 ^ 40) front rest fits ends _ _ (edit_lawful (edits.Crop area)) done
job_parts profile (Within bounds) texts front rest is each fits ends done = values_parts profile (2 ^ 40) front rest fits ends _ _ (edit_lawful (edits.Within bounds)) done
job_parts profile (Migrate params surfaces local) texts front rest is each fits ends done =
    tabled_parts profile (migrating local) (λ tables. migrate_lawful local tables.parameters tables.surfaces) (λ tables. migrate_fixed local tables.parameters tables.surfaces)
    (together (by_parameters params surfaces) texts) front rest fits ends done
job_parts profile (Demote params keep_local any_earth matching) texts front rest is each fits ends done =
    tabled_parts profile (demoting matching keep_local any_earth) (λ tables. demote_lawful matching keep_local any_earth tables.parameters) (λ tables. demote_fixed matching keep_local any_earth tables.parameters)
    (together (by_parameters params None) texts) front rest fits ends done
job_parts profile Check texts front rest is each fits ends done = absurd (false≢true each)
job_parts profile Listing texts front rest is each fits ends done = absurd (false≢true each)
job_parts profile Keys texts front rest is each fits ends done = absurd (false≢true each)
job_parts profile (Lines form columns names) texts front rest is each fits ends done = absurd (false≢true each)
job_parts profile Stats texts front rest is each fits ends done = absurd (false≢true each)
job_parts profile (Dump decimals placed) texts front rest is each fits ends done = absurd (false≢true each)
job_parts profile (Values format) texts front rest is each fits ends done = absurd (false≢true each)
job_parts profile Coordinates texts front rest is each fits ends done = absurd (false≢true each)
job_parts profile (Compare name sections quiet) texts front rest is each fits ends done = absurd (false≢true each)
job_parts profile (Split name edition_1) texts front rest is each fits ends done = absurd (false≢true each)
job_parts profile (Make seed ni nj target) texts front rest is each fits ends done = absurd (false≢true each)
job_parts profile (Print page) texts front rest is each fits ends done = absurd (false≢true each)
