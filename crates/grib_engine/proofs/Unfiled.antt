-- A run beside a file that was read before any input, or that was not read.
use Rattle.std.proofs.Common.{◌≡◌, ℕ, Bool, IfSome, Option, Err, List, refl, sym, subst}
use Rattle.std.proofs.lemmas.Bool.{false≢true}
use Rattle.grib_base.specs.declared.profile.Profile.{Profile}
use Rattle.grib_io.specs.Shelves.{Held, Stays}
use Rattle.grib_file.specs.Filed as files
use Rattle.grib_file.specs.Filed.{FieldOf, FileFields, Filed, filed}
use Rattle.grib_file.specs.Read as reads
use Rattle.grib_file.specs.Read.{CountsFileStop}
use Rattle.grib_file.specs.declared.stop.FileStop.{FileStop}
use Rattle.grib_file.specs.declared.stop.FileStop.TheVariants as stops
use Rattle.grib_stream.specs.declared.outcome.Outcome.{Outcome}
use Rattle.grib_stream.specs.declared.outcome.Outcome.TheVariants as outcomes
use Rattle.grib_stream.specs.declared.outcome.Outcome.TheVariants.{ShelfFault, Memory}
use Rattle.grib_items.specs.declared.policy.Policy.{Policy}
use Rattle.grib_items.specs.Run.{CountsOne}
use Rattle.grib_command.specs.Command.{Command}
use Rattle.grib_command.specs.Outcomes.{note_of}
use Rattle.grib_run_spec.specs.Seen.{Seen, faults_of}
use Rattle.grib_run_spec.specs.Stated.{IfFiled, IfAsked, stated_to}
use Rattle.grib_run_spec.specs.Serving.{NotedBehind, NotesSome, IsCounted, Reading, AtOnce, Serves, IfUnread}
use Rattle.grib_run_spec.specs.Tasks.{Stated, Reads, ReadsFile}
use Rattle.grib_engine.specs.Untabled.{outcome_unfiled}
use Rattle.grib_engine.proofs.Ended.{Answers, States, Ran}
use Rattle.grib_engine.proofs.Unread.{stands_under, shelved, broken_asked, at_once, calm, failed, reading_after}

-- ---- the file was not read, or is refused

module _ (policy : Policy) (before : Seen) (names : Option Held) (faults : ℕ) (stays : Stays before.names names) where
  abbrev same : Seen
  same = shelved before names faults

  stopped : (stop : FileStop) → CountsFileStop stop before.shelf_faults faults → CountsOne (outcome_unfiled stop) (faults_of before) (faults_of same)
  stopped (stops.Refused refusal) counts = calm policy before names faults stays (outcomes.FileRefused refusal) (λ e. cc) (λ e. cc) (λ e. cc) counts
  stopped stops.Memory counts = calm policy before names faults stays Memory (λ e. cc) (λ e. cc) (λ e. cc) counts
  stopped stops.ShelfFault counts = failed policy before names faults stays counts

  asked : (profile : Profile) (name : List ℕ) (commands : List FieldOf → Command) (stop : FileStop) → reads.ReadsFile (Err stop) profile before.names name
      → IfAsked (ReadsFile profile name commands) before.names (Answers policy (outcome_unfiled stop) (note_of (outcome_unfiled stop)) before same)
      (States (outcome_unfiled stop) (note_of (outcome_unfiled stop)) before same)
  asked profile name commands (stops.Refused refusal) (text, stood, is) =
      let own = outcomes.FileRefused refusal in (
        text,
        stood,
        subst (IfFiled commands (Answers policy own (note_of own) before same) (States own (note_of own) before same)) (sym is)
            (at_once policy before names faults stays own refl, λ e. cc),
      )
  asked profile name commands stops.ShelfFault read = broken_asked policy before names faults stays ShelfFault refl (λ e. cc) (ReadsFile profile name commands)
  asked profile name commands stops.Memory read = broken_asked policy before names faults stays Memory refl (λ e. cc) (ReadsFile profile name commands)

  pub unfiled : (profile : Profile) (name : List ℕ) (commands : List FieldOf → Command) (stop : FileStop) (own : Outcome) → own ≡ outcome_unfiled stop
      → reads.ReadsFile (Err stop) profile before.names name → CountsFileStop stop before.shelf_faults faults → Ran (ReadsFile profile name commands) policy own (note_of own) before same
  unfiled profile name commands stop own is read counts = subst (λ o. Ran (ReadsFile profile name commands) policy o (note_of o) before same) (sym is) record {
    answer = asked profile name commands stop read;
    counts = stopped stop counts;
    unfinished = λ all. all;
    notes_unfinished = λ all. all;
    unshelved = λ off. absurd (false≢true (sym off));
    table_stays = λ on. stays;
  }

-- ---- beside a file that was read

module _ (takes_memory : Bool) (profile : Profile) (name : List ℕ) (commands : List FieldOf → Command) (policy : Policy) (outcome : Outcome) (before now : Seen) (names : Option Held) (stays : Stays before.names names) where
  pub by_file : (fields : List FieldOf) (faults : ℕ) → reads.StandsAs profile before.names name (files.Good fields) → faults ≡ before.shelf_faults → now.names ≡ names
      → Serves takes_memory (Reads (commands fields)) policy outcome (shelved before names faults) now → Serves takes_memory (ReadsFile profile name commands) policy outcome before now
  by_file fields faults (text, stood, is) same kept ran_so =
      let ran = subst (λ n. Serves takes_memory (Reads (commands fields)) policy outcome (shelved before names n) now) same ran_so in
      let tells = λ (Holds : Stated → Type 0) (holds : IfSome before.left (λ input. Holds (stated_to (commands fields) policy input))).
      subst (IfFiled commands (λ command. IfSome before.left (λ input. Holds (stated_to command policy input))) Holds) (sym is) holds in
      record {
        answer = (
          text,
          stood,
          subst (IfFiled commands (Reading policy outcome before now) (AtOnce outcome before now)) (sym is)
              (reading_after policy outcome before now names stays (commands fields) ran.answer),
        );
        told = (text, stood, tells (λ stated. NotesSome (IsCounted (faults_of before) (faults_of now)) stated before.notes now.notes) ran.told);
        settled = record { settles = ran.settled.settles; unfinished = ran.settled.unfinished; output_unfinished = ran.settled.output_unfinished };
        stands = λ off e.
            let stood_then = ran.stands off e in
            (stood_then.0, (stood_then.1.0, (text, stood, tells (λ stated. NotedBehind stated (note_of Memory) before.notes now.notes) stood_then.1.1)));
        counts = ran.counts;
        unshelved = λ off. absurd (false≢true (sym off));
        table_stays = λ on. subst (Stays before.names) (sym kept) stays;
      }

-- ---- the input

if_unread : (commands : List FieldOf → Command) (P : Type 0) (f : Filed) → P → IfFiled commands (λ command. Unit {0}) (λ stated. P) f
if_unread commands P (files.Good fields) held = tt
if_unread commands P (files.Refused refusal) held = held

-- no input was read
pub file_alone : (profile : Profile) (name : List ℕ) (commands : List FieldOf → Command) (names : Option Held) (P : Type 0) → P → IfUnread (ReadsFile profile name commands) names P
file_alone profile name commands names P held =
    let stand = stands_under names name in (stand.0, stand.1, if_unread commands P (filed profile stand.0) held)

-- the file is good, so that nothing is claimed
pub file_open : (profile : Profile) (name : List ℕ) (commands : List FieldOf → Command) (names : Option Held) (P : Type 0) (fields : List FieldOf)
    → reads.StandsAs profile names name (files.Good fields) → IfUnread (ReadsFile profile name commands) names P
file_open profile name commands names P fields (text, stood, is) =
    (text, stood, subst (IfFiled commands (λ command. Unit {0}) (λ stated. P)) (sym is) tt)
