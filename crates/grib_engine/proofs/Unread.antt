-- A run by tables that were read before any input, or that were not read, and a run of which nothing is done.
use Rattle.std.proofs.Common.{◌≡◌, ◌≢◌, ℕ, Bool, true, false, IfSome, Option, Some, None, Ok, Err, List, [], ◌∷◌, refl, sym, ap, ◌∙◌, subst, arith}
use Rattle.std.proofs.lemmas.Bool.{false≢true}
use Rattle.std.proofs.KnownBytes.{Appends-nil}
use Rattle.grib_io.specs.Outside.{Counted}
use Rattle.grib_io.specs.Shelves.{Held, Stays, Stood}
use Rattle.grib_file.specs.Filed as files
use Rattle.grib_file.specs.Filed.{FieldOf, Filed, filed}
use Rattle.grib_table.specs.declared.together.Tables.{Tables}
use Rattle.grib_table.specs.declared.stop.TablesStop.{TablesStop}
use Rattle.grib_table.specs.declared.stop.TablesStop.TheVariants as stops
use Rattle.grib_table.specs.Together.{Asked, Together, AllGood, TableRefused, SurfacesRefused, Texts, together, AllStood, StoodWhere, CountsTablesStop}
use Rattle.grib_table.specs.Together as reads
use Rattle.grib_stream.specs.declared.outcome.Outcome.{Outcome}
use Rattle.grib_stream.specs.declared.outcome.Outcome.TheVariants as outcomes
use Rattle.grib_stream.specs.declared.outcome.Outcome.TheVariants.{ReadFault, WriteFault, ShelfFault, Memory}
use Rattle.grib_stream.specs.Acts.{world, Did}
use Rattle.grib_stream.specs.Outcomes.{is_broken}
use Rattle.grib_stream.proofs.ByKind.{broken_early}
use Rattle.grib_stream.proofs.Windows.{takes_none}
use Rattle.grib_stream.proofs.Worlds.{did_none, front_after}
use Rattle.grib_items.specs.declared.policy.Policy.{Policy}
use Rattle.grib_items.specs.Deeds.{deeds, no_deeds, then, Done}
use Rattle.grib_items.specs.Run.{answer_of, CountsOne}
use Rattle.grib_items.proofs.Effects.{done_then, front_whole, front_of_nothing}
use Rattle.grib_text.specs.declared.column.LineForm.{LineForm}
use Rattle.grib_text.specs.declared.column.Column.{Column}
use Rattle.grib_base.specs.declared.profile.Profile.{Profile}
use Rattle.grib_command.specs.declared.job.Job.TheVariants.{Dump, Lines}
use Rattle.grib_command.specs.Command.{Command}
use Rattle.grib_command.specs.Outcomes.{note_of}
use Rattle.grib_run_spec.specs.Seen.{Seen, world_of, outside_of, faults_of}
use Rattle.grib_run_spec.specs.Stated.{IfFiled, IfTabled, IfAsked, deeds_of, plan_by, stated_to}
use Rattle.grib_run_spec.specs.Serving.{NotedBehind, NotesSome, IsCounted, Gives, Reading, AtOnce, Serves, IfUnread}
use Rattle.grib_run_spec.specs.Tasks.{Stated, Work, Reads, Makes, ReadsTables, ReadsFile, IfHears, work_under, ends_at_once}
use Rattle.grib_engine.specs.Untabled.{outcome_untabled}
use Rattle.grib_engine.proofs.Ended.{Reached, Answers, States, Ran, if_told}

any_told : {P : List ℕ → Type 0} (left : Option (List ℕ)) → ((input : List ℕ) → P input) → IfSome left P
any_told None held = tt
any_told (Some input) held = held input

-- some texts stand under the names, where the shelf tells them
stands_where : (names : Option Held) (name : Option (List ℕ)) → (text : Option (List ℕ)) × StoodWhere names name text
stands_where names None = (None, tt)
stands_where None (Some name) = (None, tt)
stands_where (Some held) (Some name) = (held name, refl)

stands : (names : Option Held) (asked : Asked) → (texts : Texts) × AllStood names asked texts
stands names asked =
    let first = stands_where names asked.parameters in
    let second = stands_where names asked.surfaces in
    let third = stands_where names asked.names in
    (record { parameters = first.0; surfaces = second.0; names = third.0; file = None }, (first.1, (second.1, third.1)))

pub stands_under : (names : Option Held) (name : List ℕ) → (text : Option (List ℕ)) × Stood names name text
stands_under None name = (None, tt)
stands_under (Some held) name = (held name, refl)

-- a shelf that keeps what it holds
did_stays : (output : Option (List ℕ)) (names names_now : Option Held) → Stays names names_now → Did (world output names) (world output names_now) []
did_stays output None now stays = record { output = (did_none (world output None)).output; names = tt }
did_stays output (Some before) None stays = absurd stays
did_stays output (Some before) (Some now) stays = record { output = (did_none (world output (Some before))).output; names = stays }

-- the same devices, with another shelf
abbrev pub shelved : Seen → Option Held → ℕ → Seen
shelved before names faults = record before { names = names; shelf_faults = faults }

stays_same : (names : Option Held) → Stays names names
stays_same None = tt
stays_same (Some held) = λ name. refl

-- nothing was done, and the shelf keeps what it holds
module _ (policy : Policy) (before : Seen) (names : Option Held) (faults : ℕ) (stays : Stays before.names names) where
  abbrev same : Seen
  same = shelved before names faults

  did_nothing : Done (outside_of before) (outside_of same) no_deeds
  did_nothing = record { did = did_stays before.output before.names names stays; noted = Appends-nil before.notes }

  -- a device or a lack of memory ends the run
  broken : (own : Outcome) → is_broken own ≡ true → (stated : Stated) → Reached stated own (note_of own) before same
  broken own is stated = record {
    ends = λ unbroken. absurd (false≢true (sym unbroken ∙ is));
    broke = λ e. refl;
    whole = λ unbroken. absurd (false≢true (sym unbroken ∙ is));
    front = front_of_nothing (outside_of before) (outside_of same) (deeds stated.acts stated.lines)
        (front_whole (outside_of before) (outside_of same) no_deeds did_nothing);
  }

  broken_reading : (own : Outcome) → is_broken own ≡ true → own ≢ ReadFault → (command : Command) → Answers policy own (note_of own) before same command
  broken_reading own is other command = record {
    gives = any_told before.left (λ input. broken own is (stated_to command policy input));
    taken = (
      [],
      takes_none before.left,
      record {
        most = omega arith;
        short = λ unbroken not_long. omega arith;
        long = λ e. absurd (false≢true (sym (ap is_broken e) ∙ is));
        answered = broken own is (stated_to command policy []);
        read_fault = λ e. absurd (other e);
      },
    );
    end = λ whole. absurd (false≢true (sym (broken_early own is) ∙ whole));
  }

  broken_tabled : (own : Outcome) → is_broken own ≡ true → own ≢ ReadFault → (commands : Tables → Command) (t : Together)
      → IfTabled commands (Answers policy own (note_of own) before same) (States own (note_of own) before same) t
  broken_tabled own is other commands (AllGood tables) = broken_reading own is other (commands tables)
  broken_tabled own is other commands (TableRefused refusal) = (broken own is (ends_at_once (outcomes.TableRefused refusal)), other)
  broken_tabled own is other commands (SurfacesRefused refusal) = (broken own is (ends_at_once (outcomes.SurfacesRefused refusal)), other)

  broken_filed : (own : Outcome) → is_broken own ≡ true → own ≢ ReadFault → (commands : List FieldOf → Command) (f : Filed)
      → IfFiled commands (Answers policy own (note_of own) before same) (States own (note_of own) before same) f
  broken_filed own is other commands (files.Good fields) = broken_reading own is other (commands fields)
  broken_filed own is other commands (files.Refused refusal) = (broken own is (ends_at_once (outcomes.FileRefused refusal)), other)

  pub broken_asked : (own : Outcome) → is_broken own ≡ true → own ≢ ReadFault → (work : Work)
      → IfAsked work before.names (Answers policy own (note_of own) before same) (States own (note_of own) before same)
  broken_asked own is other (Reads command) = broken_reading own is other command
  broken_asked own is other (Makes stated) = (broken own is stated, other)
  broken_asked own is other (ReadsTables asked commands) =
      let stand = stands before.names asked in (stand.0, stand.1, broken_tabled own is other commands (together asked stand.0))
  broken_asked own is other (ReadsFile profile name commands) =
      let stand = stands_under before.names name in (stand.0, stand.1, broken_filed own is other commands (filed profile stand.0))

  -- what is stated at once
  pub at_once : (own : Outcome) → is_broken own ≡ false → Reached (ends_at_once own) own (note_of own) before same
  at_once own unbroken = record {
    ends = λ is. (refl, refl);
    broke = λ is. refl;
    whole = λ is. did_nothing;
    front = front_whole (outside_of before) (outside_of same) no_deeds did_nothing;
  }

  pub calm : (own : Outcome) → own ≢ ReadFault → own ≢ WriteFault → own ≢ ShelfFault → faults ≡ before.shelf_faults → CountsOne own (faults_of before) (faults_of same)
  calm own no_read no_write no_shelf is = record {
    read = λ e. absurd (no_read e);
    read_calm = λ other. refl;
    write = λ e. absurd (no_write e);
    output_calm = λ other. refl;
    notes_calm = λ other. refl;
    shelf = λ e. absurd (no_shelf e);
    shelf_calm = λ other. is;
  }

  -- the shelf failed
  pub failed : Counted before.shelf_faults faults → CountsOne ShelfFault (faults_of before) (faults_of same)
  failed counts = record {
    read = λ e. cc;
    read_calm = λ other. refl;
    write = λ e. cc;
    output_calm = λ other. refl;
    notes_calm = λ other. refl;
    shelf = λ e. counts;
    shelf_calm = λ other. absurd (other refl);
  }

  -- ---- the tables were not read, or are none

  stopped : (stop : TablesStop) → CountsTablesStop stop before.shelf_faults faults → CountsOne (outcome_untabled stop) (faults_of before) (faults_of same)
  stopped (stops.Refused refusal) counts = calm (outcomes.TableRefused refusal) (λ e. cc) (λ e. cc) (λ e. cc) counts
  stopped (stops.SurfacesRefused refusal) counts = calm (outcomes.SurfacesRefused refusal) (λ e. cc) (λ e. cc) (λ e. cc) counts
  stopped stops.Memory counts = calm Memory (λ e. cc) (λ e. cc) (λ e. cc) counts
  stopped stops.ShelfFault counts = failed counts

  refused_asked : (asked : Asked) (commands : Tables → Command) (own : Outcome) (what : Together)
      → IfTabled commands (Answers policy own (note_of own) before same) (States own (note_of own) before same) what → reads.StandsAs before.names asked what
      → IfAsked (ReadsTables asked commands) before.names (Answers policy own (note_of own) before same) (States own (note_of own) before same)
  refused_asked asked commands own what states (texts, stood, is) =
      (texts, stood, subst (IfTabled commands (Answers policy own (note_of own) before same) (States own (note_of own) before same)) (sym is) states)

  untabled_asked : (asked : Asked) (commands : Tables → Command) (stop : TablesStop) → reads.ReadsTables (Err stop) before.names asked
      → IfAsked (ReadsTables asked commands) before.names (Answers policy (outcome_untabled stop) (note_of (outcome_untabled stop)) before same)
      (States (outcome_untabled stop) (note_of (outcome_untabled stop)) before same)
  untabled_asked asked commands (stops.Refused refusal) read =
      let own = outcomes.TableRefused refusal in
      refused_asked asked commands own (TableRefused refusal) (at_once own refl, λ e. cc) read
  untabled_asked asked commands (stops.SurfacesRefused refusal) read =
      let own = outcomes.SurfacesRefused refusal in
      refused_asked asked commands own (SurfacesRefused refusal) (at_once own refl, λ e. cc) read
  untabled_asked asked commands stops.ShelfFault read = broken_asked ShelfFault refl (λ e. cc) (ReadsTables asked commands)
  untabled_asked asked commands stops.Memory read = broken_asked Memory refl (λ e. cc) (ReadsTables asked commands)

  pub untabled : (asked : Asked) (commands : Tables → Command) (stop : TablesStop) (own : Outcome) → own ≡ outcome_untabled stop
      → reads.ReadsTables (Err stop) before.names asked → CountsTablesStop stop before.shelf_faults faults → Ran (ReadsTables asked commands) policy own (note_of own) before same
  untabled asked commands stop own is read counts = subst (λ o. Ran (ReadsTables asked commands) policy o (note_of o) before same) (sym is) record {
    answer = untabled_asked asked commands stop read;
    counts = stopped stop counts;
    unfinished = λ all. all;
    notes_unfinished = λ all. all;
    unshelved = λ off. absurd (false≢true (sym off));
    table_stays = λ on. stays;
  }

-- ---- where nothing is done at all

pub without_memory : (work : Work) (policy : Policy) (before : Seen) → Ran work policy Memory (note_of Memory) before before
without_memory work policy before =
    let stays = stays_same before.names in
    record {
      answer = broken_asked policy before before.names before.shelf_faults stays Memory refl (λ e. cc) work;
      counts = calm policy before before.names before.shelf_faults stays Memory (λ e. cc) (λ e. cc) (λ e. cc) refl;
      unfinished = λ all. all;
      notes_unfinished = λ all. all;
      unshelved = λ off. λ e. cc;
      table_stays = λ on. stays;
    }

unbroken_not : (fault own : Outcome) → is_broken fault ≡ true → is_broken own ≡ false → own ≢ fault
unbroken_not fault own broken unbroken is = false≢true (sym unbroken ∙ (ap is_broken is ∙ broken))

pub ended_at_once : (own : Outcome) (policy : Policy) (before : Seen) → is_broken own ≡ false → Ran (Makes (ends_at_once own)) policy own (note_of own) before before
ended_at_once own policy before unbroken =
    let stays = stays_same before.names in
    let not = λ (fault : Outcome) (broken : is_broken fault ≡ true). unbroken_not fault own broken unbroken in
    record {
      answer = (at_once policy before before.names before.shelf_faults stays own unbroken, not ReadFault refl);
      counts = calm policy before before.names before.shelf_faults stays own (not ReadFault refl) (not WriteFault refl) (not ShelfFault refl) refl;
      unfinished = λ all. all;
      notes_unfinished = λ all. all;
      unshelved = λ off. not ShelfFault refl;
      table_stays = λ no. absurd (false≢true no);
    }

-- ---- by what was read before the input

module _ (policy : Policy) (outcome : Outcome) (before now : Seen) (names : Option Held) (stays : Stays before.names names) where
  abbrev mid : Seen
  mid = shelved before names before.shelf_faults

  did : Done (outside_of before) (outside_of mid) no_deeds
  did = did_nothing policy before names before.shelf_faults stays

  pub gives_after : (stated : Stated) → Gives stated outcome mid now → Gives stated outcome before now
  gives_after stated gives = record {
    ends = gives.ends;
    whole = λ unbroken. done_then (outside_of before) (outside_of mid) (outside_of now) no_deeds (deeds_of stated) did (gives.whole unbroken);
    front = front_after (world_of before) (world_of mid) (world_of now) [] stated.acts did.did gives.front;
    noted_front = gives.noted_front;
    noted = gives.noted;
  }

  pub reading_after : (command : Command) → Reading policy outcome mid now command → Reading policy outcome before now command
  reading_after command reading =
      let taken = reading.taken.2 in
      record {
        gives = if_told before.left (λ input. gives_after (stated_to command policy input)) reading.gives;
        taken = (
          reading.taken.0,
          reading.taken.1,
          record {
            most = taken.most;
            short = taken.short;
            long = taken.long;
            answered = gives_after (stated_to command policy reading.taken.0) taken.answered;
            read_fault = λ is. done_then (outside_of before) (outside_of mid) (outside_of now) no_deeds
                (then (answer_of (plan_by command policy) true reading.taken.0).deeds (deeds [] (note_of ReadFault ∷ []))) did (taken.read_fault is);
          },
        );
        end = reading.end;
      }

-- ---- by tables that were read

module _ (takes_memory : Bool) (asked : Asked) (commands : Tables → Command) (policy : Policy) (outcome : Outcome) (before now : Seen) (names : Option Held) (stays : Stays before.names names) where
  pub by_tables : (read : Tables) (faults : ℕ) → reads.ReadsTables (Ok read) before.names asked → faults ≡ before.shelf_faults → now.names ≡ names
      → Serves takes_memory (Reads (commands read)) policy outcome (shelved before names faults) now → Serves takes_memory (ReadsTables asked commands) policy outcome before now
  by_tables read faults (texts, stood, is) same kept ran_so =
      let ran = subst (λ n. Serves takes_memory (Reads (commands read)) policy outcome (shelved before names n) now) same ran_so in
      let tells = λ (Holds : Stated → Type 0) (holds : IfSome before.left (λ input. Holds (stated_to (commands read) policy input))).
      subst (IfTabled commands (λ command. IfSome before.left (λ input. Holds (stated_to command policy input))) Holds) (sym is) holds in
      record {
        answer = (
          texts,
          stood,
          subst (IfTabled commands (Reading policy outcome before now) (AtOnce outcome before now)) (sym is) (reading_after policy outcome before now names stays (commands read) ran.answer),
        );
        told = (texts, stood, tells (λ stated. NotesSome (IsCounted (faults_of before) (faults_of now)) stated before.notes now.notes) ran.told);
        settled = record { settles = ran.settled.settles; unfinished = ran.settled.unfinished; output_unfinished = ran.settled.output_unfinished };
        stands = λ off e.
            let stood_then = ran.stands off e in
            (stood_then.0, (stood_then.1.0, (texts, stood, tells (λ stated. NotedBehind stated (note_of Memory) before.notes now.notes) stood_then.1.1)));
        counts = ran.counts;
        unshelved = λ off. absurd (false≢true (sym off));
        table_stays = λ on. subst (Stays before.names) (sym kept) stays;
      }

-- ---- the input

if_unread : (commands : Tables → Command) (P : Type 0) (t : Together) → P → IfTabled commands (λ command. Unit {0}) (λ stated. P) t
if_unread commands P (AllGood tables) held = tt
if_unread commands P (TableRefused refusal) held = held
if_unread commands P (SurfacesRefused refusal) held = held

-- no input was read
pub left_alone : (asked : Asked) (commands : Tables → Command) (names : Option Held) (P : Type 0) → P → IfUnread (ReadsTables asked commands) names P
left_alone asked commands names P held = let stand = stands names asked in (stand.0, stand.1, if_unread commands P (together asked stand.0) held)

-- the tables are good, so that nothing is claimed
pub left_open : (asked : Asked) (commands : Tables → Command) (names : Option Held) (P : Type 0) (read : Tables) → reads.ReadsTables (Ok read) names asked
    → IfUnread (ReadsTables asked commands) names P
left_open asked commands names P read (texts, stood, is) =
    (texts, stood, subst (IfTabled commands (λ command. Unit {0}) (λ stated. P)) (sym is) tt)

-- lines with columns are not printed by what is heard
pub lines_unheard : (form : LineForm) (columns : List Column) (names : Option (List ℕ)) (P : Type 0) → IfHears (Lines form columns names) P
lines_unheard form columns None P = λ hears. absurd (false≢true hears)
lines_unheard form columns (Some name) P = tt

-- points are not printed by what is heard, and never without the input
pub dump_unheard : (decimals : Option ℕ) (placed : Bool) (P : Type 0) → IfHears (Dump decimals placed) P
dump_unheard None true P = λ hears. absurd (false≢true hears)
dump_unheard None false P = λ hears. absurd (false≢true hears)
dump_unheard (Some places) true P = λ hears. absurd (false≢true hears)
dump_unheard (Some places) false P = λ hears. absurd (false≢true hears)

pub dump_reads : (profile : Profile) (decimals : Option ℕ) (placed : Bool) (names : Option Held) (P : Type 0) → IfUnread (work_under profile (Dump decimals placed)) names P
dump_reads profile None true names P = tt
dump_reads profile None false names P = tt
dump_reads profile (Some places) true names P = tt
dump_reads profile (Some places) false names P = tt
