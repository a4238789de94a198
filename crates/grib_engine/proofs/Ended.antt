-- A run that is brought to its end: what it gives of a stated answer, what it counts, and what stands then, by what was so
-- before its end.
use Rattle.std.proofs.Common.{◌≡◌, ◌≢◌, ◌⊎◌, inl, inr, ℕ, ◌+◌, ◌<◌, ◌≤◌, ◌^◌, Bool, true, false, ◌||◌, List, [], ◌∷◌, ◌++◌, Some, None, IfSome, length, refl, sym, ap, ◌∙◌, subst, arith, ⊎_elim, append-nil}
use Rattle.std.proofs.lemmas.Bool.{cases_Bool, false≢true}
use Rattle.std.specs.declared.option.Option.{Option}
use Rattle.std.specs.Io.KnownBytes.{Appends, IsAtEnd, Keeps}
use Rattle.std.specs.List.{concat}
use Rattle.std.proofs.KnownBytes.{Appends-trans}
use Rattle.grib_io.specs.Outside.{AppendsFront, Unfinished}
use Rattle.grib_io.specs.Shelves.{Held, Stays}
use Rattle.grib_file.specs.Filed as files
use Rattle.grib_file.specs.Filed.{FieldOf, Filed, filed}
use Rattle.grib_table.specs.declared.together.Tables.{Tables}
use Rattle.grib_table.specs.Together.{Together, AllGood, TableRefused, SurfacesRefused, together}
use Rattle.grib_stream.specs.declared.outcome.Outcome.{Outcome}
use Rattle.grib_stream.specs.declared.outcome.Outcome.TheVariants.{ReadFault, WriteFault, ShelfFault, Memory, InputTooLong}
use Rattle.grib_stream.specs.Acts.{Did}
use Rattle.grib_stream.specs.Faults.{Faults, OneCounted, CountsRun}
use Rattle.grib_stream.specs.Outcomes.{is_broken, is_cut_short, KeepsOrCuts, is_whole}
use Rattle.grib_stream.specs.Reading.{Takes}
use Rattle.grib_stream.proofs.ByKind.{whole_unbroken, uncut_of, write_or_not, read_or_not, shelf_or_not}
use Rattle.grib_stream.proofs.Worlds.{did_keep, did_still, front_still}
use Rattle.grib_items.specs.declared.policy.Policy.{Policy}
use Rattle.grib_items.specs.Deeds.{deeds, Done, DoneFront}
use Rattle.grib_items.specs.Run.{answer_of, CountsOne}
use Rattle.grib_items.proofs.Effects.{concat_append, done_then, octets_whole, octets_after}
use Rattle.grib_command.specs.Closing.{EndsRun, EndsNoted, StandsWhole}
use Rattle.grib_command.specs.Command.{Command}
use Rattle.grib_command.specs.Counts.{NoneCounted}
use Rattle.grib_command.specs.Outcomes.{note_of, note_with}
use Rattle.grib_command.proofs.Noted.{OneOf, keeps_or_cuts, no_shelf_fault, ends_noted, memory_stands}
use Rattle.grib_run_spec.specs.Seen.{Seen, world_of, outside_of, faults_of, Settles}
use Rattle.grib_run_spec.specs.Stated.{IfFiled, IfTabled, IfAsked, IfStated, deeds_of, plan_by, stated_to}
use Rattle.grib_run_spec.specs.Serving.{NotedBehind, NotedFrontBehind, NotesSome, IsCounted, Gives, Reading, AtOnce, Serves}
use Rattle.grib_run_spec.specs.Tasks.{Stated, Work, Reads, Makes, ReadsTables, ReadsFile, has_shelf, has_table}
use Rattle.grib_engine.specs.Beside.{beside}
use Rattle.grib_engine.proofs.Broken.{one_uncut, one_whole, one_early}

-- ---- before the end

-- What was done of a stated answer by a run that ends with this outcome and this note: all of it, or some front where a
-- device or a lack of memory ends it.
pub record Reached (stated : Stated) (own : Outcome) (note : List ℕ) (before mid : Seen) : Type 0 where
  pub ends : is_broken own ≡ false → (own ≡ stated.outcome) × (note ≡ stated.note)
  pub broke : is_broken own ≡ true → note ≡ note_of own
  pub whole : is_broken own ≡ false → Done (outside_of before) (outside_of mid) (deeds stated.acts stated.lines)
  pub front : DoneFront (outside_of before) (outside_of mid) (deeds stated.acts stated.lines)

-- what was taken for it
pub record Took (command : Command) (policy : Policy) (taken : List ℕ) (own : Outcome) (note : List ℕ) (before mid : Seen) : Type 0 where
  pub most : length taken ≤ 2 ^ 40 + 1
  pub short : is_broken own ≡ false → own ≢ InputTooLong → length taken ≤ 2 ^ 40
  pub long : own ≡ InputTooLong → length taken ≡ 2 ^ 40 + 1
  pub answered : Reached (stated_to command policy taken) own note before mid
  pub read_fault : own ≡ ReadFault → Done (outside_of before) (outside_of mid) (answer_of (plan_by command policy) true taken).deeds

-- what was done by a command
pub record Answers (policy : Policy) (own : Outcome) (note : List ℕ) (before mid : Seen) (command : Command) : Type 0 where
  pub gives : IfSome before.left (λ input. Reached (stated_to command policy input) own note before mid)
  pub taken : (taken : List ℕ) × Takes before.left mid.left taken × Took command policy taken own note before mid
  pub end : is_whole own ≡ true → IsAtEnd mid.left

-- what was done for what is stated at once
abbrev pub States : Outcome → List ℕ → Seen → Seen → Stated → Type 0
States own note before mid stated = Reached stated own note before mid × (own ≢ ReadFault)

-- what is so before the end
pub record Ran (work : Work) (policy : Policy) (own : Outcome) (note : List ℕ) (before mid : Seen) : Type 0 where
  pub answer : IfAsked work before.names (Answers policy own note before mid) (States own note before mid)
  pub counts : CountsOne own (faults_of before) (faults_of mid)
  pub unfinished : Unfinished before.output_settled mid.output_settled
  pub notes_unfinished : Unfinished before.notes_settled mid.notes_settled
  pub unshelved : has_shelf work ≡ false → own ≢ ShelfFault
  pub table_stays : has_table work ≡ true → Stays before.names mid.names

-- ---- the end

-- Nothing more is done to the output and the names, and the note comes, unless writing breaks or there is no memory.
pub record Ended (takes_memory : Bool) (own : Outcome) (note : List ℕ) (outcome : Outcome) (mid now : Seen) : Type 0 where
  pub one : OneOf own outcome
  pub left : now.left ≡ mid.left
  pub read_faults : now.read_faults ≡ mid.read_faults
  pub names : now.names ≡ mid.names
  pub shelf_faults : now.shelf_faults ≡ mid.shelf_faults
  pub kept : Did (world_of mid) (world_of now) []
  pub noted : is_cut_short outcome ≡ false → Appends mid.notes now.notes note
  pub front : AppendsFront mid.notes now.notes note ⊎ AppendsFront mid.notes now.notes (note_of Memory)
  pub fault : own ≢ WriteFault → outcome ≡ WriteFault → OneCounted mid.write_faults now.write_faults mid.note_faults now.note_faults
  pub calm : outcome ≢ WriteFault → NoneCounted mid.write_faults now.write_faults mid.note_faults now.note_faults
  pub after : own ≡ WriteFault → (outcome ≡ WriteFault) × (now ≡ mid)
  pub settled : Settles outcome mid now
  pub stood : takes_memory ≡ false → outcome ≡ Memory
      → Appends mid.notes now.notes (note_of Memory) × ((now.output_settled ≡ true) × (now.notes_settled ≡ true))

-- by the end of the two sinks
pub ended_by : {Output Notes : Type 0} {contents : Output → Option (List ℕ)} {faults : Output → ℕ} {settled : Output → Bool} {notes_contents : Notes → Option (List ℕ)} {notes_faults : Notes → ℕ} {notes_settled : Notes → Bool} {own : Outcome} {note : List ℕ} {outcome : Outcome} {output output_now : Output} {notes notes_now : Notes} (takes_memory : Bool) (rest : Seen)
    → EndsNoted contents faults settled notes_contents notes_faults notes_settled own note outcome output output_now notes notes_now
    → Keeps (contents output) (contents output_now)
    → (own ≡ WriteFault → (outcome ≡ WriteFault) × (output_now ≡ output) × (notes_now ≡ notes))
    → (takes_memory ≡ false → outcome ≡ Memory → StandsWhole settled notes_contents notes_settled (note_of Memory) output_now notes notes_now)
    → Ended takes_memory own note outcome (beside rest contents faults settled notes_contents notes_faults notes_settled output notes) (beside rest contents faults settled notes_contents notes_faults notes_settled output_now notes_now)
ended_by {Output} {Notes} {contents} {faults} {settled} {notes_contents} {notes_faults} {notes_settled} {own} {note} {outcome} {output} {output_now} {notes} {notes_now} takes_memory rest ends kept after stands =
    let see = beside rest contents faults settled notes_contents notes_faults notes_settled in
    record {
      one = ends.one_of;
      left = refl;
      read_faults = refl;
      names = refl;
      shelf_faults = refl;
      kept = did_keep (contents output) (contents output_now) rest.names kept;
      noted = ends.noted;
      front = ends.noted_front;
      fault = ends.fault;
      calm = ends.none_counted;
      after = λ is. let same = after is in (same.0, ap (λ o. see o notes_now) same.1 ∙ ap (see output) same.2);
      settled = record { settles = ends.settles; unfinished = ends.unfinished; output_unfinished = ends.output_unfinished };
      stood = stands;
    }

pub neither : (a b : Bool) → (a || b) ≡ false → (a ≡ false) × (b ≡ false)
neither true b off = absurd (false≢true (sym off))
neither false b off = (refl, off)

-- by `close_with_note`, with the note for a run that is done
pub ended_with : {Output Notes : Type 0} {contents : Output → Option (List ℕ)} {faults : Output → ℕ} {settled : Output → Bool} {notes_contents : Notes → Option (List ℕ)} {notes_faults : Notes → ℕ} {notes_settled : Notes → Bool} {own : Outcome} {done : List ℕ} {outcome : Outcome} {output output_now : Output} {notes notes_now : Notes} (takes notes_take : Bool) (rest : Seen) (note : List ℕ)
    → note_with done own ≡ note → EndsRun contents faults settled notes_contents notes_faults notes_settled own done outcome output output_now notes notes_now
    → Keeps (contents output) (contents output_now)
    → (own ≡ WriteFault → (outcome ≡ WriteFault) × (output_now ≡ output) × (notes_now ≡ notes))
    → (takes ≡ false → notes_take ≡ false → outcome ≢ WriteFault → StandsWhole settled notes_contents notes_settled (note_with done outcome) output_now notes notes_now)
    → Ended (takes || notes_take) own note outcome (beside rest contents faults settled notes_contents notes_faults notes_settled output notes) (beside rest contents faults settled notes_contents notes_faults notes_settled output_now notes_now)
ended_with {Output} {Notes} {contents} {faults} {settled} {notes_contents} {notes_faults} {notes_settled} {own} {done} {outcome} {output} {output_now} {notes} {notes_now} takes notes_take rest note is ends kept after whole =
    ended_by (takes || notes_take) rest (ends_noted contents faults settled notes_contents notes_faults notes_settled output output_now notes notes_now own done note outcome is ends) kept after
    (λ off. let both = neither takes notes_take off in memory_stands settled notes_contents notes_settled output_now notes notes_now done outcome (whole both.0 both.1))

-- ---- what is noted

noted_behind : (lines : List (List ℕ)) (note : List ℕ) → concat lines ++ note ≡ concat (lines ++ note ∷ [])
noted_behind lines note = sym (ap (λ xs. concat lines ++ xs) (append-nil note)) ∙ sym (concat_append lines (note ∷ []))

-- a note that was noted whole behind some front of the lines, or some front of it
behind : (stated : Stated) (note : List ℕ) (a b c : Option (List ℕ)) → AppendsFront a b (concat stated.lines) → Appends b c note → NotedBehind stated note a c
behind stated note a b c (front, rest, is, appended) noted = (front, rest, is, Appends-trans a b c front note appended noted)

front_behind : (stated : Stated) (note : List ℕ) (a b c : Option (List ℕ)) → AppendsFront a b (concat stated.lines) → AppendsFront b c note → NotedFrontBehind stated note a c
front_behind stated note a b c (front, rest, is, appended) noted = (front, rest, is, octets_after a b c front note appended noted)

-- ---- what is given of a stated answer

module _ (takes_memory : Bool) (own : Outcome) (note : List ℕ) (outcome : Outcome) (before mid now : Seen) (ended : Ended takes_memory own note outcome mid now) (stated : Stated) (reached : Reached stated own note before mid) where
  same_unbroken : is_broken outcome ≡ false → is_broken own ≡ false
  same_unbroken unbroken = sym (ap is_broken (one_whole own outcome ended.one unbroken)) ∙ unbroken

  all_done : is_broken outcome ≡ false → Done (outside_of before) (outside_of now) (deeds_of stated)
  all_done unbroken =
      let whole = reached.whole (same_unbroken unbroken) in
      let noted = subst (Appends mid.notes now.notes) (reached.ends (same_unbroken unbroken)).1 (ended.noted (uncut_of outcome unbroken)) in
      record {
        did = did_still (world_of before) (world_of mid) (world_of now) stated.acts whole.did ended.kept;
        noted = subst (Appends before.notes now.notes) (noted_behind stated.lines stated.note)
            (Appends-trans before.notes mid.notes now.notes (concat stated.lines) stated.note whole.noted noted);
      }

  broke_noted : is_broken outcome ≡ true → is_cut_short outcome ≡ false → NotedBehind stated (note_of outcome) before.notes now.notes
  broke_noted broken uncut =
      let same = one_uncut own outcome ended.one uncut in
      let its_note : note ≡ note_of outcome = reached.broke (sym (ap is_broken same) ∙ broken) ∙ ap note_of (sym same) in
      behind stated (note_of outcome) before.notes mid.notes now.notes reached.front.noted (subst (Appends mid.notes now.notes) its_note (ended.noted uncut))

  module _ (Tells : Outcome → Type 0) (its_own : is_broken own ≡ true → Tells own) (memory : is_cut_short outcome ≡ true → Tells Memory) where
    own_front : AppendsFront mid.notes now.notes note → NotesSome Tells stated before.notes now.notes
    own_front some =
        ⊎_elim
        (λ (broken : is_broken own ≡ true).
        inr (own, broken, its_own broken, front_behind stated (note_of own) before.notes mid.notes now.notes reached.front.noted (subst (AppendsFront mid.notes now.notes) (reached.broke broken) some)))
        (λ (unbroken : is_broken own ≡ false).
        let its_some = subst (AppendsFront mid.notes now.notes) (reached.ends unbroken).1 some in
        inl (subst (AppendsFront before.notes now.notes) (noted_behind stated.lines stated.note)
        (octets_after before.notes mid.notes now.notes (concat stated.lines) stated.note (reached.whole unbroken).noted its_some)))
        (cases_Bool (is_broken own))

    either_front : is_cut_short outcome ≡ true → AppendsFront mid.notes now.notes note ⊎ AppendsFront mid.notes now.notes (note_of Memory)
        → NotesSome Tells stated before.notes now.notes
    either_front cut (inl some) = own_front some
    either_front cut (inr some) =
        inr (Memory, refl, memory cut, front_behind stated (note_of Memory) before.notes mid.notes now.notes reached.front.noted some)

    pub some_noted : NotesSome Tells stated before.notes now.notes
    some_noted =
        ⊎_elim (λ (cut : is_cut_short outcome ≡ true). either_front cut ended.front)
        (λ (uncut : is_cut_short outcome ≡ false). own_front (octets_whole mid.notes now.notes note (ended.noted uncut)))
        (cases_Bool (is_cut_short outcome))

  pub gives : Gives stated outcome before now
  gives = record {
    ends = λ unbroken. one_whole own outcome ended.one unbroken ∙ (reached.ends (same_unbroken unbroken)).0;
    whole = all_done;
    front = front_still (world_of before) (world_of mid) (world_of now) stated.acts reached.front.did ended.kept;
    noted_front = some_noted (λ broke. KeepsOrCuts broke outcome) (λ broken. keeps_or_cuts own outcome ended.one) (λ cut. inr cut);
    noted = broke_noted;
  }

-- ---- what is counted

first_stays : (a b c d : ℕ) → OneCounted a b c d → a ≤ b
first_stays a b c d (inl (counted, same)) = counted.0
first_stays a b c d (inr (same, counted)) = omega (arith, same)

second_stays : (a b c d : ℕ) → OneCounted a b c d → c ≤ d
second_stays a b c d (inl (counted, same)) = omega (arith, same)
second_stays a b c d (inr (same, counted)) = counted.0

-- what was counted tells that a device broke
told_by : (own : Outcome) (before mid now : Faults) → CountsOne own before mid → now.input ≡ mid.input → now.shelf ≡ mid.shelf → IsCounted before now own
told_by ReadFault before mid now counts input shelf = omega (arith, (counts.read refl).1, input)
told_by ShelfFault before mid now counts input shelf = omega (arith, (counts.shelf refl).1, shelf)
told_by other before mid now counts input shelf = tt

module _ (takes_memory : Bool) (own : Outcome) (note : List ℕ) (outcome : Outcome) (before mid now : Seen) (ended : Ended takes_memory own note outcome mid now) (counts : CountsOne own (faults_of before) (faults_of mid)) where
  write_counts : outcome ≡ WriteFault → OneCounted before.write_faults now.write_faults before.note_faults now.note_faults
  write_counts is =
      ⊎_elim (λ (e : own ≡ WriteFault). subst (λ s. OneCounted before.write_faults s.write_faults before.note_faults s.note_faults) (sym (ended.after e).1) (counts.write e))
      (λ (other : own ≢ WriteFault).
      subst (λ x. OneCounted x now.write_faults before.note_faults now.note_faults) (counts.output_calm other)
      (subst (λ x. OneCounted mid.write_faults now.write_faults x now.note_faults) (counts.notes_calm other) (ended.fault other is)))
      (write_or_not own)

  not_own : outcome ≢ WriteFault → own ≢ WriteFault
  not_own other e = other (ended.after e).0

  output_same : outcome ≢ WriteFault → now.write_faults ≡ before.write_faults
  output_same other = (ended.calm other).0 ∙ counts.output_calm (not_own other)

  notes_same : outcome ≢ WriteFault → now.note_faults ≡ before.note_faults
  notes_same other = (ended.calm other).1 ∙ counts.notes_calm (not_own other)

  counts_run : CountsRun outcome (faults_of before) (faults_of now)
  counts_run = record {
    read_fault = λ is. omega (arith, (counts.read (one_early ReadFault own outcome refl ended.one is)).1, ended.read_faults);
    write_fault = write_counts;
    shelf_fault = λ is. omega (arith, (counts.shelf (one_early ShelfFault own outcome refl ended.one is)).1, ended.shelf_faults);
    input_counted = λ rose.
        ⊎_elim (λ (e : own ≡ ReadFault). subst (λ f. KeepsOrCuts f outcome) e (keeps_or_cuts own outcome ended.one))
        (λ (other : own ≢ ReadFault). absurd (omega (arith, rose, counts.read_calm other, ended.read_faults))) (read_or_not own);
    output_counted = λ rose.
        ⊎_elim (λ (e : outcome ≡ WriteFault). e) (λ (other : outcome ≢ WriteFault). absurd (omega (arith, rose, output_same other))) (write_or_not outcome);
    notes_counted = λ rose.
        ⊎_elim (λ (e : outcome ≡ WriteFault). e) (λ (other : outcome ≢ WriteFault). absurd (omega (arith, rose, notes_same other))) (write_or_not outcome);
    shelf_counted = λ rose.
        ⊎_elim (λ (e : own ≡ ShelfFault). subst (λ f. KeepsOrCuts f outcome) e (keeps_or_cuts own outcome ended.one))
        (λ (other : own ≢ ShelfFault). absurd (omega (arith, rose, counts.shelf_calm other, ended.shelf_faults))) (shelf_or_not own);
    input_stays = ⊎_elim (λ (e : own ≡ ReadFault). omega (arith, (counts.read e).0, ended.read_faults))
        (λ (other : own ≢ ReadFault). omega (arith, counts.read_calm other, ended.read_faults)) (read_or_not own);
    output_stays = ⊎_elim (λ (e : outcome ≡ WriteFault). first_stays before.write_faults now.write_faults before.note_faults now.note_faults (write_counts e))
        (λ (other : outcome ≢ WriteFault). omega (arith, output_same other)) (write_or_not outcome);
    notes_stay = ⊎_elim (λ (e : outcome ≡ WriteFault). second_stays before.write_faults now.write_faults before.note_faults now.note_faults (write_counts e))
        (λ (other : outcome ≢ WriteFault). omega (arith, notes_same other)) (write_or_not outcome);
    shelf_stays = ⊎_elim (λ (e : own ≡ ShelfFault). omega (arith, (counts.shelf e).0, ended.shelf_faults))
        (λ (other : own ≢ ShelfFault). omega (arith, counts.shelf_calm other, ended.shelf_faults)) (shelf_or_not own);
  }

  -- after a fault of the output nothing was finished that was not before
  still_unfinished : (flag : Seen → Bool) → Unfinished (flag before) (flag mid) → (mid.write_faults < now.write_faults → Unfinished (flag mid) (flag now))
      → before.write_faults < now.write_faults → Unfinished (flag before) (flag now)
  still_unfinished flag first later rose =
      ⊎_elim (λ (e : own ≡ WriteFault). λ all. first (sym (ap flag (ended.after e).1) ∙ all))
      (λ (other : own ≢ WriteFault). λ all. first (later (subst (λ x. x < now.write_faults) (sym (counts.output_calm other)) rose) all)) (write_or_not own)

  settles : Unfinished before.output_settled mid.output_settled → Unfinished before.notes_settled mid.notes_settled → Settles outcome before now
  settles output notes = record {
    settles = ended.settled.settles;
    unfinished = still_unfinished (λ s. s.notes_settled) notes ended.settled.unfinished;
    output_unfinished = still_unfinished (λ s. s.output_settled) output ended.settled.output_unfinished;
  }

-- ---- a whole run

pub if_told : {P Q : List ℕ → Type 0} (left : Option (List ℕ)) → ((input : List ℕ) → P input → Q input) → IfSome left P → IfSome left Q
if_told None map held = tt
if_told (Some input) map held = map input held

if_tabled : (commands : Tables → Command) (P Q : Command → Type 0) (A B : Stated → Type 0) → ((command : Command) → P command → Q command) → ((stated : Stated) → A stated → B stated) → (t : Together)
    → IfTabled commands P A t → IfTabled commands Q B t
if_tabled commands P Q A B map at_once (AllGood tables) held = map (commands tables) held
if_tabled commands P Q A B map at_once (TableRefused refusal) held = at_once _ held
if_tabled commands P Q A B map at_once (SurfacesRefused refusal) held = at_once _ held

if_filed : (commands : List FieldOf → Command) (P Q : Command → Type 0) (A B : Stated → Type 0) → ((command : Command) → P command → Q command) → ((stated : Stated) → A stated → B stated) → (f : Filed)
    → IfFiled commands P A f → IfFiled commands Q B f
if_filed commands P Q A B map at_once (files.Good fields) held = map (commands fields) held
if_filed commands P Q A B map at_once (files.Refused refusal) held = at_once _ held

if_asked : (work : Work) (names : Option Held) (P Q : Command → Type 0) (A B : Stated → Type 0) → ((command : Command) → P command → Q command) → ((stated : Stated) → A stated → B stated)
    → IfAsked work names P A → IfAsked work names Q B
if_asked (Reads command) names P Q A B map at_once held = map command held
if_asked (Makes stated) names P Q A B map at_once held = at_once stated held
if_asked (ReadsTables asked commands) names P Q A B map at_once (texts, stood, held) = (texts, stood, if_tabled commands P Q A B map at_once (together asked texts) held)
if_asked (ReadsFile profile name commands) names P Q A B map at_once (text, stood, held) = (text, stood, if_filed commands P Q A B map at_once (filed profile text) held)

module _ (takes_memory : Bool) (policy : Policy) (own : Outcome) (note : List ℕ) (outcome : Outcome) (before mid now : Seen) (ended : Ended takes_memory own note outcome mid now) where
  -- what holds of each answer, by what was done of it
  stated_then : (work : Work) (Holds : Stated → Type 0) → ((stated : Stated) → Reached stated own note before mid → Holds stated)
      → IfAsked work before.names (Answers policy own note before mid) (States own note before mid) → IfStated work policy before.names before.left Holds
  stated_then work Holds map =
      if_asked work before.names (Answers policy own note before mid) (λ command. IfSome before.left (λ input. Holds (stated_to command policy input))) (States own note before mid) Holds
      (λ command answers. if_told before.left (λ input. map (stated_to command policy input)) answers.gives) (λ stated states. map stated states.0)

  reads : (command : Command) → Answers policy own note before mid command → Reading policy outcome before now command
  reads command answers =
      let taken = answers.taken.0 in
      let took = answers.taken.2 in
      record {
        gives = if_told before.left (λ input. gives takes_memory own note outcome before mid now ended (stated_to command policy input)) answers.gives;
        taken = (
          taken,
          subst (λ left. Takes before.left left taken) (sym ended.left) answers.taken.1,
          record {
            most = took.most;
            short = λ unbroken other.
                let same = one_whole own outcome ended.one unbroken in
                took.short (sym (ap is_broken same) ∙ unbroken) (λ e. other (same ∙ e));
            long = λ is. took.long (one_early InputTooLong own outcome refl ended.one is);
            answered = gives takes_memory own note outcome before mid now ended (stated_to command policy taken) took.answered;
            read_fault = λ is.
                let its = one_early ReadFault own outcome refl ended.one is in
                let noted = subst (Appends mid.notes now.notes) (took.answered.broke (ap is_broken its) ∙ (ap note_of its ∙ sym (append-nil (note_of ReadFault)))) (ended.noted (ap is_cut_short is)) in
                done_then (outside_of before) (outside_of mid) (outside_of now) (answer_of (plan_by command policy) true taken).deeds (deeds [] (note_of ReadFault ∷ []))
                (took.read_fault its) record { did = ended.kept; noted = noted };
          },
        );
        end = λ whole.
            let same = one_whole own outcome ended.one (whole_unbroken outcome whole) in
            subst IsAtEnd (sym ended.left) (answers.end (sym (ap is_whole same) ∙ whole));
      }

  not_read : own ≢ ReadFault → outcome ≢ ReadFault
  not_read other is = other (one_early ReadFault own outcome refl ended.one is)

  pub serves : (work : Work) → Ran work policy own note before mid → Serves takes_memory work policy outcome before now
  serves work ran = record {
    answer = if_asked work before.names (Answers policy own note before mid) (Reading policy outcome before now) (States own note before mid) (AtOnce outcome before now) reads
        (λ stated states. record { gives = gives takes_memory own note outcome before mid now ended stated states.0; unread = not_read states.1 }) ran.answer;
    told = stated_then work (λ stated. NotesSome (IsCounted (faults_of before) (faults_of now)) stated before.notes now.notes)
        (λ stated reached. some_noted takes_memory own note outcome before mid now ended stated reached (IsCounted (faults_of before) (faults_of now))
        (λ broken. told_by own (faults_of before) (faults_of mid) (faults_of now) ran.counts ended.read_faults ended.shelf_faults) (λ cut. tt)) ran.answer;
    settled = settles takes_memory own note outcome before mid now ended ran.counts ran.unfinished ran.notes_unfinished;
    stands = λ off is.
        let stood = ended.stood off is in (
          stood.1.0,
          (
            stood.1.1,
            stated_then work (λ stated. NotedBehind stated (note_of Memory) before.notes now.notes)
                (λ stated reached. behind stated (note_of Memory) before.notes mid.notes now.notes reached.front.noted stood.0) ran.answer,
          ),
        );
    counts = counts_run takes_memory own note outcome before mid now ended ran.counts;
    unshelved = λ off. no_shelf_fault own outcome ended.one (ran.unshelved off);
    table_stays = λ on. subst (Stays before.names) (sym ended.names) (ran.table_stays on);
  }

-- the same, by `close_with_note`: what is seen of the other devices then is `rest`
pub served : {Output Notes : Type 0} {contents : Output → Option (List ℕ)} {faults : Output → ℕ} {settled : Output → Bool} {notes_contents : Notes → Option (List ℕ)} {notes_faults : Notes → ℕ} {notes_settled : Notes → Bool} {own : Outcome} {done : List ℕ} {outcome : Outcome} {output output_now : Output} {notes notes_now : Notes} (takes notes_take : Bool) (before rest : Seen) (work : Work) (policy : Policy) (note : List ℕ)
    → note_with done own ≡ note → EndsRun contents faults settled notes_contents notes_faults notes_settled own done outcome output output_now notes notes_now
    → Keeps (contents output) (contents output_now)
    → (own ≡ WriteFault → (outcome ≡ WriteFault) × (output_now ≡ output) × (notes_now ≡ notes))
    → (takes ≡ false → notes_take ≡ false → outcome ≢ WriteFault → StandsWhole settled notes_contents notes_settled (note_with done outcome) output_now notes notes_now)
    → Ran work policy own note before (beside rest contents faults settled notes_contents notes_faults notes_settled output notes)
    → Serves (takes || notes_take) work policy outcome before (beside rest contents faults settled notes_contents notes_faults notes_settled output_now notes_now)
served {Output} {Notes} {contents} {faults} {settled} {notes_contents} {notes_faults} {notes_settled} {own} {done} {outcome} {output} {output_now} {notes} {notes_now} takes notes_take before rest work policy note is ends kept after whole ran =
    let see = beside rest contents faults settled notes_contents notes_faults notes_settled in
    serves (takes || notes_take) policy own note outcome before (see output notes) (see output_now notes_now) (ended_with takes notes_take rest note is ends kept after whole) work ran
