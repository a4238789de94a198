-- The note of a run, by the outcome before the end and by the answer.
use Rattle.std.proofs.Common.{◌≡◌, ◌≢◌, ◌⊎◌, ℕ, ◌<◌, Bool, ◌&&◌, ◌==◌, true, false, arith, length, List, refl, sym, ap, ◌∙◌, subst, inl, inr}
use Rattle.std.specs.declared.option.Option.{Option}
use Rattle.std.specs.Io.KnownBytes.{Appends}
use Rattle.grib_io.specs.Outside.{AppendsFront, Unfinished}
use Rattle.grib_stream.specs.declared.outcome.Outcome.{Outcome}
use Rattle.grib_stream.specs.declared.outcome.Outcome.TheVariants.{WriteFault, ShelfFault, Memory}
use Rattle.grib_stream.specs.Outcomes.{KeepsOrCuts, is_cut_short}
use Rattle.grib_command.specs.Closing.{ClosesRun, EndsInTurn, EndsRun, EndsNoted, StandsWhole}
use Rattle.grib_command.specs.Outcomes.{note_of, note_with}

-- the end of a run answers the outcome, or a fault of writing, or Memory
abbrev pub OneOf : Outcome → Outcome → Type 0
OneOf outcome result = (result ≡ outcome) ⊎ ((result ≡ WriteFault) ⊎ (result ≡ Memory))

pub keeps_or_cuts : (outcome result : Outcome) → OneOf outcome result → KeepsOrCuts outcome result
keeps_or_cuts outcome result (inl same) = inl same
keeps_or_cuts outcome result (inr (inl fault)) = inr (ap is_cut_short fault)
keeps_or_cuts outcome result (inr (inr memory)) = inr (ap is_cut_short memory)

-- a run that did not end by a fault of the shelf does not end by it later
pub no_shelf_fault : (outcome result : Outcome) → OneOf outcome result → outcome ≢ ShelfFault → result ≢ ShelfFault
no_shelf_fault outcome result (inl same) other is = other (sym same ∙ is)
no_shelf_fault outcome result (inr (inl fault)) other is = let no : WriteFault ≡ ShelfFault = sym fault ∙ is in cc
no_shelf_fault outcome result (inr (inr memory)) other is = let no : Memory ≡ ShelfFault = sym memory ∙ is in cc

-- the note that was appended is that of the outcome with which the run ends
pub noted_with : (a b : Option (List ℕ)) (note done : List ℕ) (outcome result : Outcome) → OneOf outcome result → note ≡ note_with done outcome
    → (is_cut_short result ≡ false → Appends a b note) → is_cut_short result ≡ false → Appends a b (note_with done result)
noted_with a b note done outcome result (inl same) is appended uncut = subst (Appends a b) (is ∙ ap (note_with done) (sym same)) (appended uncut)
noted_with a b note done outcome result (inr (inl fault)) is appended uncut = let no : ⊥ = cc (ap is_cut_short fault) in absurd no
noted_with a b note done outcome result (inr (inr memory)) is appended uncut = let no : ⊥ = cc (ap is_cut_short memory) in absurd no

-- ---- the end of a run with a note

pub left_true : (b c : Bool) → (b && c) ≡ true → b ≡ true
left_true true c is = refl
left_true false c is = is

module _ {Output Notes : Type 0} (contents : Output → Option (List ℕ)) (faults : Output → ℕ) (settled : Output → Bool) (notes_contents : Notes → Option (List ℕ)) (notes_faults : Notes → ℕ) (notes_settled : Notes → Bool) (output output_now : Output) (notes notes_now : Notes) where
  -- after a fault of the output the notes are not finished
  still_unfinished : (note : List ℕ) → EndsInTurn faults settled notes_contents notes_faults notes_settled note output output_now notes notes_now
      → faults output < faults output_now → Unfinished (notes_settled notes) (notes_settled notes_now)
  still_unfinished note (inl (same, unfinished)) rose = unfinished
  still_unfinished note (inr (inl (appended, stays, waits, kept))) rose = λ all. left_true (notes_settled notes) (length note == 0) (sym waits ∙ all)
  still_unfinished note (inr (inr (appended, stays, all))) rose = absurd (omega (arith, stays))

  -- nor is the output
  output_unfinished : (note : List ℕ) → EndsInTurn faults settled notes_contents notes_faults notes_settled note output output_now notes notes_now
      → faults output < faults output_now → Unfinished (settled output) (settled output_now)
  output_unfinished note (inl (same, unfinished)) rose = λ all. sym (ap settled same) ∙ all
  output_unfinished note (inr (inl (appended, stays, waits, kept))) rose = λ all. sym kept ∙ all
  output_unfinished note (inr (inr (appended, stays, all))) rose = absurd (omega (arith, stays))

  -- with the note of the outcome
  closed_by : (outcome : Outcome) (done note : List ℕ) (result : Outcome) → note ≡ note_with done outcome
      → ClosesRun contents faults settled notes_contents notes_faults notes_settled outcome note result output output_now notes notes_now
      → EndsRun contents faults settled notes_contents notes_faults notes_settled outcome done result output output_now notes notes_now
  closed_by outcome done note result is closed = record {
    one_of = closed.one_of;
    fault = closed.fault;
    none_counted = closed.none_counted;
    noted = noted_with (notes_contents notes) (notes_contents notes_now) note done outcome result closed.one_of is closed.noted;
    noted_front = inl (subst (AppendsFront (notes_contents notes) (notes_contents notes_now)) is closed.noted_front);
    settles = closed.settles;
    unfinished = still_unfinished note closed.order;
    output_unfinished = output_unfinished note closed.order;
  }

  pub ends_by : (outcome own : Outcome) (done note : List ℕ) (result : Outcome) → own ≡ outcome → note ≡ note_with done own
      → ClosesRun contents faults settled notes_contents notes_faults notes_settled own note result output output_now notes notes_now
      → EndsRun contents faults settled notes_contents notes_faults notes_settled outcome done result output output_now notes notes_now
  ends_by outcome own done note result same is closed =
      subst (λ o. EndsRun contents faults settled notes_contents notes_faults notes_settled o done result output output_now notes notes_now) same
      (closed_by own done note result is closed)

  -- with the note of its outcome
  run_noted : (outcome : Outcome) (done : List ℕ) (result : Outcome) → OneOf outcome result
      → (is_cut_short result ≡ false → Appends (notes_contents notes) (notes_contents notes_now) (note_with done result))
      → is_cut_short result ≡ false → Appends (notes_contents notes) (notes_contents notes_now) (note_with done outcome)
  run_noted outcome done result (inl same) appended uncut =
      subst (λ o. Appends (notes_contents notes) (notes_contents notes_now) (note_with done o)) same (appended uncut)
  run_noted outcome done result (inr (inl fault)) appended uncut = let no : ⊥ = cc (ap is_cut_short fault) in absurd no
  run_noted outcome done result (inr (inr memory)) appended uncut = let no : ⊥ = cc (ap is_cut_short memory) in absurd no

  pub ends_noted : (outcome : Outcome) (done note : List ℕ) (result : Outcome) → note_with done outcome ≡ note
      → EndsRun contents faults settled notes_contents notes_faults notes_settled outcome done result output output_now notes notes_now
      → EndsNoted contents faults settled notes_contents notes_faults notes_settled outcome note result output output_now notes notes_now
  ends_noted outcome done note result is ends =
      subst (λ xs. EndsNoted contents faults settled notes_contents notes_faults notes_settled outcome xs result output output_now notes notes_now) is
      record {
        one_of = ends.one_of;
        fault = ends.fault;
        none_counted = ends.none_counted;
        noted = run_noted outcome done result ends.one_of ends.noted;
        noted_front = ends.noted_front;
        settles = ends.settles;
        unfinished = ends.unfinished;
        output_unfinished = ends.output_unfinished;
      }

-- ---- the end of a run over sinks that take no memory

module _ {Output Notes : Type 0} (settled : Output → Bool) (notes_contents : Notes → Option (List ℕ)) (notes_settled : Notes → Bool) (output_now : Output) (notes notes_now : Notes) where
  -- with the note of the outcome
  pub stands_by : (done note : List ℕ) (own result : Outcome) → note ≡ note_with done own
      → (result ≢ WriteFault → (result ≡ own) × StandsWhole settled notes_contents notes_settled note output_now notes notes_now)
      → result ≢ WriteFault → StandsWhole settled notes_contents notes_settled (note_with done result) output_now notes notes_now
  stands_by done note own result is whole other =
      let ended = whole other in
      subst (λ xs. StandsWhole settled notes_contents notes_settled xs output_now notes notes_now) (is ∙ ap (note_with done) (sym ended.0)) ended.1

  memory_in : (done other : List ℕ) (result : Outcome) → result ≡ Memory
      → StandsWhole settled notes_contents notes_settled (note_with done result) output_now notes notes_now
      → StandsWhole settled notes_contents notes_settled (note_with other result) output_now notes notes_now
  memory_in done other result is stands =
      subst (λ o. StandsWhole settled notes_contents notes_settled (note_with other o) output_now notes notes_now) (sym is)
      (subst (λ o. StandsWhole settled notes_contents notes_settled (note_with done o) output_now notes notes_now) is stands)

  -- Memory has its own note
  pub stands_memory : (done other : List ℕ) (result : Outcome) → OneOf Memory result
      → (result ≢ WriteFault → StandsWhole settled notes_contents notes_settled (note_with done result) output_now notes notes_now)
      → result ≢ WriteFault → StandsWhole settled notes_contents notes_settled (note_with other result) output_now notes notes_now
  stands_memory done other result (inl same) whole calm = memory_in done other result same (whole calm)
  stands_memory done other result (inr (inl fault)) whole calm = absurd (calm fault)
  stands_memory done other result (inr (inr same)) whole calm = memory_in done other result same (whole calm)

  pub memory_stands : (done : List ℕ) (result : Outcome)
      → (result ≢ WriteFault → StandsWhole settled notes_contents notes_settled (note_with done result) output_now notes notes_now)
      → result ≡ Memory → StandsWhole settled notes_contents notes_settled (note_of Memory) output_now notes notes_now
  memory_stands done result whole is =
      subst (λ o. StandsWhole settled notes_contents notes_settled (note_with done o) output_now notes notes_now) is
      (whole (λ fault. let no : Memory ≡ WriteFault = sym is ∙ fault in cc))

-- what was not finished before the end is not finished by it after a fault of the output
then_unfinished : (faults mid now : ℕ) (first second third : Bool) → Unfinished first second → mid ≡ faults → (mid < now → Unfinished second third)
    → faults < now → Unfinished first third
then_unfinished faults mid now first second third before stays later rose = λ all. before (later (subst (λ n. n < now) (sym stays) rose) all)

pub unfinished_then : {Output : Type 0} (faults : Output → ℕ) (settled : Output → Bool) (outcome : Outcome) (before mid now : Output)
    → Unfinished (settled before) (settled mid) → (outcome ≢ WriteFault → faults mid ≡ faults before) → (outcome ≡ WriteFault → now ≡ mid)
    → (faults mid < faults now → Unfinished (settled mid) (settled now)) → faults before < faults now → Unfinished (settled before) (settled now)
unfinished_then faults settled WriteFault before mid now first calm kept later rose = λ all. first (sym (ap settled (kept refl)) ∙ all)
unfinished_then faults settled other before mid now first calm kept later rose =
    then_unfinished (faults before) (faults mid) (faults now) (settled before) (settled mid) (settled now) first (calm (λ e. cc)) later rose
