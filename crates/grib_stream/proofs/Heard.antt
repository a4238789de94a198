-- How hearing and answering a message ends.
use Rattle.std.proofs.Common.{IfErr, ◌≡◌, ◌⊎◌, inl, inr, ℕ, ◌≤◌, Bool, true, List, [], ◌++◌, Ok, Err, length, take, refl, sym, ap, ◌∙◌, subst, ⊎_elim}
use Rattle.std.proofs.lemmas.Bool.{false≢true}
use Rattle.std.proofs.lemmas.List.{take-append-le}
use Rattle.std.specs.declared.option.Option.{Option}
use Rattle.std.specs.declared.result.Result.{Result}
use Rattle.std.specs.Result.{IsErrAnd}
use Rattle.std.specs.Io.KnownBytes.{Consumes, Keeps, IsAtEnd}
use Rattle.grib_base.specs.declared.fault.Fault.{Fault}
use Rattle.grib_stream.specs.declared.outcome.Outcome.{Outcome}
use Rattle.grib_stream.specs.declared.outcome.Outcome.TheVariants.{Refused, ReadFault, InputTooLong}
use Rattle.grib_stream.specs.declared.performer.Whole.{Whole as AnsweredMessage}
use Rattle.grib_stream.specs.declared.place.Place.{Place}
use Rattle.grib_stream.specs.Stream.{Message}
use Rattle.grib_stream.specs.Acts.{World}
use Rattle.grib_stream.specs.Outcomes.{is_of_message}
use Rattle.grib_stream.specs.Task.{Task, IsLawful, next_of}
use Rattle.grib_stream.specs.Reading.{Gathers, Probes}
use Rattle.grib_stream.specs.Performed.{Performs, EndsWith, performed_of}
use Rattle.grib_stream.specs.Hearing.{Heeds, IsWhole, IsCutOff, IsNoMessage}
use Rattle.grib_stream.specs.Listening.{refusal_at, GoesOn, EndsHeard, AnswersHeard}
use Rattle.grib_stream.proofs.Windows.{takes_kept, takes_still}
use Rattle.grib_stream.proofs.Worlds.{did_none}
use Rattle.grib_stream.proofs.Nexts.{stops_by}

-- the first octets are known
known_behind : {a c : Option (List ℕ)} {first : List ℕ} {left left_now : ℕ} (hears : List ℕ → Bool) (octets pending : List ℕ) → 8 ≤ length first → hears (take 8 first) ≡ true
    → Gathers a c first (octets ++ pending) left left_now → hears (take 8 (octets ++ pending)) ≡ true
known_behind {a} {c} {first} {left} {left_now} hears octets pending long known gathers =
    ap hears (ap (take 8) gathers.grown ∙ take-append-le 8 first gathers.piece long) ∙ known

pub probe_one_of : {T : Type 0} (result : Result T Outcome) (outcome : Outcome) → result ≡ Err outcome
    → IfErr result (λ o. (o ≡ InputTooLong) ⊎ (o ≡ ReadFault)) → (outcome ≡ InputTooLong) ⊎ (outcome ≡ ReadFault)
probe_one_of {T} (Ok x) outcome is one_of = let no : ⊥ = cc in absurd no
probe_one_of {T} (Err o) outcome is one_of =
    let same : o ≡ outcome = cc in subst (λ p. (p ≡ InputTooLong) ⊎ (p ≡ ReadFault)) same one_of

-- a message that was heard whole
pub whole_heard : {Heard : List ℕ → Type 0} (task : Task) (hears : List ℕ → Bool) (place : Place) (result : Result AnsweredMessage Outcome) {a c : Option (List ℕ)} {first pending : List ℕ} {left left_now : ℕ} (before now : World)
    → 8 ≤ length first → hears (take 8 first) ≡ true → Heeds a c first pending left left_now (IsWhole task.judge Heard)
    → ((octets more : List ℕ) → Heard octets → hears (take 8 (octets ++ more)) ≡ true → task.judge octets ≡ Message (length octets)
    → Performs (next_of task place octets) (performed_of result) before now)
    → AnswersHeard task place result a c first pending left left_now before now
whole_heard {Heard} task hears place (Ok message) {a} {c} {first} {pending} {left} {left_now} before now long known heeds performs = record {
  octets = heeds.octets;
  gathers = heeds.gathers;
  judged = (heeds.judged.1, performs heeds.octets pending heeds.judged.0 (known_behind hears heeds.octets pending long known heeds.gathers) heeds.judged.1);
}
whole_heard {Heard} task hears place (Err outcome) {a} {c} {first} {pending} {left} {left_now} before now long known heeds performs =
    inr (inl record {
      octets = heeds.octets;
      gathers = heeds.gathers;
      judged = (heeds.judged.1, performs heeds.octets pending heeds.judged.0 (known_behind hears heeds.octets pending long known heeds.gathers) heeds.judged.1);
    })

-- whose end is no fault of the input
pub whole_unfailed : {Heard : List ℕ → Type 0} {task : Task} (lawful : IsLawful task) (hears : List ℕ → Bool) (place : Place) (result : Result AnsweredMessage Outcome) {a c : Option (List ℕ)} {first pending : List ℕ} {left left_now : ℕ} (before now : World)
    → 8 ≤ length first → hears (take 8 first) ≡ true → Heeds a c first pending left left_now (IsWhole task.judge Heard)
    → ((octets more : List ℕ) → Heard octets → hears (take 8 (octets ++ more)) ≡ true → task.judge octets ≡ Message (length octets)
    → Performs (next_of task place octets) (performed_of result) before now)
    → result ≡ Err ReadFault → ⊥
whole_unfailed {Heard} {task} lawful hears place result {a} {c} {first} {pending} {left} {left_now} before now long known heeds performs is =
    let ends : EndsWith (next_of task place heeds.octets) ReadFault before now =
    subst (λ r. Performs (next_of task place heeds.octets) (performed_of r) before now) is
    (performs heeds.octets pending heeds.judged.0 (known_behind hears heeds.octets pending long known heeds.gathers) heeds.judged.1) in
    let kind : is_of_message ReadFault ≡ true = stops_by task lawful place heeds.octets ReadFault (task.judge heeds.octets) refl (ends.stopped refl).0 in
    false≢true kind

-- as many octets were taken as are answered
gathers_to : {a b c : Option (List ℕ)} {first octets : List ℕ} {left left_now : ℕ} → Gathers a b first octets left left_now → Consumes b c [] → Gathers a c first octets left left_now
gathers_to {a} {b} {c} {first} {octets} {left} {left_now} so none = record {
  piece = so.piece;
  grown = so.grown;
  size = so.size;
  taken = takes_still a b c so.piece so.taken none;
}

gathers_kept : {a b c : Option (List ℕ)} {first octets : List ℕ} {left left_now : ℕ} → Gathers a b first octets left left_now → Keeps b c → Gathers a c first octets left left_now
gathers_kept {a} {b} {c} {first} {octets} {left} {left_now} so kept = record {
  piece = so.piece;
  grown = so.grown;
  size = so.size;
  taken = takes_kept a b c so.piece so.taken kept;
}

abbrev HeedsFull : Task → Fault → Option (List ℕ) → Option (List ℕ) → List ℕ → ℕ → ℕ → Type 0
HeedsFull task fault a b first left left_now = Heeds a b first [] left left_now (IsCutOff task.judge fault) × (left_now ≡ 0)

pub full_ends : {T : Type 0} (task : Task) (place : Place) (fault : Fault) (probed : Result T Outcome) (outcome : Outcome) {a b c : Option (List ℕ)} {first : List ℕ} (pending : List ℕ) {left left_now count count_now : ℕ} (before : World)
    → HeedsFull task fault a b first left left_now → Probes probed b c count count_now → probed ≡ Err outcome
    → EndsHeard task place outcome a c first pending left left_now before before
full_ends {T} task place fault probed outcome {a} {b} {c} {first} pending {left} {left_now} {count} {count_now} before (heeds, full) probes is =
    ⊎_elim
    (λ (long : outcome ≡ InputTooLong).
    let (piece, one, taken) = probes.goes_on (is ∙ ap Err long) in
    let on : GoesOn task a c first left left_now = record {
      middle = b;
      heard = record { octets = heeds.octets; gathers = heeds.gathers; judged = (fault, heeds.judged) };
      full = full;
      piece = piece;
      one = one;
      taken = taken;
    } in
    let ends : EndsHeard task place outcome a c first pending left left_now before before = inr (inr (inr (inl (long, (on, did_none before))))) in ends)
    (λ (failed : outcome ≡ ReadFault).
    let kept = probes.failed (is ∙ ap Err failed) in
    let so : Heeds a c first [] left left_now (IsNoMessage task.judge) =
    record { octets = heeds.octets; gathers = gathers_kept heeds.gathers kept; judged = λ total e. let it = heeds.judged.0 in cc } in
    let ends : EndsHeard task place outcome a c first pending left left_now before before = inr (inr (inr (inr (inl (failed, (so, did_none before)))))) in ends)
    (probe_one_of probed outcome is probes.one_of)

pub full_answers : {T : Type 0} (task : Task) (place : Place) (fault : Fault) (probed : Result T Outcome) (outcome : Outcome) (result : Result AnsweredMessage Outcome) {a b c : Option (List ℕ)} {first : List ℕ} (pending : List ℕ) {left left_now count count_now : ℕ} (before : World)
    → IsErrAnd result (λ e. e ≡ outcome) → HeedsFull task fault a b first left left_now → Probes probed b c count count_now → probed ≡ Err outcome
    → AnswersHeard task place result a c first pending left left_now before before
full_answers {T} task place fault probed outcome (Ok message) {a} {b} {c} {first} pending {left} {left_now} {count} {count_now} before is heeds probes was = absurd is
full_answers {T} task place fault probed outcome (Err other) {a} {b} {c} {first} pending {left} {left_now} {count} {count_now} before is heeds probes was =
    subst (λ o. EndsHeard task place o a c first pending left left_now before before) (sym is)
    (full_ends task place fault probed outcome pending before heeds probes was)

pub full_ended : (task : Task) (place : Place) (fault : Fault) (outcome : Outcome) {a b c : Option (List ℕ)} {first : List ℕ} (pending : List ℕ) {left left_now : ℕ} (before : World)
    → HeedsFull task fault a b first left left_now → IsAtEnd c → Consumes b c [] → outcome ≡ Refused (refusal_at place fault)
    → EndsHeard task place outcome a c first pending left left_now before before
full_ended task place fault outcome {a} {b} {c} {first} pending {left} {left_now} before (heeds, full) end none is =
    inr (inr (inl (record { octets = heeds.octets; gathers = gathers_to heeds.gathers none; judged = (fault, heeds.judged, is) }, (end, did_none before))))
