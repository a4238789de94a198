-- What was heard of a message so far.
use Rattle.std.proofs.Common.{◌≡◌, ◌≢◌, ℕ, ◌+◌, ◌-◌, ◌<◌, ◌≤◌, Bool, true, false, not, List, [], ◌∷◌, ◌++◌, Some, None, Ok, Err, length, take, drop, refl, sym, ap, ◌∙◌, subst, arith, ⊎_elim, append_assoc, append-nil, length-append, length-drop, take-append-drop}
use Rattle.std.proofs.lemmas.Bool.{cases_lt, false≢true}
use Rattle.std.proofs.lemmas.List.{take-append-le, drop_all}
use Rattle.std.specs.declared.option.Option.{Option}
use Rattle.std.specs.declared.result.Result.{Result}
use Rattle.std.specs.Result.{IsErrAnd}
use Rattle.grib_io.specs.declared.outside.Stop.{Stop}
use Rattle.grib_io.specs.declared.outside.Stop.TheVariants as stops
use Rattle.grib_stream.specs.declared.listening.Heard.{Heard as HeardMessage}
use Rattle.grib_base.specs.declared.fault.Fault.{Fault}
use Rattle.grib_stream.specs.Stream.{Judgement, Message, Faulty}
use Rattle.grib_stream.specs.Outcomes.{is_truncated}
use Rattle.grib_stream.specs.Task.{Task, IsLawful}
use Rattle.grib_stream.specs.Reading.{Gathers}
use Rattle.grib_stream.specs.Hearing.{Listens, is_closed, HearsFront, Cuts, Heeds, IsWhole, IsRefused, IsCutOff, IsNoMessage}
use Rattle.grib_stream.proofs.Nexts.{not_true}
use Rattle.grib_stream.proofs.Windows.{takes_more}

-- a refusal for another reason than the end of the octets stays
closed_stays_by : (task : Task) → IsLawful task → (octets more : List ℕ) (j : Judgement) → task.judge octets ≡ j → is_closed j ≡ true → task.judge (octets ++ more) ≡ j
closed_stays_by task lawful octets more (Message total) is closed = absurd (false≢true closed)
closed_stays_by task lawful octets more (Faulty fault) is closed = lawful.refusal_stays octets more fault is (not_true (is_truncated fault.reason) closed)

pub closed_stays : (task : Task) → IsLawful task → (octets more : List ℕ) → is_closed (task.judge octets) ≡ true → is_closed (task.judge (octets ++ more)) ≡ true
closed_stays task lawful octets more closed = ap is_closed (closed_stays_by task lawful octets more (task.judge octets) refl closed) ∙ closed

-- octets of which a front is refused so are refused so themselves
pub closed_whole : (task : Task) → IsLawful task → (k : ℕ) (octets : List ℕ) → is_closed (task.judge (take k octets)) ≡ true → is_closed (task.judge octets) ≡ true
closed_whole task lawful k octets closed =
    subst (λ xs. is_closed (task.judge xs) ≡ true) (take-append-drop k octets) (closed_stays task lawful (take k octets) (drop k octets) closed)

-- the hearer judges fronts of these octets as the task does
pub record Alike (task : Task) (judge : List ℕ → Judgement) (own_hears hears : List ℕ → Bool) : Type 0 where
  pub fronts : (octets more : List ℕ) → own_hears (take 8 (octets ++ more)) ≡ true → (hears (take 8 (octets ++ more)) ≡ true) × (task.judge octets ≡ judge octets)

-- These octets were heard, and these are still to be heard.
pub record Listening (task : Task) (own_hears : List ℕ → Bool) (Heard : List ℕ → Type 0) (a b : Option (List ℕ)) (first pending : List ℕ) (left left_now : ℕ) : Type 0 where
  pub octets : List ℕ
  pub heard : Heard octets
  pub gathers : Gathers a b first (octets ++ pending) left left_now
  pub unfinished : task.judge octets ≢ Message (length octets)
  pub unrefused : (k : ℕ) → k < length octets → is_closed (task.judge (take k octets)) ≡ true → ⊥
  pub short : length pending ≤ 65536
  pub long : 8 ≤ length (octets ++ pending)
  pub known : own_hears (take 8 (octets ++ pending)) ≡ true

-- the octets are refused with this piece
pub refused_with : {task : Task} {own_hears hears : List ℕ → Bool} {judge : List ℕ → Judgement} {Heard : List ℕ → Type 0} {a b : Option (List ℕ)} {first pending : List ℕ} {left left_now : ℕ}
    → IsLawful task → (piece : List ℕ) (fault : Fault) → Alike task judge own_hears hears → Listening task own_hears Heard a b first pending left left_now → piece ≡ pending
    → ((octets : List ℕ) → Heard octets → (judge (octets ++ piece) ≡ Faulty fault) × (is_truncated fault.reason ≡ false))
    → Heeds a b first [] left left_now (IsRefused task.judge fault)
refused_with {task} {own_hears} {hears} {judge} {Heard} {a} {b} {first} {pending} {left} {left_now} lawful piece fault alike so is refuses =
    let whole : List ℕ = so.octets ++ pending in
    let refused = refuses so.octets so.heard in
    let same : task.judge whole ≡ judge whole =
    (alike.fronts whole [] (subst (λ xs. own_hears (take 8 xs) ≡ true) (sym (append-nil whole)) so.known)).1 in
    record {
      octets = whole;
      gathers = subst (λ xs. Gathers a b first xs left left_now) (sym (append-nil whole)) so.gathers;
      judged = record {
        refused = same ∙ (ap (λ xs. judge (so.octets ++ xs)) (sym is) ∙ refused.0);
        closed = refused.1;
        soon = λ k closed.
            ⊎_elim
            (λ (less : k < length so.octets).
            absurd (so.unrefused k less (subst (λ xs. is_closed (task.judge xs) ≡ true) (take-append-le k so.octets pending (omega arith)) closed)))
            (λ (more : length so.octets ≤ k). omega (arith, length-append so.octets pending, so.short)) (cases_lt k (length so.octets));
      };
    }

-- what was heard and what was read behind it, where there is no memory
pub stopped_with : {task : Task} {own_hears : List ℕ → Bool} {Heard : List ℕ → Type 0} {a b : Option (List ℕ)} {first pending : List ℕ} {left left_now : ℕ}
    → Listening task own_hears Heard a b first pending left left_now → Heeds a b first [] left left_now (λ octets. Unit {0})
stopped_with {task} {own_hears} {Heard} {a} {b} {first} {pending} {left} {left_now} so = record {
  octets = so.octets ++ pending;
  gathers = subst (λ xs. Gathers a b first xs left left_now) (sym (append-nil (so.octets ++ pending))) so.gathers;
  judged = tt;
}

-- after a piece was heard, all of it or up to the end of a message
pub record Pushed (task : Task) (own_hears : List ℕ → Bool) (Heard : List ℕ → Type 0) (a b : Option (List ℕ)) (first pending : List ℕ) (left left_now : ℕ) : Type 0 where
  pub octets : List ℕ
  pub heard : Heard octets
  pub gathers : Gathers a b first (octets ++ pending) left left_now
  pub four : 4 ≤ length octets
  pub short : length pending ≤ 65536
  pub known : own_hears (take 8 (octets ++ pending)) ≡ true
  pub long : 8 ≤ length (octets ++ pending)
  pub all : task.judge octets ≢ Message (length octets) → pending ≡ []

four_of : (task : Task) → IsLawful task → (octets : List ℕ) (count size : ℕ) → count ≤ size → 8 ≤ length octets + (size - count)
    → (count < size → task.judge octets ≡ Message (length octets)) → 4 ≤ length octets
four_of task lawful octets count size within long whole =
    ⊎_elim (λ (less : count < size). lawful.least octets (length octets) (whole less)) (λ (more : size ≤ count). omega arith) (cases_lt count size)

pub pushed : {task : Task} {own_hears hears : List ℕ → Bool} {judge : List ℕ → Judgement} {Heard Now : List ℕ → Type 0} {a b : Option (List ℕ)} {first pending : List ℕ} {left left_now : ℕ}
    → IsLawful task → (piece next : List ℕ) (count : ℕ) → Alike task judge own_hears hears → Listening task own_hears Heard a b first pending left left_now → piece ≡ pending
    → ((octets : List ℕ) → Heard octets → HearsFront judge Now octets piece count) → next ≡ drop count pending → Pushed task own_hears Now a b first next left left_now
pushed {task} {own_hears} {hears} {judge} {Heard} {Now} {a} {b} {first} {pending} {left} {left_now} lawful piece next count alike so is hearing passed =
    let own = hearing so.octets so.heard in
    let within : count ≤ length pending = subst (λ xs. count ≤ length xs) is own.within in
    let heard_now : List ℕ = so.octets ++ take count piece in
    let whole : heard_now ++ next ≡ so.octets ++ pending =
    ap (λ xs. (so.octets ++ take count xs) ++ next) is
    ∙ (append_assoc so.octets (take count pending) next
    ∙ ap (λ xs. so.octets ++ xs) (ap (λ xs. take count pending ++ xs) passed ∙ take-append-drop count pending)) in
    let known : own_hears (take 8 (heard_now ++ next)) ≡ true = subst (λ xs. own_hears (take 8 xs) ≡ true) (sym whole) so.known in
    let ends : count < length pending → task.judge heard_now ≡ Message (length heard_now) =
    λ less. (alike.fronts heard_now next known).1 ∙ own.whole (subst (λ xs. count < length xs) (sym is) less) in
    let size : length next ≡ length pending - count = ap length passed ∙ length-drop count pending in
    let long : 8 ≤ length (heard_now ++ next) = subst (λ xs. 8 ≤ length xs) (sym whole) so.long in
    record {
      octets = heard_now;
      heard = own.heard;
      gathers = subst (λ xs. Gathers a b first xs left left_now) (sym whole) so.gathers;
      four = four_of task lawful heard_now count (length pending) within (omega (arith, long, size, length-append heard_now next)) ends;
      short = omega (arith, size, so.short);
      known = known;
      long = long;
      all = λ other.
          ⊎_elim (λ (less : count < length pending). absurd (other (ends less)))
          (λ (more : length pending ≤ count). passed ∙ drop_all count pending more) (cases_lt count (length pending));
    }

-- the message is whole
pub whole_now : {task : Task} {own_hears hears : List ℕ → Bool} {judge : List ℕ → Judgement} {Heard : List ℕ → Type 0} {a b : Option (List ℕ)} {first pending : List ℕ} {left left_now : ℕ}
    → Alike task judge own_hears hears → Pushed task own_hears Heard a b first pending left left_now
    → ((octets : List ℕ) → Heard octets → 4 ≤ length octets → Cuts (judge octets) (length octets) None)
    → Heeds a b first pending left left_now (IsWhole task.judge Heard)
whole_now {task} {own_hears} {hears} {judge} {Heard} {a} {b} {first} {pending} {left} {left_now} alike so cuts = record {
  octets = so.octets;
  gathers = so.gathers;
  judged = (so.heard, (alike.fronts so.octets pending so.known).1 ∙ cuts so.octets so.heard so.four);
}

-- the message goes on: all that was read was heard
pub record GoesOnHeard (task : Task) (own_hears : List ℕ → Bool) (Heard : List ℕ → Type 0) (a b : Option (List ℕ)) (first pending : List ℕ) (left left_now : ℕ) (fault : Fault) : Type 0 where
  pub octets : List ℕ
  pub heard : Heard octets
  pub gathers : Gathers a b first (octets ++ []) left left_now
  pub known : own_hears (take 8 octets) ≡ true
  pub long : 8 ≤ length octets
  pub cut : IsCutOff task.judge fault octets
  pub none : pending ≡ []

pub goes_on : {task : Task} {own_hears hears : List ℕ → Bool} {judge : List ℕ → Judgement} {Heard : List ℕ → Type 0} {a b : Option (List ℕ)} {first pending : List ℕ} {left left_now : ℕ}
    (fault : Fault) → Alike task judge own_hears hears → Pushed task own_hears Heard a b first pending left left_now
    → ((octets : List ℕ) → Heard octets → 4 ≤ length octets → Cuts (judge octets) (length octets) (Some fault))
    → GoesOnHeard task own_hears Heard a b first pending left left_now fault
goes_on {task} {own_hears} {hears} {judge} {Heard} {a} {b} {first} {pending} {left} {left_now} fault alike so cuts =
    let cut = cuts so.octets so.heard so.four in
    let is : task.judge so.octets ≡ Faulty fault = (alike.fronts so.octets pending so.known).1 ∙ cut.0 in
    let none : pending ≡ [] = so.all (λ e. cc) in
    let whole : so.octets ++ pending ≡ so.octets = ap (λ xs. so.octets ++ xs) none ∙ append-nil so.octets in
    record {
      octets = so.octets;
      heard = so.heard;
      gathers = subst (λ xs. Gathers a b first (so.octets ++ xs) left left_now) none so.gathers;
      known = subst (λ xs. own_hears (take 8 xs) ≡ true) whole so.known;
      long = subst (λ xs. 8 ≤ length xs) whole so.long;
      cut = (is, cut.1);
      none = none;
    }

-- and more was read
gathers_behind : (a b c : Option (List ℕ)) (first octets window window_now : List ℕ) (left left_mid left_now : ℕ) → Gathers a b first (octets ++ []) left left_mid
    → window ≡ [] → Gathers b c window window_now left_mid left_now → Gathers a c first (octets ++ window_now) left left_now
gathers_behind a b c first octets window window_now left left_mid left_now before none now =
    let is : window_now ≡ now.piece = now.grown ∙ ap (λ xs. xs ++ now.piece) none in
    record {
      piece = before.piece ++ now.piece;
      grown = ap (λ xs. octets ++ xs) is
          ∙ (ap (λ xs. xs ++ now.piece) (sym (append-nil octets) ∙ before.grown) ∙ append_assoc first before.piece now.piece);
      size = omega (arith, length-append before.piece now.piece, before.size, now.size);
      taken = takes_more a b c before.piece now.piece before.taken now.taken;
    }

pub listening_on : {task : Task} {own_hears : List ℕ → Bool} {Heard : List ℕ → Type 0} {a b c : Option (List ℕ)} {first pending window_now : List ℕ} {left left_mid left_now : ℕ} {fault : Fault}
    → IsLawful task → GoesOnHeard task own_hears Heard a b first pending left left_mid fault → Gathers b c pending window_now left_mid left_now → length window_now ≤ 65536
    → Listening task own_hears Heard a c first window_now left left_now
listening_on {task} {own_hears} {Heard} {a} {b} {c} {first} {pending} {window_now} {left} {left_mid} {left_now} {fault} lawful so now short =
    let front : take 8 (so.octets ++ window_now) ≡ take 8 so.octets = take-append-le 8 so.octets window_now so.long in
    record {
      octets = so.octets;
      heard = so.heard;
      gathers = gathers_behind a b c first so.octets pending window_now left left_mid left_now so.gathers so.none now;
      unfinished = λ e. let is = so.cut.0 in cc;
      unrefused = λ k low closed.
          let whole : is_closed (task.judge so.octets) ≡ true = closed_whole task lawful k so.octets closed in
          let shut : is_closed (task.judge so.octets) ≡ false = ap is_closed so.cut.0 ∙ ap not so.cut.1 in
          false≢true (sym shut ∙ whole);
      short = short;
      long = omega (arith, length-append so.octets window_now, so.long);
      known = subst (λ xs. own_hears xs ≡ true) (sym front) so.known;
    }

nothing : (xs : List ℕ) → length xs < 1 → xs ≡ []
nothing [] few = refl
nothing (x ∷ xs) few = absurd (omega (arith, few))

-- the input is at its end, or no more of it may be taken, or failed
pub cut_off : {task : Task} {own_hears : List ℕ → Bool} {Heard : List ℕ → Type 0} {a b c : Option (List ℕ)} {first pending window_now : List ℕ} {left left_mid left_now : ℕ} {fault : Fault}
    → GoesOnHeard task own_hears Heard a b first pending left left_mid fault → Gathers b c pending window_now left_mid left_now → length window_now < 1
    → Heeds a c first [] left left_now (IsCutOff task.judge fault)
cut_off {task} {own_hears} {Heard} {a} {b} {c} {first} {pending} {window_now} {left} {left_mid} {left_now} {fault} so now few =
    let none : window_now ≡ [] = nothing window_now few in
    record {
      octets = so.octets;
      gathers = subst (λ xs. Gathers a c first (so.octets ++ xs) left left_now) none
          (gathers_behind a b c first so.octets pending window_now left left_mid left_now so.gathers so.none now);
      judged = so.cut;
    }

pub failed_so : (task : Task) (fault : Fault) {a b : Option (List ℕ)} {first : List ℕ} {left left_now : ℕ} → Heeds a b first [] left left_now (IsCutOff task.judge fault)
    → Heeds a b first [] left left_now (IsNoMessage task.judge)
failed_so task fault {a} {b} {first} {left} {left_now} so = record {
  octets = so.octets;
  gathers = so.gathers;
  judged = λ total e. let is = so.judged.0 in cc;
}

-- ---- what is answered of it

pub gathers_less : {b c : Option (List ℕ)} {window window_now : List ℕ} {left left_now : ℕ} → Gathers b c window window_now left left_now → window ≡ [] → 1 ≤ length window_now
    → left_now < left
gathers_less {b} {c} {window} {window_now} {left} {left_now} now none some =
    let size : length window_now ≡ length window + length now.piece = ap length now.grown ∙ length-append window now.piece in
    let nothing : length window ≡ 0 = ap length none in
    omega (arith, size, nothing, now.size, some)

listens_err : {A : Type 0} (Is : A → List ℕ → Type 0) (judge : List ℕ → Judgement) (stop : Stop) {a b : Option (List ℕ)} {first : List ℕ} (pending : List ℕ) {left left_now : ℕ}
    → Heeds a b first [] left left_now (IsNoMessage judge) → Listens Is judge (Err stop) a b first pending left left_now
listens_err {A} Is judge stops.Failed {a} {b} {first} pending {left} {left_now} so = so
listens_err {A} Is judge stops.Memory {a} {b} {first} pending {left} {left_now} so = record { octets = so.octets; gathers = so.gathers; judged = tt }

pub listens_passed : {A : Type 0} (Is : A → List ℕ → Type 0) (judge : List ℕ → Judgement) (result : Result (HeardMessage A) Stop) (stop : Stop) {a b : Option (List ℕ)} {first : List ℕ} (pending : List ℕ) {left left_now : ℕ}
    → IsErrAnd result (λ e. e ≡ stop) → Heeds a b first [] left left_now (IsNoMessage judge) → Listens Is judge result a b first pending left left_now
listens_passed {A} Is judge (Ok heard) stop {a} {b} {first} pending {left} {left_now} is so = absurd is
listens_passed {A} Is judge (Err other) stop {a} {b} {first} pending {left} {left_now} is so = listens_err Is judge other pending so
