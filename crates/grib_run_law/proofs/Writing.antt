-- What an answer writes for the items of an input.
use Rattle.std.proofs.Common.{◌≡◌, ◌⊎◌, inl, inr, ℕ, Bool, false, List, [], ◌∷◌, ◌++◌, length, Option, None, Some, All, refl, sym, ap, ◌∙◌, subst, ⊎_elim, arith, append-nil}
use Rattle.std.specs.List.{concat}
use Rattle.std.proofs.lemmas.Bool.{false≢true}
use Rattle.std.proofs.lemmas.List.Elements.{All-head, All-tail}
use Rattle.grib_stream.specs.declared.place.Place.{Place}
use Rattle.grib_stream.specs.declared.place.Totals.{Totals}
use Rattle.grib_stream.specs.Acts.{writes, written}
use Rattle.grib_stream.specs.Stream.{Found}
use Rattle.grib_items.specs.declared.policy.Instead.{Instead}
use Rattle.grib_items.specs.declared.policy.Policy.{Policy}
use Rattle.grib_items.specs.Answer.{Counts, Answered, no_counts, instead_of, refused_instead, kept_of, one_refused, place_by, on_outcome, on_given, on_end, on_comes, after, answers}
use Rattle.grib_items.specs.Deeds.{Deeds, deeds}
use Rattle.grib_items.specs.Items.{Item, Accepted, Refused, End, Over, Refusing, Open}
use Rattle.grib_items.specs.Laws.{is_kept}
use Rattle.grib_command.specs.Command.{Command, given, kept_at, task}
use Rattle.grib_command.specs.Judging.{fields_of}
use Rattle.grib_command.specs.Texts.{texts}
use Rattle.grib_run_spec.specs.Stated.{outcome_by}
use Rattle.grib_run_law.specs.Answered.{items_of}
use Rattle.grib_run_law.specs.Same.{IfOctets}
use Rattle.grib_run_law.specs.Written.{HasResult, IsKept, StandsFor, AreWritten, Writes}
use Rattle.grib_run_law.proofs.Accepting.{IsAccepted, IsOfOctets, OfMessage}
use Rattle.grib_run_law.proofs.Alone.{IsFixed, Fixed}
use Rattle.grib_run_law.proofs.Each.{WritesEach, written_join, written_of}

module _ (Is : List ℕ → List ℕ → Type 0) (command : Command) (policy : Policy) (none : (totals : Totals) → ((task command).ending totals).acts ≡ []) (fixed : Fixed command) (each : WritesEach Is command) where
  -- what was written for these items, and that nothing is at the end
  pub record Wrote (items : List Item) (answer : Answered) : Type 0 where
    pub outputs : List (List ℕ)
    pub joined : written answer.deeds.acts ≡ concat outputs
    pub ending : answer.ending ≡ []
    pub are : AreWritten Is command policy items outputs
    pub all : is_kept (outcome_by command.ending answer.result) ≡ false → length outputs ≡ length items

  at_end : (counts : Counts) (end : End) → Wrote [] (on_end (task command) counts end)
  at_end counts (Over skipped) = record { outputs = []; joined = refl; ending = none _; are = tt; all = λ no. refl }
  at_end counts (Refusing fault) = record { outputs = []; joined = refl; ending = refl; are = tt; all = λ no. refl }
  at_end counts Open = record { outputs = []; joined = refl; ending = refl; are = tt; all = λ no. refl }

  message_then : (found : Found) (items : List Item) (done : Deeds) (later : Answered)
      → (HasResult command found.octets × Is found.octets (written done.acts)) ⊎ StandsFor command policy.kept found.octets (written done.acts) → Wrote items later → Wrote (Accepted found ∷ items) (after done later)
  message_then found items done later own rest = record {
    outputs = written done.acts ∷ rest.outputs;
    joined = written_join done.acts later.deeds.acts ∙ ap (λ xs. written done.acts ++ xs) rest.joined;
    ending = rest.ending;
    are = (own, rest.are);
    all = λ no. omega (arith, rest.all no);
  }

  -- what is written for a message that cannot be changed
  kept_then : (instead : Option Instead) (counts : Counts) (place : Place) (fields : ℕ) (found : Found) (kept : IsKept command found.octets) (items : List Item) (later : Counts → Answered)
      → policy.kept ≡ instead → ((counts : Counts) → Wrote items (later counts))
      → Wrote (Accepted found ∷ items)
      (on_comes (on_outcome texts counts place fields found.octets (kept_at place.message kept.0) instead (kept_of (kept_at place.message kept.0))) (λ done counts. after done (later counts)))
  kept_then None counts place fields found kept items later is rest =
      record { outputs = []; joined = refl; ending = refl; are = (is, kept); all = λ no. absurd (false≢true (sym no)) }
  kept_then (Some instead) counts place fields found kept items later is rest =
      message_then found items (deeds (writes (instead_of instead found.octets)) (texts.kept place (record { message = place.message; cause = kept.0 }) ∷ [])) _
      (inr (subst (λ k. StandsFor command k found.octets (written (writes (instead_of instead found.octets)))) (sym is) (kept, written_of (instead_of instead found.octets)))) (rest _)

  message_by : (counts : Counts) (place : Place) (fields : ℕ) (found : Found) (items : List Item) (later : Counts → Answered) → IsAccepted command.profile found
      → IsFixed (λ place. given command place found.octets) → ((counts : Counts) → Wrote items (later counts))
      → Wrote (Accepted found ∷ items)
      (on_comes (on_given texts policy.kept counts place fields found.octets (given command place found.octets)) (λ done counts. after done (later counts)))
  message_by counts place fields found items later accepted (inl (acts, more, always)) rest =
      subst (λ g. Wrote (Accepted found ∷ items) (on_comes (on_given texts policy.kept counts place fields found.octets g) (λ done counts. after done (later counts))))
      (sym (always place)) (message_then found items (deeds acts []) _ (inl (λ place. (acts, more, always place), each place found acts more accepted (always place))) (rest _))
  message_by counts place fields found items later accepted (inr (cause, always)) rest =
      subst (λ g. Wrote (Accepted found ∷ items) (on_comes (on_given texts policy.kept counts place fields found.octets g) (λ done counts. after done (later counts))))
      (sym (always place)) (kept_then policy.kept counts place fields found (cause, always) items later refl rest)

  answers_written : (counts : Counts) (items : List Item) (end : End) → All (OfMessage (IsAccepted command.profile)) items → Wrote items (answers (task command) texts policy counts items end)
  answers_written counts [] end all = at_end counts end
  answers_written counts (Accepted found ∷ items) end all =
      message_by counts (place_by counts found.before) (fields_of found.octets) found items (λ counts. answers (task command) texts policy counts items end)
      (All-head (OfMessage (IsAccepted command.profile)) (Accepted found) items all) (fixed found.octets)
      (λ counts. answers_written counts items end (All-tail (OfMessage (IsAccepted command.profile)) (Accepted found) items all))
  answers_written counts (Refused refused ∷ items) end all =
      let octets = refused_instead policy.refused refused.octets in
      let counts = one_refused counts (length octets) in
      let rest = answers_written counts items end (All-tail (OfMessage (IsAccepted command.profile)) (Refused refused) items all) in
      record {
        outputs = octets ∷ rest.outputs;
        joined = written_join (writes octets) (answers (task command) texts policy counts items end).deeds.acts
            ∙ (ap (λ xs. xs ++ written (answers (task command) texts policy counts items end).deeds.acts) (written_of octets) ∙ ap (λ xs. octets ++ xs) rest.joined);
        ending = rest.ending;
        are = (refl, rest.are);
        all = λ no. omega (arith, rest.all no);
      }

  pub writes_items : (more : Bool) (octets : List ℕ) → All (OfMessage (IsAccepted command.profile)) (items_of command.profile policy more octets).items → Writes Is command policy more octets
  writes_items more octets all =
      let found = items_of command.profile policy more octets in
      let wrote = answers_written no_counts found.items found.end all in
      let acts = (answers (task command) texts policy no_counts found.items found.end).deeds.acts in
      record {
        outputs = wrote.outputs;
        joined = ap (λ ending. written (acts ++ ending)) wrote.ending ∙ (ap written (append-nil acts) ∙ wrote.joined);
        are = wrote.are;
        all = wrote.all;
      }

-- ---- of messages of octets

all_octets : (Is : List ℕ → List ℕ → Type 0) (command : Command) (policy : Policy) (items : List Item) (outputs : List (List ℕ)) → All (OfMessage IsOfOctets) items
    → AreWritten (IfOctets Is) command policy items outputs → AreWritten Is command policy items outputs
all_octets Is command policy items [] small are = are
all_octets Is command policy [] (octets ∷ outputs) small are = are
all_octets Is command policy (Accepted found ∷ items) (octets ∷ outputs) small are = (
  ⊎_elim (λ (is : HasResult command found.octets × IfOctets Is found.octets octets). inl (is.0, is.1 (All-head (OfMessage IsOfOctets) (Accepted found) items small))) (λ stands. inr stands) are.0,
  all_octets Is command policy items outputs (All-tail (OfMessage IsOfOctets) (Accepted found) items small) are.1,
)
all_octets Is command policy (Refused refused ∷ items) (octets ∷ outputs) small are =
    (are.0, all_octets Is command policy items outputs (All-tail (OfMessage IsOfOctets) (Refused refused) items small) are.1)

pub writes_octets : (Is : List ℕ → List ℕ → Type 0) (command : Command) (policy : Policy) (more : Bool) (octets : List ℕ) → All (OfMessage IsOfOctets) (items_of command.profile policy more octets).items
    → Writes (IfOctets Is) command policy more octets → Writes Is command policy more octets
writes_octets Is command policy more octets small wrote = record {
  outputs = wrote.outputs;
  joined = wrote.joined;
  are = all_octets Is command policy (items_of command.profile policy more octets).items wrote.outputs small wrote.are;
  all = wrote.all;
}
