-- What a run refuses.
use Rattle.std.proofs.Common.{◌≡◌, ℕ, zero, suc, ◌+◌, ◌-◌, ◌^◌, ◌≤◌, ◌==◌, ◌&&◌, Bool, true, false, cond, Option, Some, None, IfSome, List, [], ◌∷◌, length, take, drop, refl, sym, ap, ◌∙◌, subst, arith}
use Rattle.std.proofs.lemmas.Bool.{false≢true}
use Rattle.std.proofs.lemmas.List.{length-take}
use Rattle.grib_base.specs.Rules.{choose}
use Rattle.grib_base.specs.declared.fault.Fault.{Fault}
use Rattle.grib_base.specs.declared.fault.Refusal.{Refusal}
use Rattle.grib_base.specs.declared.profile.Profile.{Profile}
use Rattle.grib_reasons.specs.declared.cause.Cause.{Cause}
use Rattle.grib_reasons.specs.declared.cause.Cause.TheVariants.{Packing}
use Rattle.grib_reasons.specs.declared.cause.Kept.{Kept}
use Rattle.grib2_sections.specs.Head.{edition}
use Rattle.grib_packing.specs.Packing.{packing_template}
use Rattle.grib2_message.specs.Fields.{part_octets}
use Rattle.grib2_message.specs.Message.{first_opaque}
use Rattle.grib_table.specs.declared.together.Tables.{Tables}
use Rattle.grib_file.specs.Filed as files
use Rattle.grib_file.specs.Filed.{FieldOf, Filed}
use Rattle.grib_table.specs.Together.{Together, AllGood, TableRefused, SurfacesRefused}
use Rattle.grib_least.specs.Least.{least}
use Rattle.grib_reorder.specs.declared.edit.GridEdit.TheVariants as edits
use Rattle.grib_stream.specs.declared.outcome.Outcome.{Outcome}
use Rattle.grib_stream.specs.declared.outcome.Outcome.TheVariants as outcomes
use Rattle.grib_stream.specs.declared.place.Place.{Place}
use Rattle.grib_stream.specs.Acts.{Act}
use Rattle.grib_stream.specs.declared.place.Totals.{Totals}
use Rattle.grib_stream.specs.Answer.{refusal_after}
use Rattle.grib_stream.specs.Outcomes.{is_broken, is_truncated}
use Rattle.grib_stream.specs.Stream.{begins, Judgement, Message, Faulty, message_after}
use Rattle.grib_stream.specs.Task.{Given, Gives, Ends}
use Rattle.grib_items.specs.declared.policy.Instead.{Instead}
use Rattle.grib_items.specs.declared.policy.Policy.{Policy}
use Rattle.grib_items.specs.declared.policy.ItemTotals.{ItemTotals}
use Rattle.grib_items.specs.Answer.{Counts, Answered, totals_by, passes, no_counts, refused_instead, instead_of, kept_of, one_answered, one_kept, one_refused, place_by, on_outcome, on_given, on_end, on_comes, after, answers}
use Rattle.grib_items.specs.Items.{Item, Accepted, Refused, End, Over, Refusing, Open, Items, passed_after, end_by, on_next, items_from}
use Rattle.grib_items.specs.Next.{Unknown, Refuses, next_judged, next_passed, passed}
use Rattle.grib_items.specs.Laws.{AreInOrder, item_before, item_size, is_refusal}
use Rattle.grib_command.specs.declared.job.Job.{Job}
use Rattle.grib_command.specs.declared.job.Job.TheVariants.{Check, List as Listing, Keys, Lines, Stats, Dump, Values, Coordinates, Compare, Filter, FilterNamed, Filter1, Split, Set, Set1, Repack, RepackLeast, Rescan, Crop, Within, Migrate, Demote, Make, Print}
use Rattle.grib_command.specs.declared.ending.Ending.{Ending}
use Rattle.grib_command.specs.declared.ending.Ending.TheVariants.{Silent, Total, Written, Compared}
use Rattle.grib_command.specs.Endings.{ending_outcome}
use Rattle.grib_command.specs.Command.{Command, given, given_readable, given_unless, kept_at, of_values, task, under}
use Rattle.grib_command.specs.Judging.{judge_under, fields_of}
use Rattle.grib_command.specs.Texts.{texts}
use Rattle.grib_report.specs.Checking.{check_command}
use Rattle.grib_report.specs.Listing.{list_command}
use Rattle.grib_report.specs.Keying.{keys_command}
use Rattle.grib_report.specs.Lining.{lines_command}
use Rattle.grib_report.specs.Summing.{stats_command}
use Rattle.grib_report.specs.Dumping.{dump_command}
use Rattle.grib_report.specs.Valuing.{text_unless, value_command}
use Rattle.grib_placed.specs.Dumping.{dump_placed_command}
use Rattle.grib_placed.specs.Valuing.{value_placed_command}
use Rattle.grib_values.specs.Arrays.{values_command}
use Rattle.grib_values.specs.Coordinates.{coordinates_command}
use Rattle.grib_compare.specs.Command as compares
use Rattle.grib_compare.specs.Command.{compare_command}
use Rattle.grib_edit.specs.Filtering.{filter_command}
use Rattle.grib_edit.specs.FilteringNamed.{filter_named_command}
use Rattle.grib_edit.specs.Filtering1.{filter1_command}
use Rattle.grib_edit.specs.Splitting.{split_command}
use Rattle.grib_edit.specs.Setting.{set_command}
use Rattle.grib_edit.specs.Setting1.{set1_command}
use Rattle.grib_edit.specs.Least.{least_command}
use Rattle.grib_edit.specs.Repacking.{repack_command}
use Rattle.grib_edit.specs.Rescanning.{edit_command}
use Rattle.grib_edit.specs.Migrating.{are_octets, migrate_command}
use Rattle.grib_edit.specs.Demoting.{demote_command}
use Rattle.grib_run_spec.specs.Seen.{Seen}
use Rattle.grib_run_spec.specs.Serving.{Gives as RunGives, Reading, AtOnce, AnswersWork}
use Rattle.grib_run_spec.specs.Stated.{IfFiled, IfTabled, outcome_by, stated_to}
use Rattle.grib_run_spec.specs.Tasks.{Stated, Work, Reads, Makes, ReadsTables, ReadsFile, by_profile, work_of_job, work_under}
use Rattle.grib_run_law.specs.Answered.{is_longer, items_of, items_answered}
use Rattle.grib_run_law.specs.Judged.{IsRefused, messages_of, NamesRule, Judges}
use Rattle.grib_run_law.proofs.Accepting.{ItemsStand, is_refused, judged_all}
use Rattle.grib_run_law.proofs.Leaving.{each_some, stated_within}

-- ---- no command refuses a message that is accepted

abbrev NeverRefuses : Command → Type 0
NeverRefuses command = (place : Place) (message : List ℕ) (outcome : Outcome) → given command place message ≡ Ends outcome → is_refusal outcome ≡ false

abbrev NoneRefuses : Given → Type 0
NoneRefuses g = (outcome : Outcome) → g ≡ Ends outcome → is_refusal outcome ≡ false

gives_never : (acts : List Act) (written : ℕ) → NoneRefuses (Gives acts written)
gives_never acts written outcome is = let no : ⊥ = cc in absurd no

kept_never : (m : ℕ) (cause : Cause) → NoneRefuses (Ends (kept_at m cause))
kept_never m cause outcome is = let same : kept_at m cause ≡ outcome = cc in sym (ap is_refusal same)

unless_never : (cause : Option Cause) (m : ℕ) (octets : List ℕ) → NoneRefuses (given_unless cause m octets)
unless_never None m octets = gives_never _ _
unless_never (Some cause) m octets = kept_never m cause

text_never : (cause : Option Cause) (m : ℕ) (text : List ℕ) → NoneRefuses (text_unless cause m text)
text_never None m text = gives_never _ _
text_never (Some cause) m text = kept_never m cause

-- what reads values, where this field is the first of an opaque packing
readable_never : (opaque : Option ℕ) (message : List ℕ) (place : Place) (next : Unit {0} → Given) → NoneRefuses (next tt) → NoneRefuses (given_readable opaque message place next)
readable_never None message place next never = never
readable_never (Some field) message place next never = kept_never place.message (Packing (packing_template (part_octets message field 5)) field)

values_never : (second : Place → List ℕ → Given) → ((place : Place) (message : List ℕ) → NoneRefuses (second place message))
    → (place : Place) (message : List ℕ) → NoneRefuses (of_values second place message)
values_never second never place message = readable_never (first_opaque message) message place (λ _. second place message) (never place message)

compared_never : (cause : Option Cause) (m : ℕ) (text : List ℕ) (count : ℕ) → NoneRefuses (compares.given_unless cause m text count)
compared_never None m text count = gives_never _ _
compared_never (Some cause) m text count = kept_never m cause

either_never : (b : Bool) (g h : Given) → NoneRefuses g → NoneRefuses h → NoneRefuses (choose b (λ _. g) (λ _. h))
either_never true g h first second = first
either_never false g h first second = second

by_edition : (command : Command) → ((place : Place) (message : List ℕ) → NoneRefuses (command.first place message))
    → ((place : Place) (message : List ℕ) → NoneRefuses (command.second place message)) → NeverRefuses command
by_edition command first second place message =
    either_never (edition message == 1) (command.first place message) (command.second place message) (first place message) (second place message)

abbrev NeverWork : Work → Type 0
NeverWork (Reads command) = NeverRefuses command
NeverWork (Makes stated) = is_refusal stated.outcome ≡ false
NeverWork (ReadsTables asked commands) = (tables : Tables) → NeverRefuses (commands tables)
NeverWork (ReadsFile profile name commands) = (fields : List FieldOf) → NeverRefuses (commands fields)

-- the profile does not matter
profile_never : (profile : Profile) (work : Work) → NeverWork work → NeverWork (by_profile profile work)
profile_never profile (Reads command) never = never
profile_never profile (Makes stated) never = never
profile_never profile (ReadsTables asked commands) never = never
profile_never profile (ReadsFile other name commands) never = never

job_never : (job : Job) → NeverWork (work_of_job job)
job_never Check = by_edition check_command (λ place message. gives_never _ _) (λ place message. gives_never _ _)
job_never Listing = by_edition list_command (λ place message. gives_never _ _) (λ place message. gives_never _ _)
job_never Keys = by_edition keys_command (λ place message. gives_never _ _) (λ place message. gives_never _ _)
job_never (Lines form columns None) = by_edition (lines_command form columns []) (λ place message. gives_never _ _) (λ place message. gives_never _ _)
job_never (Lines form columns (Some names)) = λ tables. by_edition (lines_command form columns tables.names) (λ place message. gives_never _ _) (λ place message. gives_never _ _)
job_never Stats = by_edition stats_command (λ place message. gives_never _ _) (values_never _ (λ place message. gives_never _ _))
job_never (Dump None false) = by_edition dump_command (λ place message. gives_never _ _) (values_never _ (λ place message. gives_never _ _))
job_never (Dump None true) = by_edition dump_placed_command (λ place message. kept_never _ _) (values_never _ (λ place message. text_never _ _ _))
job_never (Dump (Some places) false) = by_edition (value_command places) (λ place message. text_never _ _ _) (values_never _ (λ place message. text_never _ _ _))
job_never (Dump (Some places) true) = by_edition (value_placed_command places) (λ place message. kept_never _ _) (values_never _ (λ place message. text_never _ _ _))
job_never Coordinates = by_edition coordinates_command (λ place message. kept_never _ _) (λ place message. text_never _ _ _)
job_never (Values format) = by_edition (values_command format) (λ place message. gives_never _ _) (values_never _ (λ place message. gives_never _ _))
job_never (Compare name sections quiet) = λ fields. by_edition (compare_command sections quiet fields) (λ place message. compared_never _ _ _ _) (λ place message. compared_never _ _ _ _)
job_never (Filter conditions) = by_edition (filter_command conditions) (λ place message. kept_never _ _) (λ place message. gives_never _ _)
job_never (FilterNamed conditions names wanted) = λ tables. by_edition (filter_named_command conditions wanted tables.names) (λ place message. kept_never _ _) (λ place message. gives_never _ _)
job_never (Filter1 conditions) = by_edition (filter1_command conditions) (λ place message. gives_never _ _) (λ place message. gives_never _ _)
job_never (Split name true) = by_edition (split_command true name) (λ place message. gives_never _ _) (λ place message. gives_never _ _)
job_never (Split name false) = by_edition (split_command false name) (λ place message. kept_never _ _) (λ place message. gives_never _ _)
job_never (Set changes dates) = by_edition (set_command dates changes) (λ place message. kept_never _ _) (λ place message. unless_never _ _ _)
job_never (Set1 changes dates) = by_edition (set1_command dates changes) (λ place message. unless_never _ _ _) (λ place message. kept_never _ _)
job_never (Repack target) = by_edition (repack_command target) (λ place message. kept_never _ _) (values_never _ (λ place message. unless_never _ _ _))
job_never (RepackLeast profile) = by_edition (least_command profile) (λ place message. kept_never _ _) (values_never _ (λ place message. unless_never None place.message (least profile message)))
job_never Rescan = by_edition (edit_command edits.Rescan) (λ place message. kept_never _ _) (values_never _ (λ place message. unless_never _ _ _))
job_never (Crop area) = by_edition (edit_command (edits.Crop area)) (λ place message. kept_never _ _) (values_never _ (λ place message. unless_never _ _ _))
job_never (Within bounds) = by_edition (edit_command (edits.Within bounds)) (λ place message. kept_never _ _) (values_never _ (λ place message. unless_never _ _ _))
job_never (Migrate params surfaces local) = λ tables.
    by_edition (migrate_command local tables.parameters tables.surfaces) (λ place message. either_never (are_octets message) _ _ (unless_never _ _ _) (gives_never _ _)) (λ place message. gives_never _ _)
job_never (Demote params keep any_earth matching) = λ tables. by_edition (demote_command matching keep any_earth tables.parameters) (λ place message. gives_never _ _) (values_never _ (λ place message. unless_never _ _ _))
job_never (Make seed ni nj target) = refl
job_never (Print page) = refl

-- ---- so a refusal is of the end of the items

-- items behind this many messages end with this refusal
record IsEnd (before : ℕ) (items : List Item) (end : End) (refusal : Refusal) : Type 0 where
  ends : end ≡ Refusing refusal.fault
  number : refusal.message ≡ before + length (messages_of items) + 1

by_differing : (b : Bool) (refusal : Refusal) → cond b outcomes.Done outcomes.Differs ≡ outcomes.Refused refusal → ⊥
by_differing true refusal is = cc
by_differing false refusal is = cc

by_ending : (ending : Ending) (totals : Totals) (refusal : Refusal) → ending_outcome ending totals ≡ outcomes.Refused refusal → ⊥
by_ending Silent totals refusal is = cc
by_ending Total totals refusal is = cc
by_ending Written totals refusal is = cc
by_ending (Compared in_file) totals refusal is = by_differing ((totals.written == 0) && (totals.fields == in_file)) refusal is

by_counts : (ending : Ending) (plain : Bool) (totals : ItemTotals) (refusal : Refusal)
    → cond plain (ending_outcome ending totals.counted) (outcomes.Passed totals.refused totals.kept) ≡ outcomes.Refused refusal → ⊥
by_counts ending true totals refusal is = by_ending ending totals.counted refusal is
by_counts ending false totals refusal is = cc

module _ (command : Command) (never : NeverRefuses command) (policy : Policy) where
  end_refused : (counts : Counts) (end : End) (refusal : Refusal) → outcome_by command.ending (on_end (task command) counts end).result ≡ outcomes.Refused refusal → IsEnd counts.messages [] end refusal
  end_refused counts (Over skipped) refusal is = absurd (by_counts command.ending _ (totals_by counts skipped) refusal is)
  end_refused counts (Refusing fault) refusal is =
      let same : refusal_after counts.messages fault ≡ refusal = cc in
      record { ends = ap (λ (r : Refusal). Refusing r.fault) same; number = let number : counts.messages + 1 ≡ refusal.message = ap (λ (r : Refusal). r.message) same in omega arith }
  end_refused counts Open refusal is = let no : ⊥ = cc in absurd no

  -- the run goes on behind a message, which is counted
  abbrev GoesOn : Counts → (Counts → Answered) → Refusal → Type 0
  GoesOn counts next refusal = (later : Counts) × (later.messages ≡ counts.messages + 1) × (outcome_by command.ending (next later).result ≡ outcomes.Refused refusal)

  outcome_refused : (instead : Option Instead) (kept : Option Kept) (counts : Counts) (place : Place) (fields : ℕ) (message : List ℕ) (outcome : Outcome) (next : Counts → Answered) (refusal : Refusal)
      → is_refusal outcome ≡ false
      → outcome_by command.ending (on_comes (on_outcome texts counts place fields message outcome instead kept) (λ done counts. after done (next counts))).result ≡ outcomes.Refused refusal
      → GoesOn counts next refusal
  outcome_refused None kept counts place fields message outcome next refusal none is = absurd (false≢true (sym none ∙ ap is_refusal is))
  outcome_refused (Some instead) None counts place fields message outcome next refusal none is = absurd (false≢true (sym none ∙ ap is_refusal is))
  outcome_refused (Some instead) (Some kept) counts place fields message outcome next refusal none is =
      (one_kept counts fields (length (instead_of instead message)), refl, is)

  given_refused : (g : Given) (counts : Counts) (place : Place) (fields : ℕ) (message : List ℕ) (next : Counts → Answered) (refusal : Refusal) → NoneRefuses g
      → outcome_by command.ending (on_comes (on_given texts policy.kept counts place fields message g) (λ done counts. after done (next counts))).result ≡ outcomes.Refused refusal
      → GoesOn counts next refusal
  given_refused (Gives acts written) counts place fields message next refusal none is = (one_answered counts fields written, refl, is)
  given_refused (Ends outcome) counts place fields message next refusal none is =
      outcome_refused policy.kept (kept_of outcome) counts place fields message outcome next refusal (none outcome refl) is

  answers_refused : (counts : Counts) (items : List Item) (end : End) (refusal : Refusal) → outcome_by command.ending (answers (task command) texts policy counts items end).result ≡ outcomes.Refused refusal
      → IsEnd counts.messages items end refusal
  answers_refused counts [] end refusal is = end_refused counts end refusal is
  answers_refused counts (Accepted found ∷ items) end refusal is =
      let place = place_by counts found.before in
      let (later, one, rest) =
      given_refused (given command place found.octets) counts place (fields_of found.octets) found.octets (λ counts. answers (task command) texts policy counts items end) refusal
      (never place found.octets) is in
      let own = answers_refused later items end refusal rest in
      record { ends = own.ends; number = omega (arith, own.number, one) }
  answers_refused counts (Refused refused ∷ items) end refusal is =
      let own = answers_refused (one_refused counts (length (refused_instead policy.refused refused.octets))) items end refusal is in
      record { ends = own.ends; number = own.number }

-- ---- by a profile

module _ (profile : Profile) where
  -- ---- where it stands

  -- the octets behind some are refused, and these items end before them, of which the first begins behind this many
  record IsBehind (fault : Fault) (place inside : ℕ) (octets : List ℕ) (items : List Item) : Type 0 where
    size : ℕ
    order : AreInOrder (place + inside) items (place + size)
    there : IsRefused profile fault (drop size octets)

  lower : (items : List Item) (p q end : ℕ) → q ≤ p → AreInOrder p items end → AreInOrder q items end
  lower [] p q end less order = omega (arith, less, order)
  lower (item ∷ later) p q end less order = (omega (arith, less, order.0), order.1)

  -- one octet more before them
  behind_one : (fault : Fault) (place inside from : ℕ) (octet : ℕ) (octets : List ℕ) (items : List Item) → from ≤ inside + 1 → IsBehind fault (place + 1) inside octets items
      → IsBehind fault place from (octet ∷ octets) items
  behind_one fault place inside from octet octets items less behind =
      let e : (place + 1) + behind.size ≡ place + suc behind.size = omega arith in
      record {
        size = suc behind.size;
        order = subst (AreInOrder (place + from) items) e (lower items ((place + 1) + inside) (place + from) ((place + 1) + behind.size) (omega (arith, less)) behind.order);
        there = behind.there;
      }

  -- an item that begins here, and others behind it
  behind_item : (fault : Fault) (place inside : ℕ) (octets : List ℕ) (item : Item) (later : List Item) → item_before item ≡ place → item_size item ≤ inside → IsBehind fault place inside octets later
      → IsBehind fault place 0 octets (item ∷ later)
  behind_item fault place inside octets item later here less behind = record {
    size = behind.size;
    order = (omega (arith, here), lower later (place + inside) (item_before item + item_size item) (place + behind.size) (omega (arith, here, less)) behind.order);
    there = behind.there;
  }

  module _ (fault : Fault) (place skipped octet : ℕ) (octets : List ℕ) (go : ℕ → ℕ → Items) (later : (inside skipped : ℕ) → (go inside skipped).end ≡ Refusing fault → IsBehind fault (place + 1) inside octets (go inside skipped).items) where
    behind_faulty : (waits passing : Bool) (own : Fault) (far : Option ℕ) → IsRefused profile own (octet ∷ octets)
        → (on_next (cond waits Unknown (cond passing (next_passed own far) (Refuses own))) place skipped (octet ∷ octets) go).end ≡ Refusing fault
        → IsBehind fault place 0 (octet ∷ octets) (on_next (cond waits Unknown (cond passing (next_passed own far) (Refuses own))) place skipped (octet ∷ octets) go).items
    behind_faulty true passing own far refused is = let no : ⊥ = cc in absurd no
    behind_faulty false false own far refused is =
        let same : own ≡ fault = cc in
        record { size = 0; order = omega arith; there = subst (λ f. IsRefused profile f (octet ∷ octets)) same refused }
    behind_faulty false true own None refused is = let no : ⊥ = cc in absurd no
    behind_faulty false true own (Some size) refused is =
        let rest = later (size - 1) (skipped + size) is in
        behind_item fault place (size - 1 + 1) (octet ∷ octets) (Refused (passed_after place own (take size (octet ∷ octets)))) _ refl (omega (arith, length-take size (octet ∷ octets)))
        (behind_one fault place (size - 1) (size - 1 + 1) octet octets _ (omega arith) rest)

    behind_judged : (passing more : Bool) (j : Judgement) → begins (octet ∷ octets) ≡ true → judge_under profile (octet ∷ octets) ≡ j
        → (on_next (next_judged passing more (octet ∷ octets) j) place skipped (octet ∷ octets) go).end ≡ Refusing fault
        → IsBehind fault place 0 (octet ∷ octets) (on_next (next_judged passing more (octet ∷ octets) j) place skipped (octet ∷ octets) go).items
    behind_judged passing more (Message total) begun judged is =
        behind_item fault place (total - 1 + 1) (octet ∷ octets) (Accepted (message_after place (take total (octet ∷ octets)))) _ refl (omega (arith, length-take total (octet ∷ octets)))
        (behind_one fault place (total - 1) (total - 1 + 1) octet octets _ (omega arith) (later (total - 1) skipped is))
    behind_judged passing more (Faulty own) begun judged is =
        behind_faulty (more && is_truncated own.reason) passing own (passed more (octet ∷ octets)) (is_refused profile (octet ∷ octets) own begun judged) is

  behind_either : (b : Bool) (x y : Items) (fault : Fault) (place : ℕ) (octets : List ℕ) → (b ≡ true → x.end ≡ Refusing fault → IsBehind fault place 0 octets x.items)
      → (y.end ≡ Refusing fault → IsBehind fault place 0 octets y.items) → (choose b (λ _. x) (λ _. y)).end ≡ Refusing fault → IsBehind fault place 0 octets (choose b (λ _. x) (λ _. y)).items
  behind_either true x y fault place octets first second is = first refl is
  behind_either false x y fault place octets first second is = second is

  behind_end : (b : Bool) (fault : Fault) (skipped : ℕ) → end_by b skipped ≡ Refusing fault → ⊥
  behind_end true fault skipped is = cc
  behind_end false fault skipped is = cc

  behind_from : (passing more : Bool) (inside place skipped : ℕ) (octets : List ℕ) (fault : Fault) → (items_from (judge_under profile) passing more inside place skipped octets).end ≡ Refusing fault
      → IsBehind fault place inside octets (items_from (judge_under profile) passing more inside place skipped octets).items
  behind_from passing more zero place skipped [] fault is = absurd (behind_end more fault skipped is)
  behind_from passing more (suc inside) place skipped [] fault is = absurd (behind_end more fault skipped is)
  behind_from passing more (suc inside) place skipped (octet ∷ octets) fault is =
      behind_one fault place inside (suc inside) octet octets _ (omega arith) (behind_from passing more inside (place + 1) skipped octets fault is)
  behind_from passing more zero place skipped (octet ∷ octets) fault is =
      behind_either (begins (octet ∷ octets)) _ _ fault place (octet ∷ octets)
      (λ begun ends. behind_judged fault place skipped octet octets (λ inside skipped. items_from (judge_under profile) passing more inside (place + 1) skipped octets)
      (λ inside skipped ends. behind_from passing more inside (place + 1) skipped octets fault ends) passing more (judge_under profile (octet ∷ octets)) begun refl ends)
      (λ ends. behind_one fault place 0 0 octet octets _ (omega arith) (behind_from passing more zero (place + 1) (skipped + 1) octets fault ends)) is

  from_nothing : (items : List Item) (size : ℕ) → AreInOrder (0 + 0) items (0 + size) → AreInOrder 0 items size
  from_nothing items size order = let e : 0 + size ≡ size = omega arith in subst (AreInOrder 0 items) e order

  refused_behind : (policy : Policy) (more : Bool) (octets : List ℕ) (fault : Fault) → (items_of profile policy more octets).end ≡ Refusing fault
      → (before : ℕ) × AreInOrder 0 (items_of profile policy more octets).items before × IsRefused profile fault (drop before octets)
  refused_behind policy more octets fault is =
      let behind = behind_from (passes policy) more 0 0 0 octets fault is in
      (behind.size, from_nothing (items_of profile policy more octets).items behind.size behind.order, behind.there)

  -- ---- a run

  of_some : {X : Type 0} (P : X → Type 0) (x : Option X) → ((x : X) → P x) → IfSome x P
  of_some P None all = tt
  of_some P (Some x) all = all x

  module _ (stand : ItemsStand profile) where
    row_number : (items : List Item) (end : End) (refusal : Refusal) → IsEnd 0 items end refusal → refusal.message ≡ length (messages_of items) + 1
    row_number items end refusal own = let number : refusal.message ≡ 0 + length (messages_of items) + 1 = own.number in omega arith

    names_rule : (command : Command) → NeverRefuses (under profile command) → (policy : Policy) (input : List ℕ) (refusal : Refusal)
        → (stated_to (under profile command) policy input).outcome ≡ outcomes.Refused refusal → NamesRule profile policy input refusal
    names_rule command never policy input refusal is =
        let found = items_answered profile policy input in
        let own = answers_refused (under profile command) never policy no_counts found.items found.end refusal (sym (ap (λ stated. stated.outcome) (stated_within (under profile command) policy input)) ∙ is) in
        record {
          ends = own.ends;
          there = refused_behind policy (is_longer input) (take (2 ^ 40) input) refusal.fault own.ends;
          number = row_number found.items found.end refusal own;
        }

    judges : (policy : Policy) (outcome : Outcome) (input : List ℕ) → ((refusal : Refusal) → outcome ≡ outcomes.Refused refusal → NamesRule profile policy input refusal) → Judges profile policy outcome input
    judges policy outcome input row = record {
      items = judged_all profile (is_longer input) (take (2 ^ 40) input) (items_answered profile policy input).items (stand policy (is_longer input) (take (2 ^ 40) input));
      refusal = row;
    }

    reading_judges : (policy : Policy) (outcome : Outcome) (before now : Seen) (command : Command) → NeverRefuses (under profile command) → Reading policy outcome before now (under profile command)
        → IfSome before.left (Judges profile policy outcome)
    reading_judges policy outcome before now command never reading =
        each_some (λ input. RunGives (stated_to (under profile command) policy input) outcome before now) (Judges profile policy outcome) before.left
        (λ input gives. judges policy outcome input (λ refusal is. names_rule command never policy input refusal (sym (gives.ends (ap is_broken is)) ∙ is))) reading.gives

    at_once_judges : (policy : Policy) (outcome : Outcome) (before now : Seen) (stated : Stated) → is_refusal stated.outcome ≡ false → AtOnce outcome before now stated
        → IfSome before.left (Judges profile policy outcome)
    at_once_judges policy outcome before now stated never once =
        of_some (Judges profile policy outcome) before.left
        (λ input. judges policy outcome input (λ refusal is. absurd (false≢true (sym never ∙ ap is_refusal (sym (once.gives.ends (ap is_broken is)) ∙ is)))))

    tabled_judges : (policy : Policy) (outcome : Outcome) (before now : Seen) (commands : Tables → Command) → ((tables : Tables) → NeverRefuses (under profile (commands tables))) → (t : Together)
        → IfTabled (λ tables. under profile (commands tables)) (Reading policy outcome before now) (AtOnce outcome before now) t → IfSome before.left (Judges profile policy outcome)
    tabled_judges policy outcome before now commands never (AllGood tables) answers = reading_judges policy outcome before now (commands tables) (never tables) answers
    tabled_judges policy outcome before now commands never (TableRefused refusal) answers = at_once_judges policy outcome before now _ refl answers
    tabled_judges policy outcome before now commands never (SurfacesRefused refusal) answers = at_once_judges policy outcome before now _ refl answers

    filed_judges : (policy : Policy) (outcome : Outcome) (before now : Seen) (commands : List FieldOf → Command) → ((fields : List FieldOf) → NeverRefuses (under profile (commands fields))) → (f : Filed)
        → IfFiled (λ fields. under profile (commands fields)) (Reading policy outcome before now) (AtOnce outcome before now) f → IfSome before.left (Judges profile policy outcome)
    filed_judges policy outcome before now commands never (files.Good fields) answers = reading_judges policy outcome before now (commands fields) (never fields) answers
    filed_judges policy outcome before now commands never (files.Refused refusal) answers = at_once_judges policy outcome before now _ refl answers

    work_judges : (work : Work) → NeverWork (by_profile profile work) → (policy : Policy) (outcome : Outcome) (before now : Seen) → AnswersWork (by_profile profile work) policy outcome before now → IfSome before.left (Judges profile policy outcome)
    work_judges (Reads command) never policy outcome before now answers = reading_judges policy outcome before now command never answers
    work_judges (Makes stated) never policy outcome before now answers = at_once_judges policy outcome before now stated never answers
    work_judges (ReadsTables asked commands) never policy outcome before now (read, stood, answers) = tabled_judges policy outcome before now commands never _ answers
    work_judges (ReadsFile other name commands) never policy outcome before now (read, stood, answers) = filed_judges policy outcome before now commands never _ answers

    pub job_judges : (job : Job) (policy : Policy) (outcome : Outcome) (before now : Seen) → AnswersWork (work_under profile job) policy outcome before now → IfSome before.left (Judges profile policy outcome)
    job_judges job policy outcome before now answers = work_judges (work_of_job job) (profile_never profile (work_of_job job) (job_never job)) policy outcome before now answers
