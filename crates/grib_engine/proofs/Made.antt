-- What is written where no input is read, and of a message that is made.
use Rattle.std.proofs.Common.{◌≡◌, ◌≢◌, ℕ, ◌≤◌, Bool, true, false, cond, Option, Some, None, Ok, Err, List, [], ◌∷◌, length, nat_lt, refl, sym, ap, ◌∙◌, subst, inl, arith, ⊎_elim, ltb-true, map}
use Rattle.std.proofs.lemmas.Bool.{cases_Bool, false≢true}
use Rattle.std.proofs.KnownBytes.{Appends-nil, Appends-kept}
use Rattle.std.specs.declared.result.Result.{Result}
use Rattle.std.specs.List.{range_with_len}
use Rattle.std.specs.Io.KnownBytes.{Appends, Keeps}
use Rattle.grib_base.specs.Rules.{or_later, first_among}
use Rattle.grib_base.specs.declared.limits.TheConstants.{MOST_OCTETS}
use Rattle.grib_io.specs.Outside.{AppendsFront, Counted, Unfinished}
use Rattle.grib_io.specs.declared.outside.Stop.{Stop}
use Rattle.grib_packing.specs.declared.column.Column.{Column}
use Rattle.grib_packing.specs.Misfits.{Target, first_misfit}
use Rattle.grib_packed.specs.Written.{packed}
use Rattle.grib2_message.specs.Fields.{field_count, column_of}
use Rattle.grib2_message.specs.Assembled.{assembled}
use Rattle.grib_repack.specs.Repacked.{OutputTooLong, kind_of, packed_field, packed_fields, repacked, field_misfit, length_misfit, repack_misfit}
use Rattle.grib_stream.specs.Outcomes.{is_broken, is_cut_short}
use Rattle.grib_stream.specs.declared.outcome.Outcome.{Outcome}
use Rattle.grib_stream.specs.declared.outcome.Outcome.TheVariants.{Done, ReadFault, WriteFault, ShelfFault}
use Rattle.grib_stream.proofs.Worlds.{did_write, did_write_front}
use Rattle.grib_items.specs.declared.policy.Policy.{Policy}
use Rattle.grib_items.proofs.Effects.{octets_none, octets_whole}
use Rattle.grib_command.specs.Outcomes.{note_of, note_with}
use Rattle.grib_command.specs.Pending.{Writes}
use Rattle.grib_command.proofs.Noted.{OneOf}
use Rattle.grib_run_spec.specs.Seen.{Seen}
use Rattle.grib_run_spec.specs.Tasks.{Makes, writing}
use Rattle.grib_engine.proofs.Ended.{Ran}
use Rattle.grib_engine.proofs.Broken.{one_whole, one_early}

-- ---- octets that were written and passed on, with this note

-- all was written, and passed on or not
pub all_passed : {T : Type 0} (result : Result T Stop) (a b c : Option (List ℕ)) (octets : List ℕ) → Appends a b octets → Keeps b c → Writes result a c octets
all_passed (Ok x) a b c octets appended kept =
    let whole = Appends-kept a b c octets appended kept in record { whole = whole; front = octets_whole a c octets whole }
all_passed (Err stop) a b c octets appended kept = record { whole = tt; front = octets_whole a c octets (Appends-kept a b c octets appended kept) }

broken_note : (note : List ℕ) (own : Outcome) → is_broken own ≡ true → note_with note own ≡ note_of own
broken_note note Done broken = absurd (false≢true broken)
broken_note note other broken = refl

not_early : (fault own : Outcome) → is_broken fault ≡ true → is_cut_short fault ≡ false → OneOf Done own → own ≢ fault
not_early fault own broken uncut one is =
    false≢true (ap is_broken (one_early fault Done own uncut one is) ∙ broken)

-- what is seen of the output behind them
abbrev pub written_to : Seen → Option (List ℕ) → ℕ → Bool → Seen
written_to before output faults settled = record before { output = output; write_faults = faults; output_settled = settled }

pub put_ran : (octets note : List ℕ) (policy : Policy) (own : Outcome) (before : Seen) (output : Option (List ℕ)) (faults : ℕ) (settled : Bool) → OneOf Done own
    → (own ≡ Done → Appends before.output output octets) → AppendsFront before.output output octets
    → (own ≡ WriteFault → Counted before.write_faults faults) → (own ≢ WriteFault → faults ≡ before.write_faults) → Unfinished before.output_settled settled
    → Ran (Makes (writing octets note)) policy own (note_with note own) before (written_to before output faults settled)
put_ran octets note policy own before output faults settled one whole front counted calm unfinished =
    let done = λ (unbroken : is_broken own ≡ false). one_whole Done own one unbroken in
    record {
      answer = (
        record {
          ends = λ unbroken. (done unbroken, ap (note_with note) (done unbroken));
          broke = broken_note note own;
          whole = λ unbroken. record { did = did_write before.output output before.names octets (whole (done unbroken)); noted = Appends-nil before.notes };
          front = record { did = did_write_front before.output output before.names octets front; noted = octets_none before.notes [] };
        },
        not_early ReadFault own refl refl one,
      );
      counts = record {
        read = λ e. absurd (not_early ReadFault own refl refl one e);
        read_calm = λ other. refl;
        write = λ e. inl (counted e, refl);
        output_calm = calm;
        notes_calm = λ other. refl;
        shelf = λ e. absurd (not_early ShelfFault own refl refl one e);
        shelf_calm = λ other. refl;
      };
      unfinished = unfinished;
      notes_unfinished = λ all. all;
      unshelved = λ off. not_early ShelfFault own refl refl one;
      table_stays = λ no. absurd (false≢true no);
    }

-- ---- nothing of a message that is made is lost

short_fits : (l : ℕ) → l ≤ MOST_OCTETS → length_misfit l ≡ None
short_fits l few =
    ⊎_elim (λ (long : nat_lt MOST_OCTETS l ≡ true). absurd (omega (arith, ltb-true MOST_OCTETS l long)))
    (λ (short : nat_lt MOST_OCTETS l ≡ false). ap (λ b. cond b (Some (OutputTooLong l)) None) short)
    (cases_Bool (nat_lt MOST_OCTETS l))

field_fits : (target : Target) (message : List ℕ) (column : Column) → column_of message 1 ≡ column → first_misfit target column.points ≡ None
    → field_misfit target message 1 ≡ None
field_fits target message column is none = let own : first_misfit target (column_of message 1).points ≡ None = ap (λ c. first_misfit target c.points) is ∙ none in rw own refl

one_packed : (target : Target) (message : List ℕ) (column : Column) → column_of message 1 ≡ column → kind_of message 1 ≡ 0
    → map (packed_field target message) (range_with_len 1 1) ≡ packed target column 0 ∷ []
one_packed target message column is kind = ap (λ c. packed target c (kind_of message 1) ∷ []) is ∙ ap (λ k. packed target column k ∷ []) kind

one_part : (target : Target) (message : List ℕ) (column : Column) → field_count message ≡ 1 → column_of message 1 ≡ column → kind_of message 1 ≡ 0
    → packed_fields target message ≡ packed target column 0 ∷ []
one_part target message column one is kind =
    ap (λ n. map (packed_field target message) (range_with_len 1 n)) one ∙ one_packed target message column is kind

-- a message of one field that its column gives again stays as it is
pub stays_same : (target : Target) (message : List ℕ) (column : Column) → field_count message ≡ 1 → column_of message 1 ≡ column → kind_of message 1 ≡ 0
    → assembled message (packed target column 0 ∷ []) ≡ message → repacked target message ≡ message
stays_same target message column one is kind same = ap (assembled message) (one_part target message column one is kind) ∙ same

-- a message of one field whose column fits, and which does not become too long
pub nothing_lost : (target : Target) (message : List ℕ) (column : Column) → field_count message ≡ 1 → column_of message 1 ≡ column → kind_of message 1 ≡ 0
    → first_misfit target column.points ≡ None → length (assembled message (packed target column 0 ∷ [])) ≤ MOST_OCTETS → repack_misfit target message ≡ None
nothing_lost target message column one is kind none few =
    let parts = one_part target message column one is kind in
    let short : length (repacked target message) ≤ MOST_OCTETS = subst (λ ps. length (assembled message ps) ≤ MOST_OCTETS) (sym parts) few in
    let fields : first_among (field_misfit target message) (field_count message) 1 ≡ None =
    ap (λ n. first_among (field_misfit target message) n 1) one ∙ ap (λ o. or_later o (λ _. None)) (field_fits target message column is none) in
    ap (λ o. or_later o (λ _. length_misfit (length (repacked target message)))) fields ∙ short_fits (length (repacked target message)) short
