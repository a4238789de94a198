-- What comes of a message.
use Rattle.std.proofs.Common.{◌≡◌, ◌⊎◌, IfOk, Ok, Err, ℕ, true, false, Bool, ◌||◌, ◌&&◌, ◌==◌, nat_lt, arith, None, Option, List, length, refl, sym, ap, ◌∙◌, subst, inl, inr, eqb-true}
use Rattle.grib_packing.specs.Coded.{is_block}
use Rattle.grib_packing.specs.Written.{IsTarget}
use Rattle.std.specs.declared.result.Result.{Result}
use Rattle.std.proofs.lemmas.Bool.{false≢true, ltb-true}
use Rattle.std.specs.Io.KnownBytes.{Appends}
use Rattle.grib_io.specs.Outside.{AppendsFront, CountsStop, Unfinished}
use Rattle.grib_io.specs.Shelves.{Held}
use Rattle.grib_io.specs.declared.outside.Stop.{Stop}
use Rattle.grib_io.specs.declared.outside.Stop.TheVariants as Stops
use Rattle.grib_stream.specs.Acts.{world, writes, DidFront}
use Rattle.grib_stream.specs.Task.{Given, Gives}
use Rattle.grib_stream.proofs.Worlds.{did_write, did_write_front}
use Rattle.grib_packing.specs.declared.target.RepackTarget.{RepackTarget}
use Rattle.grib_packing.specs.declared.target.RepackTarget.TheVariants.{Simple, Complex, Spatial, Coded}
use Rattle.grib_packing.specs.Targets.{target_of}
use Rattle.grib_reasons.specs.declared.cause.Cause.{Cause}
use Rattle.grib_command.specs.declared.answered.Answered.{Answered}
use Rattle.grib_command.specs.declared.answered.Answered.TheVariants.{Whole}
use Rattle.grib_command.specs.Answering.{AnswersMessage, AnswersByOutput, AnswersByShelf, acts_given, answered_printed, answered_stopped, answered_written}
use Rattle.grib_command.specs.Pending.{WritesTo}
use Rattle.grib_command.specs.Command.{given_text, given_whole, given_unless}
use Rattle.grib_command.specs.Jobs.{is_target}

one_or_two : (a b : Bool) (order : ℕ) → (order == 1) ≡ a → (order == 2) ≡ b → (a || b) ≡ true → (order ≡ 1) ⊎ (order ≡ 2)
one_or_two true b order one two h = inl (eqb-true order 1 one)
one_or_two false b order one two h = inr (eqb-true order 2 (two ∙ h))

both : (a b : Bool) → (a && b) ≡ true → (a ≡ true) × (b ≡ true)
both true b h = (refl, h)
both false b h = cc

either : (a b : Bool) → (a || b) ≡ true → (a ≡ true) ⊎ (b ≡ true)
either true b h = inl refl
either false b h = inr h

-- a block of this many values can be
block_stands : (block : ℕ) → is_block block ≡ true → (block ≡ 8) ⊎ ((block ≡ 16) ⊎ ((block ≡ 32) ⊎ (block ≡ 64)))
block_stands block h = elim (either (block == 8) ((block == 16) || ((block == 32) || (block == 64))) h) [
  | inl is ↦ inl (eqb-true block 8 is)
  | inr more ↦ elim (either (block == 16) ((block == 32) || (block == 64)) more) [
    | inl is ↦ inr (inl (eqb-true block 16 is))
    | inr last ↦ elim (either (block == 32) (block == 64) last) [ inl is ↦ inr (inr (inl (eqb-true block 32 is))) | inr is ↦ inr (inr (inr (eqb-true block 64 is))) ]
  ]
]

-- what fields are packed to is there
pub target_stands : (target : RepackTarget) → is_target target ≡ true → IsTarget (target_of target)
target_stands Simple is = tt
target_stands Complex is = tt
target_stands (Spatial order) is = one_or_two (order == 1) (order == 2) order refl refl is
target_stands (Coded block interval) is =
    let parts = both (is_block block) (nat_lt 0 interval && nat_lt interval 4097) is in
    let bounds = both (nat_lt 0 interval) (nat_lt interval 4097) parts.1 in
    let low = ltb-true 0 interval bounds.0 in
    let high = ltb-true interval 4097 bounds.1 in
    (block_stands block parts.0, omega (arith, low), omega (arith, high))

-- ---- what was printed or written, by the output alone

module _ {Sink : Type 0} (contents : Sink → Option (List ℕ)) (faults : Sink → ℕ) (settled : Sink → Bool) where
  front_given : (given : Given) (text : List ℕ) (a b : Sink) (names : Option Held) → acts_given given ≡ writes text → AppendsFront (contents a) (contents b) text
      → DidFront (world (contents a) names) (world (contents b) names) (acts_given given)
  front_given given text a b names is front =
      subst (DidFront (world (contents a) names) (world (contents b) names)) (sym is) (did_write_front (contents a) (contents b) names text front)

  -- a text was written whole
  whole : (count m : ℕ) (given : Given) (text : List ℕ) (a b : Sink) → given ≡ Gives (writes text) count → Appends (contents a) (contents b) text
      → faults b ≡ faults a → Unfinished (settled a) (settled b) → AnswersByOutput contents faults settled (Whole count) m given a b
  whole count m given text a b is appended stays unfinished = record {
    answers = λ names. (writes text, is, did_write (contents a) (contents b) names text appended);
    write_fault = λ no. absurd (cc no);
    write_stays = λ other. stays;
    unfinished = unfinished;
    unshelved = λ no. cc;
  }

  -- or the output stopped within it
  cut : (stop : Stop) (m : ℕ) (given : Given) (text : List ℕ) (a b : Sink) → acts_given given ≡ writes text → AppendsFront (contents a) (contents b) text
      → CountsStop stop (faults a) (faults b) → Unfinished (settled a) (settled b) → AnswersByOutput contents faults settled (answered_stopped stop) m given a b
  cut Stops.Failed m given text a b is front counted unfinished = record {
    answers = λ names. front_given given text a b names is front;
    write_fault = λ same. counted;
    write_stays = λ other. absurd (other refl);
    unfinished = unfinished;
    unshelved = λ no. cc;
  }
  cut Stops.Memory m given text a b is front counted unfinished = record {
    answers = λ names. front_given given text a b names is front;
    write_fault = λ no. absurd (cc no);
    write_stays = λ other. counted;
    unfinished = unfinished;
    unshelved = λ no. cc;
  }

  printing : {T : Type 0} (result : Result T Stop) (m : ℕ) (given : Given) (text : List ℕ) (a b : Sink) → given ≡ given_text text
      → WritesTo contents faults settled result a b text → AnswersByOutput contents faults settled (answered_printed result) m given a b
  printing (Ok x) m given text a b is wrote = whole 0 m given text a b is wrote.octets.whole wrote.counted wrote.unfinished
  printing (Err stop) m given text a b is wrote = cut stop m given text a b (ap acts_given is) wrote.octets.front wrote.counted wrote.unfinished

  writing : (result : Result ℕ Stop) (m : ℕ) (given : Given) (text : List ℕ) (a b : Sink) → given ≡ given_whole text
      → IfOk result (λ count. count ≡ length text) → WritesTo contents faults settled result a b text → AnswersByOutput contents faults settled (answered_written result) m given a b
  writing (Ok count) m given text a b is counts wrote =
      whole count m given text a b (is ∙ ap (Gives (writes text)) (sym counts)) wrote.octets.whole wrote.counted wrote.unfinished
  writing (Err stop) m given text a b is counts wrote = cut stop m given text a b (ap acts_given is) wrote.octets.front wrote.counted wrote.unfinished

  -- a message is answered as what it gives says
  pub as_given : (answered : Answered) (m : ℕ) (given own : Given) (a b : Sink) → given ≡ own → AnswersByOutput contents faults settled answered m own a b
      → AnswersByOutput contents faults settled answered m given a b
  as_given answered m given own a b is done = subst (λ x. AnswersByOutput contents faults settled answered m x a b) (sym is) done

  -- what comes of it, as it is answered
  pub by_printing : {T : Type 0} (result : Result T Stop) (answered : Answered) (m : ℕ) (given : Given) (text : List ℕ) (a b : Sink) → answered ≡ answered_printed result
      → given ≡ given_text text → WritesTo contents faults settled result a b text → AnswersByOutput contents faults settled answered m given a b
  by_printing result answered m given text a b same is wrote =
      subst (λ r. AnswersByOutput contents faults settled r m given a b) (sym same) (printing result m given text a b is wrote)

  pub by_writing : (result : Result ℕ Stop) (answered : Answered) (m : ℕ) (given : Given) (text : List ℕ) (a b : Sink) → answered ≡ answered_written result
      → given ≡ given_whole text → IfOk result (λ count. count ≡ length text) → WritesTo contents faults settled result a b text
      → AnswersByOutput contents faults settled answered m given a b
  by_writing result answered m given text a b same is counts wrote =
      subst (λ r. AnswersByOutput contents faults settled r m given a b) (sym same) (writing result m given text a b is counts wrote)

  -- octets were written in the place of a message that has no cause
  pub by_octets : (result : Result ℕ Stop) (answered : Answered) (cause : Option Cause) (m : ℕ) (octets text : List ℕ) (a b : Sink) → answered ≡ answered_written result
      → cause ≡ None → text ≡ octets → IfOk result (λ count. count ≡ length text) → WritesTo contents faults settled result a b text
      → AnswersByOutput contents faults settled answered m (given_unless cause m octets) a b
  by_octets result answered cause m octets text a b same none is counts wrote =
      by_writing result answered m (given_unless cause m octets) text a b same (ap (λ c. given_unless c m octets) none ∙ ap given_whole (sym is)) counts wrote

  -- and the shelf as it was
  pub by_output : {Shelf : Type 0} (names : Shelf → Option Held) (shelf_faults : Shelf → ℕ) (result : Answered) (m : ℕ) (given : Given) (shelved : Bool) (a b : Sink) (shelf : Shelf)
      → shelved ≡ false → AnswersByOutput contents faults settled result m given a b
      → AnswersMessage contents faults settled names shelf_faults result m given shelved a b shelf shelf
  by_output names shelf_faults result m given shelved a b shelf off done = record {
    answers = done.answers (names shelf);
    write_fault = done.write_fault;
    write_stays = done.write_stays;
    unfinished = done.unfinished;
    shelf_fault = λ no. absurd (done.unshelved no);
    shelf_stays = λ other. refl;
    shelf_kept = λ off. refl;
    unshelved = λ off. done.unshelved;
    output_kept = λ on. absurd (false≢true (sym off ∙ on));
  }

  -- or the output as it was
  pub by_shelf : {Shelf : Type 0} (names : Shelf → Option Held) (shelf_faults : Shelf → ℕ) (result : Answered) (m : ℕ) (given : Given) (output : Sink) (a b : Shelf)
      → AnswersByShelf names shelf_faults result m given a b → AnswersMessage contents faults settled names shelf_faults result m given true output output a b
  by_shelf names shelf_faults result m given output a b done = record {
    answers = done.answers (contents output);
    write_fault = λ no. absurd (done.unwritten no);
    write_stays = λ other. refl;
    unfinished = λ all. all;
    shelf_fault = done.shelf_fault;
    shelf_stays = done.shelf_stays;
    shelf_kept = λ off. absurd (false≢true (sym off));
    unshelved = λ off. absurd (false≢true (sym off));
    output_kept = λ _. refl;
  }
