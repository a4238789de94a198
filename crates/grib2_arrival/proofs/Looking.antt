-- What the octets that were gathered tell of what stands there.
use Rattle.std.proofs.Common.{◌≡◌, ◌≢◌, ℕ, ◌+◌, ◌-◌, ◌<◌, ◌≤◌, true, false, IsTrue, Option, Some, None, List, ◌++◌, length, nat_lt, ◌==◌, inl, inr, refl, sym, ap, ◌∙◌, arith, eqb-true, ltb-false, length-append}
use Rattle.std.proofs.lemmas.Bool.{cases_lt, eqb-false}
use Rattle.grib_bits.specs.Octets.{octets as number_at}
use Rattle.grib_base.specs.declared.profile.Profile.{Profile}
use Rattle.grib_base.specs.declared.fault.Fault.{Fault}
use Rattle.grib_base.specs.declared.fault.Reason.TheVariants.{Truncated}
use Rattle.grib2_sections.specs.Frame.{Placed, Fails, Next, end_rules, end_fault, opening_fault, mark_fault, ends_at, may_follow}
use Rattle.grib2_sections.proofs.Frames.{mark_cut, mark_there, frame_cut, frame_refused, frame_short, frame_passes, step_refused, step_ends, step_frame, step_next}
use Rattle.grib2_message.proofs.Passed.{passes_from_none}
use Rattle.grib2_message.proofs.Walk.{second_fails}
use Rattle.grib2_message.proofs.Whole.{octets_before}
use Rattle.grib2_arrival.specs.declared.kept.Kept.{Kept}
use Rattle.grib2_arrival.specs.declared.look.Look.TheVariants.{More, Ends, Section, Values}
use Rattle.grib2_arrival.specs.Standing.{Stands}
use Rattle.grib2_arrival.specs.Heard.{mark, cut_off, pending, step_of, IsUnfinished, IsOne, Looks}
use Rattle.grib2_arrival.proofs.Pending.{pending_long, pending_four, pending_fifth, pending_whole}
use Rattle.grib2_arrival.proofs.Reasons.{end_other, opening_other, other_reason}

module _ (profile : Profile) (u : List ℕ) (before : List Placed) (kept : Kept) (h : Stands profile u before kept) (gathered : List ℕ) (is : gathered ≡ pending u kept) (one : IsOne gathered) where
  low : 17 ≤ kept.frame.place
  low = omega (arith, h.walked.low)

  long : length gathered + kept.frame.place ≡ length u + 1
  long = pending_long u kept.frame.place (omega (arith, low)) h.walked.within gathered is

  pub stated : number_at u kept.frame.place (kept.frame.place + 3) ≡ number_at gathered 1 4
  stated = pending_four u kept.frame.place (omega (arith, low)) h.walked.within gathered is

  pub numbered : number_at u (kept.frame.place + 4) (kept.frame.place + 4) ≡ number_at gathered 5 5
  numbered = pending_fifth u kept.frame.place (omega (arith, low)) h.walked.within gathered is

  pub looks_few : length gathered < 4 → Looks u kept gathered More
  looks_few few = (
    step_refused u kept.frame (cut_off u) (mark_cut u kept.frame (omega (arith, long))),
    record { goes = λ four. absurd (omega arith); wants = λ five. absurd (omega arith); other = λ five. absurd (omega arith) },
    omega (arith, long, h.room),
  )

  module _ (four : 4 ≤ length gathered) where
    marked : (o : Option Fault) → end_fault kept.frame (number_at gathered 1 4) ≡ o → mark_fault u kept.frame ≡ o
    marked o e = mark_there u kept.frame (omega (arith, long)) ∙ ap (end_fault kept.frame) stated ∙ e

    pub end_refused : (fault : Fault) → end_fault kept.frame (number_at gathered 1 4) ≡ Some fault → (step_of u kept ≡ Fails fault) × (fault.reason ≢ Truncated)
    end_refused fault e = (
      step_refused u kept.frame fault (marked (Some fault) e),
      other_reason (end_fault kept.frame (number_at gathered 1 4)) fault (end_other kept.frame (number_at gathered 1 4)) e,
    )

    module _ (passes : end_fault kept.frame (number_at gathered 1 4) ≡ None) where
      pub looks_ended : (number_at gathered 1 4 == mark) ≡ true → Looks u kept gathered Ends
      looks_ended on =
          let no_five : 5 ≤ length gathered → ⊥ = λ five. one.goes five (eqb-true (number_at gathered 1 4) mark on) in
          let rules = passes_from_none (end_rules kept.frame.total kept.frame.last kept.frame.place (number_at gathered 1 4)) passes in
          let late = ltb-false (kept.frame.place + 3) kept.frame.total (second_fails (number_at gathered 1 4 == mark) (nat_lt (kept.frame.place + 3) kept.frame.total) rules.1.0 on) in (
            step_ends u kept.frame (marked None passes) (ap (λ (n : ℕ). n == mark) stated ∙ on),
            omega (arith, long, late, h.room, no_five),
          )

      module _ (off : (number_at gathered 1 4 == mark) ≡ false) where
        goes : ends_at u kept.frame.place ≡ false
        goes = ap (λ (n : ℕ). n == mark) stated ∙ off

        no_mark : number_at gathered 1 4 ≢ mark
        no_mark = eqb-false (number_at gathered 1 4) mark off

        pub looks_four : length gathered < 5 → Looks u kept gathered More
        looks_four few = (
          step_frame u kept.frame (marked None passes) goes (cut_off u) (frame_cut u kept.frame (omega (arith, long))),
          record { goes = λ _. no_mark; wants = λ five. absurd (omega arith); other = λ five. absurd (omega arith) },
          omega (arith, long, h.room),
        )

        module _ (five : 5 ≤ length gathered) where
          there : kept.frame.place + 4 ≤ length u
          there = omega (arith, long)

          opened : (o : Option Fault) → opening_fault kept.frame (number_at gathered 1 4) (number_at gathered 5 5) ≡ o
              → opening_fault kept.frame (number_at u kept.frame.place (kept.frame.place + 3)) (number_at u (kept.frame.place + 4) (kept.frame.place + 4)) ≡ o
          opened o e = (λ i. opening_fault kept.frame (stated i) (numbered i)) ∙ e

          pub opening_refused : (fault : Fault) → opening_fault kept.frame (number_at gathered 1 4) (number_at gathered 5 5) ≡ Some fault
              → (step_of u kept ≡ Fails fault) × (fault.reason ≢ Truncated)
          opening_refused fault e = (
            step_frame u kept.frame (marked None passes) goes fault (frame_refused u kept.frame there fault (opened (Some fault) e)),
            other_reason (opening_fault kept.frame (number_at gathered 1 4) (number_at gathered 5 5)) fault (opening_other kept.frame (number_at gathered 1 4) (number_at gathered 5 5)) e,
          )

          module _ (opens : opening_fault kept.frame (number_at gathered 1 4) (number_at gathered 5 5) ≡ None) (least : 5 ≤ number_at gathered 1 4) (room : kept.frame.place + number_at gathered 1 4 + 3 ≤ kept.frame.total) where
            pub looks_values : number_at gathered 5 5 ≡ 7 → IsTrue (may_follow kept.frame.last (number_at gathered 5 5)) → Looks u kept gathered (Values (number_at gathered 1 4))
            looks_values seven follows =
                let no_six : 6 ≤ length gathered → ⊥ = λ six. one.other six seven in (
                  record {
                    there = there;
                    length_is = stated;
                    number_is = numbered ∙ seven;
                    ends = passes;
                    goes = no_mark;
                    opens = ap (opening_fault kept.frame (number_at gathered 1 4)) (sym seven) ∙ opens;
                    least = least;
                    room = omega (arith, room, low);
                    follows = ap (may_follow kept.frame.last) (sym seven) ∙ follows;
                  },
                  omega (arith, no_six),
                )

            pub looks_more : number_at gathered 5 5 ≢ 7 → length gathered < number_at gathered 1 4 → Looks u kept gathered More
            looks_more other wants = (
              step_frame u kept.frame (marked None passes) goes (cut_off u) (frame_short u kept.frame there (opened None opens) (omega (arith, stated, long, low))),
              record { goes = λ _. no_mark; wants = λ _. wants; other = λ _. other },
              omega (arith, long, room, wants, low),
            )

            pub looks_section : number_at gathered 5 5 ≢ 7 → number_at gathered 5 5 ≤ 7 → number_at gathered 1 4 ≤ length gathered → Looks u kept gathered Section
            looks_section other high enough =
                let as_long : length gathered ≡ number_at gathered 1 4 = elim (cases_lt (length gathered) 6) [
                  | inl few ↦ omega arith
                  | inr six ↦ omega (arith, one.within six)
                ] in (
                  step_next u kept.frame (marked None passes) goes (frame_passes u kept.frame there (opened None opens) (omega (arith, stated, long, low)))
                      ∙ ap Next (pending_whole u kept.frame.place (omega (arith, low)) h.walked.within gathered is as_long),
                  record { length_stands = sym as_long; least = five; number_stands = refl },
                  other,
                  high,
                )

-- ---- how many octets are wanted

module _ (gathered piece : List ℕ) (g : IsUnfinished gathered) where
  long_more : length (gathered ++ piece) ≡ length gathered + length piece
  long_more = length-append gathered piece

  pub one_few : length gathered < 4 → length piece ≤ 4 - length gathered → IsOne (gathered ++ piece)
  one_few few within = record {
    goes = λ five. absurd (omega (arith, long_more));
    within = λ six. absurd (omega (arith, long_more));
    other = λ six. absurd (omega (arith, long_more));
  }

  same_length : 4 ≤ length gathered → number_at (gathered ++ piece) 1 4 ≡ number_at gathered 1 4
  same_length four = octets_before gathered piece 1 4 (omega arith) (omega arith) four

  pub one_four : 4 ≤ length gathered → length gathered < 5 → length piece ≤ 1 → IsOne (gathered ++ piece)
  one_four four few within = record {
    goes = λ five e. g.goes four (sym (same_length four) ∙ e);
    within = λ six. absurd (omega (arith, long_more));
    other = λ six. absurd (omega (arith, long_more));
  }

  pub one_more : 5 ≤ length gathered → length piece ≤ number_at gathered 1 4 - length gathered → IsOne (gathered ++ piece)
  one_more five within =
      let same = same_length (omega (arith, five)) in
      let wants = g.wants five in
      record {
        goes = λ _ e. g.goes (omega (arith, five)) (sym same ∙ e);
        within = λ six. omega (arith, long_more, same);
        other = λ six e. g.other five (sym (octets_before gathered piece 5 5 (omega arith) (omega arith) five) ∙ e);
      }
