-- What is known of an arriving message, state by state.
use Rattle.std.proofs.Common.{◌≡◌, ◌≢◌, ℕ, ◌+◌, ◌≤◌, Some, None, List, [], ◌∷◌, ◌++◌, length, drop, slice_get, refl, sym, ap, ◌∙◌, arith, length-drop}
use Rattle.std.proofs.lemmas.List.{drop-append-le}
use Rattle.grib_bits.specs.Octets.{StatesItself}
use Rattle.grib_base.specs.declared.profile.Profile.{Profile}
use Rattle.grib_base.specs.declared.fault.ReadFault.{ReadFault}
use Rattle.grib_base.specs.declared.fault.ReadFault.TheVariants.{Refused as ReadRefused, Memory as ReadMemory}
use Rattle.grib_base.specs.Faults.{IsReadFault}
use Rattle.grib2_sections.specs.Head.{discipline}
use Rattle.grib2_sections.specs.Frame.{Placed, placed_at, position_after, Next}
use Rattle.grib2_sections.proofs.Frames.{mark_cut, step_refused}
use Rattle.grib_packing.specs.Entries.{data_fault}
use Rattle.grib_base.specs.Rules.{located}
use Rattle.grib2_message.specs.View.{last_number, octets_in_force}
use Rattle.grib2_message.specs.Acceptance.{section_fault_under}
use Rattle.grib2_message.specs.Kept.{HasInForce}
use Rattle.grib2_message.specs.Summary.{summary_in_force}
use Rattle.grib2_message.proofs.After.{fault_by_number}
use Rattle.grib2_message.proofs.Described.{line_other}
use Rattle.grib2_message.proofs.Order.{one_below, follows_tells}
use Rattle.grib2_arrival.specs.declared.kept.Kept.{Kept}
use Rattle.grib2_arrival.specs.Standing.{Stands}
use Rattle.grib2_arrival.specs.Heard.{cut_off, pending, step_of, IsValues, StopsUnder, GathersHeard}
use Rattle.grib2_arrival.proofs.Pending.{pending_long, pending_more, pending_none, none_left}
use Rattle.grib2_arrival.proofs.Onward.{stands_longer, stands_next, count_kept, count_more, summaries_more, contents_refused}
use Rattle.grib2_arrival.proofs.Reasons.{section_other, other_reason}
use Rattle.grib2_arrival.proofs.Verdicts.{values_longer}

-- nothing of the next section came
pub fresh : (profile : Profile) (u : List ℕ) (before : List Placed) (kept : Kept) → Stands profile u before kept → kept.frame.place ≡ length u + 1 → GathersHeard profile kept [] u
fresh profile u before kept h at = record {
  before = before;
  stands = h;
  gathered_are = sym (pending_none u kept.frame.place at);
  cut = step_refused u kept.frame (cut_off u) (mark_cut u kept.frame (omega (arith, at)));
  unfinished = record { goes = λ four. absurd (omega arith); wants = λ five. absurd (omega arith); other = λ five. absurd (omega arith) };
  near = omega (arith, h.room, at);
}

-- ---- more octets are gathered

module _ (profile : Profile) (u piece : List ℕ) (kept : Kept) (gathered : List ℕ) (h : GathersHeard profile kept gathered u) where
  pub gathered_more : gathered ++ piece ≡ pending (u ++ piece) kept
  gathered_more = ap (λ (xs : List ℕ). xs ++ piece) h.gathered_are ∙ sym (pending_more u piece kept.frame.place h.stands.walked.within)

  pub gathered_stands : Stands profile (u ++ piece) h.before kept
  gathered_stands = stands_longer profile u h.before kept h.stands piece

-- ---- a section that is no Section 7 was gathered whole

-- where the next one begins
pub after_whole : (profile : Profile) (u : List ℕ) (before : List Placed) (kept : Kept) (s : List ℕ) → Stands profile u before kept → s ≡ pending u kept → kept.frame.place + length s ≡ length u + 1
after_whole profile u before kept s h is =
    let long = pending_long u kept.frame.place (omega (arith, h.walked.low)) h.walked.within s is in
    omega arith

module _ (profile : Profile) (u : List ℕ) (before : List Placed) (kept : Kept) (h : Stands profile u before kept) (s : List ℕ) (number : ℕ) (e : step_of u kept ≡ Next s) (itself : StatesItself number s) (none : section_fault_under profile before (placed_at kept.frame.place s) ≡ None) where
  pub stands_after_section : number ≢ 7 → (after : Kept) → after.frame ≡ position_after kept.frame s
      → after.line ≡ summary_in_force (discipline u) (placed_at kept.frame.place s ∷ before)
      → HasInForce (placed_at kept.frame.place s ∷ before) after.force → after.force.profile ≡ kept.force.profile
      → after.summaries ≡ kept.summaries → Stands profile u (placed_at kept.frame.place s ∷ before) after
  stands_after_section other after frame line force under summaries =
      stands_next profile u before kept h s number e itself none after (record {
        frame_is = frame;
        line_is = line;
        force_is = force;
        under_is = under ∙ h.under;
        count_is = ap (λ v. length v.items) summaries ∙ count_kept profile u before kept h s number e itself none other;
        summaries_are = λ more i summary got. h.summaries more i summary (sym (ap (λ v. slice_get v.items i) summaries) ∙ got);
      })

  -- ---- a Section 7 is whole

  pub stands_after_values : number ≡ 7 → (after : Kept) → after.frame ≡ position_after kept.frame s → after.line ≡ kept.line
      → HasInForce (placed_at kept.frame.place s ∷ before) after.force → after.force.profile ≡ kept.force.profile
      → after.summaries.items ≡ kept.summaries.items ++ kept.line ∷ [] → Stands profile u (placed_at kept.frame.place s ∷ before) after
  stands_after_values seven after frame line force under summaries =
      stands_next profile u before kept h s number e itself none after (record {
        frame_is = frame;
        line_is =
            line_other before (placed_at kept.frame.place s) 7 (itself.number_stands ∙ seven) (discipline u) after.line (line ∙ h.line)
            (λ x. absurd (omega arith)) (λ x. absurd (omega arith)) (λ x. absurd (omega arith)) (λ x. absurd (omega arith));
        force_is = force;
        under_is = under ∙ h.under;
        count_is = count_more profile u before kept h s number e itself none seven after.summaries.items summaries;
        summaries_are = summaries_more profile u before kept h s number e itself none seven after.summaries.items summaries;
      })

-- ---- more octets of a Section 7 come

module _ (profile : Profile) (u piece : List ℕ) (kept : Kept) (l : ℕ) (before : List Placed) (h : Stands profile u before kept) (v : IsValues u kept l) where
  low : 17 ≤ kept.frame.place
  low = omega (arith, h.walked.low)

  -- how many of its octets came
  pub values_came : length (drop 5 (pending u kept)) + 5 + kept.frame.place ≡ length u + 1
  values_came =
      let long = pending_long u kept.frame.place (omega (arith, low)) h.walked.within (pending u kept) refl in
      omega (arith, long, length-drop 5 (pending u kept), v.there)

  -- and with the first five
  pub values_long : length (pending u kept) ≡ length (drop 5 (pending u kept)) + 5
  values_long =
      let long = pending_long u kept.frame.place (omega (arith, low)) h.walked.within (pending u kept) refl in
      omega (arith, long, length-drop 5 (pending u kept), v.there)

  pub values_more : drop 5 (pending u kept) ++ piece ≡ drop 5 (pending (u ++ piece) kept)
  values_more =
      let long = pending_long u kept.frame.place (omega (arith, low)) h.walked.within (pending u kept) refl in
      sym (drop-append-le 5 (pending u kept) piece (omega (arith, long, v.there)))
      ∙ ap (drop 5) (sym (pending_more u piece kept.frame.place h.walked.within))

  pub values_stand : IsValues (u ++ piece) kept l
  values_stand = values_longer u kept l low v piece

-- ---- a section is refused

pub stops_contents : (profile : Profile) (u : List ℕ) (before : List Placed) (kept : Kept) → Stands profile u before kept → (s : List ℕ) → step_of u kept ≡ Next s
    → (start : ℕ) → start ≡ kept.frame.place → (error : ReadFault) → IsReadFault (section_fault_under profile before (placed_at start s)) error → StopsUnder profile u error
stops_contents profile u before kept h s e start at (ReadRefused fault) refused =
    let is : section_fault_under profile before (placed_at kept.frame.place s) ≡ Some fault = ap (λ (q : ℕ). section_fault_under profile before (placed_at q s)) (sym at) ∙ refused in
    (contents_refused profile u before kept h s fault e is, other_reason (section_fault_under profile before (placed_at kept.frame.place s)) fault (section_other profile before (placed_at kept.frame.place s)) is)
stops_contents profile u before kept h s e start at ReadMemory refused = tt

-- ---- a Section 7 begins

-- it stands after Section 6
pub values_follow : (profile : Profile) (u : List ℕ) (before : List Placed) (kept : Kept) (l : ℕ) → Stands profile u before kept → IsValues u kept l → 5 ≤ last_number before
values_follow profile u before kept l h v =
    let six = one_below kept.frame.last 7 (follows_tells kept.frame.last 7 v.follows) (omega arith) in
    omega (arith, six, h.last)

-- five octets of it came
pub values_begun : (s : List ℕ) → length s ≡ 5 → drop 5 s ≡ []
values_begun s five = none_left (drop 5 s) (omega (arith, length-drop 5 s))

-- and it is refused or not by its rules
pub values_fault : (profile : Profile) (before : List Placed) (start : ℕ) (s7 : List ℕ) → StatesItself 7 s7
    → section_fault_under profile before (placed_at start s7) ≡ located start (data_fault (octets_in_force 5 before) s7)
values_fault profile before start s7 itself = fault_by_number before (placed_at start s7) 7 itself.number_stands profile 7 refl
