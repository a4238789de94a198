-- What is known of some octets, when other octets follow them, and after one more section.
use Rattle.std.proofs.Common.{◌≡◌, ◌≢◌, ℕ, ◌+◌, ◌≤◌, IsTrue, Some, None, List, [], ◌∷◌, ◌++◌, length, slice_get, get_or, inl, inr, refl, sym, ap, ◌∙◌, arith, subst, append-nil, append_assoc, length-append}
use Rattle.std.proofs.lemmas.Bool.{cases_lt}
use Rattle.std.proofs.lemmas.Option.{slice_get_within, get_or_from_slice_get, slice_get-get_or}
use Rattle.std.proofs.Math.ListN.{get_or-append}
use Rattle.std.proofs.Math.Seq.{get_or-append_seam}
use Rattle.grib_bits.specs.Octets.{octets as number_at, StatesItself}
use Rattle.grib_base.specs.declared.profile.Profile.{Profile}
use Rattle.grib_base.specs.declared.fault.Fault.{Fault}
use Rattle.grib_base.specs.declared.fault.ReadFault.TheVariants.{Refused as ReadRefused}
use Rattle.grib_base.specs.declared.fault.Reason.TheVariants.{Truncated}
use Rattle.grib2_sections.specs.Verdict.{Accepted, Refused}
use Rattle.grib2_sections.specs.Head.{discipline}
use Rattle.grib2_sections.specs.Frame.{Placed, placed_at, Position, position_after, section_number, may_follow, End, Fails, Next}
use Rattle.grib2_message.specs.View.{last_number, section_count}
use Rattle.grib2_message.specs.Acceptance.{section_fault_under, verdict_under}
use Rattle.grib2_message.specs.Fields.{field_sections, field_count}
use Rattle.grib2_message.specs.Kept.{HasInForce, Comes}
use Rattle.grib2_message.specs.Summary.{summary_in_force, summary_of}
use Rattle.grib2_message.specs.declared.summary.FieldSummary.{FieldSummary}
use Rattle.grib2_message.proofs.Whole.{octets_before}
use Rattle.grib2_message.proofs.Stays.{step_kept, front_of_more}
use Rattle.grib2_message.proofs.Ways.{OnWay, GoesOn, way_comes, way_next, way_fails, way_refused, way_end}
use Rattle.grib2_message.proofs.Described.{line_other}
use Rattle.grib2_message.proofs.Sound.{count_same, count_other}
use Rattle.grib2_message.proofs.Order.{follows_tells, in_range}
use Rattle.grib2_arrival.specs.declared.kept.Kept.{Kept}
use Rattle.grib2_arrival.specs.Walked.{turns_left, GoesOnFrom, Walked}
use Rattle.grib2_arrival.specs.Standing.{Stands}
use Rattle.grib2_arrival.specs.Heard.{cut_off, step_of, StopsUnder}

-- ---- octets follow

pub walked_longer : (profile : Profile) (u more : List ℕ) (before : List Placed) (q : ℕ) → Walked profile u before q → Walked profile (u ++ more) before q
walked_longer profile u more before q w = record {
  low = w.low;
  within = omega (arith, w.within, length-append u more);
  goes_on = λ later. subst (λ (m : List ℕ). GoesOnFrom profile m before q) (sym (append_assoc u more later)) (w.goes_on (more ++ later));
}

module _ (profile : Profile) (u : List ℕ) (before : List Placed) (kept : Kept) (h : Stands profile u before kept) where
  pub sixteen : 16 ≤ length u
  sixteen = omega (arith, h.walked.low, h.walked.within)

  pub same_front : (more : List ℕ) (first last : ℕ) → 1 ≤ first → first ≤ last → last ≤ 16 → number_at (u ++ more) first last ≡ number_at u first last
  same_front more first last low order high = octets_before u more first last low order (omega (arith, sixteen))

  pub stands_longer : (more : List ℕ) → Stands profile (u ++ more) before kept
  stands_longer more = record {
    walked = walked_longer profile u more before kept.frame.place h.walked;
    second = same_front more 8 8 (omega arith) (omega arith) (omega arith) ∙ h.second;
    total = h.total ∙ sym (same_front more 9 16 (omega arith) (omega arith) (omega arith));
    most = h.most;
    room = h.room;
    last = h.last;
    numbered = h.numbered;
    line = h.line ∙ ap (λ (d : ℕ). summary_in_force d before) (sym (same_front more 7 7 (omega arith) (omega arith) (omega arith)));
    force = h.force;
    under = h.under;
    count = h.count;
    summaries = λ later i summary e.
        h.summaries (more ++ later) i summary e ∙ ap (λ (m : List ℕ). summary_of m (i + 1)) (sym (append_assoc u more later));
  }

-- ---- where the walk stands

-- by what is known on the way
pub from_way : (profile : Profile) (m : List ℕ) (turns : ℕ) (before : List Placed) (at : Position) → OnWay profile m turns before at → GoesOnFrom profile m before at.place
from_way profile m turns before at w =
    let is : turns ≡ turns_left m before = omega (arith, w.left) in
    let v : OnWay profile m (turns_left m before) before at = subst (λ (t : ℕ). OnWay profile m t before at) is w in
    record { verdict = v.verdict; fields = v.fields; count = v.count }

module _ (profile : Profile) (u : List ℕ) (before : List Placed) (kept : Kept) (h : Stands profile u before kept) where
  pub on_way : (more : List ℕ) → OnWay profile (u ++ more) (turns_left (u ++ more) before) before kept.frame
  on_way more =
      let g = h.walked.goes_on more in
      let long = length-append u more in
      record {
        states = same_front profile u before kept h more 9 16 (omega arith) (omega arith) (omega arith) ∙ sym h.total;
        last_is = sym h.last;
        left = omega (arith, h.walked.low, h.walked.within, long);
        room = h.walked.low;
        within = h.room;
        longest = h.most;
        there = omega (arith, h.walked.within, long);
        verdict = g.verdict;
        fields = g.fields;
        count = g.count;
      }

  pub on_way_here : OnWay profile u (turns_left u before) before kept.frame
  on_way_here = subst (λ (m : List ℕ). OnWay profile m (turns_left m before) before kept.frame) (append-nil u) (on_way [])

  -- a section that stands whole stays
  pub next_stays : (more s : List ℕ) → step_of u kept ≡ Next s → step_of (u ++ more) kept ≡ Next s
  next_stays more s e =
      elim (step_kept u (u ++ more) kept.frame.total kept.frame.last kept.frame.place (front_of_more u more) (omega (arith, h.walked.low))) [
        | inl cut ↦ (let bad : ⊥ = rw e at cut in absurd bad)
        | inr same ↦ same ∙ e
      ]

  -- ---- what is said

  pub fails_stops : (fault : Fault) → step_of u kept ≡ Fails fault → fault.reason ≢ Truncated → StopsUnder profile u (ReadRefused fault)
  fails_stops fault e whole = (way_fails profile u (turns_left u before) before kept.frame fault on_way_here e, whole)

  pub contents_refused : (s : List ℕ) (fault : Fault) → step_of u kept ≡ Next s → section_fault_under profile before (placed_at kept.frame.place s) ≡ Some fault
      → verdict_under profile u ≡ Refused fault
  contents_refused s fault e refused = way_refused profile u (turns_left u before) before kept.frame s fault on_way_here e refused

  pub cut_refused : step_of u kept ≡ Fails (cut_off u) → verdict_under profile u ≡ Refused (cut_off u)
  cut_refused e = way_fails profile u (turns_left u before) before kept.frame (cut_off u) on_way_here e

  pub end_accepted : step_of u kept ≡ End → verdict_under profile u ≡ Accepted kept.frame.total
  end_accepted e = (way_end profile u (turns_left u before) before kept.frame on_way_here e).accepted

  pub end_counted : step_of u kept ≡ End → field_count u ≡ section_count 7 before
  end_counted e = (way_end profile u (turns_left u before) before kept.frame on_way_here e).count

  pub follows_here : (s : List ℕ) (number : ℕ) → step_of u kept ≡ Next s → StatesItself number s → IsTrue (may_follow (last_number before) number)
  follows_here s number e itself = (way_comes profile u before kept.frame s e (turns_left u before) number on_way_here itself).follows

  -- ---- after one more section

  module _ (s : List ℕ) (number : ℕ) (e : step_of u kept ≡ Next s) (itself : StatesItself number s) (none : section_fault_under profile before (placed_at kept.frame.place s) ≡ None) where
    pub goes_on : (more : List ℕ) → GoesOn profile (u ++ more) before kept.frame (turns_left (u ++ more) before) s
    goes_on more = way_next profile (turns_left (u ++ more) before) (u ++ more) before kept.frame s (on_way more) (next_stays more s e) none

    pub comes : Comes u before number kept.frame.place s
    comes = way_comes profile u before kept.frame s e (turns_left u before) number on_way_here itself

    pub next_room : (kept.frame.place + length s + 3 ≤ kept.frame.total) × (number ≤ 7)
    next_room = (
      (goes_on []).way.within,
      (in_range (last_number before) number (follows_tells (last_number before) number comes.follows)).1,
    )

    walked_next : Walked profile u (placed_at kept.frame.place s ∷ before) (kept.frame.place + length s)
    walked_next =
        let first = (goes_on []).way in
        record {
          low = first.room;
          within = omega (arith, first.there, length-append u []);
          goes_on = λ more. from_way profile (u ++ more) (goes_on more).turns_left (placed_at kept.frame.place s ∷ before) (position_after kept.frame s) (goes_on more).way;
        }

    -- what has to be known of what is kept after it
    pub record Follows (after : Kept) : Type 0 where
      pub frame_is : after.frame ≡ position_after kept.frame s
      pub line_is : after.line ≡ summary_in_force (discipline u) (placed_at kept.frame.place s ∷ before)
      pub force_is : HasInForce (placed_at kept.frame.place s ∷ before) after.force
      pub under_is : after.force.profile ≡ profile
      pub count_is : length after.summaries.items ≡ section_count 7 (placed_at kept.frame.place s ∷ before)
      pub summaries_are : (more : List ℕ) (i : ℕ) (summary : FieldSummary) → slice_get after.summaries.items i ≡ Some summary → summary ≡ summary_of (u ++ more) (i + 1)

    pub stands_next : (after : Kept) → Follows after → Stands profile u (placed_at kept.frame.place s ∷ before) after
    stands_next after f =
        let total_is = ap (λ (p : Position). p.total) f.frame_is in
        let place_is = ap (λ (p : Position). p.place) f.frame_is in
        let last_is = ap (λ (p : Position). p.last) f.frame_is in
        record {
          walked = subst (λ (q : ℕ). Walked profile u (placed_at kept.frame.place s ∷ before) q) (sym place_is) walked_next;
          second = h.second;
          total = total_is ∙ h.total;
          most = omega (arith, total_is, h.most);
          room = omega (arith, total_is, place_is, next_room.0);
          last = last_is;
          numbered = omega (arith, last_is, itself.number_stands, next_room.1);
          line = f.line_is;
          force = f.force_is;
          under = f.under_is;
          count = f.count_is;
          summaries = f.summaries_are;
        }

    -- the summaries, where no field ends
    pub count_kept : number ≢ 7 → length kept.summaries.items ≡ section_count 7 (placed_at kept.frame.place s ∷ before)
    count_kept other = h.count ∙ sym (count_other (placed_at kept.frame.place s) before 7 (λ same. other (sym itself.number_stands ∙ same)))

    -- and where one does
    pub count_more : number ≡ 7 → (summaries : List FieldSummary) → summaries ≡ kept.summaries.items ++ kept.line ∷ []
        → length summaries ≡ section_count 7 (placed_at kept.frame.place s ∷ before)
    count_more seven summaries is =
        let more = count_same (placed_at kept.frame.place s) before 7 (itself.number_stands ∙ seven) in
        let long = ap length is ∙ length-append kept.summaries.items (kept.line ∷ []) in
        omega (arith, h.count)

    line_is_of : number ≡ 7 → (more : List ℕ) (i : ℕ) → i ≡ length kept.summaries.items → kept.line ≡ summary_of (u ++ more) (i + 1)
    line_is_of seven more i is =
        let here : section_number s ≡ 7 = itself.number_stands ∙ seven in
        let ends : field_sections (u ++ more) (i + 1) ≡ placed_at kept.frame.place s ∷ before =
        ap (λ (k : ℕ). field_sections (u ++ more) (k + 1)) (is ∙ h.count) ∙ (goes_on more).ends_field here in
        h.line
        ∙ line_other before (placed_at kept.frame.place s) 7 here (discipline u) (summary_in_force (discipline u) before) refl (λ x. absurd (omega arith)) (λ x. absurd (omega arith)) (λ x. absurd (omega arith)) (λ x. absurd (omega arith))
        ∙ ap (λ (d : ℕ). summary_in_force d (placed_at kept.frame.place s ∷ before)) (sym (same_front profile u before kept h more 7 7 (omega arith) (omega arith) (omega arith)))
        ∙ ap (λ (b : List Placed). summary_in_force (discipline (u ++ more)) b) (sym ends)

    pub summaries_more : number ≡ 7 → (summaries : List FieldSummary) → summaries ≡ kept.summaries.items ++ kept.line ∷ []
        → (more : List ℕ) (i : ℕ) (summary : FieldSummary) → slice_get summaries i ≡ Some summary → summary ≡ summary_of (u ++ more) (i + 1)
    summaries_more seven summaries is more i summary e =
        let xs = kept.summaries.items in
        let got : slice_get (xs ++ kept.line ∷ []) i ≡ Some summary = ap (λ (ys : List FieldSummary). slice_get ys i) (sym is) ∙ e in
        let within = slice_get_within (xs ++ kept.line ∷ []) i summary got in
        let read = get_or_from_slice_get (xs ++ kept.line ∷ []) i summary summary got in
        elim (cases_lt i (length xs)) [
          | inl low ↦ h.summaries more i summary (slice_get-get_or xs i summary low ∙ ap Some (sym (get_or-append xs (kept.line ∷ []) summary i low) ∙ read))
          | inr high ↦
              let at : i ≡ length xs = omega (arith, length-append xs (kept.line ∷ [])) in
              let same : kept.line ≡ summary = sym (get_or-append_seam xs kept.line [] summary) ∙ ap (λ (k : ℕ). get_or (xs ++ kept.line ∷ []) k summary) (sym at) ∙ read in
              sym same ∙ line_is_of seven more i at
        ]
