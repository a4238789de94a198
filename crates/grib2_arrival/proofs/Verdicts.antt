-- What is said of the octets that were heard.
use Rattle.std.proofs.Common.{◌≡◌, ◌≢◌, ℕ, ◌+◌, ◌-◌, ◌<◌, ◌≤◌, Bool, true, false, IsTrue, Option, Some, None, List, [], ◌++◌, length, take, drop, ne_eqb, refl, sym, ap, ◌∙◌, arith, subst, get_or, append-nil, append_assoc, take-append-drop, length-append, length-drop}
use Rattle.std.proofs.lemmas.List.{take_all}
use Rattle.std.proofs.lemmas.Option.{slice_get-get_or}
use Rattle.std.proofs.Math.Seq.{take-add}
use Rattle.grib_bits.specs.Octets.{octets as number_at, StatesItself}
use Rattle.grib_base.specs.declared.profile.Profile.{Profile}
use Rattle.grib_base.specs.declared.fault.ReadFault.{ReadFault}
use Rattle.grib_base.specs.declared.fault.ReadFault.TheVariants.{Refused as ReadRefused, Memory as ReadMemory}
use Rattle.grib2_sections.specs.Verdict.{Accepted, Refused}
use Rattle.grib2_sections.specs.Head.{edition}
use Rattle.grib2_sections.specs.Frame.{Fails, Next, end_fault, opening_fault, mark_fault, ends_at, section_at}
use Rattle.grib2_sections.proofs.Frames.{mark_there, frame_short, frame_passes, step_frame, step_next, states_itself}
use Rattle.grib2_message.specs.Acceptance.{verdict_under}
use Rattle.grib2_message.specs.Fields.{field_count}
use Rattle.grib2_message.specs.Summary.{summary_of}
use Rattle.grib2_message.specs.declared.summary.FieldSummary.{FieldSummary}
use Rattle.grib2_message.proofs.Whole.{octets_before}
use Rattle.grib2_message.proofs.Stays.{refused_stays, accepted_stays}
use Rattle.grib2_message.proofs.Parts.{section_is}
use Rattle.grib2_arrival.specs.declared.kept.Kept.{Kept}
use Rattle.grib2_arrival.specs.declared.state.State.{State}
use Rattle.grib2_arrival.specs.declared.state.State.TheVariants.{Begins, Gathers, Feeds, Ended}
use Rattle.grib2_arrival.specs.Heard.{mark, cut_off, pending, step_of, StopsUnder, IsValues, IsOpen, IsListening, IsUndecided, StateHeard, EndedHeard}
use Rattle.grib2_arrival.proofs.Pending.{pending_long}
use Rattle.grib2_arrival.proofs.Onward.{cut_refused, end_accepted, end_counted}
use Rattle.grib2_arrival.proofs.Beginnings.{begins_cut}

-- ---- a Section 7

module _ (u : List ℕ) (kept : Kept) (l : ℕ) (low : 17 ≤ kept.frame.place) (v : IsValues u kept l) where
  marked : mark_fault u kept.frame ≡ None
  marked = mark_there u kept.frame (omega (arith, v.there)) ∙ ap (end_fault kept.frame) v.length_is ∙ v.ends

  goes : ends_at u kept.frame.place ≡ false
  goes = ne_eqb (number_at u kept.frame.place (kept.frame.place + 3)) mark (λ e. v.goes (sym v.length_is ∙ e))

  opened : opening_fault kept.frame (number_at u kept.frame.place (kept.frame.place + 3)) (number_at u (kept.frame.place + 4) (kept.frame.place + 4)) ≡ None
  opened = (λ i. opening_fault kept.frame (v.length_is i) (v.number_is i)) ∙ v.opens

  pub values_cut : length (pending u kept) < l → step_of u kept ≡ Fails (cut_off u)
  values_cut wants =
      step_frame u kept.frame marked goes (cut_off u)
      (frame_short u kept.frame v.there opened (omega (arith, v.length_is, wants, low, v.there, length-drop (kept.frame.place - 1) u)))

  pub values_whole : length (pending u kept) ≡ l → (step_of u kept ≡ Next (pending u kept)) × StatesItself 7 (pending u kept)
  values_whole whole =
      let q = kept.frame.place in
      let s = pending u kept in
      let long = pending_long u q (omega (arith, low)) (omega (arith, v.there)) s refl in
      let there : q - 1 + l ≤ length u = omega (arith, long, whole, low) in
      let is : section_at u q ≡ s = section_is u q l (omega (arith, low)) v.length_is ∙ take_all l s (omega (arith, whole)) in (
        step_next u kept.frame marked goes (frame_passes u kept.frame v.there opened (omega (arith, v.length_is, there))) ∙ ap Next is,
        subst (λ (xs : List ℕ). StatesItself 7 xs) (take_all l s (omega (arith, whole))) (states_itself u q l 7 (omega (arith, low)) v.length_is v.number_is v.least there),
      )

  pub values_longer : (more : List ℕ) → IsValues (u ++ more) kept l
  values_longer more = record {
    there = omega (arith, v.there, length-append u more);
    length_is = octets_before u more kept.frame.place (kept.frame.place + 3) (omega (arith, low)) (omega arith) (omega (arith, v.there)) ∙ v.length_is;
    number_is = octets_before u more (kept.frame.place + 4) (kept.frame.place + 4) (omega arith) (omega arith) v.there ∙ v.number_is;
    ends = v.ends;
    goes = v.goes;
    opens = v.opens;
    least = v.least;
    room = v.room;
    follows = v.follows;
  }

-- ---- the verdict

pub open_verdict : (profile : Profile) (state : State) (u : List ℕ) → IsOpen state → StateHeard profile (Some state) u → verdict_under profile u ≡ Refused (cut_off u)
open_verdict profile (Begins beginning) u listens h = begins_cut profile u h.few h.begins
open_verdict profile (Gathers kept gathered) u listens h = cut_refused profile u h.before kept h.stands h.cut
open_verdict profile (Feeds kept gathered l feed) u listens h =
    let low : 17 ≤ kept.frame.place = omega (arith, h.0.stands.walked.low) in
    cut_refused profile u h.0.before kept h.0.stands (values_cut u kept l low h.0.values h.0.wants)
open_verdict profile (Ended kept) u listens h = absurd listens

pub ended_verdict : (profile : Profile) (kept : Kept) (u : List ℕ) → EndedHeard profile kept u → verdict_under profile u ≡ Accepted (length u)
ended_verdict profile kept u h = end_accepted profile u h.before kept h.stands h.ends ∙ ap Accepted (sym h.whole)

-- a whole message has ended
pub whole_ended : (profile : Profile) (state : State) (u : List ℕ) → IsOpen state → StateHeard profile (Some state) u → verdict_under profile u ≡ Accepted (length u) → ⊥
whole_ended profile state u listens h e = let cut = open_verdict profile state u listens h in let bad : Refused (cut_off u) ≡ Accepted (length u) = sym cut ∙ e in cc

-- ---- a refusal stays

pub stops_longer : (profile : Profile) (u more : List ℕ) (stop : ReadFault) → edition u ≡ 2 → StopsUnder profile u stop → StopsUnder profile (u ++ more) stop
stops_longer profile u more (ReadRefused fault) two h = (refused_stays profile u more fault (λ one. absurd (omega arith)) h.0 h.1, h.1)
stops_longer profile u more ReadMemory two h = tt

-- ---- whether the octets are a whole message

true_unless : (b : Bool) → (b ≡ false → ⊥) → IsTrue b
true_unless true h = refl
true_unless false h = absurd (h refl)

pub whole_is : (profile : Profile) (o : Option State) (u : List ℕ) (b : Bool) → StateHeard profile o u → (b ≡ false → IsListening o) → (IsTrue b → IsListening o → ⊥)
    → (IsTrue b → verdict_under profile u ≡ Accepted (length u)) × (verdict_under profile u ≡ Accepted (length u) → IsTrue b)
whole_is profile None u b h listens ended = absurd h
whole_is profile (Some (Begins beginning)) u b h listens ended = (λ t. absurd (ended t tt), λ e. absurd (whole_ended profile (Begins beginning) u tt h e))
whole_is profile (Some (Gathers kept gathered)) u b h listens ended = (λ t. absurd (ended t tt), λ e. absurd (whole_ended profile (Gathers kept gathered) u tt h e))
whole_is profile (Some (Feeds kept gathered l feed)) u b h listens ended = (λ t. absurd (ended t tt), λ e. absurd (whole_ended profile (Feeds kept gathered l feed) u tt h e))
whole_is profile (Some (Ended kept)) u b h listens ended = (λ t. ended_verdict profile kept u h, λ e. true_unless b listens)

pub cut_is : (profile : Profile) (o : Option State) (u : List ℕ) → StateHeard profile o u → verdict_under profile u ≢ Accepted (length u) → verdict_under profile u ≡ Refused (cut_off u)
cut_is profile None u h unfinished = absurd h
cut_is profile (Some (Begins beginning)) u h unfinished = open_verdict profile (Begins beginning) u tt h
cut_is profile (Some (Gathers kept gathered)) u h unfinished = open_verdict profile (Gathers kept gathered) u tt h
cut_is profile (Some (Feeds kept gathered l feed)) u h unfinished = open_verdict profile (Feeds kept gathered l feed) u tt h
cut_is profile (Some (Ended kept)) u h unfinished = absurd (unfinished (ended_verdict profile kept u h))

-- what more octets are refused for is not decided by these
pub undecided : (profile : Profile) (o : Option State) (u : List ℕ) → StateHeard profile o u → IsUndecided (verdict_under profile u)
undecided profile None u h = absurd h
undecided profile (Some (Begins beginning)) u h = subst IsUndecided (sym (open_verdict profile (Begins beginning) u tt h)) refl
undecided profile (Some (Gathers kept gathered)) u h = subst IsUndecided (sym (open_verdict profile (Gathers kept gathered) u tt h)) refl
undecided profile (Some (Feeds kept gathered l feed)) u h = subst IsUndecided (sym (open_verdict profile (Feeds kept gathered l feed) u tt h)) refl
undecided profile (Some (Ended kept)) u h = subst IsUndecided (sym (ended_verdict profile kept u h)) tt

-- ---- a part of a piece

pub parted : (u piece : List ℕ) (k : ℕ) → (u ++ take k piece) ++ drop k piece ≡ u ++ piece
parted u piece k = append_assoc u (take k piece) (drop k piece) ∙ ap (λ (xs : List ℕ). u ++ xs) (take-append-drop k piece)

pub stops_piece : (profile : Profile) (u piece : List ℕ) (k : ℕ) (stop : ReadFault) → edition (u ++ take k piece) ≡ 2 → StopsUnder profile (u ++ take k piece) stop → StopsUnder profile (u ++ piece) stop
stops_piece profile u piece k stop two h =
    subst (λ (m : List ℕ). StopsUnder profile m stop) (parted u piece k) (stops_longer profile (u ++ take k piece) (drop k piece) stop two h)

-- the front of a piece, as a range from its first octet on
pub front_is : (piece : List ℕ) (k : ℕ) → take (k - 0) piece ≡ take k piece
front_is piece k = let e : k - 0 ≡ k = omega arith in ap (λ (n : ℕ). take n piece) e

-- ---- a whole message

pub record HasEnded (profile : Profile) (state : State) (u : List ℕ) : Type 0 where
  pub kept : Kept
  pub is : state ≡ Ended kept
  pub heard : EndedHeard profile kept u

pub ended_of : (profile : Profile) (state : State) (u : List ℕ) → StateHeard profile (Some state) u → verdict_under profile u ≡ Accepted (length u) → HasEnded profile state u
ended_of profile (Begins beginning) u h e = absurd (whole_ended profile (Begins beginning) u tt h e)
ended_of profile (Gathers kept gathered) u h e = absurd (whole_ended profile (Gathers kept gathered) u tt h e)
ended_of profile (Feeds kept gathered l feed) u h e = absurd (whole_ended profile (Feeds kept gathered l feed) u tt h e)
ended_of profile (Ended kept) u h e = record { kept = kept; is = refl; heard = h }

-- what follows it decides nothing
pub ended_longer : (profile : Profile) (o : Option State) (u more : List ℕ) → StateHeard profile o u → verdict_under profile u ≡ Accepted (length u) → IsUndecided (verdict_under profile (u ++ more))
ended_longer profile None u more h e = absurd h
ended_longer profile (Some state) u more h e =
    let ended = ended_of profile state u h e in
    let stays = accepted_stays profile u more (length u) (λ one. absurd (omega (arith, one, ended.heard.stands.second))) e in
    subst IsUndecided (sym stays) tt

-- as many fields as are kept
pub ended_fields : (profile : Profile) (kept : Kept) (u : List ℕ) → EndedHeard profile kept u → length kept.summaries.items ≡ field_count u
ended_fields profile kept u h = h.stands.count ∙ sym (end_counted profile u h.before kept h.stands h.ends)

pub ended_few : (profile : Profile) (kept : Kept) (u : List ℕ) → EndedHeard profile kept u → length kept.summaries.items ≤ 4096
ended_few profile kept u h =
    let sound = h.stands.force.sound in
    omega (arith, h.stands.count, sound.counted, sound.few)

-- a summary by its place
pub ended_summary : (profile : Profile) (kept : Kept) (u : List ℕ) → EndedHeard profile kept u → (field : ℕ) → 1 ≤ field → field ≤ length kept.summaries.items
    → (d : FieldSummary) → get_or kept.summaries.items (field - 1) d ≡ summary_of u field
ended_summary profile kept u h field low high d =
    let got = slice_get-get_or kept.summaries.items (field - 1) d (omega arith) in
    let is = h.stands.summaries [] (field - 1) (get_or kept.summaries.items (field - 1) d) got in
    let same : (field - 1) + 1 ≡ field = omega arith in
    is ∙ ap (λ (m : List ℕ). summary_of m ((field - 1) + 1)) (append-nil u) ∙ ap (summary_of u) same

-- ---- pieces one after another

pub joined : (u piece : List ℕ) (n k : ℕ) → (u ++ take n piece) ++ take k (drop n piece) ≡ u ++ take (n + k) piece
joined u piece n k = append_assoc u (take n piece) (take k (drop n piece)) ∙ ap (λ (xs : List ℕ). u ++ xs) (sym (take-add n k piece))
