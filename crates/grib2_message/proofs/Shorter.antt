-- What is kept of a message that octets follow is kept of the message alone.
use Rattle.std.proofs.Common.{◌≡◌, ◌≢◌, ℕ, ◌+◌, ◌-◌, ◌<◌, ◌≤◌, Some, List, [], ◌∷◌, ◌++◌, length, take, drop, All, get_or, sym, ap, ◌∙◌, arith, subst, take-take, length-take-le, take-append-drop, length-append, inl, inr}
use Rattle.std.specs.List.{count_by}
use Rattle.std.proofs.lemmas.Bool.{cases_lt}
use Rattle.std.proofs.lemmas.Option.{slice_get_within, get_or_from_slice_get, slice_get-get_or}
use Rattle.std.proofs.Math.ListN.{get_or-append}
use Rattle.std.proofs.Math.Seq.{get_or-append_seam}
use Rattle.grib_base.specs.declared.profile.Profile.{Profile}
use Rattle.grib_bits.specs.Octets.{octets}
use Rattle.grib2_sections.specs.Verdict.{Accepted}
use Rattle.grib2_sections.specs.Head.{indicator, edition, total_length}
use Rattle.grib2_sections.specs.Frame.{Placed, section_at}
use Rattle.grib2_message.specs.View.{is_numbered}
use Rattle.grib2_message.specs.Acceptance.{verdict_under}
use Rattle.grib2_message.specs.Fields.{sections_of, field_count, field_sections, sections_up_to_field}
use Rattle.grib2_message.specs.Message.{FieldPassesUnder}
use Rattle.grib2_message.specs.Kept.{AreSound, StandsAt, ArePlaced, HasPlaces, IsField, KeepsFields, Keeps}
use Rattle.grib2_message.specs.declared.places.Places.{Places}
use Rattle.grib2_message.proofs.Fronts.{accepted_states, accepted_least, accepted_alone}
use Rattle.grib2_message.proofs.Stays.{IsFront, front_of, same_octets, same_section}
use Rattle.grib2_message.proofs.Whole.{accepted_in_grammar, sections_placed, sections_alone}

-- ---- one more field

pub keeps_push : (profile : Profile) (m : List ℕ) (fields : List Places) (p : Places) → KeepsFields profile m fields → IsField m (field_sections m (length fields + 1)) p → p.force.profile ≡ profile
    → KeepsFields profile m (fields ++ p ∷ [])
keeps_push profile m fields p each last under i q e =
    let within = slice_get_within (fields ++ p ∷ []) i q e in
    let read = get_or_from_slice_get (fields ++ p ∷ []) i q q e in
    elim (cases_lt i (length fields)) [
      | inl low ↦ each i q (slice_get-get_or fields i q low ∙ ap Some (sym (get_or-append fields (p ∷ []) q i low) ∙ read))
      | inr high ↦
          let at : i ≡ length fields = omega (arith, length-append fields (p ∷ [])) in
          let same : p ≡ q = sym (get_or-append_seam fields p [] q) ∙ ap (λ (k : ℕ). get_or (fields ++ p ∷ []) k q) (sym at) ∙ read in
          subst (λ (x : Places). IsField m (field_sections m (i + 1)) x × (x.force.profile ≡ profile)) same
          (subst (λ (k : ℕ). IsField m (field_sections m (k + 1)) p) (sym at) last, under)
    ]

-- ---- the message alone

module _ (u m : List ℕ) (total : ℕ) (front : IsFront u m) (long : length u ≡ total) (least : 20 ≤ total) (states : total_length m ≡ total) where
  states_alone : total_length u ≡ total
  states_alone = sym (same_octets u m 9 16 front (omega arith) (omega arith) (omega arith)) ∙ states

  stands_alone : (start number : ℕ) → StandsAt m start number → StandsAt u start number
  stands_alone start number h =
      let same : octets m start (start + 3) ≡ octets u start (start + 3) = same_octets u m start (start + 3) front h.low (omega arith) (omega (arith, h.room, h.least)) in
      let least_l : 5 ≤ octets u start (start + 3) = omega (arith, h.least) in
      let room_l : start + octets u start (start + 3) + 3 ≤ total = omega (arith, h.room) in
      record {
        low = h.low;
        high = h.high;
        there = omega arith;
        least = least_l;
        whole = omega arith;
        room = omega (arith, states_alone);
        numbered = sym (same_octets u m (start + 4) (start + 4) front (omega (arith, h.low)) (omega arith) (omega arith)) ∙ h.numbered;
      }

  section_alone : (start number : ℕ) → StandsAt m start number → section_at m start ≡ section_at u start
  section_alone start number h =
      let a = stands_alone start number h in
      same_section u m start front h.low (omega (arith, a.there)) (omega (arith, a.least)) a.whole

  placed_alone : (before : List Placed) → ArePlaced m before → ArePlaced u before
  placed_alone [] h = tt
  placed_alone (s ∷ before) h =
      (stands_alone s.start _ h.0, h.1 ∙ section_alone s.start _ h.0, placed_alone before h.2)

  places_alone : (before : List Placed) (places : Places) → HasPlaces m before places → HasPlaces u before places
  places_alone before places h = record {
    eight = h.eight;
    starts = h.starts;
    placed = placed_alone before h.placed;
    force = h.force;
  }

  field_alone : (before : List Placed) (places : Places) → IsField m before places → IsField u before places
  field_alone before places h = record { stand = places_alone before places h.stand; ends = h.ends }

-- what is kept of the octets that begin with an accepted message is kept of the message
pub keeps_message : (profile : Profile) (m : List ℕ) (total : ℕ) (fields : List Places) → All (λ octet. octet < 256) (take total m) → take 4 m ≡ indicator → edition m ≡ 2
    → verdict_under profile m ≡ Accepted total → length fields ≡ field_count m → length fields ≤ 4096 → 1 ≤ length fields → KeepsFields profile m fields
    → Keeps profile (take total m) fields
keeps_message profile m total fields small indicated second accepted count few some each =
    let other : edition m ≢ 1 = λ first. absurd (omega arith) in
    let found = accepted_in_grammar profile m total small indicated other accepted in
    let u = take total m in
    let after = drop total m in
    let g = found.2 in
    let long : length u ≡ total = length-take-le total m found.1 in
    let least = accepted_least profile m total other accepted in
    let same : sections_of m ≡ sections_of u =
    ap sections_of (sym (take-append-drop total m)) ∙ (sections_placed profile u after found.0 g ∙ sym (sections_alone profile u found.0 g)) in
    record {
      accepted = record {
        indicated = take-take 4 total m (omega arith) ∙ indicated;
        edition_stands = g.edition_stands;
        accepted = accepted_alone profile m total other accepted ∙ ap Accepted (sym long);
      };
      count = count ∙ ap (count_by (is_numbered 7)) same;
      few = few;
      some = some;
      each = λ i places e.
          let kept = each i places e in (
            field_alone u m total (front_of m total found.1) long least (accepted_states profile m total other accepted) (field_sections u (i + 1)) places
                (subst (λ (x : List Placed). IsField m (sections_up_to_field (i + 1) [] x) places) same kept.0),
            kept.1,
          );
    }

-- what is kept of a field, and of its sections
module _ (profile : Profile) (m : List ℕ) (fields : List Places) (h : Keeps profile m fields) (i : ℕ) (low : 1 ≤ i) (high : i ≤ field_count m)
    (places : Places) (is : places ≡ get_or fields (i - 1) places) where
  field_at : IsField m (field_sections m i) places × (places.force.profile ≡ profile)
  field_at =
      let within : i - 1 < length fields = omega (arith, h.count) in
      let at : i - 1 + 1 ≡ i = omega arith in
      subst (λ (k : ℕ). IsField m (field_sections m k) places × (places.force.profile ≡ profile)) at
      (h.each (i - 1) places (slice_get-get_or fields (i - 1) places within ∙ ap Some (sym is)))

  pub field_kept : IsField m (field_sections m i) places
  field_kept = field_at.0

  -- no rule refuses the sections in force for it
  pub field_sound : AreSound profile (field_sections m i)
  field_sound = subst (λ (p : Profile). AreSound p (field_sections m i)) field_at.1 field_at.0.stand.force.sound

  pub field_passes : FieldPassesUnder profile m i
  field_passes =
      let ends = field_at.0.ends in
      let sound = field_sound in
      record {
        identification = sound.identification (omega (arith, ends));
        grid = sound.grid (omega (arith, ends));
        product = sound.product (omega (arith, ends));
        packing = sound.packing (omega (arith, ends));
        values = sound.values (omega (arith, ends));
      }
