-- An accepted length is the one that Section 0 states.
use Rattle.std.proofs.Common.{◌≡◌, ℕ, ◌==◌, Some, None, List, ◌∙◌, refl, ap, ⊎_elim}
use Rattle.std.specs.declared.option.Option.{Option}
use Rattle.std.proofs.lemmas.Bool.{cond-true, cond-false}
use Rattle.grib_base.specs.declared.fault.Fault.{Fault}
use Rattle.grib_base.specs.Rules.{first_fault, or_later}
use Rattle.grib_base.specs.declared.profile.Profile.{Profile}
use Rattle.grib2_sections.specs.Head.{edition, discipline, total_length, total_length_1, head_rules, head_of}
use Rattle.grib2_sections.specs.Verdict.{Accepted}
use Rattle.grib2_sections.specs.declared.indicator.Head.{Head}
use Rattle.grib1_sections.specs.Acceptance.{verdict_by, sections_fault}
use Rattle.grib1_sections.proofs.Fronts.{accepted_states as first_states}
use Rattle.grib2_message.proofs.Fronts.{accepted_states}
use Rattle.grib_stream.specs.Stream.{Message}
use Rattle.grib_command.specs.Judging.{judge_under}
use Rattle.grib_stream.specs.Texts.{States}
use Rattle.grib_dispatch.specs.Lawful.{IsFirst, IsOther, message_judged, head_none, not_first}

first_none : (head : Option Fault) (later : Unit {0} → Option Fault) (n total : ℕ) → verdict_by (or_later head later) n ≡ Accepted total → head ≡ None
first_none None later n total is = refl
first_none (Some fault) later n total is = let no : ⊥ = cc in absurd no

pub states : (profile : Profile) (octets : List ℕ) (total : ℕ) → judge_under profile octets ≡ Message total → States octets total
states profile octets total is =
    let one : Head = record { edition = 1; discipline = 0; total = total_length_1 octets } in
    let two : Head = record { edition = 2; discipline = discipline octets; total = total_length octets } in
    ⊎_elim
    (λ (m : IsFirst octets (Accepted total)). (
      first_none (first_fault (head_rules octets)) (λ _. sections_fault octets) (total_length_1 octets) total m.verdict_is,
      ap (λ (h : Head). h.total) (cond-true (edition octets == 1) one two m.first_edition) ∙ first_states octets total m.verdict_is,
    ))
    (λ (m : IsOther profile octets (Accepted total)). (
      head_none (first_fault (head_rules octets)) _ total m.verdict_is,
      ap (λ (h : Head). h.total) (cond-false (edition octets == 1) one two m.other_edition)
          ∙ accepted_states profile octets total (not_first octets m.other_edition) m.verdict_is,
    ))
    (message_judged profile octets total is)
