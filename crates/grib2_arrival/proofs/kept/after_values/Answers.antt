use Rattle.std.proofs.Common.{◌≡◌, ℕ, ◌+◌, ◌∙◌, refl, sym, ap}
use Rattle.grib_base.specs.declared.profile.Profile.{Profile}
use Rattle.grib2_message.specs.Acceptance.{section_fault_under}
use Rattle.grib2_sections.specs.Frame.{Position, placed_at, position_after}
use Rattle.grib2_arrival.proofs.Onward.{follows_here}
use Rattle.grib2_arrival.proofs.States.{stands_after_values}
use Rattle.grib2_arrival.proofs.kept.after_values.Goals as goal

pub end_field-requires : goal.end_field-requires
end_field-requires c = (let r = c.requires.stands in record { few = (r.2, r.3.force) })

pub returns-clause-stands : goal.returns-clause-stands
returns-clause-stands c = λ profile octets before s7 h e long itself none.
    let kept = c.args.kept in
    let number = itself.number_stands in
    let is = c.from.ensures ∙ sym long in
    let frame : c.go_past.new.self ≡ position_after kept.frame s7 =
    c.go_past.ensures ∙ (λ i. let to : Position = record { total = kept.frame.total; place = kept.frame.place + is i; last = sym number i } in to) in (
      stands_after_values profile octets before kept h s7 7 e itself none refl _ frame refl
          (c.end_field.ensures.force before (placed_at kept.frame.place s7) h.force number (follows_here profile octets before kept h s7 7 e itself)
          (ap (λ (p : Profile). section_fault_under p before (placed_at kept.frame.place s7)) h.under ∙ none))
          c.end_field.ensures.profile
          c.in-Ok.ensures.items,
      ap (λ (p : Position). p.place) frame ∙ ap (λ (n : ℕ). kept.frame.place + n) long,
    )
