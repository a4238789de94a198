use Rattle.std.proofs.Common.{ℕ, List, length, sym, ap, ◌∙◌, subst, arith}
use Rattle.std.proofs.lemmas.Result.{err_from_is_err_and}
use Rattle.grib2_sections.specs.Frame.{Next}
use Rattle.grib2_arrival.specs.Heard.{GathersHeard}
use Rattle.grib2_arrival.proofs.States.{fresh, after_whole}
use Rattle.grib2_arrival.proofs.state.take_section.Goals as goal

pub after_section-requires-clause-stands : goal.after_section-requires-clause-stands
after_section-requires-clause-stands c =
    let r = c.requires.stands in
    (r.0, r.1, r.2, r.3, r.5 ∙ ap Next (sym c.as_slice-octets.ensures.value), c.place.ensures)

pub returns-in_err-kept : goal.returns-in_err-kept
returns-in_err-kept c = λ profile u before h is e.
    let v = c.as_slice-octets.ensures.value in
    let p = err_from_is_err_and c.from_residual.result c.from_residual.ensures.1 in
    rw (p.1, p.2) (c.in_err-kept.ensures profile u before h (e ∙ ap Next (sym v)))

pub returns : goal.returns
returns c = λ profile u before h is e.
    let v = c.as_slice-octets.ensures.value in
    let after = c.in_ok-kept.ensures profile u before h (e ∙ ap Next (sym v)) in
    let at = after_whole profile u before c.args.kept c.args.gathered.items h is in
    let none = fresh profile u _ c.in_ok-kept.kept after.0 (omega (arith, after.1, ap length v, at)) in
    subst (λ (xs : List ℕ). GathersHeard profile c.in_ok-kept.kept xs u) (sym c.clear.ensures.items) none
