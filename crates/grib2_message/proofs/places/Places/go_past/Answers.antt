use Rattle.std.proofs.Common.{refl, arith}
use Rattle.std.proofs.lemmas.Result.{err_from_is_err_and}
use Rattle.grib2_sections.specs.Frame.{placed_at}
use Rattle.grib2_message.proofs.After.{places_after, number_in_range}
use Rattle.grib2_message.proofs.places.Places.go_past.Goals as goal

pub go_past-requires : goal.go_past-requires
go_past-requires c = (let r = c.requires.comes in record { follows = (r.1, r.2.force, r.3.follows) })

pub bounds-self-section : goal.bounds-self-section
bounds-self-section c =
    let r = c.requires.comes in
    let section = c.args.section.now in
    let range = number_in_range r.1 (placed_at section.start section.octets.now) section.number section.itself.number_stands r.3.follows in
    omega (arith, range)

pub returns-in_err-go_past-clause-tried : goal.returns-in_err-go_past-clause-tried
returns-in_err-go_past-clause-tried c = λ m before h comes.
    let p = err_from_is_err_and c.from_residual.result c.from_residual.ensures.1 in
    rw (p.1, p.2) (c.in_err-go_past.ensures.tried before h.force comes.follows)

pub returns-clause-tried : goal.returns-clause-tried
returns-clause-tried c = λ m before h comes.
    let section = c.args.section.now in
    let tried = c.in_ok-go_past.ensures.tried before h.force comes.follows in
    (tried.0, places_after m before section.number section.start section.octets.now comes c.args.self.now _ h refl tried.1)
