use Rattle.std.proofs.Common.{◌≡◌, ◌+◌, ◌-◌, ◌%◌, ◌<◌, sym, ap, ◌∙◌, arith}
use Rattle.std.specs.Int.{bit_at}
use Rattle.grib_split.proofs.behind.first_of.Goals as goal

pub returns-clause-first : goal.returns-clause-first
returns-clause-first c l some less =
    let start = (c.args.at + 1) % 64 in
    let unset = c.first_from.ensures.first (l - 1) (omega (arith, less)) in
    let here : (start + (l - 1)) % 64 ≡ (c.args.at + l) % 64 = omega arith in
    let place = (c.args.at + l) % 64 in
    let within : place < 64 = omega arith in
    c.places_of-places.ensures.not_in place within (ap (bit_at c.places_of-places.result) (sym here) ∙ unset)
