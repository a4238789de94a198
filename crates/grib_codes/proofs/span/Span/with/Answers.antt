use Rattle.grib_codes.proofs.span.Span.with.Goals as goal

pub returns-in-Present-clause-small : goal.returns-in-Present-clause-small
returns-in-Present-clause-small c k low below = c.with_number.ensures.small k low (rw c.in-Present.is at below)
