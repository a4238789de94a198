use Rattle.std.proofs.Common.{◌≡◌, true, false, sym, ◌∙◌, FitsSigned, w32, to_z-of_z, int_le, rules}
use Rattle.grib_numbers.proofs.Signed.{reaches, falls_short, unvalued}
use Rattle.grib_numbers.proofs.degrees.are_degrees.Goals as goal

pub returns-then-least-degrees : goal.returns-then-least-degrees
returns-then-least-degrees c =
    let degrees = c.in-Some.degrees in
    let fits : FitsSigned w32 degrees = search rules in
    let from : int_le c.args.least degrees ≡ true = rw (to_z-of_z c.ranges.least, to_z-of_z fits) at c.if-least-degrees.true in
    rw (to_z-of_z fits, to_z-of_z c.ranges.most) (reaches c.args.least c.args.most degrees c.args.text.now (sym c.degrees_of.ensures ∙ c.in-Some.is) from)

pub returns-else-least-degrees : goal.returns-else-least-degrees
returns-else-least-degrees c =
    let degrees = c.in-Some.degrees in
    let fits : FitsSigned w32 degrees = search rules in
    let below : int_le c.args.least degrees ≡ false = rw (to_z-of_z c.ranges.least, to_z-of_z fits) at c.if-least-degrees.false in
    c.if-least-degrees.false ∙ falls_short c.args.least c.args.most degrees c.args.text.now (sym c.degrees_of.ensures ∙ c.in-Some.is) below

pub returns-in-None : goal.returns-in-None
returns-in-None c = unvalued c.args.least c.args.most c.args.text.now (sym c.degrees_of.ensures ∙ c.in-None.is)
