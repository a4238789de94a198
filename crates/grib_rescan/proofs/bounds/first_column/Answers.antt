use Rattle.std.proofs.Common.{ℕ, ℤ, Bool, cond, sym, ap, ◌∙◌, to_z-of_z}
use Rattle.grib_bits.specs.Octets.{octets}
use Rattle.grib_rescan.specs.Sections.{longitude_at}
use Rattle.grib_rescan.specs.Bounds.{nearest, east_of}
use Rattle.grib_rescan.proofs.bounds.first_column.Goals as goal

pub returns-then-goes_round-clause-column : goal.returns-then-goes_round-clause-column
returns-then-goes_round-clause-column c =
    let s = c.args.section.now in
    let column = λ (z : ℤ). nearest (λ (i : ℕ). east_of z (longitude_at s i)) (octets s 31 34) in
    c.column_east_of.ensures.column ∙ ap column (to_z-of_z c.ranges.west)
    ∙ ap (λ (b : Bool). cond b (column c.args.west) 0) (sym (sym c.goes_round.ensures ∙ c.if-goes_round.true))
