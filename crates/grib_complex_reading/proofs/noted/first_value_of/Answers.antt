use Rattle.std.proofs.Common.{◌^◌, ◌≤◌, nat_abs, get_or, ℕ, sym, ap, ◌∙◌, arith, subst, w64, SFits, to_z-of_z}
use Rattle.grib_complex_reading.proofs.NotedNumbers.{natural_small}
use Rattle.grib_complex_reading.proofs.noted.first_value_of.Goals as goal

pub returns-clause-small : goal.returns-clause-small
returns-clause-small c =
    let fits : SFits w64 c.from-2.result = record { sfits = c.from-2.type_inv } in
    let small = natural_small c.args.order c.args.extra c.args.numbers.now c.args.index c.requires.extra c.requires.among c.requires.below c.requires.small c.requires.natural in
    subst (λ z. nat_abs z ≤ 2 ^ 31) (sym (to_z-of_z fits ∙ c.from-2.ensures)) (omega (arith, small, ap (λ (i : ℕ). get_or c.args.numbers.now i 0) c.from.ensures))
