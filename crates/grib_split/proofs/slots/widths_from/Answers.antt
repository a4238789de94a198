use Rattle.std.proofs.Common.{◌∙◌}
use Rattle.std.specs.Prelude.{slice_index}
use Rattle.std.proofs.lemmas.Simd.{Each1-from_get_or}
use Rattle.grib_split.proofs.Lanes.{minus_32, minus_16, as_it_is, narrow_lane, zeros_lane, digits_in_lane, made_here, made_others}
use Rattle.grib_split.proofs.slots.widths_from.Goals as goal
use lib.Count.{count_leading_zeros}

pub overflow_cast-narrow : goal.overflow_cast-narrow
overflow_cast-narrow c =
    let q = c.requires in
    Each1-from_get_or _ _ 0 (λ p within. record { fits = narrow_lane c.args.greatest.now c.args.least.now c.args.from p q.greatest q.least q.ordered q.narrow within })

pub overflow_cast-bits : goal.overflow_cast-bits
overflow_cast-bits c = Each1-from_get_or _ _ 0 (λ p within. record { fits = zeros_lane _ p within })

pub returns-clause-here : goal.returns-clause-here
returns-clause-here c place from to =
    let q = c.requires in
    made_here minus_32 as_it_is (count_leading_zeros 16) as_it_is minus_16 c.args.greatest.now c.args.least.now c.args.width.now c.args.from place q.greatest q.least q.width from to
    ∙ digits_in_lane (slice_index c.args.greatest.now place) (slice_index c.args.least.now place) (q.ordered place from to) (q.narrow place from to)

pub returns-clause-others : goal.returns-clause-others
returns-clause-others c place out =
    made_others minus_32 as_it_is (count_leading_zeros 16) as_it_is minus_16 c.args.greatest.now c.args.least.now c.args.width.now c.args.from place c.requires.greatest c.requires.least out
