use Rattle.std.proofs.Common.{◌+◌, ◌*◌, ◌^◌, ◌≤◌, [], sym, ap, ◌∙◌, arith, pow_mono}
use Rattle.std.proofs.lemmas.Bool.{ltb-false}
use Rattle.grib_group_reading.specs.Feeding.{no_marks, plain_groups}
use Rattle.grib_group_reading.specs.Table.{groups_in}
use Rattle.grib_packings.proofs.Simply.{passes_simply, starts_simply}
use Rattle.grib_packings.proofs.simple_reading.SimpleReading.start.Goals as goal

pub list-requires-clause-limit : goal.list-requires-clause-limit
list-requires-clause-limit g c =
    let power : 2 ^ c.args.simple.bits ≤ 2 ^ 48 = pow_mono c.requires.width in
    omega arith

pub returns-then-not-keeps : goal.returns-then-not-keeps
returns-then-not-keeps g c = λ s5 spelled zero.
    let w = c.args.simple.bits in
    let n = c.args.simple.values in
    let enough : n * w + 40 ≤ 8 * c.args.length = omega (arith, c.from.ensures, ltb-false (8 * c.from.result) (n * w + 40) (sym c.is_too_short.ensures ∙ c.if-is_too_short.false)) in
    passes_simply g.K.Keeper.kept s5 c.args.keeper c.args.length w n zero (c.keeps.ensures c.if-not-keeps.true) spelled.bits spelled.values enough

pub returns : goal.returns
returns g c = λ s5 spelled zero.
    let w = c.args.simple.bits in
    let n = c.args.simple.values in
    let enough : n * w + 40 ≤ 8 * c.args.length = omega (arith, c.from.ensures, ltb-false (8 * c.from.result) (n * w + 40) (sym c.is_too_short.ensures ∙ c.if-is_too_short.false)) in
    starts_simply g.K.Keeper.kept s5 c.args.keeper c.args.length w n c.push.result zero c.push.ensures.feedable c.push.ensures.caught_up (ap groups_in c.push.ensures.table ∙ c.list.ensures.table)
    (c.push.ensures.fed no_marks (plain_groups w n) (record { keeper = c.args.keeper }) [] c.list.ensures.fed) spelled.bits spelled.values enough
