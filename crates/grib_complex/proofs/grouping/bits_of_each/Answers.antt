use Rattle.std.proofs.Common.{◌*◌, ◌≤◌, length, get_or, ap, ◌∙◌, arith, length-drop}
use Rattle.std.proofs.Math.Nat.{mul-le-mul_left}
use Rattle.grib_packing.specs.Groupings.{width_of}
use Rattle.grib_packing.specs.Packed.{group_fields}
use Rattle.grib_groups.proofs.Measures.{known-here, known-next, narrow}
use Rattle.grib_groups.proofs.Parts.{no_parts, grouping-within, grouping-next, below_run, below_after}
use Rattle.grib_complex.proofs.GroupByGroup.{next_bits}
use Rattle.grib_complex.proofs.grouping.bits_of_each.Goals as goal

pub next_measure-measure-requires-clause-codes : goal.next_measure-measure-requires-clause-codes
next_measure-measure-requires-clause-codes c = below_run c.args.reserved c.loop-length.rest c.split_at-run.result.0 _ c.split_at-run.ensures.front c.loop-length.invariant.codes

pub next_measure-measure-requires-clause-known : goal.next_measure-measure-requires-clause-known
next_measure-measure-requires-clause-known c =
    known-here c.args.reserved c.args.reference_bits c.args.lengths.now c.loop-length.length-index (omega arith) c.loop-length.told.now c.loop-length.rest c.split_at-run.result.0
    c.split_at-run.ensures.front c.loop-length.invariant.known

pub loop-length-preserved : goal.loop-length-preserved
loop-length-preserved c =
    let lengths = c.args.lengths.now in
    let i = c.loop-length.length-index in
    let rest = c.loop-length.rest in
    let after = c.split_at-run.result.1 in
    let l = get_or lengths i 0 in
    let fits = grouping-within lengths i c.loop-length-test.true (length rest) c.loop-length.invariant.grouping in
    let below = below_run c.args.reserved rest c.split_at-run.result.0 _ c.split_at-run.ensures.front c.loop-length.invariant.codes in
    let few = narrow c.args.reserved c.args.reference_bits c.next_measure-measure.result c.split_at-run.result.0 c.next_measure-measure.ensures c.requires.reserved below in
    let most : l * c.from.result ≤ l * 32 = mul-le-mul_left l (omega (arith, few, c.from.ensures)) in
    let is = c.from.ensures ∙ c.next_measure-measure.ensures.width ∙ ap (width_of c.args.reserved) c.split_at-run.ensures.front in
    record {
      grouping = grouping-next lengths i c.loop-length-test.true rest after c.split_at-run.ensures.back c.loop-length.invariant.grouping;
      codes = below_after c.args.reserved rest after l c.split_at-run.ensures.back c.loop-length.invariant.codes;
      known =
          known-next c.args.reserved c.args.reference_bits lengths i (omega arith) c.loop-length.told.now c.later_measures-told.result.now rest after c.later_measures-told.ensures c.split_at-run.ensures.back
          c.loop-length.invariant.known;
      sum = λ b. omega (arith, c.loop-length.invariant.sum b, next_bits c.args.reserved b lengths i rest after c.from.result c.requires.reserved c.loop-length-test.true fits is c.split_at-run.ensures.back);
      few = omega (arith, most, ap length c.split_at-run.ensures.back, length-drop l rest, fits, c.loop-length.invariant.few);
    }

pub returns-clause-is : goal.returns-clause-is
returns-clause-is c b =
    let none = no_parts (group_fields c.args.reserved b) c.args.lengths.now c.loop-length.length-index c.loop-length.rest (omega arith) in
    omega (arith, c.loop-length.invariant.sum b, ap length none)
