use Rattle.std.proofs.Common.{◌++◌, arith, length, get_or, sym, ap, ◌∙◌}
use Rattle.grib_packing.specs.Packed.{group_fields}
use Rattle.grib_codes.proofs.Bounds.{all_below}
use Rattle.grib_packing.proofs.Left.{left_padded}
use Rattle.grib_groups.proofs.Measures.{known-here, known-next, measured-is, narrow}
use Rattle.grib_groups.proofs.Packable.{packable}
use Rattle.grib_groups.proofs.Parts.{told_run, told_after, no_parts, grouping-within, grouping-next, part_more, part_room}
use Rattle.grib_groups.proofs.encoding.put_numbers.Goals as goal

pub split_at-run-requires : goal.split_at-run-requires
split_at-run-requires c = grouping-within c.args.lengths.now c.loop-length.length-index (omega arith) (length c.loop-length.rest) c.loop-length.invariant.grouping

pub next_measure-measure-requires-clause-codes : goal.next_measure-measure-requires-clause-codes
next_measure-measure-requires-clause-codes c = all_below c.args.reserved _ (told_run c.args.reserved c.loop-length.rest c.split_at-run.result.0 _ c.split_at-run.ensures.front c.loop-length.invariant.codes)

pub next_measure-measure-requires-clause-known : goal.next_measure-measure-requires-clause-known
next_measure-measure-requires-clause-known c =
    known-here c.args.reserved c.args.bits c.args.lengths.now c.loop-length.length-index (omega arith) c.loop-length.told.now c.loop-length.rest c.split_at-run.result.0
    c.split_at-run.ensures.front c.loop-length.invariant.known

pub put_group-requires-clause-told : goal.put_group-requires-clause-told
put_group-requires-clause-told c = told_run c.args.reserved c.loop-length.rest c.split_at-run.result.0 _ c.split_at-run.ensures.front c.loop-length.invariant.codes

pub put_group-requires-clause-few : goal.put_group-requires-clause-few
put_group-requires-clause-few c =
    let below = all_below c.args.reserved _ (told_run c.args.reserved c.loop-length.rest c.split_at-run.result.0 _ c.split_at-run.ensures.front c.loop-length.invariant.codes) in
    narrow c.args.reserved c.args.bits c.next_measure-measure.result c.split_at-run.result.0 c.next_measure-measure.ensures c.requires.grouped.reserved below

pub put_group-requires-clause-codes : goal.put_group-requires-clause-codes
put_group-requires-clause-codes c some =
    let below = all_below c.args.reserved _ (told_run c.args.reserved c.loop-length.rest c.split_at-run.result.0 _ c.split_at-run.ensures.front c.loop-length.invariant.codes) in
    packable c.args.reserved c.args.bits c.next_measure-measure.result.width c.next_measure-measure.result.reference c.split_at-run.result.0 c.next_measure-measure.ensures.width c.next_measure-measure.ensures.reference
    some c.requires.grouped.reserved below

pub put_group-requires-clause-room : goal.put_group-requires-clause-room
put_group-requires-clause-room c =
    let room = part_room c.args.lengths.now c.loop-length.length-index (omega arith) (group_fields c.args.reserved c.args.bits) c.args.out.now c.loop-length.out _ c.loop-length.rest c.split_at-run.result.0
    c.split_at-run.ensures.front c.loop-length.invariant.written c.requires.room in
    omega (arith, room, ap length (measured-is c.args.reserved c.args.bits c.next_measure-measure.result c.split_at-run.result.0 c.next_measure-measure.ensures))

pub loop-length-preserved : goal.loop-length-preserved
loop-length-preserved c =
    let lengths = c.args.lengths.now in
    let i = c.loop-length.length-index in
    let rest = c.loop-length.rest in
    let run = c.split_at-run.result.0 in
    let after = c.split_at-run.result.1 in
    let is = measured-is c.args.reserved c.args.bits c.next_measure-measure.result run c.next_measure-measure.ensures in
    record {
      grouping = grouping-next lengths i (omega arith) rest after c.split_at-run.ensures.back c.loop-length.invariant.grouping;
      codes = told_after c.args.reserved rest after (get_or lengths i 0) c.split_at-run.ensures.back c.loop-length.invariant.codes;
      known =
          known-next c.args.reserved c.args.bits lengths i (omega arith) c.loop-length.told.now c.later_measures-told.result.now rest after c.later_measures-told.ensures c.split_at-run.ensures.back
          c.loop-length.invariant.known;
      written =
          part_more lengths i (omega arith) (group_fields c.args.reserved c.args.bits) c.args.out.now c.loop-length.out c.put_group.new.out _ rest run after
          c.split_at-run.ensures.front c.split_at-run.ensures.back c.loop-length.invariant.written (c.put_group.ensures.bits ∙ ap (λ xs. c.loop-length.out.bits ++ xs) (sym is)) (omega (arith, c.put_group.ensures.spare, ap length is));
    }

pub returns : goal.returns
returns c =
    let ended = left_padded c.args.out.now c.loop-length.out c.align.new.self _ _
    (no_parts (group_fields c.args.reserved c.args.bits) c.args.lengths.now c.loop-length.length-index c.loop-length.rest (omega arith))
    c.loop-length.invariant.written c.requires.whole c.align.ensures.bits c.align.ensures.spare in
    record { bits = ended.bits; spare = ended.spare }
