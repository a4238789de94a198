use Rattle.std.proofs.Common.{◌^◌, ◌<◌, ◌∙◌, arith, length, get_or}
use Rattle.grib_packing.specs.Packed.{reference_of}
use Rattle.grib_codes.proofs.Bounds.{all_below}
use Rattle.grib_packing.proofs.Left.{left_padded}
use Rattle.grib_groups.proofs.Measures.{known-here, known-next}
use Rattle.grib_groups.proofs.Parts.{told_run, told_after, no_fields, grouping-within, grouping-next, fits-next, fits-here, field_more, field_room}
use Rattle.grib_groups.proofs.encoding.put_references.Goals as goal

pub split_at-run-requires : goal.split_at-run-requires
split_at-run-requires c = grouping-within c.args.lengths.now c.loop-length.length-index (omega arith) (length c.loop-length.rest) c.loop-length.invariant.grouping

pub next_measure-measure-requires-clause-codes : goal.next_measure-measure-requires-clause-codes
next_measure-measure-requires-clause-codes c = all_below c.args.reserved _ (told_run c.args.reserved c.loop-length.rest c.split_at-run.result.0 _ c.split_at-run.ensures.front c.loop-length.invariant.codes)

pub next_measure-measure-requires-clause-known : goal.next_measure-measure-requires-clause-known
next_measure-measure-requires-clause-known c =
    known-here c.args.reserved c.args.bits c.args.lengths.now c.loop-length.length-index (omega arith) c.loop-length.told.now c.loop-length.rest c.split_at-run.result.0
    c.split_at-run.ensures.front c.loop-length.invariant.known

pub put-requires-clause-fits : goal.put-requires-clause-fits
put-requires-clause-fits c =
    fits-here c.args.lengths.now c.loop-length.length-index (omega arith) (reference_of c.args.bits) (2 ^ c.args.bits) c.from.result c.loop-length.rest c.split_at-run.result.0
    c.split_at-run.ensures.front (c.from.ensures ∙ c.next_measure-measure.ensures.reference) c.loop-length.invariant.fits

pub put-requires-clause-room : goal.put-requires-clause-room
put-requires-clause-room c =
    field_room c.args.lengths.now c.loop-length.length-index (omega arith) (reference_of c.args.bits) c.args.bits c.args.out.now c.loop-length.out _ c.loop-length.rest
    c.loop-length.invariant.written c.requires.room

pub loop-length-preserved : goal.loop-length-preserved
loop-length-preserved c =
    let lengths = c.args.lengths.now in
    let i = c.loop-length.length-index in
    let rest = c.loop-length.rest in
    let run = c.split_at-run.result.0 in
    let after = c.split_at-run.result.1 in
    record {
      grouping = grouping-next lengths i (omega arith) rest after c.split_at-run.ensures.back c.loop-length.invariant.grouping;
      codes = told_after c.args.reserved rest after (get_or lengths i 0) c.split_at-run.ensures.back c.loop-length.invariant.codes;
      known =
          known-next c.args.reserved c.args.bits lengths i (omega arith) c.loop-length.told.now c.later_measures-told.result.now rest after c.later_measures-told.ensures c.split_at-run.ensures.back
          c.loop-length.invariant.known;
      fits = fits-next lengths i (omega arith) (λ xs. reference_of c.args.bits xs < 2 ^ c.args.bits) rest after c.split_at-run.ensures.back c.loop-length.invariant.fits;
      written =
          field_more lengths i (omega arith) (reference_of c.args.bits) c.args.bits c.args.out.now c.loop-length.out c.put.new.self _ c.from.result rest run after
          c.split_at-run.ensures.front c.split_at-run.ensures.back (c.from.ensures ∙ c.next_measure-measure.ensures.reference) c.loop-length.invariant.written c.put.ensures.bits c.put.ensures.spare;
    }

pub returns : goal.returns
returns c =
    let ended = left_padded c.args.out.now c.loop-length.out c.align.new.self _ _
    (no_fields (reference_of c.args.bits) c.args.bits c.args.lengths.now c.loop-length.length-index c.loop-length.rest (omega arith))
    c.loop-length.invariant.written c.requires.whole c.align.ensures.bits c.align.ensures.spare in
    record { bits = ended.bits; spare = ended.spare }
