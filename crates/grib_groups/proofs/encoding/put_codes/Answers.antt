use Rattle.std.proofs.Common.{ap, ◌∙◌, arith}
use Rattle.grib_base.specs.declared.code.Code.TheVariants.{Primary}
use Rattle.grib_packing.specs.Packed.{packed_number}
use Rattle.grib_groups.proofs.Parts.{code_more, code_room}
use Rattle.grib_groups.proofs.encoding.put_codes.Goals as goal

pub put-requires-clause-room : goal.put-requires-clause-room
put-requires-clause-room c =
    code_room (packed_number c.args.width c.args.reference) c.args.width c.args.run.now c.loop-done.done Primary (omega arith)
    c.args.out.now c.loop-done.out _ c.loop-done.invariant c.requires.room

pub loop-done-preserved : goal.loop-done-preserved
loop-done-preserved c =
    code_more (packed_number c.args.width c.args.reference) c.args.width c.args.run.now c.loop-done.done Primary (omega arith)
    c.args.out.now c.loop-done.out c.put.new.self _ c.packed.result (c.packed.ensures.is ∙ ap (packed_number c.args.width c.args.reference) (c.at.ensures Primary)) c.loop-done.invariant c.put.ensures.bits c.put.ensures.spare
