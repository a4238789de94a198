use Rattle.std.proofs.Common.{◌*◌, ◌/◌, ◌%◌, ◌++◌, Bool, List, replicate, sym, ap, ◌∙◌, arith, append_assoc}
use Rattle.grib_packing.specs.Packed.{fields}
use Rattle.grib_simple.proofs.Times.{words_and_rest, length-words_and_rest}
use Rattle.grib_simple.proofs.repeated.put_same.Goals as goal

pub put_times-requires-clause-room : goal.put_times-requires-clause-room
put_times-requires-clause-room c =
    omega (arith, c.requires.room, length-words_and_rest c.args.bits (64 / c.args.bits) c.repeated-word.result c.args.number c.args.count c.repeated-word.ensures.bits)

pub put_times-requires-2-clause-room : goal.put_times-requires-2-clause-room
put_times-requires-2-clause-room c =
    omega (arith, c.requires.room, c.put_times.ensures.spare, length-words_and_rest c.args.bits (64 / c.args.bits) c.repeated-word.result c.args.number c.args.count c.repeated-word.ensures.bits)

pub returns-clause-bits : goal.returns-clause-bits
returns-clause-bits c =
    let at_once = 64 / c.args.bits in
    let words : List Bool = fields (at_once * c.args.bits) (replicate (c.args.count / at_once) c.repeated-word.result) in
    let rest : List Bool = fields c.args.bits (replicate (c.args.count % at_once) c.args.number) in
    c.put_times-2.ensures.bits
    ∙ ap (λ (bs : List Bool). bs ++ rest) c.put_times.ensures.bits
    ∙ append_assoc c.args.out.now.bits words rest
    ∙ ap (λ (bs : List Bool). c.args.out.now.bits ++ bs) (sym (words_and_rest c.args.bits at_once c.repeated-word.result c.args.number c.args.count c.repeated-word.ensures.bits))

pub returns-clause-spare : goal.returns-clause-spare
returns-clause-spare c =
    omega (arith, c.put_times.ensures.spare, c.put_times-2.ensures.spare, length-words_and_rest c.args.bits (64 / c.args.bits) c.repeated-word.result c.args.number c.args.count c.repeated-word.ensures.bits)
