use Rattle.std.proofs.Common.{◌++◌, arith, ap, length, map, sym, ◌∙◌, append_assoc}
use Rattle.std.proofs.lemmas.List.{length-append}
use Rattle.grib_packing.specs.Packed.{fields, packed_number}
use Rattle.grib_groups.proofs.Joined.{parts_joined}
use Rattle.grib_groups.proofs.encoding.put_present.Goals as goal

pub put_several-requires-clause-room : goal.put_several-requires-clause-room
put_several-requires-clause-room c =
    let f = packed_number c.args.width c.args.reference in
    let parts = parts_joined c.args.width (packed_number c.args.width c.args.reference) c.args.run.now c.split_at-fours.result.0 c.split_at-fours.result.1 _ c.split_at-fours.ensures.front c.split_at-fours.ensures.back in
    omega (arith, c.requires.room, ap length parts, length-append (fields c.args.width (map f c.split_at-fours.result.0)) (fields c.args.width (map f c.split_at-fours.result.1)))

pub put_each-requires-clause-room : goal.put_each-requires-clause-room
put_each-requires-clause-room c =
    let f = packed_number c.args.width c.args.reference in
    let parts = parts_joined c.args.width (packed_number c.args.width c.args.reference) c.args.run.now c.split_at-fours.result.0 c.split_at-fours.result.1 _ c.split_at-fours.ensures.front c.split_at-fours.ensures.back in
    omega (arith, c.requires.room, ap length parts, length-append (fields c.args.width (map f c.split_at-fours.result.0)) (fields c.args.width (map f c.split_at-fours.result.1)), c.put_several.ensures.spare)

pub returns : goal.returns
returns c =
    let f = packed_number c.args.width c.args.reference in
    let parts = parts_joined c.args.width (packed_number c.args.width c.args.reference) c.args.run.now c.split_at-fours.result.0 c.split_at-fours.result.1 _ c.split_at-fours.ensures.front c.split_at-fours.ensures.back in
    record {
      bits =
          c.put_each.ensures.bits
          ∙ ap (λ xs. xs ++ fields c.args.width (map f c.split_at-fours.result.1)) c.put_several.ensures.bits
          ∙ append_assoc c.args.out.now.bits (fields c.args.width (map f c.split_at-fours.result.0)) (fields c.args.width (map f c.split_at-fours.result.1))
          ∙ ap (λ xs. c.args.out.now.bits ++ xs) (sym parts);
      spare = omega (arith, ap length parts, length-append (fields c.args.width (map f c.split_at-fours.result.0)) (fields c.args.width (map f c.split_at-fours.result.1)), c.put_several.ensures.spare, c.put_each.ensures.spare);
    }
