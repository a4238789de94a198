use Rattle.std.proofs.Common.{◌≡◌, ◌++◌, Bool, List, length, sym, ap, ◌∙◌, arith}
use Rattle.grib_packing.specs.Packed.{simple_numbers}
use Rattle.grib_simple.proofs.PointByPoint.{all_missing}
use Rattle.grib_simple.proofs.writing.put_bitmap.Goals as goal

pub returns-then-present-eq0-clause-bits : goal.returns-then-present-eq0-clause-bits
returns-then-present-eq0-clause-bits c =
    let points = c.args.points.now in
    let none : length (simple_numbers points) ≡ 0 = omega (arith, c.requires.present, c.if-present-eq0.true) in
    c.put_zeros.ensures.bits
    ∙ ap (λ (bs : List Bool). c.args.out.now.bits ++ bs) (sym (all_missing points c.requires.one_kind none))
