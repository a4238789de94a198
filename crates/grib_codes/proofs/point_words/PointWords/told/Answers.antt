use Rattle.std.proofs.Common.{◌≡◌, ◌≤◌, false, nat_lt, length, ap, ◌∙◌, arith, le-ltb}
use Rattle.std.proofs.lemmas.List.{length-map}
use Rattle.grib_codes.specs.Words.{code_of}
use Rattle.grib_packing.specs.Misfits.{greatest_code}
use Rattle.grib_codes.proofs.AsWords.{told_points}
use Rattle.grib_codes.proofs.Reserved.{management-few}
use Rattle.grib_codes.proofs.point_words.PointWords.told.Goals as goal

pub returns-clause-points : goal.returns-clause-points
returns-clause-points c = λ points are.
    let kept = c.args.self in
    let few : kept.management ≤ 2 = omega (arith, are.management, management-few points) in
    let fits : nat_lt (greatest_code kept.management) kept.greatest ≡ false =
    le-ltb (greatest_code kept.management) kept.greatest (omega (arith, c.if-self-from.false, c.from.ensures, c.from-2.ensures, few)) in
    told_points points kept _ are fits c.field_codes.ensures

pub returns-clause-long : goal.returns-clause-long
returns-clause-long c = ap length c.field_codes.ensures ∙ length-map c.args.self.words.items (code_of c.args.self.management)
