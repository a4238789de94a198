use Rattle.std.proofs.Common.{◌≡◌, ◌+◌, ◌≤◌, ◌++◌, List, OnOk, subst, arith}
use Rattle.std.proofs.Math.Nat.{mul-le-mul_right}
use Rattle.grib_packing.specs.declared.column.Point.{Point}
use Rattle.grib_rescan.proofs.Added.{all_added, part_added}
use Rattle.grib_rescan.proofs.source.NumbersGridPoints.add_to.Goals as goal

pub add_numbers-requires-clause-within : goal.add_numbers-requires-clause-within
add_numbers-requires-clause-within c =
    let numbers = c.args.self.now in
    let less : c.args.from + c.args.count ≤ numbers.count = omega (arith, all_added numbers, c.requires.within) in
    let h = mul-le-mul_right numbers.bits less in
    omega (arith, h, c.requires.stands.within)

pub add_numbers-requires-clause-short : goal.add_numbers-requires-clause-short
add_numbers-requires-clause-short c = omega (arith, all_added c.args.self.now, c.requires.within)

pub returns : goal.returns
returns c =
    let numbers = c.args.self.now in
    let less : c.args.from + c.args.count ≤ numbers.count = omega (arith, all_added numbers, c.requires.within) in
    subst (λ (points : List Point). OnOk c.add_numbers.result (c.add_numbers.new.out.items ≡ c.args.out.now.items ++ points)) (part_added numbers c.args.from c.args.count less) c.add_numbers.ensures
