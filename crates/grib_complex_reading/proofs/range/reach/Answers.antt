use Rattle.std.proofs.Common.{◌≡◌, ℕ, ◌+◌, ◌-◌, ◌*◌, ◌^◌, min, drop, ◌∷◌, ℤ, ap, ap₂, sym, ◌∙◌, arith, to_z-of_z, w64, to_z, of_z, subst}
use Rattle.std.proofs.lemmas.List.Sums.{sum_by-cons}
use Rattle.grib_packing.specs.declared.group.Group.{Group}
use Rattle.grib_group_reading.specs.Table.{groups_in}
use Rattle.grib_group_reading.proofs.Listed.{groups_from_index, no_groups}
use Rattle.grib_complex_reading.specs.Range.{stretch, reach}
use Rattle.grib_complex_reading.proofs.range.reach.Goals as goal

pub loop-index-preserved : goal.loop-index-preserved
loop-index-preserved c =
    let m = to_z w64 (of_z w64 c.args.minimum) in
    let table = c.args.table.now in
    let group = c.group-group.result in
    let i = c.loop-index.index in
    let rest = drop (i + 1) (groups_in table) in
    let here : drop i (groups_in table) ≡ group ∷ rest =
    groups_from_index table c.requires.whole i (omega arith) ∙ ap (λ (g : Group). g ∷ rest) (sym c.group-group.ensures.group) in
    let split : reach m (drop i (groups_in table)) ≡ group.count * stretch m group + reach m rest = ap (reach m) here ∙ sum_by-cons (λ (g : Group). g.count * stretch m g) group rest in
    let codes : c.from.result * c.stretch.result ≡ group.count * stretch m group = ap₂ (λ (a b : ℕ). a * b) c.from.ensures c.stretch.ensures in
    record {
      small = omega (arith, c.saturating_add-reach.ensures);
      sum = omega (arith, c.loop-index.invariant.sum, split, codes, c.saturating_mul-codes.ensures, c.saturating_add-reach.ensures);
    }

pub returns : goal.returns
returns c =
    let table = c.args.table.now in
    let past : reach (to_z w64 (of_z w64 c.args.minimum)) (drop c.loop-index.index (groups_in table)) ≡ 0 =
    ap (reach (to_z w64 (of_z w64 c.args.minimum))) (no_groups table c.requires.whole c.loop-index.index (omega (arith, c.len-index-end.ensures))) in
    let all : c.loop-index.reach ≡ min (reach (to_z w64 (of_z w64 c.args.minimum)) (groups_in table)) (2 ^ 64 - 1) = omega (arith, c.loop-index.invariant.small, c.loop-index.invariant.sum, past) in
    subst (λ (m : ℤ). c.loop-index.reach ≡ min (reach m (groups_in table)) (2 ^ 64 - 1)) (to_z-of_z c.ranges.minimum) all
