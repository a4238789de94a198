use Rattle.std.proofs.Common.{rules, ◌≡◌, ◌==◌, cond, ℤ, ◌-◌, ◌^◌, pos, replicate, get_or, false, ap, sym, ◌∙◌, subst, to_z-of_z}
use Rattle.std.proofs.lemmas.List.{get_or-replicate}
use Rattle.grib_base.specs.declared.code.Code.TheVariants.{Present}
use Rattle.grib_packing.specs.declared.column.Point.TheVariants.{Scaled}
use Rattle.grib_packing.specs.Differences.{Descriptors}
use Rattle.grib_packing.specs.Misfits.{is_outside}
use Rattle.grib_complex.specs.Constant.{DifferencesOf}
use Rattle.grib_complex.proofs.AllTheSame.{read_is, one_number_told}
use Rattle.grib_complex.proofs.constant.Constant.of_number.Goals as goal

pub returns : goal.returns
returns c =
    let order = c.args.order in
    let n = c.args.count in
    let x = c.args.x in
    let first : x ≡ get_or (replicate n x) 0 (pos 0) = sym (get_or-replicate n 0 x (pos 0) c.requires.some) in
    let back = to_z-of_z c.ranges.x in
    let inside : is_outside (2 ^ 31 - 1) x ≡ false = ap (is_outside (2 ^ 31 - 1)) (sym back) ∙ sym c.is_outside.ensures ∙ c.if-is_outside.false in
    let second : c.second_of.result ≡ cond (order == 1) (pos 0) (get_or (replicate n x) 1 (pos 0)) =
    c.second_of.ensures ∙ ap (λ (z : ℤ). cond (order == 1) (pos 0) (get_or (replicate n z) 1 (pos 0))) back in
    let is_first : c.same_differences.result.first ≡ x = search rules in
    let is_second : c.same_differences.result.second ≡ c.second_of.result = search rules in
    let told = one_number_told order n x x c.second_of.result c.requires.some c.requires.order inside first second in
    subst (λ (d : Descriptors). DifferencesOf order (replicate n (Scaled x)) d (replicate n (Present 0)) 0)
    (read_is order c.same_differences.result x c.second_of.result is_first is_second c.same_differences.ensures.minimum) told
