use Rattle.std.proofs.Common.{sym, ◌∙◌, arith}
use Rattle.std.proofs.lemmas.Grind.{common_steps}
use Rattle.grib_demote.proofs.Products.{local_added}
use Rattle.grib_demote.proofs.product.add_local.Goals as goal

pub returns-in_ok-extend_from_slice-2 : goal.returns-in_ok-extend_from_slice-2
returns-in_ok-extend_from_slice-2 c =
    local_added c.args.keep_local c.args.local.now c.args.out.now.items _ _ c.if-keep_local.true (sym c.has_local.ensures ∙ c.if-has_local.true)
    c.in_ok-extend_from_slice.ensures.items (grind (arith, common_steps, c.in_ok-extend_from_slice-2.ensures.items))
