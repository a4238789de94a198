use Rattle.std.proofs.Common.{◌≡◌, sym, ◌∙◌, ap, ◌+◌, Some, arith}
use Rattle.grib_compare.proofs.Sections.{octets_end}
use Rattle.grib_compare.proofs.octets.first_octet.Goals as goal

pub returns-else-left-right : goal.returns-else-left-right
returns-else-left-right c =
    let e : c.loop-i.i ≡ c.min-both.result = omega arith in
    ap (λ n. Some (n + 1)) (sym e) ∙ sym (c.loop-i.invariant ∙ octets_end c.args.left.now c.args.right.now c.loop-i.i c.if-left-right.false (e ∙ c.min-both.ensures))
