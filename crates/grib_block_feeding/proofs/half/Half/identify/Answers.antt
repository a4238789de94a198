use Rattle.std.proofs.Common.{ℕ, ◌≡◌, ◌*◌, ◌%◌, ◌^◌, ap, sym, ◌∙◌, arith}
use Rattle.std.proofs.lemmas.Nat.{one_shl}
use Rattle.grib_coding.specs.Coding.{identifier_width}
use Rattle.grib_block_feeding.proofs.Halves.{goes_on, split_identified}
use Rattle.grib_block_feeding.proofs.half.Half.identify.Goals as goal

pub returns-else-identifier-identifier_width-clause-on : goal.returns-else-identifier-identifier_width-clause-on
returns-else-identifier-identifier_width-clause-on c =
    let width = c.identifier_width.result in
    let power : 1 * 2 ^ width % 2 ^ 64 ≡ 2 ^ identifier_width c.args.coding =
    one_shl width 64 (omega (arith, c.identifier_width.ensures.within)) ∙ ap (λ (n : ℕ). 2 ^ n) c.identifier_width.ensures.is in
    goes_on c.args.coding _ _ _ c.begin_reference-else-identifier-identifier_width.ensures.on
    (λ bits. split_identified c.args.coding c.args.self.now.with_reference c.args.identifier _ bits c.if-identifier-eq0.false (λ is. c.if-identifier-identifier_width.false (is ∙ sym power)) (omega arith))
