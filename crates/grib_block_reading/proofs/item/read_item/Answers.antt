use Rattle.std.proofs.Common.{ℕ, ◌≡◌, ◌*◌, ◌%◌, ◌^◌, ◌-◌, sym, ap, subst, ◌∙◌, arith}
use Rattle.std.proofs.lemmas.Nat.{one_shl}
use Rattle.grib_coding.specs.Coding.{identifier_width}
use Rattle.grib_coding.specs.Reading.{front_number, Found}
use Rattle.grib_block_reading.proofs.Items.{split_identified}
use Rattle.grib_block_reading.proofs.item.read_item.Goals as goal

pub returns : goal.returns
returns c =
    let identifier = c.in_ok-identifier.identifier in
    let width = c.identifier_width-width.result in
    let power : 1 * 2 ^ width % 2 ^ 64 ≡ 2 ^ identifier_width c.args.coding =
    one_shl width 64 (omega (arith, c.identifier_width-width.ensures.within)) ∙ ap (λ n. 2 ^ n) c.identifier_width-width.ensures.is in
    let found = subst (λ (w : ℕ). front_number w c.args.bits.now ≡ Found identifier c.number.new.self) c.identifier_width-width.ensures.is c.in_ok-identifier.ensures.found in
    let same = split_identified c.args.coding c.args.with_reference c.args.bits.now c.number.new.self identifier (identifier - 1) found (omega arith)
    (λ is. c.if-identifier-width.false (is ∙ sym power)) in
    rw same c.read_split.ensures
