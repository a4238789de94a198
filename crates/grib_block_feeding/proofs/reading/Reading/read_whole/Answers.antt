use Rattle.std.proofs.Common.{ℕ, ◌≡◌, ◌*◌, ◌-◌, ◌%◌, ◌==◌, length, drop, ap, subst, ◌∙◌, arith}
use Rattle.grib_bits.specs.Bits.{bits}
use Rattle.grib_bits.proofs.OctetBits.{length-bits}
use Rattle.grib_coding.specs.Reading.{padded}
use Rattle.grib_block_feeding.specs.Feeding.{IsWholeAt}
use Rattle.grib_block_feeding.proofs.Ahead.{whole_at}
use Rattle.grib_block_feeding.proofs.reading.Reading.read_whole.Goals as goal

pub overflow_sub-place : goal.overflow_sub-place
overflow_sub-place c =
    let self = c.args.self.now in
    let xs = bits c.args.piece.now in
    let long : length xs ≡ 8 * length c.args.piece.now = length-bits c.args.piece.now in
    let all = whole_at self.coding self.block xs c.args.place c.is_referred-with_reference.result c.skip_padding.new.bits c.read_whole.new.bits c.in_ok-kind.kind c.read_whole.new.self c.len.result
    (omega (arith, long, c.requires.within)) c.is_referred-with_reference.ensures c.read_whole.ensures.reference
    (c.skip_padding.ensures ∙ ap (padded self.coding (self.block % self.coding.interval == 0)) c.after-bits.ensures) c.in_ok-kind.ensures.item c.len.ensures in
    omega (arith, all.0, long)

pub returns-clause-whole : goal.returns-clause-whole
returns-clause-whole c =
    let self = c.args.self.now in
    let xs = bits c.args.piece.now in
    let long : length xs ≡ 8 * length c.args.piece.now = length-bits c.args.piece.now in
    let all = whole_at self.coding self.block xs c.args.place c.is_referred-with_reference.result c.skip_padding.new.bits c.read_whole.new.bits c.in_ok-kind.kind c.read_whole.new.self c.len.result
    (omega (arith, long, c.requires.within)) c.is_referred-with_reference.ensures c.read_whole.ensures.reference
    (c.skip_padding.ensures ∙ ap (padded self.coding (self.block % self.coding.interval == 0)) c.after-bits.ensures) c.in_ok-kind.ensures.item c.len.ensures in (
      subst (λ (n : ℕ). IsWholeAt self.coding self.block (drop c.args.place xs) (drop (n - c.len.result) xs) c.in_ok-kind.kind c.read_whole.new.self) long all.1,
      omega (arith, all.0, long, c.requires.within),
      omega arith,
    )
