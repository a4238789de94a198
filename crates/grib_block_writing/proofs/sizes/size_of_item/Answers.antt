use Rattle.std.proofs.Common.{ℕ, Bool, ◌≡◌, ◌-◌, ◌+◌, ◌%◌, ◌<◌, ◌==◌, ◌||◌, length, refl, sym, ap, ap₂, ◌∙◌, arith}
use Rattle.grib_coding.specs.Coding.{block_count}
use Rattle.grib_coding.specs.Runs.{run_room}
use Rattle.grib_block_writing.proofs.Lengths.{length-parts, length-run}
use Rattle.grib_block_writing.proofs.Runs.{run_bits, block_bits, number_is}
use Rattle.grib_block_writing.proofs.sizes.size_of_item.Goals as goal

pub returns-then-zeros-eq0-clause-left : goal.returns-then-zeros-eq0-clause-left
returns-then-zeros-eq0-clause-left c =
    length-parts _ _ _ _ (block_bits c.args.coding.now c.args.numbers.now c.args.block _ _ c.requires.within
    (sym c.run_length_at-zeros.ensures.is ∙ c.if-zeros-eq0.true) c.reference_in-reference.ensures.is refl) c.size_of_block.ensures.is

pub returns-clause-left : goal.returns-clause-left
returns-clause-left c =
    let zeros = c.run_length_at-zeros.result in
    let q = c.args.block in
    let room = run_room c.args.coding.now (q % c.args.coding.now.interval) in
    let ends = zeros == room || (zeros == block_count c.args.coding.now (length c.args.numbers.now) - q) in
    let number = c.run_number_at-number.ensures.is ends (ap (λ (n : ℕ). zeros == room || (zeros == n - q)) (sym c.block_count-count.ensures))
    ∙ number_is c.args.coding.now c.args.numbers.now q zeros ends c.run_length_at-zeros.ensures.is refl in
    let some : 0 < zeros = omega (arith, c.if-zeros-eq0.false) in
    length-parts _ _ _ _ (run_bits c.args.coding.now c.args.numbers.now q zeros _ _ c.requires.within c.run_length_at-zeros.ensures.is some
    c.reference_in-reference.ensures.is number)
    (ap₂ (λ (h n : ℕ). h + n + 2) c.head_size.ensures.is c.from.ensures
    ∙ sym (length-run c.args.coding.now c.reference_in-reference.result c.run_number_at-number.result))
