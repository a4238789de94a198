use Rattle.std.proofs.Common.{ℕ, ◌≡◌, length, subst, arith}
use Rattle.grib_coding.specs.Reading.{front_list, front_number, Ended}
use Rattle.grib_block_reading.proofs.Items.{split_high_ended, split_low_ended}
use Rattle.grib_block_reading.proofs.item.read_split.Goals as goal

pub returns-in_err-read_sequences : goal.returns-in_err-read_sequences
returns-in_err-read_sequences c =
    rw c.from_residual-in_err-read_sequences.ensures
    (split_high_ended c.args.coding c.args.with_reference c.args.k c.args.bits.now c.read_reference.new.bits c.in_ok-reference.reference (length c.args.codes.now)
    c.in_ok-reference.ensures.found c.requires.room c.in_err-read_sequences.ensures.found)

pub returns-in_err-read_low_bits : goal.returns-in_err-read_low_bits
returns-in_err-read_low_bits c =
    let same : length c.read_sequences.new.numbers ≡ length c.args.codes.now = omega arith in
    rw c.from_residual-in_err-read_low_bits.ensures
    (split_low_ended c.args.coding c.args.with_reference c.args.k c.args.bits.now c.read_reference.new.bits c.read_sequences.new.bits c.in_ok-reference.reference
    (length c.args.codes.now) c.read_sequences.new.numbers c.in_ok-reference.ensures.found c.requires.room c.in_ok-read_sequences.ensures.found
    (subst (λ (n : ℕ). front_list (front_number c.args.k) n c.read_sequences.new.bits ≡ Ended) same c.in_err-read_low_bits.ensures))
