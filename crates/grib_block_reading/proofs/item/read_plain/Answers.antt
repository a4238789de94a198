use Rattle.std.proofs.Common.{ℕ, ◌≡◌, length, subst}
use Rattle.grib_coding.specs.Reading.{front_list, front_number, Ended}
use Rattle.grib_block_reading.proofs.Items.{plain_ended}
use Rattle.grib_block_reading.proofs.item.read_plain.Goals as goal

pub returns-in_err-read_numbers : goal.returns-in_err-read_numbers
returns-in_err-read_numbers c =
    rw c.from_residual-in_err-read_numbers.ensures
    (plain_ended c.args.coding c.args.with_reference c.args.bits.now c.read_reference.new.bits c.in_ok-reference.reference (length c.args.codes.now)
    c.in_ok-reference.ensures.found c.requires.room
    (subst (λ (w : ℕ). front_list (front_number w) (length c.args.codes.now) c.read_reference.new.bits ≡ Ended) c.from.ensures c.in_err-read_numbers.ensures))
