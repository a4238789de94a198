use Rattle.std.proofs.Common.{ℕ, List, ◌≡◌, ◌≤◌, length, take, ◌∙◌, arith}
use Rattle.std.proofs.lemmas.List.{length-take-le}
use Rattle.grib_block_reading.proofs.Items.{second_read}
use Rattle.grib_block_reading.proofs.item.read_second.Goals as goal

taken : (n m : ℕ) (xs : List ℕ) → n ≤ length xs → n ≡ m → length (take n xs) ≡ m
taken n m xs within is = length-take-le n xs within ∙ is

pub returns : goal.returns
returns c other =
    second_read c.args.coding c.args.with_reference other _ _ _ _ _ _ _ _ c.in_ok-reference.ensures.found c.in_ok-reference.ensures.within (taken _ _ _ (omega (arith, c.from.ensures)) c.from.ensures) c.in_ok-read_sequences.ensures.found c.spread_second-kind.ensures
