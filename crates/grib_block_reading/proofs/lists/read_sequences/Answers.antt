use Rattle.std.proofs.Common.{ℕ, ◌≡◌, ◌+◌, ◌++◌, ◌∷◌, [], ◌<◌, ◌^◌, length, take, set, subst, sym, arith, add-one}
use Rattle.std.specs.List.{All}
use Rattle.std.proofs.Math.Seq.{take-suc-set}
use Rattle.std.proofs.lemmas.List.Elements.{All-push}
use Rattle.grib_block_reading.proofs.Fronts.{next}
use Rattle.grib_block_reading.proofs.lists.read_sequences.Goals as goal

pub loop-number-preserved : goal.loop-number-preserved
loop-number-preserved c =
    let place = c.loop-number.number-index in
    let numbers = c.loop-number.numbers in
    let number = c.in_ok-number.field-0 in
    let within : place < length numbers = omega arith in
    let P : ℕ → Type 0 = λ n. n < 2 ^ 35 in
    let taken : take (place + 1) (set numbers place number) ≡ take place numbers ++ number ∷ [] = rw add-one (take-suc-set numbers place number within) in
    record {
      so_far = next _ _ _ _ _ _ _ _ c.loop-number.invariant.so_far (omega arith) (omega arith) c.in_ok-number.ensures.found;
      short = subst (All P) (sym taken) (All-push P (take place numbers) number c.loop-number.invariant.short c.in_ok-number.ensures.short);
      ahead = c.in_ok-number.ensures.ahead;
    }
