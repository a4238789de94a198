use Rattle.std.proofs.Common.{ℕ, sym, subst, ◌≡◌, ◌+◌, ◌-◌, refl, drop, arith}
use Rattle.std.proofs.lemmas.List.{length-drop}
use Rattle.std.specs.Int.Count.{count_leading_zeros}
use Rattle.grib_bits.specs.Bits.{bits}
use Rattle.grib_bits.proofs.OctetBits.{length-bits}
use Rattle.grib_coding.specs.Reading.{front_sequence, Found}
use Rattle.grib_block_reading.proofs.Places.{behind_zeros, passed_zeros, one_found, found_behind, ended_behind}
use Rattle.grib_block_reading.proofs.bits_left.zeros_from.Goals as goal

pub overflow_sub-zeros : goal.overflow_sub-zeros
overflow_sub-zeros c =
    let xs = bits c.args.octets.now in
    let here = drop c.loop-place.place xs in
    (one_found here _ _ _ (omega (arith, length-bits c.args.octets.now, length-drop c.loop-place.place xs, c.min-width.ensures)) (omega (arith, c.min-width.ensures)) c.get_bits-word.ensures (omega arith) refl).0

pub returns-then-word-ne0 : goal.returns-then-word-ne0
returns-then-word-ne0 c =
    let xs = bits c.args.octets.now in
    let place = c.loop-place.place in
    let here = drop place xs in
    let found = one_found here _ _ _ (omega (arith, length-bits c.args.octets.now, length-drop place xs, c.min-width.ensures)) (omega (arith, c.min-width.ensures)) c.get_bits-word.ensures (omega arith) refl in
    let sum : c.from.result ≡ count_leading_zeros 64 c.get_bits-word.result + c.min-width.result - 64 = c.from.ensures in (
      found_behind xs c.args.at place c.from.result c.loop-place.invariant.behind c.loop-place.invariant.zeros
          (subst (λ (n : ℕ). front_sequence here ≡ Found n (drop (n + 1) here)) (sym sum) found.2),
      omega (arith, found.1, sum, c.min-width.ensures, c.loop-place.invariant.within),
    )

pub loop-place-preserved : goal.loop-place-preserved
loop-place-preserved c =
    let xs = bits c.args.octets.now in
    record {
      behind = omega arith;
      within = omega (arith, c.min-width.ensures, c.from-place.ensures);
      zeros = subst (λ (n : ℕ). front_sequence (drop c.args.at xs) ≡ behind_zeros (c.loop-place.place + n - c.args.at) (front_sequence (drop (c.loop-place.place + n) xs))) (sym c.from-place.ensures)
          (passed_zeros xs c.args.at c.loop-place.place _ _ c.loop-place.invariant.behind (omega (arith, length-bits c.args.octets.now, c.min-width.ensures)) c.get_bits-word.ensures c.if-word-ne0.false c.loop-place.invariant.zeros);
    }

pub returns : goal.returns
returns c = ended_behind (bits c.args.octets.now) c.args.at c.loop-place.place (omega (arith, length-bits c.args.octets.now)) c.loop-place.invariant.zeros
