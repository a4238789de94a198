use Rattle.std.proofs.Common.{◌≡◌, ℕ, ◌+◌, ◌*◌, ◌%◌, ◌^◌, ◌<◌, ◌≤◌, ◌++◌, List, Bool, drop, take, length, bit_or, sym, ap, ◌∙◌, arith, subst}
use Rattle.std.proofs.lemmas.List.{take_all}
use Rattle.grib_bits.specs.Bits.{bits, num}
use Rattle.grib_bits.proofs.OctetBits.{length-bits}
use Rattle.grib_group_reading.specs.Taking.{number_of}
use Rattle.grib_group_reading.proofs.Coded.{number_of-code_by}
use Rattle.grib_bits.proofs.WordNumbers.{number-lt}
use Rattle.grib_group_reading.proofs.Runs.{pow_at_most}
use Rattle.grib_group_reading.proofs.Moves.{number_across, went_across}
use Rattle.grib_group_reading.proofs.numbers.Numbers.take_across.Goals as goal

-- the number that begins among the pending bits
module _ (pending : List Bool) (piece : List ℕ) (missing width count first last : ℕ) (parts : length pending + missing ≡ width) (short : width ≤ 48) (within : missing ≤ 8 * length piece) (is_count : count ≡ length pending) (is_first : first ≡ num (take count pending)) (is_last : last ≡ num (take missing (bits piece))) where
  number_is : bit_or (first * 2 ^ missing % 2 ^ 64) last ≡ num (take width (pending ++ bits piece))
  number_is =
      number_across pending (bits piece) missing width first last parts short (omega (arith, length-bits piece))
      (is_first ∙ ap num (take_all count pending (omega arith))) is_last

module _ (pending : List Bool) (piece : List ℕ) (missing width count first last : ℕ) (parts : length pending + missing ≡ width) (short : width ≤ 48) (within : missing ≤ 8 * length piece) (is_count : count ≡ length pending) (is_first : first ≡ num (take count pending)) (is_last : last ≡ num (take missing (bits piece))) where
  small : bit_or (first * 2 ^ missing % 2 ^ 64) last < 2 ^ width
  small =
      subst (λ (n : ℕ). n < 2 ^ width) (sym (number_is pending piece missing width count first last parts short within is_count is_first is_last)) (number-lt width (pending ++ bits piece))

pub code-requires : goal.code-requires
code-requires g c =
    let width = c.args.self.now.current.width in
    let below = small c.args.self.now.pending c.args.piece.now c.args.missing width c.len-pending.result c.take-first.result c.get_bits.result c.requires.missing c.requires.readable.width c.requires.within c.len-pending.ensures.bits c.take-first.ensures.number c.get_bits.ensures in
    omega (arith, below, pow_at_most width c.requires.readable.width, c.of.ensures.small)

pub take-taker-requires-clause-below : goal.take-taker-requires-clause-below
take-taker-requires-clause-below g c =
    let width = c.args.self.now.current.width in
    let number = bit_or (c.take-first.result * 2 ^ c.args.missing % 2 ^ 64) c.get_bits.result in
    let below = small c.args.self.now.pending c.args.piece.now c.args.missing width c.len-pending.result c.take-first.result c.get_bits.result c.requires.missing c.requires.readable.width c.requires.within c.len-pending.ensures.bits c.take-first.ensures.number c.get_bits.ensures in
    let within : c.of.result.reference + number < g.T.Taker.limit = omega (arith, below, c.requires.readable.below, c.of.ensures.reference) in
    subst (λ code. number_of code < g.T.Taker.limit) (sym c.code.ensures) (number_of-code_by c.of.result number g.T.Taker.limit within)

pub returns-clause-goes : goal.returns-clause-goes
returns-clause-goes g c = λ groups.
    let group = c.args.self.now.current in
    let width = group.width in
    let pending = c.args.self.now.pending in
    let piece = c.args.piece.now in
    let number = bit_or (c.take-first.result * 2 ^ c.args.missing % 2 ^ 64) c.get_bits.result in
    let below = small pending piece c.args.missing width c.len-pending.result c.take-first.result c.get_bits.result c.requires.missing c.requires.readable.width c.requires.within c.len-pending.ensures.bits c.take-first.ensures.number c.get_bits.ensures in
    let is_number = number_is pending piece c.args.missing width c.len-pending.result c.take-first.result c.get_bits.result c.requires.missing c.requires.readable.width c.requires.within c.len-pending.ensures.bits c.take-first.ensures.number c.get_bits.ensures in
    went_across g.T.Taker.took c.args.layout.now group (drop c.args.self.now.next groups) pending (bits piece) c.args.missing number c.code.result c.args.taker c.take-taker.result
    c.requires.count c.requires.missing (omega (arith, c.requires.within, length-bits piece)) is_number (c.code.ensures ∙ c.of.ensures.codes number below) c.take-taker.ensures
