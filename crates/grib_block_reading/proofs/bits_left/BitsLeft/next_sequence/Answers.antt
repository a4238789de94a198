use Rattle.std.proofs.Common.{ℕ, ◌≡◌, ◌+◌, ◌-◌, List, Bool, length, take, drop, refl, sym, ap, ap₂, ◌∙◌, arith}
use Rattle.std.proofs.lemmas.List.{drop-drop, length-drop}
use Rattle.std.specs.Int.Count.{count_leading_zeros}
use Rattle.grib_bits.specs.Bits.{bits, num}
use Rattle.grib_bits.proofs.OctetBits.{length-bits}
use Rattle.grib_coding.specs.Reading.{Found}
use Rattle.grib_block_reading.proofs.Places.{one_found, word_behind}
use Rattle.grib_block_reading.proofs.bits_left.BitsLeft.next_sequence.Goals as goal

pub overflow_sub-zeros : goal.overflow_sub-zeros
overflow_sub-zeros c =
    (one_found c.args.self.now c.args.ahead.now.count c.args.ahead.now.word _ c.requires.within c.requires.few c.requires.is (omega (arith, c.if-ahead-eq0.false)) refl).0

pub invariant_of-self : goal.invariant_of-self
invariant_of-self c =
    let octets = c.self.inside.octets.now in
    let found = one_found c.args.self.now c.args.ahead.now.count c.args.ahead.now.word _ c.requires.within c.requires.few c.requires.is (omega (arith, c.if-ahead-eq0.false)) refl in (
      omega (arith, found.1, c.from.ensures, c.requires.within, length-bits octets, length-drop c.self.inside.at (bits octets), c.self.invariant, ap (λ (ys : List Bool). length ys) c.self.view_is),
      c.self.invariant.1,
    )

pub returns-clause-found : goal.returns-clause-found
returns-clause-found c =
    let xs = bits c.self.inside.octets.now in
    let at = c.self.inside.at in
    let zeros = count_leading_zeros 64 c.args.ahead.now.word + c.args.ahead.now.count - 64 in
    let found = one_found c.args.self.now c.args.ahead.now.count c.args.ahead.now.word _ c.requires.within c.requires.few c.requires.is (omega (arith, c.if-ahead-eq0.false)) refl in
    let number : zeros ≡ c.from-2.result = omega (arith, c.from-2.ensures) in
    let place : at + (zeros + 1) ≡ at + (c.from.result + 1) = omega (arith, c.from.ensures) in
    let behind : drop (zeros + 1) c.args.self.now ≡ drop (at + (c.from.result + 1)) xs =
    ap (λ (ys : List Bool). drop (zeros + 1) ys) (sym c.self.view_is) ∙ (drop-drop (zeros + 1) at xs ∙ ap (λ (n : ℕ). drop n xs) place) in
    found.2 ∙ ap₂ (λ (n : ℕ) (ys : List Bool). Found n ys) number behind

pub returns-clause-ahead : goal.returns-clause-ahead
returns-clause-ahead c =
    let octets = c.self.inside.octets.now in
    let xs = bits octets in
    let at = c.self.inside.at in
    let count = c.args.ahead.now.count in
    let zeros = count_leading_zeros 64 c.args.ahead.now.word + count - 64 in
    let found = one_found c.args.self.now count c.args.ahead.now.word _ c.requires.within c.requires.few c.requires.is (omega (arith, c.if-ahead-eq0.false)) refl in
    let place : at + (zeros + 1) ≡ at + (c.from.result + 1) = omega (arith, c.from.ensures) in
    let behind : drop (zeros + 1) c.args.self.now ≡ drop (at + (c.from.result + 1)) xs =
    ap (λ (ys : List Bool). drop (zeros + 1) ys) (sym c.self.view_is) ∙ (drop-drop (zeros + 1) at xs ∙ ap (λ (n : ℕ). drop n xs) place) in
    let left : zeros + 1 + (count - (zeros + 1)) ≡ count = omega (arith, found.1) in
    record {
      within = omega (arith, found.1, c.from.ensures, c.requires.within, length-bits octets, length-drop at xs, length-drop (at + (c.from.result + 1)) xs, ap (λ (ys : List Bool). length ys) c.self.view_is);
      few = omega (arith, c.requires.few);
      is = word_behind c.args.self.now count (zeros + 1) c.args.ahead.now.word (count - (zeros + 1)) c.requires.within c.requires.few c.requires.is (omega arith) left
          ∙ ap (λ (ys : List Bool). num (take (count - (zeros + 1)) ys)) behind;
    }
