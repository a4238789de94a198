use Rattle.std.proofs.Common.{◌≡◌, ℕ, List, length, take, ◌*◌, ◌+◌, ◌≤◌, subst, sym, ap, ◌∙◌, arith}
use Rattle.std.proofs.Math.Nat.{mul-le-mul_left}
use Rattle.std.proofs.lemmas.List.{length-take-le}
use Rattle.grib_bits.specs.Encoding.{octets_of, AddsOctets}
use Rattle.grib_bits.specs.Listed.{numbers_octets}
use Rattle.grib_bits.proofs.Encoding.{AddsOctets-append}
use Rattle.grib_bits.proofs.Listed.{numbers_octets-more, length-numbers_octets}
use Rattle.grib_bits.proofs.list.write_list.Goals as goal

pub write_number-requires-clause-room : goal.write_number-requires-clause-room
write_number-requires-clause-room c =
    let numbers = c.args.numbers.now in
    let size = c.args.size in
    let k = c.loop-number.number-index in
    let more : size * (k + 1) ≤ size * length numbers = mul-le-mul_left size (omega arith) in
    let long : length (numbers_octets size (take k numbers)) ≡ size * k =
    length-numbers_octets size (take k numbers) ∙ ap (λ (n : ℕ). size * n) (length-take-le k numbers (omega arith)) in
    omega arith

pub loop-number-preserved : goal.loop-number-preserved
loop-number-preserved c =
    let Added : List ℕ → Type 0 = λ xs. AddsOctets c.args.out.now c.write_number.new.out xs in
    let Next : ℕ → Type 0 = λ n. AddsOctets c.loop-number.out c.write_number.new.out (octets_of c.args.size n) in
    subst Added (sym (numbers_octets-more c.args.size c.args.numbers.now c.loop-number.number-index (omega arith)))
    (AddsOctets-append c.loop-number.invariant (subst Next c.from.ensures c.write_number.ensures.octets))
