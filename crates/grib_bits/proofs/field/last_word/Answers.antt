use Rattle.std.proofs.Common.{◌≡◌, ◌-◌, ◌++◌, length, ap, sym, ◌∙◌, arith, List, replicate, take, drop, subst, ap₂, ℕ}
use Rattle.std.proofs.lemmas.List.{drop-replicate, length-append, length-replicate, take_all}
use Rattle.grib_bits.specs.Bits.{bits, num}
use Rattle.grib_bits.proofs.OctetBits.{AreOctets, big_from-bits, take-padded, AreOctets-padded}
use Rattle.grib_bits.proofs.field.last_word.Goals as goal

pub returns : goal.returns
returns c =
    let octets = c.args.octets.now in
    let n : ℕ = length octets in
    let zeros : List ℕ = replicate 8 0 in
    let padded : List ℕ = octets ++ replicate (8 - n) 0 in
    let word : List ℕ = c.copy_from_slice.new.self ++ drop n zeros in
    let same : word ≡ padded = ap₂ ◌++◌ c.copy_from_slice.ensures.after (drop-replicate n 8 0) in
    let known : AreOctets padded = AreOctets-padded octets (8 - n) (λ i. omega (arith, c.type_inv.octets i)) in
    let long : length padded ≡ 8 = omega (arith, length-append octets (replicate (8 - n) 0), length-replicate {A = ℕ} (8 - n) 0) in
    c.read_u64.ensures
    ∙ big_from-bits 0 8 word (subst AreOctets (sym same) known) (omega (arith, ap length same))
    ∙ ap (λ (xs : List ℕ). num (bits (take 8 xs))) same
    ∙ ap (λ (xs : List ℕ). num (bits xs)) (take_all 8 padded (omega arith) ∙ sym (take-padded octets 8 (omega arith)))
