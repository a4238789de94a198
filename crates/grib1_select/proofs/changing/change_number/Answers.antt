use Rattle.std.proofs.Common.{◌≡◌, ℕ, ◌-◌, ◌++◌, Option, unwrap_or, length, take, drop, ap, ◌∙◌, subst, arith, ◌+◌}
use Rattle.grib_bits.specs.Encoding.{octets_of}
use Rattle.grib1_select.specs.Changed.{octet_count, new_number1}
use Rattle.grib1_select.proofs.Changes.{written_is}
use Rattle.grib1_select.proofs.changing.change_number.Goals as goal

pub returns : goal.returns
returns c =
    let change = c.args.change.now in
    let s = c.args.section.now in
    let place = c.place-place in
    let count : place.result.last - place.result.first + 1 ≡ octet_count change.key = omega (arith, place.ensures.first, place.ensures.last, place.ensures.some) in
    let raw = c.unwrap_or-number.ensures ∙ ap (λ (o : Option ℕ). unwrap_or o 0) c.new_number.ensures.number in
    written_is change c.args.section.now place.result.first place.result.last c.write_uint.new.buf c.requires place.ensures.first place.ensures.last
    (subst (λ (k : ℕ). c.write_uint.new.buf ≡ octets_of k (unwrap_or (new_number1 change) 0) ++ drop k (take (length s - (place.result.first - 1)) (drop (place.result.first - 1) s))) count
    (subst (λ (n : ℕ). c.write_uint.new.buf ≡ octets_of (place.result.last - place.result.first + 1) n ++ drop (place.result.last - place.result.first + 1) (take (length s - (place.result.first - 1)) (drop (place.result.first - 1) s))) raw c.write_uint.ensures))
