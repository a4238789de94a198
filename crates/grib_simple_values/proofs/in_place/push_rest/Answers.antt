use Rattle.std.proofs.Common.{◌≡◌, ℕ, ◌-◌, ◌*◌, ◌/◌, ◌%◌, false, Bool, List, [], ◌∷◌, ◌++◌, take, drop, replicate, sym, ap, ◌∙◌, arith}
use Rattle.std.proofs.lemmas.List.{append-nil}
use Rattle.grib_bits.specs.Bits.{bits}
use Rattle.grib_bits.proofs.OctetBits.{bits-append}
use Rattle.grib_simple_values.proofs.InPlace.{nothing_left}
use Rattle.grib_simple_values.proofs.in_place.push_rest.Goals as goal

pub returns-then-rest-eq0 : goal.returns-then-rest-eq0
returns-then-rest-eq0 c =
    let old = bits c.args.out.now.items in
    sym (append-nil old)
    ∙ ap (λ (ys : List Bool). old ++ ys) (sym (nothing_left (drop (8 * (c.args.count / 8)) (bits c.args.octets.now)) c.args.count c.if-rest-eq0.true))

pub returns : goal.returns
returns c =
    let old = c.args.out.now.items in
    let r = c.args.count % 8 in
    let pad : 8 - r ≡ (8 - r) % 8 = omega (arith, c.if-rest-eq0.false) in
    ap bits c.in_ok-push.ensures.items ∙ bits-append old (c.first_bits.result ∷ [])
    ∙ ap (λ (ys : List Bool). bits old ++ ys)
    (c.first_bits.ensures ∙ ap (λ (n : ℕ). take r (drop (8 * (c.args.count / 8)) (bits c.args.octets.now)) ++ replicate n false) pad)
