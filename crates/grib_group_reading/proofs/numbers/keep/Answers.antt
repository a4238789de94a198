use Rattle.std.proofs.Common.{◌≡◌, ℕ, ◌+◌, ◌*◌, ◌++◌, ◌∷◌, [], List, Bool, length, take, get_or, sym, ap, ◌∙◌, arith, append_assoc}
use Rattle.std.proofs.lemmas.List.{length-append, length-take, take_more, append-nil}
use Rattle.grib_bits.specs.Bits.{bits, bits_of}
use Rattle.grib_bits.proofs.OctetBits.{length-bits, bits-append}
use Rattle.grib_group_reading.proofs.numbers.keep.Goals as goal

pub push-requires : goal.push-requires
push-requires c =
    let front = take c.loop-octet.octet-index c.args.octets.now in
    let long : length c.loop-octet.pending ≡ length c.args.pending.now + 8 * length front =
    ap length c.loop-octet.invariant ∙ length-append c.args.pending.now (bits front) ∙ ap (λ (n : ℕ). length c.args.pending.now + n) (length-bits front) in
    omega (arith, length-take c.loop-octet.octet-index c.args.octets.now)

pub loop-octet-preserved : goal.loop-octet-preserved
loop-octet-preserved c =
    let octets = c.args.octets.now in
    let i = c.loop-octet.octet-index in
    let front = take i octets in
    let octet = get_or octets i 0 in
    let more : bits (take (i + 1) octets) ≡ bits front ++ bits_of 8 octet =
    ap bits (take_more octets i 0 (omega arith)) ∙ bits-append front (octet ∷ []) ∙ ap (λ bs. bits front ++ bs) (append-nil (bits_of 8 octet)) in
    c.push.ensures
    ∙ ap (λ (bs : List Bool). bs ++ bits_of 8 octet) c.loop-octet.invariant
    ∙ append_assoc c.args.pending.now (bits front) (bits_of 8 octet)
    ∙ ap (λ (bs : List Bool). c.args.pending.now ++ bs) (sym more)
