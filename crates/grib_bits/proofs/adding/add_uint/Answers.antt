use Rattle.std.proofs.Common.{ℕ, ◌-◌, List, ◌++◌, ◌∙◌, ap, take, drop}
use Rattle.grib_bits.proofs.Encoding.{last_octets}
use Rattle.grib_bits.proofs.adding.add_uint.Goals as goal

pub returns : goal.returns
returns c =
    let at = 8 - c.args.size in
    c.in_ok-extend_from_slice.ensures.items
    ∙ ap (λ (xs : List ℕ). c.args.out.now.items ++ take (8 - at) (drop at xs)) c.to_be_bytes-octets.ensures
    ∙ ap (λ (xs : List ℕ). c.args.out.now.items ++ xs) (last_octets c.args.size c.args.value c.requires)
