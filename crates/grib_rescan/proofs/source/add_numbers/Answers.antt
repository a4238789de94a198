use Rattle.std.proofs.Common.{◌≡◌, ◌-◌, ◌*◌, ◌<◌, ◌^◌, ◌++◌, ℕ, map, drop, ap, ◌∙◌, sym, subst, arith}
use Rattle.grib_bits.specs.Bits.{bits}
use Rattle.grib_bits.proofs.WordNumbers.{number-lt_48}
use Rattle.grib_simple_reading.specs.Part.{plain_from}
use Rattle.grib_rescan.proofs.Added.{scaled, number_added, none_added}
use Rattle.grib_rescan.proofs.source.add_numbers.Goals as goal

pub scaled_point-requires : goal.scaled_point-requires
scaled_point-requires c = subst (λ (n : ℕ). n < 2 ^ 48) (sym c.get_bits.ensures) (number-lt_48 c.args.bits (drop (c.loop-index.index * c.from.result) (bits c.args.octets.now)) c.requires.width)

pub loop-index-init : goal.loop-index-init
loop-index-init c = none_added (bits c.args.octets.now) c.args.bits c.args.from c.args.out.now.items

pub loop-index-preserved : goal.loop-index-preserved
loop-index-preserved c =
    number_added (bits c.args.octets.now) c.args.bits c.args.from c.loop-index.index _ _ _ c.args.out.now.items c.loop-index.out.items c.push.new.self.items
    (omega arith) c.loop-index.invariant (ap (λ (w : ℕ). c.loop-index.index * w) c.from.ensures) c.get_bits.ensures c.scaled_point.ensures c.in_ok-push.ensures.items

pub returns : goal.returns
returns c =
    let last : c.loop-index.index - c.args.from ≡ c.args.count = omega arith in
    c.loop-index.invariant ∙ ap (λ (n : ℕ). c.args.out.now.items ++ map scaled (plain_from (bits c.args.octets.now) c.args.bits c.args.from n)) last
