use Rattle.std.proofs.Common.{◌≡◌, ℕ, ◌+◌, ◌-◌, ◌%◌, ◌<◌, ◌≤◌, arith}
use Rattle.grib_split.proofs.Lanes.{apart_lane}
use Rattle.grib_split.proofs.slots.places_apart.Goals as goal

wrapped : (high low : ℕ) → low ≤ high → high < 4294967296 → (high + (4294967296 - low)) % 4294967296 ≡ high - low
wrapped high low order small = omega arith

pub returns : goal.returns
returns c place from to unset =
    apart_lane _ c.args.greatest.now c.args.least.now c.args.limit.now c.args.from place c.requires.from c.requires.greatest c.requires.least c.requires.limit from to
    (let word = c.type_inv.greatest place in wrapped _ _ (c.requires.ordered place from to) (omega (arith, word.fits))) unset
