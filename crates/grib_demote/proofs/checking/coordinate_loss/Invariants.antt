use Rattle.std.proofs.Common.{◌≡◌, ◌+◌, ◌≤◌, drop}
use Rattle.grib_demote.specs.Losses as losses
use Rattle.grib_demote.proofs.checking.coordinate_loss.Given as goal

abbrev pub invariant-loop-word : goal.invariant-loop-word
invariant-loop-word l =
    (l.place ≡ l.word-index)
    × (losses.coordinate_loss l.coordinates ≡ losses.coordinate_loss_from (l.word-index + 1) (drop l.word-index l.coordinates))
    × (l.word-index ≤ 255)
