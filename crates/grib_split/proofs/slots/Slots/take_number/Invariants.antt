use Rattle.std.proofs.Common.{◌≡◌, ◌-◌, ◌*◌, ◌/◌}
use Rattle.grib_split.proofs.Parts.{Seen}
use Rattle.grib_split.proofs.slots.Slots.take_number.Given as goal

abbrev pub invariant-loop-seen : goal.invariant-loop-seen
invariant-loop-seen l = record {
  first : l.first ≡ l.start / 16 * 16;
  seen : Seen l.narrow l.fn.self l.self l.number l.first l.seen l.places;
}

abbrev pub decreases-loop-seen : goal.decreases-loop-seen
decreases-loop-seen l = 64 - l.seen
