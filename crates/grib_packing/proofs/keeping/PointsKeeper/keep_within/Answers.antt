use Rattle.std.proofs.Common.{◌-◌, refl, arith}
use Rattle.grib_packing.proofs.Masks.{are_kept}
use Rattle.grib_packing.proofs.keeping.PointsKeeper.keep_within.Goals as goal

pub returns-clause-kept : goal.returns-clause-kept
returns-clause-kept c = record {
  keeps = λ mask seen room are.
      let before = c.args.self in
      let after = record before { points = c.push_in_room.new.items; left = before.left - 1 } in
      are_kept mask seen before after c.args.point are (omega arith) refl refl
      (c.push_in_room.ensures.items (omega (arith, are.within, are.memory, before.points.ok.0))) c.push_in_room.ensures.capacity;
}
