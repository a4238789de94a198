use Rattle.std.proofs.Common.{refl, arith}
use Rattle.grib_packing.proofs.Masks.{are_kept}
use Rattle.grib_packing.proofs.keeping.Points.keep_next.Goals as goal

pub returns : goal.returns
returns c = record {
  keeps = λ mask seen room are.
      let at = c.skip_missing-points.result in
      let here = c.skip_missing-points.ensures mask seen (omega arith) are in
      let after = record at { points = c.push_in_room.new.items; left = c.saturating_sub.result } in
      are_kept mask seen at after c.args.point here.0 here.1 refl c.saturating_sub.ensures
      (c.push_in_room.ensures.items (omega (arith, here.0.within, here.0.memory, here.1, at.points.ok.0))) c.push_in_room.ensures.capacity;
}
