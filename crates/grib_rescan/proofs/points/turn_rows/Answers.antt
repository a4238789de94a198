use Rattle.std.proofs.Common.{◌≡◌, ◌+◌, ◌*◌, ◌-◌, ◌&&◌, ◌++◌, cond, take, drop, reverse, length, refl, sym, ap, ◌∙◌}
use Rattle.std.specs.List.{range_with_len, flat_map}
use Rattle.grib_rescan.specs.Scanning.{is_odd}
use Rattle.grib_rescan.specs.Points.{row_of}
use Rattle.grib_rescan.proofs.Rows.{part_length}
use Rattle.grib_rescan.proofs.Runs.{IsRead}
use Rattle.grib_rescan.proofs.Turned.{row_in_place, row_placed, after_turn, after_none, old_size}
use Rattle.grib_rescan.proofs.points.turn_rows.Goals as goal
use Rattle.grib_rescan.proofs.points.turn_rows.Goals.{then-scanning, else-scanning, then-from_west-scanning, else-from_west-scanning}

pub loop-row-preserved : goal.loop-row-preserved
loop-row-preserved c =
    let s = c.args.scanning in
    let ni = c.args.columns in
    let nj = c.args.rows in
    let points = c.args.points.now in
    let row = c.loop-row.row in
    let place = c.turn-place.result in
    let turns : c.if-scanning.turns ≡ (s.alternates && is_odd place) =
    elim c.if-scanning.branch [ then-scanning w ↦ w.turns-is ∙ rw w.if-scanning.true refl | else-scanning w ↦ w.turns-is ∙ rw w.if-scanning.false refl ] in
    let old = cond s.northward (reverse points) points in
    let f = row_of s ni nj old 0 ni in
    let done = flat_map f (range_with_len 0 row) in
    let size : length done ≡ row * ni = part_length s ni nj old 0 ni 0 row in
    let read : IsRead s ni nj old row place c.if-scanning.turns = record {
      rows = c.requires.rows_stand;
      size = old_size s.northward points ∙ c.requires.length;
      within = c.loop-row-test.true;
      row_stands = c.turn-place.ensures.place;
      turns_stand = turns;
    } in
    let placed = row_in_place s ni nj points old row place c.if-scanning.turns refl read in
    let run = take ni (drop (row * ni) points) in
    elim c.if-from_west-scanning.branch [
      | then-from_west-scanning w ↦ row_placed f ni row points _ (reverse run) (ap (λ b. cond b (reverse run) run) (sym w.if-from_west-scanning.true) ∙ placed)
          (w.points-is ∙ ap (λ ys. take (row * ni) c.loop-row.points ++ (ys ++ drop (row * ni + ni - row * ni) (drop (row * ni) c.loop-row.points))) w.reverse.ensures.after
          ∙ after_turn points done c.loop-row.points (row * ni) (row * ni + ni) ni c.loop-row.invariant size refl)
      | else-from_west-scanning w ↦ row_placed f ni row points _ run (ap (λ b. cond b (reverse run) run) (sym w.if-from_west-scanning.false) ∙ placed)
          (w.points-is ∙ after_none points done c.loop-row.points (row * ni) ni c.loop-row.invariant)
    ]
