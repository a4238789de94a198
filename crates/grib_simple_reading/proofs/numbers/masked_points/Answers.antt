use Rattle.std.proofs.Common.{◌≡◌, ◌+◌, ◌-◌, ◌++◌, ℕ, cond, map, drop, pos, ap, ◌∙◌, arith}
use Rattle.grib_bits.specs.Bits.{bits}
use Rattle.std.proofs.lemmas.List.{length-map}
use Rattle.std.proofs.lemmas.List.FromFn.{length-map-range_with_len}
use Rattle.grib_bits.specs.Plain.{plain, plain_at}
use Rattle.grib_bitmap.specs.Mask.{present_count}
use Rattle.grib_packing.specs.declared.column.Point.{Point}
use Rattle.grib_packing.specs.declared.column.Point.TheVariants.{Scaled}
use Rattle.grib_simple_reading.specs.Part.{plain_from}
use Rattle.grib_simple_reading.proofs.Masked.{run_of_points, run_of_missing, present_after, entries_part}
use Rattle.grib_simple_reading.proofs.numbers.masked_points.Goals as goal
use Rattle.grib_simple_reading.proofs.numbers.masked_points.Goals.{then-run+in_ok-push_numbers, else-run+in_ok-push_same}

pub loop-place-preserved : goal.loop-place-preserved
loop-place-preserved c =
    let mask = c.args.mask.now in
    let xs = bits c.args.octets.now in
    let count = present_count mask in
    let f : ℕ → Point = λ x. Scaled (pos x) in
    let entries = map f (plain xs c.args.bits count) in
    let place = c.loop-place.place in
    let taken = c.loop-place.taken in
    let n = c.run-run.result.length in
    let after = present_after mask place n c.run-run.result.present c.run-run.ensures.same in
    elim c.if-run.branch [
      | then-run+in_ok-push_numbers w ↦
          let taken_more : taken + n + present_count (drop (place + n) mask) ≡ count =
          omega (arith, c.loop-place.invariant.taken, after ∙ ap (λ b. cond b n 0 + present_count (drop (place + n) mask)) w.if-run.true) in
          let part = map f (plain_from xs c.args.bits taken n) in
          let length_is : taken + n - taken ≡ n = omega arith in
          let added : w.push_numbers.new.items.items ≡ c.loop-place.points.items ++ part =
          w.in_ok-push_numbers.ensures ∙ ap (λ (k : ℕ). c.loop-place.points.items ++ map f (plain_from xs c.args.bits taken k)) length_is in
          rw (w.points-is, w.taken-is) (record {
            within = c.run-run.ensures.within;
            taken = taken_more;
            points = run_of_points mask entries place taken n c.run-run.result.present c.loop-place.points.items w.push_numbers.new.items.items c.run-run.ensures.same c.loop-place.invariant.points
                w.if-run.true part (length-map (plain_from xs c.args.bits taken n) f ∙ length-map-range_with_len (plain_at xs c.args.bits) taken n) (entries_part f xs c.args.bits count taken n (omega (arith, taken_more))) added;
          })
      | else-run+in_ok-push_same w ↦
          let taken_same : taken + present_count (drop (place + n) mask) ≡ count =
          omega (arith, c.loop-place.invariant.taken, after ∙ ap (λ b. cond b n 0 + present_count (drop (place + n) mask)) w.if-run.false) in
          rw (w.points-is, w.taken-is) (record {
            within = c.run-run.ensures.within;
            taken = taken_same;
            points = run_of_missing mask entries place taken n c.run-run.result.present c.loop-place.points.items w.push_same.new.items.items c.run-run.ensures.same c.loop-place.invariant.points
                w.if-run.false w.in_ok-push_same.ensures;
          })
    ]
