use Rattle.std.proofs.Common.{◌*◌, ◌/◌, refl, arith}
use Rattle.grib_split.proofs.Parts.{seen_first, seen_more, taken_first}
use Rattle.grib_split.proofs.slots.Slots.take_number.Goals as goal

pub loop-seen-init : goal.loop-seen-init
loop-seen-init c =
    let t = c.take_part-places.ensures in
    record {
      first = refl;
      seen = seen_first c.args.narrow c.args.self.now c.take_part-places.new.self c.args.number (c.args.start / 16 * 16) c.take_part-places.result
          (omega (arith, c.requires.start)) t.here t.others t.marks t.limit t.after;
    }

pub loop-seen-preserved : goal.loop-seen-preserved
loop-seen-preserved c =
    let l = c.loop-seen in
    let t = c.take_part-places-in-loop-seen.ensures in
    record {
      first = refl;
      seen = seen_more c.args.narrow c.args.self.now l.self c.take_part-places-in-loop-seen.new.self c.args.number (c.args.start / 16 * 16) l.seen l.places c.take_part-places-in-loop-seen.result
          (omega (arith, c.requires.start)) (omega arith) c.loop-seen-test.true l.invariant.seen t.here t.others t.marks t.limit t.after;
    }

pub returns-else-misses-clause-least : goal.returns-else-misses-clause-least
returns-else-misses-clause-least c place within =
    let l = c.loop-seen in
    (taken_first c.args.narrow c.args.self.now l.self c.args.number c.args.start (c.args.start / 16 * 16) l.seen l.places c.requires.start refl c.loop-seen-test.true c.requires.nested l.invariant.seen
    (c.misses.ensures c.if-misses.false) place within).least

pub returns-else-misses-clause-greatest : goal.returns-else-misses-clause-greatest
returns-else-misses-clause-greatest c place within =
    let l = c.loop-seen in
    (taken_first c.args.narrow c.args.self.now l.self c.args.number c.args.start (c.args.start / 16 * 16) l.seen l.places c.requires.start refl c.loop-seen-test.true c.requires.nested l.invariant.seen
    (c.misses.ensures c.if-misses.false) place within).greatest

pub returns-else-misses-clause-settled : goal.returns-else-misses-clause-settled
returns-else-misses-clause-settled c place within =
    let l = c.loop-seen in
    (taken_first c.args.narrow c.args.self.now l.self c.args.number c.args.start (c.args.start / 16 * 16) l.seen l.places c.requires.start refl c.loop-seen-test.true c.requires.nested l.invariant.seen
    (c.misses.ensures c.if-misses.false) place within).settled
