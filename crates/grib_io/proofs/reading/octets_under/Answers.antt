use Rattle.std.proofs.Common.{◌≡◌, ◌<◌, length, refl, ◌∙◌, arith, subst, sym}
use Rattle.std.specs.Prelude.{vec_len}
use Rattle.grib_io.specs.Reading.{FitsIn}
use Rattle.grib_io.proofs.Under.{begins, ends, fills, goes_on, room_fits, some_room, stays_along, stopped_before}
use Rattle.grib_io.proofs.reading.octets_under.Goals as goal

pub loop-most-init : goal.loop-most-init
loop-most-init g c = record {
  read = begins (g.H.Shelf.contents c.args.shelf.now) c.args.name.now c.in_ok-octets.octets.items;
  some = subst (λ n. 0 < n) (sym c.room_for.ensures ∙ sym c.in_ok-octets.ensures.len) (some_room c.args.most 65536 c.requires.some (omega arith));
  fits = subst (FitsIn c.args.most) (sym c.room_for.ensures ∙ sym c.in_ok-octets.ensures.len) (room_fits c.args.most 65536);
  calm = refl;
}

pub loop-most-preserved : goal.loop-most-preserved
loop-most-preserved g c = record {
  read = goes_on (g.H.Shelf.contents c.args.shelf.now) (g.H.Shelf.contents c.loop-most.shelf) (g.H.Shelf.contents c.read_on.new.shelf) c.args.name.now c.loop-most.filled c.in-Ok.count
      c.loop-most.octets.items c.read_on.new.octets.items c.loop-most.invariant.read c.in-Ok.ensures.read c.in-Ok.ensures.kept;
  some = c.in-Ok.ensures.some;
  fits = c.in-Ok.ensures.fits;
  calm = c.in-Ok.ensures.counted ∙ c.loop-most.invariant.calm;
}

pub returns-in-Ok-eq0-clause-read : goal.returns-in-Ok-eq0-clause-read
returns-in-Ok-eq0-clause-read g c =
    ends (g.H.Shelf.contents c.args.shelf.now) (g.H.Shelf.contents c.loop-most.shelf) c.args.name.now c.args.most c.loop-most.filled c.in-Ok-eq0.field-0 c.loop-most.octets.items
    c.read_on.new.octets.items c.truncate.new.self.items (sym c.asks_on.ensures ∙ c.loop-most-test.true) c.loop-most.invariant.read c.in-Ok-eq0.ensures.read c.in-Ok-eq0.field-0-test c.truncate.ensures.items

pub returns-in-Ok-eq0-clause-kept : goal.returns-in-Ok-eq0-clause-kept
returns-in-Ok-eq0-clause-kept g c = stays_along _ _ _ c.loop-most.invariant.read.kept c.in-Ok-eq0.ensures.kept

pub returns-in-Err-clause-read : goal.returns-in-Err-clause-read
returns-in-Err-clause-read g c =
    stopped_before (g.H.Shelf.contents c.args.shelf.now) (g.H.Shelf.contents c.loop-most.shelf) c.args.name.now c.loop-most.filled c.loop-most.octets.items c.in-Err.stop c.loop-most.invariant.read
    c.in-Err.ensures.read

pub returns-in-Err-clause-kept : goal.returns-in-Err-clause-kept
returns-in-Err-clause-kept g c = stays_along _ _ _ c.loop-most.invariant.read.kept c.in-Err.ensures.kept

pub returns-clause-read : goal.returns-clause-read
returns-clause-read g c =
    fills (g.H.Shelf.contents c.args.shelf.now) (g.H.Shelf.contents c.loop-most.shelf) c.args.name.now c.args.most c.loop-most.filled c.loop-most.octets.items c.requires.some
    (sym c.asks_on.ensures ∙ c.loop-most-test.false) (let same : vec_len c.loop-most.octets ≡ length c.loop-most.octets.items = omega arith in subst (FitsIn c.args.most) same c.loop-most.invariant.fits) c.loop-most.invariant.read
