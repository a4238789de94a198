use Rattle.std.proofs.Common.{◌≡◌, ◌+◌, ◌-◌, ◌*◌, ◌<◌, length, take, drop, ap, arith}
use Rattle.std.specs.Prelude.{slice_index}
use Rattle.grib_base.specs.declared.code.Code.TheVariants.{Present}
use Rattle.grib_packing.specs.Groupings.{width_of}
use Rattle.grib_split.specs.Costs.{header_of}
use Rattle.grib_split.proofs.Looks.{below_at, span_more, least_more, none_fewer_run}
use Rattle.grib_split.proofs.bound.best_of.Goals as goal

pub width-requires-clause-small : goal.width-requires-clause-small
width-requires-clause-small c =
    let q = c.requires in
    c.with-span.ensures.small c.args.costs.now.reserved c.loop-at.invariant.small
    (below_at c.args.costs.now.reserved c.args.codes.now (c.args.from + c.loop-at.at) c.at-code.result q.split.codes (omega (arith, c.loop-at-test.true, q.fits)) (c.at-code.ensures (Present 0)))

pub loop-at-preserved : goal.loop-at-preserved
loop-at-preserved c =
    let q = c.requires in
    let i = c.loop-at.invariant in
    let costs = c.args.costs.now in
    let codes = c.args.codes.now in
    let from = c.args.from in
    let at = c.loop-at.at in
    let run = drop from codes in
    let rest = c.args.rest.now in
    let within : from + at < length codes = omega (arith, c.loop-at-test.true, q.fits) in
    let below = below_at costs.reserved codes (from + at) c.at-code.result q.split.codes within (c.at-code.ensures (Present 0)) in
    let span = span_more c.with-span.result c.at-code.result (Present 0) codes from at (c.at-code.ensures (Present 0)) within
    (c.with-span.ensures.span (take at run) i.span) in
    let width : c.width.result ≡ width_of costs.reserved (take (at + 1) run) = c.width.ensures.is (take (at + 1) run) span in
    let numbers : (at + 1) * c.width.result ≡ (at + 1) * width_of costs.reserved (take (at + 1) run) = ap (λ w. (at + 1) * w) width in
    let place : c.args.count - 1 - at ≡ c.args.count - (at + 1) = omega arith in
    let behind : slice_index rest (c.args.count - 1 - at) ≡ slice_index rest (c.args.count - (at + 1)) = ap (slice_index rest) place in
    record {
      span = span;
      ordered = c.with-span.ensures.ordered i.ordered;
      small = c.with-span.ensures.small costs.reserved i.small below;
      few = omega (arith, c.min-best.ensures, i.few);
      least = least_more (λ n. header_of costs + n * width_of costs.reserved (take n run) + slice_index rest (c.args.count - n)) c.loop-at.best _ c.min-best.result at
          c.min-best.ensures (omega (arith, numbers, behind)) i.least;
    }

pub returns-clause-bits : goal.returns-clause-bits
returns-clause-bits c =
    let q = c.requires in
    none_fewer_run (header_of c.args.costs.now) (width_of c.args.costs.now.reserved) c.args.codes.now c.args.from c.args.count c.loop-at.best c.args.rest.now q.some q.fits
    (λ l some short. c.loop-at.invariant.least l some (omega (arith, short, c.loop-at-test.false))) q.rest
