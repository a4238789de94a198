use Rattle.std.proofs.Common.{◌≡◌, ◌+◌, ◌-◌, ◌≤◌, ◌∷◌, ◌++◌, length, take, drop, refl, ap, ◌∙◌, sym, arith, length-drop}
use Rattle.grib_decimal.proofs.Digits.{put_behind, one_moved, rest_stays}
use Rattle.grib_decimal.proofs.text.set_point.Goals as goal

pub loop-place-init : goal.loop-place-init
loop-place-init c =
    let none : c.args.start - c.args.start ≡ 0 = omega arith in
    record {
      moved = ap (λ k. take k (drop c.args.start c.args.buffer.now) ++ drop (c.args.start - 1) c.args.buffer.now) (sym none);
      rest = refl;
    }

pub loop-place-preserved : goal.loop-place-preserved
loop-place-preserved c =
    let l = c.loop-place in
    let back : l.place + 1 - 1 ≡ l.place = omega arith in
    record {
      moved = rw back (one_moved l.buffer c.args.buffer.now c.args.start l.place (omega arith) (omega arith) (omega arith) (omega arith) l.invariant.moved l.invariant.rest);
      rest = rest_stays l.buffer c.args.buffer.now l.place _ (omega arith) l.invariant.rest;
    }

pub returns-clause-text : goal.returns-clause-text
returns-clause-text c =
    let l = c.loop-place in
    let moved = drop c.args.start c.args.buffer.now in
    let there : l.place ≡ c.args.point = omega arith in
    let many : c.args.point - c.args.start ≤ length moved = omega (arith, length-drop c.args.start c.args.buffer.now) in
    let is : drop (c.args.start - 1) l.buffer ≡ take (c.args.point - c.args.start) moved ++ drop (c.args.point - 1) l.buffer = rw there at l.invariant.moved in
    let rest : drop c.args.point l.buffer ≡ drop c.args.point c.args.buffer.now = rw there at l.invariant.rest in
    put_behind l.buffer moved c.args.start c.args.point 46 (omega arith) (omega arith) (omega arith) many is ∙ ap (λ xs. take (c.args.point - c.args.start) moved ++ 46 ∷ xs) rest
