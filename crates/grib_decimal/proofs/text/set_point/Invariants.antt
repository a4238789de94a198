use Rattle.std.proofs.Common.{◌≡◌, ◌-◌, ◌++◌, take, drop}
use Rattle.grib_decimal.proofs.text.set_point.Given as goal

abbrev pub invariant-loop-place : goal.invariant-loop-place
invariant-loop-place l = record {
  moved : drop (l.start - 1) l.buffer ≡ take (l.place - l.start) (drop l.start l.initial.buffer) ++ drop (l.place - 1) l.buffer;
  rest : drop l.place l.buffer ≡ drop l.place l.initial.buffer;
}
