use Rattle.std.proofs.Common.{◌≡◌, ◌+◌, ◌*◌, ◌++◌, replicate, false}
use Rattle.grib_simple.proofs.writing.put_zeros.Given as goal

abbrev pub invariant-loop-word : goal.invariant-loop-word
invariant-loop-word l = record {
  bits : l.out.bits ≡ l.initial.out.bits ++ replicate (64 * l._word) false;
  spare : l.out.spare + 64 * l._word ≡ l.initial.out.spare;
}
