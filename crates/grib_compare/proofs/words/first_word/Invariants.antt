use Rattle.std.proofs.Common.{◌≡◌, ◌+◌, drop}
use Rattle.grib_compare.specs.Fields.{octet_from}
use Rattle.grib_compare.proofs.words.first_word.Given as goal

-- the words so far are the same
abbrev pub invariant-loop-i : goal.invariant-loop-i
invariant-loop-i l = octet_from 1 l.left l.right ≡ octet_from (l.i + 1) (drop l.i l.left) (drop l.i l.right)
