use Rattle.std.proofs.Common.{◌≡◌, map}
use Rattle.grib_words.proofs.columns.names_in.Given as goal

-- the names so far
abbrev pub invariant-loop-element : goal.invariant-loop-element
invariant-loop-element l = l.names.items ≡ map (λ element. element.now) l.yielded
