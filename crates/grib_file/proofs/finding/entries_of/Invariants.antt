use Rattle.std.proofs.Common.{◌-◌, length}
use Rattle.grib_file.specs.Finding.{FoundSoFar}
use Rattle.grib_file.proofs.finding.entries_of.Given as goal

-- the messages before this place were found
abbrev pub invariant-loop-start : goal.invariant-loop-start
invariant-loop-start l = FoundSoFar l.profile l.octets l.place l.messages l.entries.items

abbrev pub decreases-loop-start : goal.decreases-loop-start
decreases-loop-start l = length l.octets - l.place
