use Rattle.std.proofs.Common.{◌≡◌, ◌++◌}
use Rattle.grib_file.specs.Entries.{entries_in}
use Rattle.grib_file.proofs.entries.push_fields.Given as goal

-- this many of the fields stand behind the others
abbrev pub invariant-loop-index : goal.invariant-loop-index
invariant-loop-index l = l.entries.items ≡ l.fn.entries.items ++ entries_in l.start l.span.length l.index
