use Rattle.std.proofs.Common.{◌≡◌, ◌+◌, ◌<◌, ◌≤◌, ℕ, None, IfSome}
use Rattle.grib_command.specs.Command.{texts_from}
use Rattle.grib_compare.specs.Command.{counterpart, on_counterpart, compare_line, field_compared, differing_beside, differing_from}
use Rattle.grib_compare.specs.Seen.{readable_octets, IsOfField}
use Rattle.grib_compare.proofs.comparing.Comparing.lines.Given as goal

-- the lines of the fields so far, of which no counterpart has a cause
abbrev pub invariant-loop-index : goal.invariant-loop-index
invariant-loop-index l = record {
  clear : (j : ℕ) → j < l.index → on_counterpart (counterpart l.self.file.now.fields l.place (1 + j)) (1 + j) ≡ None;
  text : l.lines.text.items ≡ texts_from (compare_line l.self.sections l.self.quiet l.self.file.now.fields l.place (readable_octets l.message)) l.index 1;
  count : l.lines.differing ≡ differing_from (λ i. differing_beside (field_compared l.self.sections l.self.file.now.fields l.place (readable_octets l.message) i)) l.index 1;
  few : l.lines.differing ≤ l.index;
  stands : IfSome l.last (IsOfField l.self.file.now.fields (readable_octets l.message));
}
