use Rattle.std.proofs.Common.{◌≡◌, ◌+◌, ◌-◌}
use Rattle.grib_compare.specs.Fields.{by_sections, by_sections_from}
use Rattle.grib_compare.specs.Seen.{readable_field}
use Rattle.grib_compare.proofs.readable.Readable.compare_sections.Given as goal

-- the sections so far are the same
abbrev pub invariant-loop-index : goal.invariant-loop-index
invariant-loop-index l =
    by_sections (readable_field l.self l.field) (readable_field l.other l.other_field)
    ≡ by_sections_from (4 - l.index) (l.index + 1) (readable_field l.self l.field) (readable_field l.other l.other_field)
