use Rattle.std.proofs.Common.{◌≡◌, drop}
use Rattle.grib_text.specs.Named.{has_field_name_of}
use Rattle.grib_edit.proofs.filtering.is_named.Given as goal

-- the answer is that of the names that are left
abbrev pub invariant-loop-name : goal.invariant-loop-name
invariant-loop-name l = has_field_name_of l.names l.message l.field l.wanted ≡ has_field_name_of l.names l.message l.field (drop l.name-index l.wanted)
