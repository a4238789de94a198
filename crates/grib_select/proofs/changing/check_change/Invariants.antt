use Rattle.std.proofs.Common.{◌≡◌, ◌+◌, ◌-◌}
use Rattle.std.specs.List.{range_with_len}
use Rattle.grib2_message.specs.Fields.{field_count}
use Rattle.grib_select.specs.Changed.{first_without}
use Rattle.grib_select.proofs.changing.check_change.Given as goal

-- the fields so far have the key
abbrev pub invariant-loop-field : goal.invariant-loop-field
invariant-loop-field l =
    first_without l.message l.key (range_with_len 1 (field_count l.message)) ≡ first_without l.message l.key (range_with_len l.field (field_count l.message + 1 - l.field))
