use Rattle.std.proofs.Common.{◌≡◌, ◌+◌, ◌≤◌, ◌<◌, All, length, map, sum_by}
use Rattle.std.specs.List.{range_with_len}
use Rattle.grib2_message.specs.Assembled.{IsShort}
use Rattle.grib_repack.specs.Lengths.{kept_length}
use Rattle.grib_least.specs.Least.{least_form, size_of}
use Rattle.grib_least.proofs.choosing.least_forms.Given as goal

abbrev pub invariant-loop-before : goal.invariant-loop-before
invariant-loop-before l = record {
  forms : l.forms.items ≡ map (least_form l.profile l.message) (range_with_len 1 l.before);
  short : All IsShort l.forms.items;
  total : l.total ≡ kept_length l.message + sum_by size_of (map (least_form l.profile l.message) (range_with_len 1 l.before));
  few : l.total ≤ 268435456;
  less : 1 ≤ l.before → l.total < length l.message;
}
