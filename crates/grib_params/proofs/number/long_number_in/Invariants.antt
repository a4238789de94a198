use Rattle.std.proofs.Common.{◌≡◌, ◌<◌, true, drop}
use Rattle.std.specs.List.{fold, list_all}
use Rattle.std.specs.Char.{is_ascii_digit}
use Rattle.grib_params.specs.Fields.{decimal, is_number, with_digit}
use Rattle.grib_params.proofs.number.long_number_in.Given as goal

-- the digits from here on, behind the number so far, spell the number of the field
abbrev pub invariant-loop-octet : goal.invariant-loop-octet
invariant-loop-octet l = record {
  spelled : is_number l.field ≡ true;
  digits : list_all is_ascii_digit (drop l.octet-index l.field) ≡ true;
  small : l.number < 4294967296;
  so_far : fold with_digit l.number (drop l.octet-index l.field) ≡ decimal l.field;
}
