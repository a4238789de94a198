use Rattle.std.proofs.Common.{◌≡◌, true, false, length, rules}
use Rattle.std.specs.Prelude.{◌==◌}
use Rattle.std.specs.Char.{is_ascii_digit}
use Rattle.std.specs.List.{list_all}
use Rattle.grib_params.proofs.Numbers.{begins-otherwise}
use Rattle.grib_params.proofs.number.is_number.Goals as goal

pub returns-then-field-ne48 : goal.returns-then-field-ne48
returns-then-field-ne48 c =
    let here : (length c.args.field.now == 0) ≡ false = search rules in
    let digits : list_all is_ascii_digit c.args.field.now ≡ true = search rules in
    begins-otherwise c.args.field.now here digits c.if-field-ne48.true
