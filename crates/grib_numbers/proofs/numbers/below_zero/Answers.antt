use Rattle.std.proofs.Common.{sym, ◌∙◌}
use Rattle.grib_numbers.proofs.Parsed.{negative}
use Rattle.grib_numbers.proofs.numbers.below_zero.Goals as goal

pub returns-then-begins_below_zero : goal.returns-then-begins_below_zero
returns-then-begins_below_zero c =
    let begins = rw c.as_bytes.ensures.value at (sym c.begins_below_zero.ensures ∙ c.if-begins_below_zero.true) in
    c.ok.ensures.value ∙ negative c.args.text.now c.parse.result c.parse.ensures.value.0 begins
