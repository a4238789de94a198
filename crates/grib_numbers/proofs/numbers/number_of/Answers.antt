use Rattle.std.proofs.Common.{sym, ◌∙◌}
use Rattle.grib_numbers.proofs.Parsed.{unsigned}
use Rattle.grib_numbers.proofs.numbers.number_of.Goals as goal

pub returns-then-begins_from_one : goal.returns-then-begins_from_one
returns-then-begins_from_one c =
    let begins = rw c.as_bytes.ensures.value at (sym c.begins_from_one.ensures ∙ c.if-begins_from_one.true) in
    c.ok.ensures.value ∙ unsigned c.args.text.now c.parse.result c.parse.ensures.value.0 begins
