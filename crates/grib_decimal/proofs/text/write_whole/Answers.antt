use Rattle.std.proofs.Common.{◌≡◌, ◌++◌, [], drop, length, ap, ◌∙◌, append-nil, arith}
use Rattle.std.proofs.lemmas.List.{drop_all}
use Rattle.std.specs.Fmt.{decimal}
use Rattle.grib_decimal.proofs.Digits.{few_digits}
use Rattle.grib_decimal.proofs.text.write_whole.Goals as goal

pub write_digits-requires : goal.write_digits-requires
write_digits-requires c = (omega (arith, few_digits c.in-Ok.number (omega (arith, c.in-Ok.ensures))), omega arith)

pub returns-in-Ok-clause-room : goal.returns-in-Ok-clause-room
returns-in-Ok-clause-room c = omega (arith, few_digits c.in-Ok.number (omega (arith, c.in-Ok.ensures)))

pub returns-in-Ok-clause-digits : goal.returns-in-Ok-clause-digits
returns-in-Ok-clause-digits c =
    let none : drop 48 c.args.buffer.now ≡ [] = drop_all 48 c.args.buffer.now (omega arith) in
    let same = c.in-Ok.ensures in
    c.write_digits.ensures.written ∙ ap (λ xs. decimal c.in-Ok.number ++ xs) none ∙ append-nil (decimal c.in-Ok.number) ∙ ap decimal same.1

pub returns-clause-room : goal.returns-clause-room
returns-clause-room c = omega (arith, few_digits c.args.number c.requires, ap length c.format.ensures.text, ap length c.as_bytes-digits.ensures.value)
