use Rattle.std.proofs.Common.{◌≤◌, ◌*◌, Some, length, ap, sym, ◌∙◌, rules, tests, arith}
use Rattle.grib_numbers.proofs.Fractions.{parsed, no_fraction, a_fraction, small}
use Rattle.grib_numbers.proofs.degrees.fraction_of.Goals as goal

pub returns-in_err-digits-clause-value : goal.returns-in_err-digits-clause-value
returns-in_err-digits-clause-value c =
    let text = c.args.text.now in
    let begins = rw c.as_bytes.ensures.value at (sym c.begins_with_digit.ensures ∙ c.if-not-begins_with_digit.false) in
    let short : length text ≤ 6 = search (rules, tests) in
    c.from_residual.ensures
    ∙ no_fraction text (sym (parsed text c.parse.result c.parse.ensures.value.0 begins short) ∙ (sym c.ok.ensures.value ∙ c.in_err-digits.was))

pub overflow_mul-result : goal.overflow_mul-result
overflow_mul-result c =
    let text = c.args.text.now in
    let begins = rw c.as_bytes.ensures.value at (sym c.begins_with_digit.ensures ∙ c.if-not-begins_with_digit.false) in
    let short : length text ≤ 6 = search (rules, tests) in
    let number = sym (parsed text c.parse.result c.parse.ensures.value.0 begins short) ∙ (sym c.ok.ensures.value ∙ c.in_ok-digits.was) in
    let few = small text c.in_ok-digits.digits number short in
    rw c.pow.ensures (record { fits = omega (arith, few) })

pub returns-clause-value : goal.returns-clause-value
returns-clause-value c =
    let text = c.args.text.now in
    let begins = rw c.as_bytes.ensures.value at (sym c.begins_with_digit.ensures ∙ c.if-not-begins_with_digit.false) in
    let short : length text ≤ 6 = search (rules, tests) in
    let number = sym (parsed text c.parse.result c.parse.ensures.value.0 begins short) ∙ (sym c.ok.ensures.value ∙ c.in_ok-digits.was) in
    ap (λ tens. Some (c.in_ok-digits.digits * tens)) c.pow.ensures ∙ a_fraction text c.in_ok-digits.digits number

pub returns-clause-few : goal.returns-clause-few
returns-clause-few c =
    let text = c.args.text.now in
    let begins = rw c.as_bytes.ensures.value at (sym c.begins_with_digit.ensures ∙ c.if-not-begins_with_digit.false) in
    let short : length text ≤ 6 = search (rules, tests) in
    let number = sym (parsed text c.parse.result c.parse.ensures.value.0 begins short) ∙ (sym c.ok.ensures.value ∙ c.in_ok-digits.was) in
    let few = small text c.in_ok-digits.digits number short in
    rw c.pow.ensures few
