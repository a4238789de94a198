use Rattle.std.proofs.Common.{List, ℕ, ◌++◌, ap, ◌∙◌}
use Rattle.grib_keys.specs.Keys1.{keys1}
use Rattle.grib_text.specs.KeyLines.{numbers_text}
use Rattle.grib_text.proofs.first.keys_text1.Goals as goal

pub returns : goal.returns
returns c =
    let text = numbers_text c.args.message.now keys1 in
    c.in_ok-write_numbers.ensures ∙ ap (λ (xs : List ℕ). xs ++ text) c.in_ok-text.ensures.ok
