use Rattle.std.proofs.Common.{◌≡◌, ℕ, List, ◌++◌, codes, ap, ◌∙◌, append_assoc}
use Rattle.std.specs.Fmt.{decimal}
use Rattle.grib_keys.specs.Keys.{keys}
use Rattle.grib_text.specs.KeyLines.{words_text}
use Rattle.grib_text.proofs.second.keys_text.Goals as goal

regroup : (m d i e w : List ℕ) → (m ++ (d ++ (i ++ e))) ++ w ≡ m ++ d ++ i ++ e ++ w
regroup m d i e w = simp append_assoc

pub returns : goal.returns
returns c =
    let text = words_text c.args.message.now c.args.field keys in
    c.in_ok-write_words.ensures ∙ ap (λ (xs : List ℕ). xs ++ text) c.in_ok-text.ensures.ok
    ∙ regroup (decimal c.args.number) (codes ".") (decimal c.args.field) (codes " ed=2") text
