use Rattle.std.proofs.Common.{◌≡◌, ℕ, List, None, Some, sym, ap, ◌∙◌, lit<, rules, tests}
use Rattle.std.specs.Prelude.{option_map}
use Rattle.std.specs.Option.{option_and_then}
use Rattle.grib_keys.specs.declared.key.Key.{Key}
use Rattle.grib_keys.specs.Keys.{key_named}
use Rattle.grib_words.specs.Values.{key_value}
use Rattle.grib_words.specs.Reading.{name_in, value_in}
use Rattle.grib_words.specs.Words.{change, change_of}
use Rattle.grib_words.proofs.Parts.{no_change, change_read}
use Rattle.grib_words.proofs.changes.change_of.Goals as goal

pub returns-in_err-name : goal.returns-in_err-name
returns-in_err-name c = c.from_residual.ensures ∙ no_change c.args.word.now (c.in_err-name.ensures.byte (lit< tt) (λ w o found. found))

-- a key without a value
unvalued : (word : List ℕ) (key : Key) → key_named (name_in word) ≡ Some key → key_value (value_in word) ≡ None → None ≡ change_of word
unvalued word key named none =
    sym (ap (option_and_then (λ k. option_map (change k) (key_value (value_in word)))) named ∙ ap (option_map (change key)) none)

pub returns-in_err-value : goal.returns-in_err-value
returns-in_err-value c =
    let name : c.in_ok-name.name.now ≡ name_in c.args.word.now = search (rules, tests) in
    let value : c.in_ok-name.value.now ≡ value_in c.args.word.now = search (rules, tests) in
    let named : key_named (name_in c.args.word.now) ≡ Some c.in_ok-key.key = ap key_named (sym name) ∙ (sym c.of.ensures ∙ c.in_ok-key.was) in
    let none : key_value (value_in c.args.word.now) ≡ None = ap key_value (sym value) ∙ (sym c.key_value.ensures ∙ c.in_err-value.was) in
    c.from_residual-in_err-value.ensures ∙ unvalued c.args.word.now c.in_ok-key.key named none

pub returns : goal.returns
returns c =
    let name : c.in_ok-name.name.now ≡ name_in c.args.word.now = search (rules, tests) in
    let value : c.in_ok-name.value.now ≡ value_in c.args.word.now = search (rules, tests) in
    let named : key_named (name_in c.args.word.now) ≡ Some c.in_ok-key.key = ap key_named (sym name) ∙ (sym c.of.ensures ∙ c.in_ok-key.was) in
    let valued : key_value (value_in c.args.word.now) ≡ Some c.in_ok-value.value = ap key_value (sym value) ∙ (sym c.key_value.ensures ∙ c.in_ok-value.was) in
    change_read c.args.word.now c.in_ok-key.key c.in_ok-value.value named valued
