use Rattle.std.proofs.Common.{◌≡◌, ℕ, List, None, Some, sym, ap, ◌∙◌, FitsSigned, w64, to_z-of_z, lit<, rules, tests}
use Rattle.std.specs.Prelude.{option_map}
use Rattle.std.specs.Option.{option_and_then}
use Rattle.grib_keys.specs.declared.key1.Key1.{Key1}
use Rattle.grib_keys.specs.Keys1.{key1_named}
use Rattle.grib_numbers.specs.Numbers.{signed_number}
use Rattle.grib_words.specs.Reading.{name_in, value_in}
use Rattle.grib_words.specs.Words.{change1, change1_of}
use Rattle.grib_words.proofs.Parts.{no_change1, change1_read}
use Rattle.grib_words.proofs.changes.change1_of.Goals as goal

pub returns-in_err-name : goal.returns-in_err-name
returns-in_err-name c = c.from_residual.ensures ∙ no_change1 c.args.word.now (c.in_err-name.ensures.byte (lit< tt) (λ w o found. found))

-- a key without a number
unvalued : (word : List ℕ) (key : Key1) → key1_named (name_in word) ≡ Some key → signed_number (value_in word) ≡ None → None ≡ change1_of word
unvalued word key named none =
    sym (ap (option_and_then (λ k. option_map (change1 k) (signed_number (value_in word)))) named ∙ ap (option_map (change1 key)) none)

pub returns-in_err-value : goal.returns-in_err-value
returns-in_err-value c =
    let name : c.in_ok-name.name.now ≡ name_in c.args.word.now = search (rules, tests) in
    let value : c.in_ok-name.value.now ≡ value_in c.args.word.now = search (rules, tests) in
    let named : key1_named (name_in c.args.word.now) ≡ Some c.in_ok-key.key = ap key1_named (sym name) ∙ (sym c.of.ensures ∙ c.in_ok-key.was) in
    let none : signed_number (value_in c.args.word.now) ≡ None = ap signed_number (sym value) ∙ (sym c.signed_number.ensures ∙ c.in_err-value.was) in
    c.from_residual-in_err-value.ensures ∙ unvalued c.args.word.now c.in_ok-key.key named none

pub returns : goal.returns
returns c =
    let name : c.in_ok-name.name.now ≡ name_in c.args.word.now = search (rules, tests) in
    let value : c.in_ok-name.value.now ≡ value_in c.args.word.now = search (rules, tests) in
    let named : key1_named (name_in c.args.word.now) ≡ Some c.in_ok-key.key = ap key1_named (sym name) ∙ (sym c.of.ensures ∙ c.in_ok-key.was) in
    let valued : signed_number (value_in c.args.word.now) ≡ Some c.in_ok-value.value = ap signed_number (sym value) ∙ (sym c.signed_number.ensures ∙ c.in_ok-value.was) in
    let fits : FitsSigned w64 c.in_ok-value.value = search rules in
    simp to_z-of_z (change1_read c.args.word.now c.in_ok-key.key c.in_ok-value.value named valued)
