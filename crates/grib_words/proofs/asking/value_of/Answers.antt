use Rattle.std.proofs.Common.{ap, ◌∙◌, rules, tests, string_bytes, Some, None}
use Rattle.std.proofs.lemmas.Iterator.{YieldsList-from_slice}
use Rattle.std.proofs.lemmas.Iterator.Search.{find_from_yields_List}
use Rattle.grib_words.specs.Reading.{is_named, value_in}
use Rattle.grib_words.proofs.Asked.{value_found}
use Rattle.grib_words.proofs.asking.value_of.Goals as goal

pub returns-in-Some : goal.returns-in-Some
returns-in-Some c =
    c.value_in.ensures
    ∙ (ap value_in c.as_str.ensures.value
    ∙ value_found string_bytes c.args.name.now c.args.words.now (Some c.in-Some.word.now)
    (find_from_yields_List (λ word. is_named c.args.name.now (string_bytes word)) c.find.new.self _ (Some c.in-Some.word) c.in-Some.ensures.ran (YieldsList-from_slice c.args.words.now cc) (λ x b q k. search (rules, tests))))

pub returns-in-None : goal.returns-in-None
returns-in-None c =
    value_found string_bytes c.args.name.now c.args.words.now None
    (find_from_yields_List (λ word. is_named c.args.name.now (string_bytes word)) _ _ None c.in-None.ensures.ran (YieldsList-from_slice c.args.words.now cc) (λ x b q k. search (rules, tests)))
