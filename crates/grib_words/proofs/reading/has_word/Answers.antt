use Rattle.std.proofs.Common.{sym, ◌∙◌, rules, tests, string_bytes}
use Rattle.std.proofs.lemmas.Iterator.{YieldsList-from_slice}
use Rattle.std.proofs.lemmas.Iterator.Search.{any_from_yields_List}
use Rattle.grib_words.specs.Reading.{is}
use Rattle.grib_words.proofs.Parts.{list_any-map}
use Rattle.grib_words.proofs.reading.has_word.Goals as goal

pub returns : goal.returns
returns c =
    let words = c.args.words.now in
    let test = is c.args.whole.now in
    any_from_yields_List (λ word. test (string_bytes word)) _ _ _ c.any.ensures.ran (YieldsList-from_slice words cc) (λ x b q k. search (rules, tests))
    ∙ sym (list_any-map test string_bytes words)
