use Rattle.std.proofs.Common.{is_some, lit<, rules, tests}
use Rattle.std.proofs.lemmas.Iterator.Search.{all_from_yields_List}
use Rattle.std.proofs.lemmas.Iterator.Splits.{YieldsList-from_str_split}
use Rattle.grib_words.specs.Columns.{column_named}
use Rattle.grib_words.proofs.columns.is_columns.Goals as goal

pub returns : goal.returns
returns c =
    all_from_yields_List (λ element. is_some (column_named element)) _ _ _ c.all.ensures.ran
    (YieldsList-from_str_split 44 c.args.text.now (lit< tt) c.split.ensures.text c.split.ensures.has_more c.split.ensures.pattern)
    (λ x b q k. search (rules, tests))
