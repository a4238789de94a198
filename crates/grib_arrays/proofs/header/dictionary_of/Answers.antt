use Rattle.std.proofs.Common.{◌++◌, codes, sym, ap, ◌∙◌}
use Rattle.std.specs.Fmt.{decimal}
use Rattle.std.proofs.lemmas.Result.{IfOk-weaker}
use Rattle.grib_arrays.specs.Header.{dictionary, dictionary_with}
use Rattle.grib_arrays.proofs.header.dictionary_of.Goals as goal

pub returns-in-Table : goal.returns-in-Table
returns-in-Table c =
    IfOk-weaker c.table_text.result _ _
    (λ text is. is ∙ ap (λ name. dictionary_with name (decimal c.in-Table.outer ++ codes ", " ++ decimal c.in-Table.inner)) c.type_name-name.ensures
    ∙ ap (dictionary c.args.format) (sym c.in-Table.is))
    c.table_text.ensures

pub returns-in-Points : goal.returns-in-Points
returns-in-Points c =
    IfOk-weaker c.points_text.result _ _
    (λ text is. is ∙ ap (λ name. dictionary_with name (decimal c.in-Points.count ++ codes ",")) c.type_name-name.ensures ∙ ap (dictionary c.args.format) (sym c.in-Points.is))
    c.points_text.ensures
