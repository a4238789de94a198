use Rattle.std.proofs.Common.{[], ◌∷◌, refl}
use Rattle.grib_simple.proofs.Same.{is_survey_same}
use Rattle.grib_simple.proofs.survey.Survey.of_same.Goals as goal

pub returns : goal.returns
returns c =
    is_survey_same c.args.most c.with-one.result _ c.args.point c.args.count c.requires refl refl refl refl refl
    (c.with-one.ensures.survey [] (c.args.point ∷ []) (c.of_none.ensures.survey c.args.most (c.args.point ∷ [])))
