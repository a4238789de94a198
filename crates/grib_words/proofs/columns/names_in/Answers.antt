use Rattle.std.proofs.Common.{[], ◌∷◌, ◌++◌, sym, ap, ◌∙◌, lit<}
use Rattle.std.proofs.lemmas.List.{map-append}
use Rattle.std.proofs.lemmas.Iterator.Consumers.{YieldsList-end}
use Rattle.std.proofs.lemmas.Iterator.Splits.{YieldsList-from_str_split}
use Rattle.grib_words.proofs.columns.names_in.Goals as goal

pub loop-element-preserved : goal.loop-element-preserved
loop-element-preserved c =
    c.in_ok-push_name.ensures
    ∙ (ap (λ names. names ++ (c.in-Some.element.now ∷ [])) c.loop-element.invariant
    ∙ sym (map-append (λ element. element.now) c.loop-element.yielded (c.in-Some.element ∷ [])))

pub returns : goal.returns
returns c =
    let all = YieldsList-end (YieldsList-from_str_split 44 c.args.text.now (lit< tt) (cc) (cc) (cc)) c.loop-element.yielded _ c.loop-element.yielded_by _ _ c.in-None.is c.next.ensures.steps in
    c.loop-element.invariant ∙ all.0
