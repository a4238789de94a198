use Rattle.std.proofs.Common.{◌≡◌, refl, sym, ap, ◌∙◌, subst, drop, []}
use Rattle.std.proofs.lemmas.List.{drop_all}
use Rattle.grib1_select.specs.Values.{Fulfils1, fulfils_all1}
use Rattle.grib1_select.proofs.Asked.{one_decides, asked_decides}
use Rattle.grib1_select.proofs.matching.matches1.Goals as goal

pub returns-then-not-is_fulfilled-clause-exactly : goal.returns-then-not-is_fulfilled-clause-exactly
returns-then-not-is_fulfilled-clause-exactly c =
    let m = c.args.message.now in
    let condition = c.condition-item.result in (
      λ e. (let no : ⊥ = cc in absurd no),
      λ all. sym (sym c.is_fulfilled.ensures ∙ c.if-not-is_fulfilled.true)
          ∙ (one_decides m condition).1 (subst (Fulfils1 m) (sym c.condition-item.is) (all c.loop-condition.condition-index condition c.loop-condition-test.true)),
    )

pub returns-clause-exactly : goal.returns-clause-exactly
returns-clause-exactly c =
    let m = c.args.message.now in
    let d = asked_decides m c.args.conditions.now in
    let none : drop c.loop-condition.condition-index c.args.conditions.now ≡ [] = drop_all c.loop-condition.condition-index c.args.conditions.now c.loop-condition-test.false in
    (λ e. d.0 (c.loop-condition.invariant ∙ ap (fulfils_all1 m) none), λ e. refl)
