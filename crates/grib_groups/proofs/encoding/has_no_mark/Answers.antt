use Rattle.std.proofs.Common.{◌&&◌, sym, ap, ap₂, ◌∙◌, arith}
use Rattle.std.proofs.lemmas.List.Folds.{list_all_at, list_all_more}
use Rattle.grib_base.specs.declared.code.Code.TheVariants.{Primary}
use Rattle.grib_packing.specs.Groupings.{is_present}
use Rattle.grib_groups.proofs.Joined.{all_present}
use Rattle.grib_groups.proofs.encoding.has_no_mark.Goals as goal

pub returns-then-reserved-eq0 : goal.returns-then-reserved-eq0
returns-then-reserved-eq0 c = sym (all_present c.args.reserved c.args.run.now c.if-reserved-eq0.true c.requires)

pub returns-then-not-is_number : goal.returns-then-not-is_number
returns-then-not-is_number c =
    sym (list_all_at is_present c.args.run.now c.loop-done.done Primary (omega (arith, c.loop-done-test.true, c.len-done-end.ensures))
    (ap is_present (sym (c.at.ensures Primary)) ∙ sym c.is_number.ensures ∙ c.if-not-is_number.true))

pub loop-done-preserved : goal.loop-done-preserved
loop-done-preserved c =
    list_all_more is_present c.args.run.now c.loop-done.done Primary (omega (arith, c.loop-done-test.true, c.len-done-end.ensures))
    ∙ ap₂ (λ p q. p && q) c.loop-done.invariant (ap is_present (sym (c.at.ensures Primary)) ∙ sym c.is_number.ensures ∙ c.if-not-is_number.false)
