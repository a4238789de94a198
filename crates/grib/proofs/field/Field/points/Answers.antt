use Rattle.std.proofs.Common.{◌≡◌, ◌≤◌, length, sym, ap, ◌∙◌, subst}
use Rattle.grib_base.specs.declared.limits.TheConstants.{MOST_POINTS}
use Rattle.grib_dyadic.specs.Reference.{ieee, ibm, reduced}
use Rattle.grib.specs.Message.{field_of}
use Rattle.grib.specs.Field.{values_in, point_count_in}
use Rattle.grib.specs.Points.{values_left, values_of}
use Rattle.grib.proofs.Held.{second_last, second_accepted}
use Rattle.grib.proofs.field.Field.points.Goals as goal

pub second_column-requires-clause-accepted : goal.second_column-requires-clause-accepted
second_column-requires-clause-accepted c = second_accepted _ _ (sym c.held.ensures.held ∙ c.in-Two.is) c.held.ensures.accepted

pub second_column-requires-clause-last : goal.second_column-requires-clause-last
second_column-requires-clause-last c = second_last _ _ _ (sym c.held.ensures.held ∙ c.in-Two.is) c.args.self.now.last

pub returns-in_ok-column-in-One-clause-values : goal.returns-in_ok-column-in-One-clause-values
returns-in_ok-column-in-One-clause-values c =
    let column = c.in_ok-column-in-One.column in
    let number = c.args.self.now.number in
    subst (λ held. values_left c.of.result ≡ values_in (field_of held number)) (sym (sym c.held.ensures.held ∙ c.in-One.is))
    (c.of.ensures.values
    ∙ (ap (λ r. values_of r column column.points) c.from_ibm.ensures.value
    ∙ ap (λ x. values_of (reduced (ibm x.reference)) x x.points) c.in_ok-column-in-One.ensures.column))

pub returns-in_ok-column-in-One-clause-count : goal.returns-in_ok-column-in-One-clause-count
returns-in_ok-column-in-One-clause-count c =
    subst (λ held. length (values_left c.of.result) ≡ point_count_in (field_of held c.args.self.now.number)) (sym (sym c.held.ensures.held ∙ c.in-One.is))
    (c.of.ensures.count ∙ c.in_ok-column-in-One.ensures.count)

pub returns-in_ok-column-in-One-clause-few : goal.returns-in_ok-column-in-One-clause-few
returns-in_ok-column-in-One-clause-few c = subst (λ n. n ≤ MOST_POINTS) (sym c.of.ensures.count) c.in_ok-column-in-One.ensures.few

pub returns-in-Ok-clause-values : goal.returns-in-Ok-clause-values
returns-in-Ok-clause-values c =
    let column = c.in_ok-column-in-Two.column in
    let number = c.args.self.now.number in
    subst (λ held. values_left c.of-in-Two.result ≡ values_in (field_of held number)) (sym (sym c.held.ensures.held ∙ c.in-Two.is))
    (c.of-in-Two.ensures.values
    ∙ (ap (λ r. values_of r column column.points) c.in-Ok.ensures.value
    ∙ ap (λ x. values_of (reduced (ieee x.reference)) x x.points) c.in_ok-column-in-Two.ensures.column))

pub returns-in-Ok-clause-count : goal.returns-in-Ok-clause-count
returns-in-Ok-clause-count c =
    subst (λ held. length (values_left c.of-in-Two.result) ≡ point_count_in (field_of held c.args.self.now.number)) (sym (sym c.held.ensures.held ∙ c.in-Two.is))
    (c.of-in-Two.ensures.count ∙ c.in_ok-column-in-Two.ensures.count)

pub returns-in-Ok-clause-few : goal.returns-in-Ok-clause-few
returns-in-Ok-clause-few c = subst (λ n. n ≤ MOST_POINTS) (sym c.of-in-Two.ensures.count) c.in_ok-column-in-Two.ensures.few
