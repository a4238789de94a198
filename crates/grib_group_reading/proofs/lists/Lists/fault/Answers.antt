use Rattle.std.proofs.Common.{◌≡◌, ℕ, [], Option, Some, None, sym, ap, ◌∙◌, arith, subst}
use Rattle.std.proofs.lemmas.List.{append-nil}
use Rattle.grib_packing.specs.Groups.{first_past}
use Rattle.grib_group_reading.specs.Lists.{IsNoted}
use Rattle.grib_group_reading.proofs.Faults.{shape_fault}
use Rattle.grib_group_reading.proofs.lists.Lists.fault.Goals as goal

-- no width is over 32
none_wide : (noted : Option ℕ) (place : ℕ) → noted ≡ None → IsNoted noted place → place ≡ 0
none_wide noted place none is = subst (λ (o : Option ℕ). IsNoted o place) none is

pub returns-in-Some-past : goal.returns-in-Some-past
returns-in-Some-past c = λ values references widths lengths small are.
    let long = are.lengths_are in
    let is = c.in-Some-past.is in
    let group = c.in-Some-past.group in
    ap Some c.at-in-Some-past.ensures
    ∙ shape_fault c.args.layout.now c.args.start c.args.skip c.args.length values references widths lengths (none_wide _ _ c.in_default.is are.widths_are.place) group
    (λ right. omega (arith, long.over group is, right)) (sym (long.past group is []) ∙ ap (first_past values 0) (append-nil lengths))

pub returns-then-self-gt0 : goal.returns-then-self-gt0
returns-then-self-gt0 c = λ values references widths lengths small are.
    let long = are.lengths_are in
    let none = c.in_default-past.is in
    ap Some c.at-then-self-gt0.ensures
    ∙ shape_fault c.args.layout.now c.args.start c.args.skip c.args.length values references widths lengths (none_wide _ _ c.in_default.is are.widths_are.place) c.from-groups.result
    (λ right. omega (arith, long.rest none, right)) (c.from-groups.ensures ∙ sym are.length_count ∙ sym (long.so_far none []) ∙ ap (first_past values 0) (append-nil lengths))
