use Rattle.std.proofs.Common.{◌≡◌, ◌≤◌, Some, None}
use Rattle.std.proofs.lemmas.List.Elements.{All-weaker}
use Rattle.grib_packing.specs.Misfits.{first_misfit}
use Rattle.grib_packing.specs.declared.written.Packed.{Packed}
use Rattle.grib2_message.specs.Fields.{column_of}
use Rattle.grib_repack.specs.Repacked.{kind_of, packed_field}
use Rattle.grib_least.specs.Least.{own_form, packed_forms, least_form, form_of, size_of, targets}
use Rattle.grib_least.proofs.Smallest.{smallest_least, are_tried, that_fits}
use Rattle.grib_least.proofs.laws.no_form_is_smaller.Goals as goal

pub returns-clause-own : goal.returns-clause-own
returns-clause-own c = λ profile message i. (smallest_least (own_form message i) (packed_forms profile message i)).0

pub returns-clause-packed : goal.returns-clause-packed
returns-clause-packed c = λ profile message i.
    let column = column_of message i in
    let form = form_of column (kind_of message i) in
    let below : Packed → Type 0 = (λ p. size_of (least_form profile message i) ≤ size_of p) in
    All-weaker (λ target. (p : Packed) → form target ≡ Some p → below p)
    (λ target. first_misfit target column.points ≡ None → below (packed_field target message i))
    (λ target each none. each (packed_field target message i) (that_fits (first_misfit target column.points) (packed_field target message i) none))
    (targets profile)
    (are_tried below form (targets profile) (smallest_least (own_form message i) (packed_forms profile message i)).1)
