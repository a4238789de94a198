use Rattle.std.proofs.Common.{◌+◌, ℕ, ap, ap₂, ◌∙◌, subst}
use Rattle.grib_edit.specs.FieldOctets.{single_most}
use Rattle.grib_edit.specs.Parts.{Part, part, part_name, puts}
use Rattle.grib_edit.specs.Shelving.{Shelves}
use Rattle.grib_select.specs.Single.{single_of}
use Rattle.grib_edit.proofs.Filtered.{few_written}
use Rattle.grib_edit.proofs.Shelved.{field_unbegun}
use Rattle.grib_edit.proofs.splitting.put_field.Goals as goal

pub returns-in-Some-clause-shelved : goal.returns-in-Some-clause-shelved
returns-in-Some-clause-shelved g c =
    subst (λ (p : Part). Shelves c.put_numbered.result (g.H.Shelf.contents c.args.shelf.now) (g.H.Shelf.contents c.put_numbered.new.shelf) (puts p))
    (ap₂ part (ap (λ (n : ℕ). part_name c.args.name.now (c.args.before + n)) c.from.ensures) c.in-Some.ensures) c.put_numbered.ensures.shelved

pub returns-in-Some-clause-few : goal.returns-in-Some-clause-few
returns-in-Some-clause-few g c =
    few_written c.put_numbered.result c.in-Some.octets.now (single_of c.args.message.now c.args.field) c.in-Some.ensures
    (single_most c.args.message.now c.args.field c.requires.message c.requires.first c.requires.last) c.put_numbered.ensures.written

pub returns-in_err-octets-clause-shelved : goal.returns-in_err-octets-clause-shelved
returns-in_err-octets-clause-shelved g c = field_unbegun _ _ _ c.from_residual.ensures.0

pub returns-clause-few : goal.returns-clause-few
returns-clause-few g c =
    few_written c.put_numbered-2.result c.as_slice.result.now (single_of c.args.message.now c.args.field)
    (c.as_slice.ensures.value ∙ c.in_ok-octets.ensures) (single_most c.args.message.now c.args.field c.requires.message c.requires.first c.requires.last)
    c.put_numbered-2.ensures.written
