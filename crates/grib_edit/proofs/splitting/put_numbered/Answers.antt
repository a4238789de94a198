use Rattle.std.proofs.Common.{refl, ◌∙◌}
use Rattle.grib_edit.specs.Parts.{part_name}
use Rattle.grib_edit.proofs.Shelved.{field_whole, field_cut, field_unbegun}
use Rattle.grib_edit.proofs.splitting.put_numbered.Goals as goal

pub returns-in_err-text-clause-shelved : goal.returns-in_err-text-clause-shelved
returns-in_err-text-clause-shelved g c = field_unbegun _ _ _ c.from_residual.ensures.0

pub returns-in_err-put-clause-shelved : goal.returns-in_err-put-clause-shelved
returns-in_err-put-clause-shelved g c =
    field_cut _ _ _ (part_name c.args.name.now c.args.number) c.args.octets.now c.as_str.result.now c.args.octets.now (c.as_str.ensures.value ∙ c.in_ok-text.ensures) refl
    c.from_residual-in_err-put.ensures.0 c.in_err-put.ensures.shelved.front

pub returns-clause-shelved : goal.returns-clause-shelved
returns-clause-shelved g c =
    field_whole _ _ _ (part_name c.args.name.now c.args.number) c.args.octets.now c.as_str.result.now c.args.octets.now (c.as_str.ensures.value ∙ c.in_ok-text.ensures) refl
    c.in_ok-put.ensures.shelved _
