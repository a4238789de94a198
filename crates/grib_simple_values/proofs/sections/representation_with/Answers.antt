use Rattle.std.proofs.Common.{sym, ap, ◌∙◌}
use Rattle.grib_packing.specs.declared.column.Column.{Column}
use Rattle.grib_packing.proofs.Sections.{same_numbers}
use Rattle.grib_simple_values.proofs.sections.representation_with.Goals as goal

pub returns : goal.returns
returns c =
    let head = c.column-column.result in
    let own = sym c.column-column.ensures in (
      c.representation_section.ensures.length,
      λ column reference e d.
          same_numbers c.representation_section.result head column c.args.values 0 c.args.bits c.args.simple.now.kind (reference ∙ ap (λ (x : Column). x.reference) own)
          (e ∙ ap (λ (x : Column). x.e) own) (d ∙ ap (λ (x : Column). x.d) own) c.representation_section.ensures.numbers,
    )
