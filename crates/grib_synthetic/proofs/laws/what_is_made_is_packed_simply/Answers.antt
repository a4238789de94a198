use Rattle.std.proofs.Common.{sym, ◌∙◌}
use Rattle.grib_packing.specs.Misfits.{ToSimple}
use Rattle.grib_packed.specs.Written.{packed}
use Rattle.grib_synthetic.specs.Points.{made_column}
use Rattle.grib_synthetic.specs.Made.{made}
use Rattle.grib_synthetic.proofs.Parts.{made_parts, made_is}
use Rattle.grib_synthetic.proofs.Repacked.{assembled_is}
use Rattle.grib_synthetic.proofs.laws.what_is_made_is_packed_simply.Goals as goal

pub returns : goal.returns
returns c = λ seed ni nj may.
    let p = packed ToSimple (made_column seed ni nj) 0 in
    let parts = made_parts seed ni nj may c.what_is_packed_simply_reads_back.ensures in
    assembled_is seed ni nj (made_column seed ni nj) p.section5 p.section6 p.section7 may parts (made seed ni nj) (made_is seed ni nj) p ∙ sym (made_is seed ni nj)
