use Rattle.std.proofs.Common.{arith}
use Rattle.grib_packing.specs.Misfits.{ToSimple}
use Rattle.grib_packed.specs.Written.{packed}
use Rattle.grib_synthetic.specs.Points.{made_column}
use Rattle.grib_synthetic.specs.Made.{made}
use Rattle.grib_synthetic.proofs.Fitting.{made_fits, made_may_be_packed, length-made_points}
use Rattle.grib_synthetic.proofs.OneByOne.{few_points}
use Rattle.grib_synthetic.proofs.Parts.{made_parts, made_is}
use Rattle.grib_synthetic.proofs.Repacked.{length-repacked}
use Rattle.grib_synthetic.proofs.laws.what_is_made_stays_short.Goals as goal

pub returns : goal.returns
returns c = λ target seed ni nj known may.
    let column = made_column seed ni nj in
    let p = packed ToSimple column 0 in
    let parts = made_parts seed ni nj may c.what_is_packed_simply_reads_back.ensures in
    let whole = length-repacked seed ni nj column p.section5 p.section6 p.section7 may parts (made seed ni nj) (made_is seed ni nj) (packed target column 0) in
    let few = c.few_octets_are_written.ensures target column 0 (made_may_be_packed seed ni nj may) known (made_fits target seed ni nj) in
    omega (arith, whole, few, length-made_points seed ni nj, few_points ni nj may.few_columns may.few_rows)
