use Rattle.std.proofs.Common.{sym, drop}
use Rattle.grib_bits.specs.Bits.{bits}
use Rattle.grib_group_reading.specs.Taking.{code_by}
use Rattle.grib_group_reading.proofs.CodeRuns.{length-codes}
use Rattle.grib_group_reading.proofs.code_run.WordRunCodeRun.count.Goals as goal

pub returns : goal.returns
returns c =
    let run = c.args.self.now in
    sym (length-codes (code_by run.coding) (drop run.place (bits run.octets.now)) run.width run.count)
