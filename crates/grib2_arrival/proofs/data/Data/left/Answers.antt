use Rattle.std.proofs.Common.{arith}
use Rattle.grib2_arrival.specs.Fed.{ReadAgrees}
use Rattle.grib2_arrival.proofs.data.Data.left.Goals as goal

pub returns-in-Reads : goal.returns-in-Reads
returns-in-Reads c = λ s5 start l octets agrees.
    let read : ReadAgrees s5 start l octets c.in-Reads.feeding = rw c.in-Reads.is at agrees in
    omega (arith, c.left.ensures, read.read.length_is, read.read.pushed, read.read.within)

pub returns-in-Passes : goal.returns-in-Passes
returns-in-Passes c = λ s5 start l octets agrees. (let told = rw c.in-Passes.is at agrees in told.1)
