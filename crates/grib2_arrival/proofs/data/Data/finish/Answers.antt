use Rattle.std.proofs.Common.{length, drop, arith}
use Rattle.grib_packing.proofs.OpaquePackings.{opaque_data}
use Rattle.grib2_arrival.specs.Fed.{ReadAgrees}
use Rattle.grib2_arrival.proofs.data.Data.finish.Goals as goal

pub end-requires : goal.end-requires
end-requires c =
    let r = c.requires in
    let agrees : ReadAgrees r.s5 r.start r.l r.octets c.in-Reads.feeding = rw c.in-Reads.is at r.agrees in
    let read = agrees.read in
    record {
      fed = record { s5 = r.s5; keeper = agrees.keeper; start = r.start; l = r.l; octets = r.octets; read = read };
      all = omega (arith, r.whole, read.length_is, read.pushed);
    }

pub returns-in-Ok : goal.returns-in-Ok
returns-in-Ok c = λ s5 start s7 five agrees.
    let read : ReadAgrees s5 start (length s7) (drop 5 s7) c.in-Reads.feeding = rw c.in-Reads.is at agrees in
    (c.in-Ok.ensures s5 read.keeper start s7 read.read).0

pub returns-in-Err : goal.returns-in-Err
returns-in-Err c = λ s5 start s7 five agrees.
    let read : ReadAgrees s5 start (length s7) (drop 5 s7) c.in-Reads.feeding = rw c.in-Reads.is at agrees in
    c.in-Err.ensures s5 read.keeper start s7 read.read

pub returns-in-Passes : goal.returns-in-Passes
returns-in-Passes c = λ s5 start s7 five agrees. (let told = rw c.in-Passes.is at agrees in opaque_data s5 s7 told.0)
