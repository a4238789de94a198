use Rattle.std.proofs.Common.{length, length-append, arith}
use Rattle.grib2_arrival.specs.Fed.{ReadAgrees}
use Rattle.grib2_arrival.proofs.data.Data.push.Goals as goal

pub push-requires : goal.push-requires
push-requires c =
    let r = c.requires in
    let agrees : ReadAgrees r.s5 r.start r.l r.octets c.in-Reads.feeding = rw c.in-Reads.is at r.agrees in
    let read = agrees.read in
    record {
      fed = record { s5 = r.s5; keeper = agrees.keeper; start = r.start; l = r.l; octets = r.octets; read = read };
      within = omega (arith, r.room, read.length_is, read.pushed);
    }

pub returns-in-Reads : goal.returns-in-Reads
returns-in-Reads c = λ s5 start l octets agrees.
    let read : ReadAgrees s5 start l octets c.in-Reads.feeding = rw c.in-Reads.is at agrees in
    record { keeper = read.keeper; read = c.push.ensures.read s5 read.keeper start l octets read.read }

-- no more octets come than are still to come
pub overflow_sub-result : goal.overflow_sub-result
overflow_sub-result c =
    let r = c.requires in
    let mine = rw c.in-Passes.is at r.agrees in
    omega (arith, mine.1, r.room)

pub overflow_cast-result : goal.overflow_cast-result
overflow_cast-result c =
    let r = c.requires in
    let mine = rw c.in-Passes.is at r.agrees in
    omega (arith, mine.1, r.room)

pub returns-in-Passes : goal.returns-in-Passes
returns-in-Passes c = λ s5 start l octets agrees.
    let r = c.requires in
    let mine = rw c.in-Passes.is at r.agrees in
    let told = rw c.in-Passes.is at agrees in
    (told.0, omega (arith, told.1, mine.1, r.room, length-append octets c.args.piece.now))
