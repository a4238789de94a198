use Rattle.std.proofs.Common.{subst}
use Rattle.grib_complex_reading.proofs.Begun.{fault_more, passing_more}
use Rattle.grib_packings.specs.declared.simple_reading.SimpleReading.{SimpleReading}
use Rattle.grib_packings.specs.Reading.{SimpleAgrees}
use Rattle.grib_packings.proofs.Simply.{simply_more}
use Rattle.grib_packings.proofs.simple_reading.SimpleReading.push.Goals as goal

pub returns-in-Reads : goal.returns-in-Reads
returns-in-Reads g c = λ s5 keeper start l octets agrees.
    simply_more g.K.Keeper.kept s5 keeper l octets c.args.piece.now c.in-Reads.fed c.push.result c.push.ensures.feedable c.push.ensures.caught_up c.push.ensures.table c.push.ensures.fed
    (subst (λ (r : SimpleReading _). SimpleAgrees g.K.Keeper.kept s5 keeper start l octets r) c.in-Reads.is agrees)

pub returns-in-Passes : goal.returns-in-Passes
returns-in-Passes g c = λ s5 keeper start l octets agrees.
    passing_more g.K.Keeper.kept s5 keeper l octets c.args.piece.now c.in-Passes.keeper
    (subst (λ (r : SimpleReading _). SimpleAgrees g.K.Keeper.kept s5 keeper start l octets r) c.in-Passes.is agrees)

pub returns-in-Refused : goal.returns-in-Refused
returns-in-Refused g c = λ s5 keeper start l octets agrees.
    let here = subst (λ (r : SimpleReading _). SimpleAgrees g.K.Keeper.kept s5 keeper start l octets r) c.in-Refused.is agrees in
    (fault_more s5 start l octets c.args.piece.now c.in-Refused.fault here.0, here.1)
