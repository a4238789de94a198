use Rattle.std.proofs.Common.{subst, arith}
use Rattle.grib_complex_reading.specs.declared.stages.ComplexReading.{ComplexReading}
use Rattle.grib_complex_reading.specs.Feeding.{StateAgrees}
use Rattle.grib_complex_reading.proofs.Begun.{fault_more, listing_ahead, passing_more, reading_more, reading_plainly_more}
use Rattle.grib_complex_reading.proofs.stages.ComplexReading.push.Goals as goal

pub push-requires-clause-begun : goal.push-requires-clause-begun
push-requires-clause-begun g c =
    let fed = c.requires.fed in
    let here = subst (λ (state : ComplexReading _). StateAgrees g.K.Keeper.kept fed.s5 fed.keeper c.args.start c.args.length fed.octets state) c.in-Begins.is fed.agrees in
    record { s5 = fed.s5; keeper = fed.keeper; octets = fed.octets; known = fed.known; long = fed.long; agrees = here.0 }

pub returns-in-Begins : goal.returns-in-Begins
returns-in-Begins g c = λ s5 keeper octets long known agrees.
    let here = subst (λ (state : ComplexReading _). StateAgrees g.K.Keeper.kept s5 keeper c.args.start c.args.length octets state) c.in-Begins.is agrees in
    c.push.ensures s5 keeper octets long known here.0

pub push-requires-in-Lists-clause-begun : goal.push-requires-in-Lists-clause-begun
push-requires-in-Lists-clause-begun g c =
    let fed = c.requires.fed in
    let here = subst (λ (state : ComplexReading _). StateAgrees g.K.Keeper.kept fed.s5 fed.keeper c.args.start c.args.length fed.octets state) c.in-Lists.is fed.agrees in
    record { s5 = fed.s5; keeper = fed.keeper; octets = fed.octets; long = fed.long; agrees = listing_ahead fed.s5 fed.keeper c.args.length fed.octets c.args.piece.now c.in-Lists.between here.0 }

pub returns-in-Lists : goal.returns-in-Lists
returns-in-Lists g c = λ s5 keeper octets long known agrees.
    let here = subst (λ (state : ComplexReading _). StateAgrees g.K.Keeper.kept s5 keeper c.args.start c.args.length octets state) c.in-Lists.is agrees in
    c.push-in-Lists.ensures s5 keeper octets long (omega (arith, here.1)) (listing_ahead s5 keeper c.args.length octets c.args.piece.now c.in-Lists.between here.0)

pub returns-in-ReadsPlainly : goal.returns-in-ReadsPlainly
returns-in-ReadsPlainly g c = λ s5 keeper octets long known agrees.
    reading_plainly_more g.K.Keeper.kept s5 keeper c.args.length octets c.args.piece.now c.in-ReadsPlainly.fed c.push-in-ReadsPlainly.result c.push-in-ReadsPlainly.ensures.feedable c.push-in-ReadsPlainly.ensures.caught_up c.push-in-ReadsPlainly.ensures.table c.push-in-ReadsPlainly.ensures.fed
    (subst (λ (state : ComplexReading _). StateAgrees g.K.Keeper.kept s5 keeper c.args.start c.args.length octets state) c.in-ReadsPlainly.is agrees)

pub returns-in-Reads : goal.returns-in-Reads
returns-in-Reads g c = λ s5 keeper octets long known agrees.
    reading_more g.K.Keeper.kept s5 keeper c.args.start c.args.length octets c.args.piece.now c.in-Reads.fed c.push-in-Reads.result c.push-in-Reads.ensures.feedable c.push-in-Reads.ensures.caught_up c.push-in-Reads.ensures.table c.push-in-Reads.ensures.fed
    (subst (λ (state : ComplexReading _). StateAgrees g.K.Keeper.kept s5 keeper c.args.start c.args.length octets state) c.in-Reads.is agrees)

pub returns-in-Passes : goal.returns-in-Passes
returns-in-Passes g c = λ s5 keeper octets long known agrees.
    passing_more g.K.Keeper.kept s5 keeper c.args.length octets c.args.piece.now c.in-Passes.keeper
    (subst (λ (state : ComplexReading _). StateAgrees g.K.Keeper.kept s5 keeper c.args.start c.args.length octets state) c.in-Passes.is agrees)

pub returns-in-Refused : goal.returns-in-Refused
returns-in-Refused g c = λ s5 keeper octets long known agrees.
    let here = subst (λ (state : ComplexReading _). StateAgrees g.K.Keeper.kept s5 keeper c.args.start c.args.length octets state) c.in-Refused.is agrees in
    (fault_more s5 c.args.start c.args.length octets c.args.piece.now c.in-Refused.fault here.0, here.1)
