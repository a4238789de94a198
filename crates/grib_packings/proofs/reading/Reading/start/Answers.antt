use Rattle.std.proofs.Common.{subst}
use Rattle.grib_packings.specs.Field.{Represents}
use Rattle.grib_packings.proofs.Represented.{complex_accepted, simple_width}
use Rattle.grib_packings.proofs.reading.Reading.start.Goals as goal

pub start-reading-requires-clause-width : goal.start-reading-requires-clause-width
start-reading-requires-clause-width g c =
    let given = c.requires.read in
    simple_width c.in-Simple.simple given.0 (subst (λ r. Represents r given.0) c.in-Simple.is given.1)

pub returns-in-Simple : goal.returns-in-Simple
returns-in-Simple g c = λ s5 read.
    let here = subst (λ r. Represents r s5) c.in-Simple.is read in
    c.start-reading.ensures s5 here.numbers.1 here.numbers.0

pub start-requires-clause-accepted : goal.start-requires-clause-accepted
start-requires-clause-accepted g c =
    let given = c.requires.read in
    complex_accepted c.in-Complex.complex given.0 (subst (λ r. Represents r given.0) c.in-Complex.is given.1)

pub returns-in_ok-reading-in-Complex : goal.returns-in_ok-reading-in-Complex
returns-in_ok-reading-in-Complex g c = λ s5 read.
    let here = subst (λ r. Represents r s5) c.in-Complex.is read in
    c.in_ok-reading-in-Complex.ensures s5 here.numbers.1

pub start-requires-in-Coded : goal.start-requires-in-Coded
start-requires-in-Coded g c =
    let given = c.requires.read in
    (given.0, subst (λ r. Represents r given.0) c.in-Coded.is given.1)

pub returns-in-Coded : goal.returns-in-Coded
returns-in-Coded g c = λ s5 read. c.start-in-Coded.ensures s5 (subst (λ r. Represents r s5) c.in-Coded.is read)
