use Rattle.grib_split.proofs.Bits.{first_later, first_round}
use Rattle.grib_split.proofs.behind.first_from.Goals as goal

pub returns-then-later-ne0-clause-is : goal.returns-then-later-ne0-clause-is
returns-then-later-ne0-clause-is c = (first_later c.args.places c.args.start c.requires.start c.ranges.places.fits c.if-later-ne0.true).is

pub returns-then-later-ne0-clause-first : goal.returns-then-later-ne0-clause-first
returns-then-later-ne0-clause-first c = (first_later c.args.places c.args.start c.requires.start c.ranges.places.fits c.if-later-ne0.true).first

pub returns-else-later-ne0-clause-within : goal.returns-else-later-ne0-clause-within
returns-else-later-ne0-clause-within c = (first_round c.args.places c.args.start c.requires.start c.requires.some c.ranges.places.fits c.if-later-ne0.false).within

pub returns-else-later-ne0-clause-is : goal.returns-else-later-ne0-clause-is
returns-else-later-ne0-clause-is c = (first_round c.args.places c.args.start c.requires.start c.requires.some c.ranges.places.fits c.if-later-ne0.false).is

pub returns-else-later-ne0-clause-first : goal.returns-else-later-ne0-clause-first
returns-else-later-ne0-clause-first c = (first_round c.args.places c.args.start c.requires.start c.requires.some c.ranges.places.fits c.if-later-ne0.false).first
