use Rattle.std.proofs.Common.{subst}
use Rattle.grib_packings.specs.declared.reading.Reading.{Reading}
use Rattle.grib_packings.specs.Reading.{ReadingAgrees}
use Rattle.grib_packings.proofs.reading.Reading.push.Goals as goal

pub push-requires-clause-fed : goal.push-requires-clause-fed
push-requires-clause-fed g c =
    let fed = c.requires.fed in
    record {
      s5 = fed.s5;
      keeper = fed.keeper;
      start = c.args.start;
      l = c.args.length;
      octets = fed.octets;
      agrees = subst (λ (r : Reading _). ReadingAgrees g.K.Keeper.kept fed.s5 fed.keeper c.args.start c.args.length fed.octets r) c.in-Simple.is fed.agrees;
    }

pub returns-in-Simple : goal.returns-in-Simple
returns-in-Simple g c = λ s5 keeper octets long known agrees.
    c.push.ensures s5 keeper c.args.start c.args.length octets (subst (λ (r : Reading _). ReadingAgrees g.K.Keeper.kept s5 keeper c.args.start c.args.length octets r) c.in-Simple.is agrees)

pub push-requires-in-Complex-clause-fed : goal.push-requires-in-Complex-clause-fed
push-requires-in-Complex-clause-fed g c =
    let fed = c.requires.fed in
    record {
      s5 = fed.s5;
      keeper = fed.keeper;
      octets = fed.octets;
      known = fed.known;
      low = fed.low;
      high = fed.high;
      long = fed.long;
      agrees = subst (λ (r : Reading _). ReadingAgrees g.K.Keeper.kept fed.s5 fed.keeper c.args.start c.args.length fed.octets r) c.in-Complex.is fed.agrees;
    }

pub returns-in-Complex : goal.returns-in-Complex
returns-in-Complex g c = λ s5 keeper octets long known agrees.
    c.push-in-Complex.ensures s5 keeper octets long known (subst (λ (r : Reading _). ReadingAgrees g.K.Keeper.kept s5 keeper c.args.start c.args.length octets r) c.in-Complex.is agrees)

pub push-requires-in-Coded-clause-fed : goal.push-requires-in-Coded-clause-fed
push-requires-in-Coded-clause-fed g c =
    let fed = c.requires.fed in
    record {
      s5 = fed.s5;
      keeper = fed.keeper;
      octets = fed.octets;
      agrees = subst (λ (r : Reading _). ReadingAgrees g.K.Keeper.kept fed.s5 fed.keeper c.args.start c.args.length fed.octets r) c.in-Coded.is fed.agrees;
    }

pub returns-in-Coded : goal.returns-in-Coded
returns-in-Coded g c = λ s5 keeper octets long known agrees.
    c.push-in-Coded.ensures s5 keeper octets (subst (λ (r : Reading _). ReadingAgrees g.K.Keeper.kept s5 keeper c.args.start c.args.length octets r) c.in-Coded.is agrees)
