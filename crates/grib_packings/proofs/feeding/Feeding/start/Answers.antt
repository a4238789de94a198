use Rattle.std.proofs.Common.{[], refl, arith}
use Rattle.grib_packings.proofs.Read.{reading_pends}
use Rattle.grib_packings.proofs.feeding.Feeding.start.Goals as goal

pub returns-clause-read : goal.returns-clause-read
returns-clause-read g c = λ s5 is.
    let reading = c.in_ok-reading.ensures s5 is in
    let pends = reading_pends g.K.Keeper.kept s5 c.args.keeper c.args.start c.args.length [] c.in_ok-reading.reading reading in
    record {
      spelled = c.shared.ensures s5 is;
      start_is = refl;
      low = c.requires.low;
      high = c.requires.high;
      length_is = refl;
      pushed = refl;
      within = c.requires.least;
      known = λ i. omega arith;
      few = pends.few;
      last = pends.last;
      reading = reading;
    }

pub returns-clause-fed : goal.returns-clause-fed
returns-clause-fed g c =
    let s5 = c.requires.read.0 in
    let reading = c.in_ok-reading.ensures s5 c.requires.read.1 in
    let pends = reading_pends g.K.Keeper.kept s5 c.args.keeper c.args.start c.args.length [] c.in_ok-reading.reading reading in
    record {
      s5 = s5;
      keeper = c.args.keeper;
      start = c.args.start;
      l = c.args.length;
      octets = [];
      read = record {
        spelled = c.shared.ensures s5 c.requires.read.1;
        start_is = refl;
        low = c.requires.low;
        high = c.requires.high;
        length_is = refl;
        pushed = refl;
        within = c.requires.least;
        known = λ i. omega arith;
        few = pends.few;
        last = pends.last;
        reading = reading;
      };
    }
