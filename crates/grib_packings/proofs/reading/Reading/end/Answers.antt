use Rattle.std.proofs.Common.{length, drop, subst}
use Rattle.grib_packings.specs.declared.reading.Reading.{Reading}
use Rattle.grib_packings.specs.Reading.{ReadingAgrees}
use Rattle.grib_packings.proofs.reading.Reading.end.Goals as goal

pub end-requires : goal.end-requires
end-requires g c =
    let whole = c.requires in
    record {
      s5 = whole.s5;
      keeper = whole.keeper;
      start = c.args.start;
      l = c.args.length;
      octets = whole.octets;
      agrees = subst (λ (r : Reading _). ReadingAgrees g.K.Keeper.kept whole.s5 whole.keeper c.args.start c.args.length whole.octets r) c.in-Simple.is whole.agrees;
    }

pub returns-in-Simple : goal.returns-in-Simple
returns-in-Simple g c = λ s5 keeper s7 long known agrees.
    c.end.ensures s5 keeper c.args.start s7 known (subst (λ (r : Reading _). ReadingAgrees g.K.Keeper.kept s5 keeper c.args.start (length s7) (drop 5 s7) r) c.in-Simple.is agrees)

pub end-requires-in-Complex : goal.end-requires-in-Complex
end-requires-in-Complex g c =
    let whole = c.requires in
    record {
      s5 = whole.s5;
      keeper = whole.keeper;
      l = c.args.length;
      octets = whole.octets;
      low = whole.low;
      high = whole.high;
      whole = whole.whole;
      agrees = subst (λ (r : Reading _). ReadingAgrees g.K.Keeper.kept whole.s5 whole.keeper c.args.start c.args.length whole.octets r) c.in-Complex.is whole.agrees;
    }

pub returns-in-Complex : goal.returns-in-Complex
returns-in-Complex g c = λ s5 keeper s7 long known agrees.
    c.end-in-Complex.ensures s5 keeper s7 known (subst (λ (r : Reading _). ReadingAgrees g.K.Keeper.kept s5 keeper c.args.start (length s7) (drop 5 s7) r) c.in-Complex.is agrees)

pub end-requires-in-Coded : goal.end-requires-in-Coded
end-requires-in-Coded g c =
    let whole = c.requires in
    record {
      s5 = whole.s5;
      keeper = whole.keeper;
      octets = whole.octets;
      agrees = subst (λ (r : Reading _). ReadingAgrees g.K.Keeper.kept whole.s5 whole.keeper c.args.start c.args.length whole.octets r) c.in-Coded.is whole.agrees;
    }

pub returns-in-Coded : goal.returns-in-Coded
returns-in-Coded g c = λ s5 keeper s7 long known agrees.
    c.end-in-Coded.ensures s5 keeper s7 long (subst (λ (r : Reading _). ReadingAgrees g.K.Keeper.kept s5 keeper c.args.start (length s7) (drop 5 s7) r) c.in-Coded.is agrees)
