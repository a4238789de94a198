use Rattle.std.proofs.Common.{◌≡◌, ℕ, Option, Some, None, MatchResult, length, drop, sym, arith, subst, subst₂}
use Rattle.grib_base.specs.Rules.{located}
use Rattle.grib_packing.specs.Entries.{data_fault, entries_of}
use Rattle.grib_packing.specs.Packing.{value_count}
use Rattle.grib_packings.specs.declared.reading.Reading.{Reading}
use Rattle.grib_packings.specs.Feeding.{HasReading}
use Rattle.grib_packings.proofs.feeding.Feeding.end.Goals as goal

pub end-requires : goal.end-requires
end-requires g c =
    let fed = c.requires.fed in
    let read = fed.read in
    let here = subst (λ (o : Option (Reading _)). HasReading g.K.Keeper.kept fed.s5 fed.keeper fed.start fed.l fed.octets o) c.in-Some.is read.reading in
    record {
      s5 = fed.s5;
      keeper = fed.keeper;
      octets = fed.octets;
      low = omega (arith, read.low, read.start_is);
      high = omega (arith, read.high, read.start_is);
      whole = omega (arith, read.within, read.pushed, read.length_is, c.requires.all);
      agrees = subst₂ (λ (n l : ℕ). HasReading g.K.Keeper.kept fed.s5 fed.keeper n l fed.octets (Some c.in-Some.reading)) (sym read.start_is) (sym read.length_is) here;
    }

pub returns : goal.returns
returns g c = λ s5 keeper start s7 read.
    let here = subst (λ (o : Option (Reading _)). HasReading g.K.Keeper.kept s5 keeper start (length s7) (drop 5 s7) o) c.in-Some.is read.reading in
    let agrees = subst (λ (n : ℕ). HasReading g.K.Keeper.kept s5 keeper n (length s7) (drop 5 s7) (Some c.in-Some.reading)) (sym read.start_is) here in
    subst (λ (n : ℕ). MatchResult c.end.result
    (λ after. (data_fault s5 s7 ≡ None) × g.K.Keeper.kept keeper (entries_of s5 s7) after × (length (entries_of s5 s7) ≡ value_count s5))
    (λ fault. located n (data_fault s5 s7) ≡ Some fault)) read.start_is (c.end.ensures s5 keeper s7 (sym read.length_is) read.known agrees)
