use Rattle.std.proofs.Common.{◌≡◌, ◌-◌, ◌++◌, ℕ, List, [], length, take, drop, refl, arith, subst₂}
use Rattle.std.proofs.lemmas.List.{take_rest, length-take, length-drop}
use Rattle.grib_base.specs.declared.fault.ReadFault.TheVariants.{Memory}
use Rattle.grib_base.specs.Faults.{IsReadFault}
use Rattle.grib_base.specs.Rules.{located}
use Rattle.grib_base.proofs.Passing.{carried, refused}
use Rattle.grib_bits.proofs.OctetNumbers.{AreOctets-drop, AreOctets-known}
use Rattle.grib_packing.specs.Entries.{data_fault}
use Rattle.grib_complex_reading.specs.Feeding.{StateAgrees}
use Rattle.grib_complex_reading.specs.declared.stages.ComplexReading.{ComplexReading}
use Rattle.grib_complex.proofs.unpacking.take_values.Goals as goal

-- all octets after the fifth came
came : {K : Type 0} (kept : _) (s5 : List ℕ) (keeper : K) (start l : ℕ) (s7 : List ℕ) (reading : ComplexReading K) → l ≡ length s7
    → StateAgrees kept s5 keeper start l ([] ++ take (length s7 - 5) (drop 5 s7)) reading → StateAgrees kept s5 keeper start (length s7) (drop 5 s7) reading
came kept s5 keeper start l s7 reading is_length agrees = subst₂ (λ (n : ℕ) (os : List ℕ). StateAgrees kept s5 keeper start n os reading) is_length (take_rest s7 5) agrees

pub push-reading-requires-clause-fed : goal.push-reading-requires-clause-fed
push-reading-requires-clause-fed g c = record {
  s5 = c.requires.spelled.0;
  keeper = c.args.keeper;
  octets = [];
  known = λ i. omega arith;
  low = c.requires.low;
  high = c.requires.high;
  long = refl;
  agrees = c.in_ok-reading.ensures c.requires.spelled.0 c.requires.spelled.1;
}

pub push-reading-requires-clause-within : goal.push-reading-requires-clause-within
push-reading-requires-clause-within g c =
    let s7 = c.args.octets.now in
    omega (arith, c.requires.all, c.requires.least, length-take (length s7 - 5) (drop 5 s7), length-drop 5 s7)

pub end-requires : goal.end-requires
end-requires g c =
    let s5 = c.requires.spelled.0 in
    let s7 = c.args.octets.now in
    record {
      s5 = s5;
      keeper = c.args.keeper;
      l = length s7;
      octets = drop 5 s7;
      low = c.requires.low;
      high = c.requires.high;
      whole = omega (arith, c.requires.all, c.requires.least, length-drop 5 s7);
      agrees = came g.K.Keeper.kept s5 c.args.keeper c.args.start c.args.length s7 c.push-reading.result c.requires.all (c.push-reading.ensures s5 c.args.keeper [] refl (λ i. omega arith) (c.in_ok-reading.ensures s5 c.requires.spelled.1));
    }

pub returns-in_err-reading : goal.returns-in_err-reading
returns-in_err-reading g c = λ s5 spelled. carried _ (IsReadFault (located c.args.start (data_fault s5 c.args.octets.now))) _ Memory c.from_residual.ensures.1 tt

pub returns-in_err-end : goal.returns-in_err-end
returns-in_err-end g c = λ s5 spelled.
    let s7 = c.args.octets.now in
    refused _ _ _ _ c.from_residual-in_err-end.ensures.1 (c.in_err-end.ensures s5 c.args.keeper s7 (AreOctets-drop 5 s7 (AreOctets-known s7 c.type_inv.octets))
    (came g.K.Keeper.kept s5 c.args.keeper c.args.start c.args.length s7 c.push-reading.result c.requires.all (c.push-reading.ensures s5 c.args.keeper [] refl (λ i. omega arith) (c.in_ok-reading.ensures s5 spelled))))

pub returns : goal.returns
returns g c = λ s5 spelled.
    let s7 = c.args.octets.now in
    c.in_ok-end.ensures s5 c.args.keeper s7 (AreOctets-drop 5 s7 (AreOctets-known s7 c.type_inv.octets))
    (came g.K.Keeper.kept s5 c.args.keeper c.args.start c.args.length s7 c.push-reading.result c.requires.all (c.push-reading.ensures s5 c.args.keeper [] refl (λ i. omega arith) (c.in_ok-reading.ensures s5 spelled)))
