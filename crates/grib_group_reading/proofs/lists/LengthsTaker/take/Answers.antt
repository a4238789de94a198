use Rattle.std.proofs.Common.{◌≡◌, ℕ, ◌+◌, ◌*◌, ◌∷◌, [], ◌++◌, ap₂, subst}
use Rattle.grib_group_reading.specs.Taking.{number_of}
use Rattle.grib_group_reading.specs.Lists.{LengthsAre}
use Rattle.grib_group_reading.proofs.lists.LengthsTaker.take.Goals as goal

pub returns : goal.returns
returns c = record {
  same = c.add.ensures.same;
  long = λ room. c.add.ensures.long;
  read = λ values read room are.
      let before = c.args.self in
      let is_length : c.from.result + c.from-2.result * c.number.result ≡ before.reference + before.increment * number_of c.args.code =
      ap₂ ◌+◌ c.from.ensures (ap₂ ◌*◌ c.from-2.ensures c.number.ensures) in
      subst (λ (n : ℕ). LengthsAre values c.add.result (read ++ n ∷ [])) is_length (c.add.ensures.read values read room are);
}
