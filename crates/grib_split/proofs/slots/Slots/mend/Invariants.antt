use Rattle.std.proofs.Common.{◌≡◌, ℕ, ◌<◌, List}
use Rattle.grib_base.specs.declared.code.Code.{Code}
use Rattle.grib_split.specs.Runs.{Told, WideBut, SameNumbers, SameMarks}
use Rattle.grib_split.proofs.slots.Slots.mend.Given as goal

abbrev pub invariant-loop-rest : goal.invariant-loop-rest
invariant-loop-rest l = record {
  numbers : SameNumbers l.initial.self l.self;
  marks : SameMarks l.initial.self l.self;
  after : l.self.after ≡ l.initial.self.after;
  wide : (run : ℕ → List Code) → ((place : ℕ) → place < 64 → Told l.initial.self place (run place))
      → WideBut l.reserved l.initial.self l.places run → WideBut l.reserved l.self l.rest run;
}

abbrev pub decreases-loop-rest : goal.decreases-loop-rest
decreases-loop-rest l = l.rest
