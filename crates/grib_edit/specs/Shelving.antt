-- Acts that are done on a shelf alone.
use Rattle.std.specs.Prelude.{ℕ, List, OnOk}
use Rattle.std.specs.declared.option.Option.{Option}
use Rattle.std.specs.declared.result.Result.{Result}
use Rattle.grib_io.specs.Shelves.{Held}
use Rattle.grib_stream.specs.Acts.{Act, world, Did, DidFront}

-- these acts were done, whatever the output holds
abbrev pub DidOnShelf : Option Held → Option Held → List Act → Type 0
DidOnShelf before now acts = (output : Option (List ℕ)) → Did (world output before) (world output now) acts

-- some front of them was done
abbrev pub DidFrontOnShelf : Option Held → Option Held → List Act → Type 0
DidFrontOnShelf before now acts = (output : Option (List ℕ)) → DidFront (world output before) (world output now) acts

-- a call that does these acts: all were done where it succeeds, and some front of them in any case
pub record Shelves {T E : Type 0} (result : Result T E) (before now : Option Held) (acts : List Act) : Type 0 where
  pub whole : OnOk result (DidOnShelf before now acts)
  pub front : DidFrontOnShelf before now acts
