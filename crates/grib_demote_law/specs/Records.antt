-- The record of a parameter table that stands for a parameter of edition 2.
use Rattle.std.specs.Prelude.{◌≡◌, ℕ, true, Option, Some, List}
use Rattle.std.specs.Option.{option_and_then}
use Rattle.grib_params.specs.declared.row.Target.{Target}
use Rattle.grib_params.specs.declared.matching.TableMatch.{TableMatch}
use Rattle.grib_params.specs.Table.{Entries, lookup_in}
use Rattle.grib_params.specs.Pairs.{Pair, matches}
use Rattle.grib2_sections.specs.Head.{discipline}
use Rattle.grib2_message.specs.Fields.{part_octets}
use Rattle.grib_demote.specs.Products.{centre, pair_in, target_of}

-- a look-up of this version and parameter finds a target that stands for the parameter
pub record Finds (table : Entries) (matching : TableMatch) (centre : ℕ) (parameter : Target) (pair : Pair) : Type 0 where
  pub target : Target
  pub found : lookup_in table centre pair.0 pair.1 ≡ Some target
  pub stands : matches matching parameter target ≡ true

-- the parameter of a field
abbrev pub parameter_of : List ℕ → ℕ → Target
parameter_of message i = target_of (discipline message) (part_octets message i 1) (part_octets message i 4)

-- the target that stands for it: that of a look-up of its first version and parameter
abbrev pub record_of : Entries → TableMatch → List ℕ → ℕ → Option Target
record_of table matching message i =
    let part = λ (k : ℕ). part_octets message i k in
    option_and_then (λ pair. lookup_in table (centre (part 1)) pair.0 pair.1) (pair_in table matching (discipline message) (part 1) (part 4))
