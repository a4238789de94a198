-- Whether a field fulfils conditions, by each of them.
use Rattle.std.proofs.Common.{ℕ, Option, Some, None, List, false, refl}
use Rattle.std.specs.Prelude.{All, IsSomeAnd}
use Rattle.std.specs.Bool.{Decides}
use Rattle.std.specs.List.{list_all}
use Rattle.std.specs.Option.{option_map_or}
use Rattle.std.proofs.lemmas.Bool.Decides.{Decides-by_and}
use Rattle.grib_keys.specs.declared.condition.Value.{Value}
use Rattle.grib_keys.specs.declared.wanted.Test.{Test}
use Rattle.grib_keys.specs.declared.wanted.Wanted.{Wanted}
use Rattle.grib_keys.specs.Wanted.{Holds, holds}
use Rattle.grib_keys.proofs.Chosen.{holds_decides}
use Rattle.grib_select.specs.Values.{key_value_of, Fulfils, fulfils, fulfils_all}

value_decides : (test : Test) (value : Option Value) → Decides (option_map_or (holds test) value false) (IsSomeAnd value (Holds test))
value_decides test None = (λ e. absurd (cc), λ e. absurd e)
value_decides test (Some value) = holds_decides test value

pub one_decides : (m : List ℕ) (i : ℕ) (wanted : Wanted) → Decides (fulfils m i wanted) (Fulfils m i wanted)
one_decides m i wanted = value_decides wanted.test (key_value_of m i wanted.key)

pub asked_decides : (m : List ℕ) (i : ℕ) (conditions : List Wanted) → Decides (fulfils_all m i conditions) (All (Fulfils m i) conditions)
asked_decides m i conditions =
    Decides-by_and (fulfils m i) (Fulfils m i) (list_all (fulfils m i)) (one_decides m i) refl (λ _ _. refl) conditions
