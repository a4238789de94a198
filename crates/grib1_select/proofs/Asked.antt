-- Whether a message fulfils conditions, by each of them.
use Rattle.std.proofs.Common.{ℕ, List, refl}
use Rattle.std.specs.Prelude.{All}
use Rattle.std.specs.Bool.{Decides}
use Rattle.std.specs.List.{list_all}
use Rattle.std.proofs.lemmas.Bool.Decides.{Decides-by_and}
use Rattle.grib_keys.specs.declared.condition.Value.TheVariants.{Number}
use Rattle.grib_keys.proofs.Chosen.{holds_decides}
use Rattle.grib1_sections.specs.Keys.{number1_of}
use Rattle.grib1_select.specs.declared.condition.Wanted1.{Wanted1}
use Rattle.grib1_select.specs.Values.{Fulfils1, fulfils1, fulfils_all1}

pub one_decides : (m : List ℕ) (wanted : Wanted1) → Decides (fulfils1 m wanted) (Fulfils1 m wanted)
one_decides m wanted = holds_decides wanted.test (Number (number1_of m wanted.key))

pub asked_decides : (m : List ℕ) (conditions : List Wanted1) → Decides (fulfils_all1 m conditions) (All (Fulfils1 m) conditions)
asked_decides m conditions =
    Decides-by_and (fulfils1 m) (Fulfils1 m) (list_all (fulfils1 m)) (one_decides m) refl (λ _ _. refl) conditions
