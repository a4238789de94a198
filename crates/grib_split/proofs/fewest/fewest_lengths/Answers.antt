use Rattle.std.proofs.Common.{rules, List, ℕ, sym, subst}
use Rattle.grib_packing.specs.Groupings.{Chosen}
use Rattle.grib_split.proofs.FewGroups.{fewest_chosen}
use Rattle.grib_split.proofs.fewest.fewest_lengths.Goals as goal

pub returns-clause-is : goal.returns-clause-is
returns-clause-is c = search rules

pub returns-clause-chosen : goal.returns-clause-chosen
returns-clause-chosen c header width codes long has none =
    subst (λ (ls : List ℕ). Chosen header width codes ls) (sym (returns-clause-is c)) (fewest_chosen header width codes c.args.count long c.requires.some has none)
