-- The tests of a value decide what is asked of it.
use Rattle.std.proofs.Common.{◌≡◌, Bool, true, false, not, ◌&&◌, ◌||◌, ◌≤ℤ◌, int_le, ℤ, List, All, Any, refl, ap, arith}
use Rattle.std.specs.Bool.{Decides}
use Rattle.std.proofs.lemmas.Int.{ints}
use Rattle.std.proofs.lemmas.Bool.Decides.{Decides-int_eq, Decides-and, Decides-not, Decides-by_and}
use Rattle.std.proofs.lemmas.List.Folds.{Any-from_list_any, list_any-from_Any}
use Rattle.grib_keys.specs.declared.condition.Value.{Value}
use Rattle.grib_keys.specs.declared.condition.Value.TheVariants.{Number, Missing}
use Rattle.grib_keys.specs.declared.wanted.Choice.{Choice}
use Rattle.grib_keys.specs.declared.wanted.Choice.TheVariants.{One, Between, From, UpTo}
use Rattle.grib_keys.specs.declared.wanted.Test.{Test}
use Rattle.grib_keys.specs.declared.wanted.Test.TheVariants.{Among, Outside}
use Rattle.grib_keys.specs.Wanted.{IsChosen, Holds, same_value, is_chosen, is_among, holds}

pub same_decides : (x y : Value) → Decides (same_value x y) (x ≡ y)
same_decides (Number x) (Number y) = (let d = Decides-int_eq x y in (λ e. ap Number (d.0 e), λ e. d.1 (cc)))
same_decides (Number x) Missing = (λ e. absurd (cc), λ e. absurd (cc))
same_decides Missing (Number y) = (λ e. absurd (cc), λ e. absurd (cc))
same_decides Missing Missing = (λ e. refl, λ e. refl)

le_decides : (a b : ℤ) → Decides (int_le a b) (a ≤ℤ b)
le_decides a b = (λ e. grind (arith, ints), λ e. grind (arith, ints))

nothing_chosen : Decides false ⊥
nothing_chosen = (λ e. absurd (cc), λ e. absurd e)

pub chosen_decides : (choice : Choice) (value : Value) → Decides (is_chosen choice value) (IsChosen choice value)
chosen_decides (One this) value = same_decides value this
chosen_decides (Between least most) (Number x) = Decides-and (int_le least x) (int_le x most) (le_decides least x) (le_decides x most)
chosen_decides (Between least most) Missing = nothing_chosen
chosen_decides (From least) (Number x) = le_decides least x
chosen_decides (From least) Missing = nothing_chosen
chosen_decides (UpTo most) (Number x) = le_decides x most
chosen_decides (UpTo most) Missing = nothing_chosen

among_decides : (choices : List Choice) (value : Value) → Decides (is_among choices value) (Any (λ choice. IsChosen choice value) choices)
among_decides choices value = (
  λ e. (let some = Any-from_list_any (λ choice. is_chosen choice value) choices e in (some.0, some.1, some.2, some.3, (chosen_decides some.1 value).0 some.4)),
  λ some. list_any-from_Any (λ choice. is_chosen choice value) choices (some.0, some.1, some.2, some.3, (chosen_decides some.1 value).1 some.4),
)

outside_decides : (choices : List Choice) (value : Value) → Decides (not (is_among choices value)) (All (λ choice. ¬ IsChosen choice value) choices)
outside_decides choices value =
    Decides-by_and (λ choice. not (is_chosen choice value)) (λ choice. ¬ IsChosen choice value) (λ those. not (is_among those value))
    (λ choice. Decides-not (is_chosen choice value) (chosen_decides choice value)) refl (λ choice later. not_either (is_chosen choice value) (is_among later value)) choices
  where
    not_either : (a b : Bool) → not (a || b) ≡ (not a && not b)
    not_either true b = refl
    not_either false b = refl

pub holds_decides : (test : Test) (value : Value) → Decides (holds test value) (Holds test value)
holds_decides (Among choices) value = among_decides choices value
holds_decides (Outside choices) value = outside_decides choices value
