use Rattle.std.proofs.Common.{◌≡◌, ◌==◌, ℕ, Bool, true, false, Option, Some, None, List, length, refl, ap, ◌∙◌}
use Rattle.std.proofs.lemmas.Bool.{eq-eqb, eqb-true}
use Rattle.grib_base.specs.Rules.{choose}
use Rattle.grib_dyadic.specs.Meaning.{Meant, SameMeaning}
use Rattle.grib_same.specs.Sameness.{first_difference}
use Rattle.grib_same.proofs.Differences.{none_means, means_none}
use Rattle.grib_compare.specs.declared.comparison.Comparison.{Comparison}
use Rattle.grib_compare.specs.declared.comparison.Comparison.TheVariants.{Same, Shape}
use Rattle.grib_compare.specs.Fields.{meanings, on_point, by_points}
use Rattle.grib_compare.proofs.Meanings.{length_same}
use Rattle.grib_examples.proofs.comparing.same_says_that_points_mean_the_same.Goals as goal

none_by : (point : Option ℕ) → on_point point Same ≡ Same → point ≡ None
none_by None is = refl
none_by (Some point) is = cc

module _ (here there : List Meant) where
  abbrev by_lengths : Bool → Comparison
  by_lengths b = choose b (λ _. on_point (first_difference here there) Same) (λ _. Shape (length here) (length there))

  as_many : (b : Bool) → (length here == length there) ≡ b → by_lengths b ≡ Same → SameMeaning here there
  as_many true long is = none_means 1 here there (eqb-true (length here) (length there) long) (none_by (first_difference here there) is)
  as_many false long is = cc

  same_by : SameMeaning here there → by_points here there Same ≡ Same
  same_by same =
      ap by_lengths (eq-eqb (length here) (length there) (length_same here there same)) ∙ ap (λ point. on_point point Same) (means_none 1 here there same)

pub returns : goal.returns
returns c = λ left right. (
  λ is. as_many (meanings left) (meanings right) (length (meanings left) == length (meanings right)) refl is,
  λ same. same_by (meanings left) (meanings right) same,
)
