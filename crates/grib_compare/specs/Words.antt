-- Two fields side by side by the words of their points.
use Rattle.std.specs.Prelude.{ℕ, ◌==◌, List, length}
use Rattle.grib_base.specs.Rules.{choose}
use Rattle.grib_compare.specs.declared.comparison.Comparison.{Comparison}
use Rattle.grib_compare.specs.declared.comparison.Comparison.TheVariants.{Same, Shape}
use Rattle.grib_compare.specs.Fields.{octet_from, on_point}

-- as many words of each are wanted, and the same ones
abbrev pub by_words : List ℕ → List ℕ → Comparison
by_words here there =
    choose (length here == length there) (λ _. on_point (octet_from 1 here there) Same) (λ _. Shape (length here) (length there))
