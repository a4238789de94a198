-- What is said of two fields by their points.
use Rattle.std.proofs.Common.{◌≡◌, ℕ, ◌==◌, Bool, true, false, Option, Some, None, List, length, map, refl, sym, ap, ◌∙◌, subst}
use Rattle.grib_base.specs.Rules.{choose}
use Rattle.grib_bits.specs.Bits.{bits_of, signed}
use Rattle.grib_dyadic.specs.Reference.{Binary, SameNumber, ieee, ibm}
use Rattle.grib_dyadic.specs.Meaning.{Meant, SameMeaning}
use Rattle.grib_packing.specs.declared.column.Column.{Column}
use Rattle.grib1_sections.specs.Column as first
use Rattle.grib2_message.specs.Fields as second
use Rattle.grib_same.specs.Sameness.{first_difference, meant}
use Rattle.grib_compare.specs.declared.comparison.Comparison.{Comparison}
use Rattle.grib_compare.specs.declared.comparison.Comparison.TheVariants.{Same, Shape, Differs}
use Rattle.grib_compare.specs.declared.points.FieldPoints.{FieldPoints}
use Rattle.grib_compare.specs.Fields.{by_points, on_point}
use Rattle.grib_compare.specs.Seen.{points_mean}
use Rattle.grib_compare.proofs.Meanings.{difference_same, length_same, points_same}

-- by what means the same
pub points_beside : (ps ps' qs qs' : List Meant) (next : Comparison) → SameMeaning ps ps' → SameMeaning qs qs' → by_points ps qs next ≡ by_points ps' qs' next
points_beside ps ps' qs qs' next left right =
    ap (λ n. choose (n == length qs) (λ _. on_point (first_difference ps qs) next) (λ _. Shape n (length qs))) (length_same ps ps' left)
    ∙ ap (λ n. choose (length ps' == n) (λ _. on_point (first_difference ps qs) next) (λ _. Shape (length ps') n)) (length_same qs qs' right)
    ∙ ap (λ o. choose (length ps' == length qs') (λ _. on_point o next) (λ _. Shape (length ps') (length qs'))) (difference_same 1 ps ps' qs qs' left right)

-- the numbers of a column as those of a scale
module _ (points : FieldPoints) (column : Column) (reference : Binary) (is_column : points.column ≡ column) (is_reference : points.scale.reference ≡ reference) (e_is : points.scale.e ≡ column.e) (d_is : points.scale.d ≡ column.d) where
  abbrev means : List Meant
  means = map (meant reference (signed (bits_of 16 column.e)) (signed (bits_of 16 column.d))) column.points

  means_is : points_mean points ≡ means
  means_is =
      ap (λ (x : Column). map (meant points.scale.reference (signed (bits_of 16 points.scale.e)) (signed (bits_of 16 points.scale.d))) x.points) is_column
      ∙ ap (λ r. map (meant r (signed (bits_of 16 points.scale.e)) (signed (bits_of 16 points.scale.d))) column.points) is_reference
      ∙ ap (λ n. map (meant reference (signed (bits_of 16 n)) (signed (bits_of 16 points.scale.d))) column.points) e_is
      ∙ ap (λ n. map (meant reference (signed (bits_of 16 column.e)) (signed (bits_of 16 n))) column.points) d_is

  pub means_first : SameNumber reference (ibm column.reference) → SameMeaning (points_mean points) (map (first.meaning_at column) column.points)
  means_first same =
      subst (λ ps. SameMeaning ps (map (first.meaning_at column) column.points)) (sym means_is)
      (points_same reference (ibm column.reference) (signed (bits_of 16 column.e)) (signed (bits_of 16 column.d)) (first.meaning_at column) same (λ x. refl) refl refl column.points)

  pub means_second : SameNumber reference (ieee column.reference) → SameMeaning (points_mean points) (map (second.meaning_at column) column.points)
  means_second same =
      subst (λ ps. SameMeaning ps (map (second.meaning_at column) column.points)) (sym means_is)
      (points_same reference (ieee column.reference) (signed (bits_of 16 column.e)) (signed (bits_of 16 column.d)) (second.meaning_at column) same (λ x. refl) refl refl column.points)

-- ---- what comes after the points

-- it counts where the points are the same
pub points_then : (here there : List Meant) (next : Comparison) → by_points here there Same ≡ Same → by_points here there next ≡ next
points_then here there next is = go (length here == length there) (first_difference here there) is
  where
    go : (b : Bool) (o : Option ℕ) → choose b (λ _. on_point o Same) (λ _. Shape (length here) (length there)) ≡ Same
        → choose b (λ _. on_point o next) (λ _. Shape (length here) (length there)) ≡ next
    go true None is = refl
    go true (Some point) is = let no : Differs point ≡ Same = is in absurd (cc no)
    go false o is = let no : Shape (length here) (length there) ≡ Same = is in absurd (cc no)

-- and else does not
pub points_differ : (here there : List Meant) (next found : Comparison) → by_points here there Same ≡ found → (found ≡ Same → ⊥) → by_points here there next ≡ found
points_differ here there next found is other = go (length here == length there) (first_difference here there) is
  where
    go : (b : Bool) (o : Option ℕ) → choose b (λ _. on_point o Same) (λ _. Shape (length here) (length there)) ≡ found
        → choose b (λ _. on_point o next) (λ _. Shape (length here) (length there)) ≡ found
    go true None is = absurd (other (sym is))
    go true (Some point) is = is
    go false o is = is
