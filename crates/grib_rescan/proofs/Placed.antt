-- Points that are put in their places.
use Rattle.std.proofs.Common.{◌≡◌, ℕ, ◌+◌, ◌*◌, ◌/◌, ◌%◌, ◌<◌, List, length, inl, inr, sym, ap, ◌∙◌, arith, subst}
use Rattle.std.proofs.Math.ListN.{set}
use Rattle.std.proofs.Math.Nat.{mul_comm}
use Rattle.std.proofs.lemmas.Bool.{cases_eq}
use Rattle.std.proofs.lemmas.Grind.{get_or-set_at}
use Rattle.std.proofs.lemmas.List.{get_or-set_other, ext_get_or}
use Rattle.std.proofs.lemmas.Nat.{mul-add-lt, div-add-mod'}
use Rattle.grib_packing.specs.declared.column.Point.{Point}
use Rattle.grib_packing.specs.declared.column.Point.TheVariants.{Missing}
use Rattle.grib_rescan.specs.Points.{point}
use Rattle.grib_rescan.specs.Put.{IsPut, Keeps}
use Rattle.grib_rescan.proofs.Turns.{is_in}

-- the place of a column in a row, and that of a row in a column
pub place_in : (columns rows row column : ℕ) → row < rows → column < columns → row * columns + column < columns * rows
place_in columns rows row column below small = mul-add-lt row columns column rows below small

pub number_in : (columns rows row column : ℕ) → row < rows → column < columns → column * rows + row < columns * rows
number_in columns rows row column below small = omega (arith, mul-add-lt column rows row columns small below, mul_comm columns rows)

-- one point more
module _ (wanted before after : List Point) (at : ℕ) (p : Point) (is : after ≡ set before at p) (within : at < length before) (right : p ≡ point wanted at) where
  pub put_here : (k : ℕ) → k ≡ at → IsPut wanted after k
  put_here k same =
      ap (λ (xs : List Point). point xs k) is ∙ get_or-set_at before at k p Missing same within ∙ right ∙ ap (point wanted) (sym same)

  pub put_keeps : Keeps wanted before after
  put_keeps k was = elim (cases_eq k at) [
    | inl same ↦ put_here k same
    | inr other ↦ ap (λ (xs : List Point). point xs k) is ∙ get_or-set_other before at k p Missing other ∙ was
  ]

-- all of them
pub all_put : (columns rows : ℕ) (wanted points : List Point) → length wanted ≡ columns * rows → length points ≡ columns * rows
    → ((i j : ℕ) → i < columns → j < rows → IsPut wanted points (j * columns + i)) → points ≡ wanted
all_put columns rows wanted points long size put =
    ext_get_or Missing points wanted (size ∙ sym long)
    (λ k small. let in_it = is_in columns rows k (omega (arith, small, size)) in
    subst (IsPut wanted points) (div-add-mod' k columns) (put (k % columns) (k / columns) in_it.column in_it.row))
