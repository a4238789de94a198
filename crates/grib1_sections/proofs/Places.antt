-- Where the sections begin, in octets that agree as far as the sections go.
use Rattle.std.proofs.Common.{◌≡◌, ℕ, Bool, true, false, cond, Some, None, List, refl, sym, ap, ◌∙◌}
use Rattle.grib_base.specs.Rules.{choose}
use Rattle.grib_bitmap.specs.Mask.{present_count}
use Rattle.grib1_sections.specs.Frame.{section_at, after}
use Rattle.grib1_sections.specs.Identification.{flags_bitmap}
use Rattle.grib1_sections.specs.Grid.{grid_points}
use Rattle.grib1_sections.specs.Bitmap.{mask_of}
use Rattle.grib1_sections.specs.Acceptance.{identification, has_bitmap, grid_start, bitmap_start, data_start, end_start, grid, bitmap, data_section, points_of, values_of}
use Rattle.grib1_sections.proofs.Agreeing.{Agree, Inside, same_section, same_after}

-- ---- by the lengths of the sections before

pub grid_start-is : (m : List ℕ) → grid_start m ≡ after m 9
unfolding grid_start
grid_start-is m = refl

pub bitmap_start-is : (m : List ℕ) → bitmap_start m ≡ after m (grid_start m)
unfolding bitmap_start
bitmap_start-is m = refl

data_start-is : (m : List ℕ) → data_start m ≡ cond (has_bitmap m) (after m (bitmap_start m)) (bitmap_start m)
unfolding data_start
data_start-is m = refl

pub end_start-is : (m : List ℕ) → end_start m ≡ after m (data_start m)
unfolding end_start
end_start-is m = refl

pub data_start-flagged : (m : List ℕ) → has_bitmap m ≡ true → data_start m ≡ after m (bitmap_start m)
data_start-flagged m on = data_start-is m ∙ ap (λ b. cond b (after m (bitmap_start m)) (bitmap_start m)) on

pub data_start-plain : (m : List ℕ) → has_bitmap m ≡ false → data_start m ≡ bitmap_start m
data_start-plain m off = data_start-is m ∙ ap (λ b. cond b (after m (bitmap_start m)) (bitmap_start m)) off

-- Section 3, where it is flagged and where it is not
pub bitmap-flagged : (m : List ℕ) → has_bitmap m ≡ true → bitmap m ≡ Some (section_at m (bitmap_start m))
bitmap-flagged m on = ap (λ b. choose b (λ _. Some (section_at m (bitmap_start m))) (λ _. None)) on

pub bitmap-plain : (m : List ℕ) → has_bitmap m ≡ false → bitmap m ≡ None
bitmap-plain m off = ap (λ b. choose b (λ _. Some (section_at m (bitmap_start m))) (λ _. None)) off

-- ---- in octets that agree

-- the sections up to Section 2 are inside
pub record GridInside (n : ℕ) (m : List ℕ) : Type 0 where
  pub first : Inside n m 9
  pub second : Inside n m (grid_start m)

-- and Section 3
pub record BitmapInside (n : ℕ) (m : List ℕ) : Type 0 where
  pub before : GridInside n m
  pub third : has_bitmap m ≡ true → Inside n m (bitmap_start m)

pub same_identification : (n : ℕ) (u w : List ℕ) → Agree n u w → Inside n u 9 → identification w ≡ identification u
same_identification n u w h i = same_section n u w 9 h i

pub same_flag : (n : ℕ) (u w : List ℕ) → Agree n u w → Inside n u 9 → has_bitmap w ≡ has_bitmap u
same_flag n u w h i = ap flags_bitmap (same_identification n u w h i)

pub same_grid_start : (n : ℕ) (u w : List ℕ) → Agree n u w → Inside n u 9 → grid_start w ≡ grid_start u
same_grid_start n u w h i = grid_start-is w ∙ same_after n u w 9 h i ∙ sym (grid_start-is u)

pub same_grid : (n : ℕ) (u w : List ℕ) → Agree n u w → GridInside n u → grid w ≡ grid u
same_grid n u w h i = ap (section_at w) (same_grid_start n u w h i.first) ∙ same_section n u w (grid_start u) h i.second

pub same_bitmap_start : (n : ℕ) (u w : List ℕ) → Agree n u w → GridInside n u → bitmap_start w ≡ bitmap_start u
same_bitmap_start n u w h i =
    bitmap_start-is w ∙ ap (after w) (same_grid_start n u w h i.first) ∙ same_after n u w (grid_start u) h i.second ∙ sym (bitmap_start-is u)

pub same_points : (n : ℕ) (u w : List ℕ) → Agree n u w → GridInside n u → points_of w ≡ points_of u
same_points n u w h i = ap grid_points (same_grid n u w h i)

pub same_third : (n : ℕ) (u w : List ℕ) → Agree n u w → GridInside n u → Inside n u (bitmap_start u)
    → section_at w (bitmap_start w) ≡ section_at u (bitmap_start u)
same_third n u w h i third = ap (section_at w) (same_bitmap_start n u w h i) ∙ same_section n u w (bitmap_start u) h third

same_by_flag : (n : ℕ) (u w : List ℕ) (b : Bool) → has_bitmap u ≡ b → Agree n u w → BitmapInside n u
    → (data_start w ≡ data_start u) × (bitmap w ≡ bitmap u)
same_by_flag n u w true e h i =
    let third : Inside n u (bitmap_start u) = i.third e in
    let on : has_bitmap w ≡ true = same_flag n u w h i.before.first ∙ e in (
      data_start-flagged w on ∙ ap (after w) (same_bitmap_start n u w h i.before) ∙ same_after n u w (bitmap_start u) h third
          ∙ sym (data_start-flagged u e),
      bitmap-flagged w on ∙ ap Some (same_third n u w h i.before third) ∙ sym (bitmap-flagged u e),
    )
same_by_flag n u w false e h i =
    let off : has_bitmap w ≡ false = same_flag n u w h i.before.first ∙ e in (
      data_start-plain w off ∙ same_bitmap_start n u w h i.before ∙ sym (data_start-plain u e),
      bitmap-plain w off ∙ sym (bitmap-plain u e),
    )

pub same_data_start : (n : ℕ) (u w : List ℕ) → Agree n u w → BitmapInside n u → data_start w ≡ data_start u
same_data_start n u w h i = (same_by_flag n u w (has_bitmap u) refl h i).0

pub same_bitmap : (n : ℕ) (u w : List ℕ) → Agree n u w → BitmapInside n u → bitmap w ≡ bitmap u
same_bitmap n u w h i = (same_by_flag n u w (has_bitmap u) refl h i).1

pub same_values : (n : ℕ) (u w : List ℕ) → Agree n u w → BitmapInside n u → values_of w ≡ values_of u
same_values n u w h i =
    ap (λ s. present_count (mask_of s (points_of w))) (same_bitmap n u w h i)
    ∙ ap (λ k. present_count (mask_of (bitmap u) k)) (same_points n u w h i.before)

pub same_data : (n : ℕ) (u w : List ℕ) → Agree n u w → BitmapInside n u → Inside n u (data_start u) → data_section w ≡ data_section u
same_data n u w h i fourth = ap (section_at w) (same_data_start n u w h i) ∙ same_section n u w (data_start u) h fourth

pub same_end_start : (n : ℕ) (u w : List ℕ) → Agree n u w → BitmapInside n u → Inside n u (data_start u) → end_start w ≡ end_start u
same_end_start n u w h i fourth =
    end_start-is w ∙ ap (after w) (same_data_start n u w h i) ∙ same_after n u w (data_start u) h fourth ∙ sym (end_start-is u)
