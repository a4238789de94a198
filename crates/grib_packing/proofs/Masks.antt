-- Lemmas on points that take the places of a mask.
use Rattle.std.proofs.Common.{◌≡◌, ℕ, zero, suc, ◌+◌, ◌-◌, ◌<◌, ◌≤◌, Bool, true, false, List, [], ◌∷◌, ◌++◌, length, drop, replicate, vec_capacity, refl, sym, ap, ap₂, ◌∙◌, arith, append_assoc, subst, inl, inr}
use Rattle.std.proofs.lemmas.Bool.{cases_lt}
use Rattle.std.proofs.lemmas.List.{append-nil, drop-drop, drop_all, length-append, length-replicate, length-drop, length_push}
use Rattle.grib_bitmap.specs.Mask.{present_count}
use Rattle.grib_bitmap.proofs.Runs.{present_count-run, present_count-cons}
use Rattle.grib_packing.specs.declared.column.Point.{Point}
use Rattle.grib_packing.specs.declared.column.Point.TheVariants.{Missing}
use Rattle.grib_packing.specs.Column.{points_with_mask}
use Rattle.grib_packing.specs.declared.keeping.Points.{Points}
use Rattle.grib_packing.specs.Kept.{ArePoints}

-- a run of points that are left out takes no entry
pub with_mask_missing : (n : ℕ) (rest : List Bool) (entries : List Point)
    → points_with_mask (replicate n false ++ rest) entries ≡ replicate n Missing ++ points_with_mask rest entries
with_mask_missing zero rest entries = refl
with_mask_missing (suc n) rest entries = ap (λ (zs : List Point). Missing ∷ zs) (with_mask_missing n rest entries)

module _ (mask : List Bool) (seen : List Point) (before after : Points) (are : ArePoints mask seen before) (none : before.left ≡ 0) (n : ℕ) (within : length before.points.items + n ≤ length mask) (same_mask : after.mask.value ≡ before.mask.value) where
  -- points that the mask leaves out
  pub are_missing : drop (length before.points.items) mask ≡ replicate n false ++ drop (length before.points.items + n) mask → after.left ≡ 0
      → after.points.items ≡ before.points.items ++ replicate n Missing → vec_capacity before.points ≤ vec_capacity after.points → ArePoints mask seen after
  are_missing run still_none is_points memory =
      let points = before.points.items in
      let place = length points in
      let long : length after.points.items ≡ place + n = ap length is_points ∙ length-append points (replicate n Missing) ∙ ap (λ (k : ℕ). place + k) (length-replicate {A = Point} n Missing) in
      record {
        mask_stays = same_mask ∙ are.mask_stays;
        memory = omega (arith, are.memory);
        within = omega (arith, long);
        agree = λ more.
            are.agree more
            ∙ ap (λ (bs : List Bool). points ++ points_with_mask bs more) run
            ∙ ap (λ ps. points ++ ps) (with_mask_missing n (drop (place + n) mask) more)
            ∙ sym (append_assoc points (replicate n Missing) (points_with_mask (drop (place + n) mask) more))
            ∙ ap₂ (λ (ps : List Point) (k : ℕ). ps ++ points_with_mask (drop k mask) more) (sym is_points) (sym long);
        counted =
            are.counted ∙ ap (λ (bs : List Bool). length seen + present_count bs) run
            ∙ ap (λ (k : ℕ). length seen + k) (present_count-run n false (drop (place + n) mask))
            ∙ omega (arith, ap (λ (k : ℕ). present_count (drop k mask)) long);
        ahead =
            let nothing : length after.points.items + after.left ≡ length after.points.items = omega arith in
            ap₂ (λ (j k : ℕ). replicate j true ++ drop k mask) (sym still_none) (sym nothing);
      }

  -- points that are present
  pub are_present : drop (length before.points.items) mask ≡ replicate n true ++ drop (length before.points.items + n) mask → after.left ≡ n
      → after.points ≡ before.points → ArePoints mask seen after
  are_present run is_left same_points = record {
    mask_stays = same_mask ∙ are.mask_stays;
    memory = subst (λ v. length mask ≤ vec_capacity v) (sym same_points) are.memory;
    within = omega (arith, ap (λ v. length v.items) same_points);
    agree = λ more. are.agree more ∙ ap (λ v. v.items ++ points_with_mask (drop (length v.items) mask) more) (sym same_points);
    counted = are.counted ∙ ap (λ v. length seen + present_count (drop (length v.items) mask)) (sym same_points);
    ahead =
        ap (λ v. drop (length v.items) mask) same_points ∙ run
        ∙ ap₂ (λ (j k : ℕ). replicate j true ++ drop (k + j) mask) (sym is_left) (ap (λ v. length v.items) (sym same_points));
  }

-- where values are still to come, points are too
pub some_ahead : (mask : List Bool) (seen : List Point) (points : Points) → ArePoints mask seen points → length seen < present_count mask → length points.points.items < length mask
some_ahead mask seen points are more = elim (cases_lt (length points.points.items) (length mask)) [
  | inl within ↦ within
  | inr past ↦ absurd (omega (arith, are.counted, ap present_count (drop_all (length points.points.items) mask past)))
]

-- one value more
pub are_kept : (mask : List Bool) (seen : List Point) (before after : Points) (point : Point) → ArePoints mask seen before → 0 < before.left → after.mask.value ≡ before.mask.value
    → after.left ≡ before.left - 1 → after.points.items ≡ before.points.items ++ point ∷ [] → vec_capacity before.points ≤ vec_capacity after.points
    → ArePoints mask (seen ++ point ∷ []) after
are_kept mask seen before after point are some same_mask is_left is_points memory =
    let points = before.points.items in
    let place = length points in
    let left = before.left in
    let rest = drop (place + left) mask in
    let ahead_left = replicate (left - 1) true ++ rest in
    let long : length after.points.items ≡ place + 1 = ap length is_points ∙ length_push points point in
    let whole : suc (left - 1) ≡ left = omega arith in
    let here : drop place mask ≡ true ∷ ahead_left = are.ahead ∙ ap (λ (k : ℕ). replicate k true ++ rest) (sym whole) in
    let next : drop (place + 1) mask ≡ ahead_left = sym (drop-drop 1 place mask) ∙ ap (drop 1) here in
    record {
      mask_stays = same_mask ∙ are.mask_stays;
      memory = omega (arith, are.memory);
      within = omega (arith, are.within, long);
      agree = λ more.
          ap (points_with_mask mask) (append_assoc seen (point ∷ []) more)
          ∙ are.agree (point ∷ more)
          ∙ ap (λ (bs : List Bool). points ++ points_with_mask bs (point ∷ more)) here
          ∙ sym (append_assoc points (point ∷ []) (points_with_mask ahead_left more))
          ∙ ap₂ (λ (ps : List Point) (bs : List Bool). ps ++ points_with_mask bs more) (sym is_points) (sym next ∙ ap (λ (k : ℕ). drop k mask) (sym long));
      counted =
          let count : present_count (drop place mask) ≡ 1 + present_count ahead_left = ap present_count here ∙ present_count-cons true ahead_left in
          omega (arith, are.counted, count, ap present_count (sym next ∙ ap (λ (k : ℕ). drop k mask) (sym long)), length_push seen point);
      ahead =
          let end : place + left ≡ length after.points.items + after.left = omega arith in
          ap (λ (k : ℕ). drop k mask) long ∙ next ∙ ap₂ (λ (j k : ℕ). replicate j true ++ drop k mask) (sym is_left) end;
    }

-- all values came
pub all_points : (mask : List Bool) (seen : List Point) (points : Points) → ArePoints mask seen points
    → points.points.items ++ replicate (length mask - length points.points.items) Missing ≡ points_with_mask mask seen
all_points mask seen points are =
    let place = length points.points.items in
    let rest = drop place mask in
    sym (ap (points_with_mask mask) (sym (append-nil seen)) ∙ are.agree [] ∙ ap (λ ps. points.points.items ++ ps) (missing rest ∙ ap (λ (k : ℕ). replicate k Missing) (length-drop place mask))) where
      missing : (bs : List Bool) → points_with_mask bs [] ≡ replicate (length bs) Missing
      missing [] = refl
      missing (false ∷ bs) = ap (λ ps. Missing ∷ ps) (missing bs)
      missing (true ∷ bs) = ap (λ ps. Missing ∷ ps) (missing bs)
