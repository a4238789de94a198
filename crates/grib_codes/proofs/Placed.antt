-- Words at the points that a mask has, run by run.
use Rattle.std.proofs.Common.{◌≡◌, ℕ, ◌+◌, ◌≤◌, Bool, true, false, List, ◌++◌, length, take, drop, map, replicate, refl, sym, ap, ap₂, ◌∙◌, arith, zero, suc, [], ◌∷◌}
use Rattle.std.proofs.lemmas.List.{append-nil, drop-drop, drop-map, drop_all, map-append, take-map, length-take-le, length-drop, take-append-drop}
use Rattle.grib_packing.specs.declared.column.Point.{Point}
use Rattle.grib_packing.specs.declared.column.Point.TheVariants.{Missing}
use Rattle.grib_packing.specs.Column.{points_with_mask}
use Rattle.grib_simple_reading.proofs.Masked.{run_of_points, run_of_missing}
use Rattle.grib_codes.specs.KeptWords.{word_for}

-- the words of the points of a mask up to a place, where some entries are taken
pub record PlacedWords (mask : List Bool) (entries : List Point) (place taken : ℕ) (words : List ℕ) : Type 0 where
  pub points : List Point
  pub are : words ≡ map word_for points
  pub whole : points ++ points_with_mask (drop place mask) (drop taken entries) ≡ points_with_mask mask entries

words-missing : (n : ℕ) → map word_for (replicate n Missing) ≡ replicate n 4294967295
words-missing zero = refl
words-missing (suc n) = ap (λ (ws : List ℕ). 4294967295 ∷ ws) (words-missing n)

module _ (mask : List Bool) (entries : List Point) (place taken n : ℕ) (present : Bool) (old new : List ℕ) (same : drop place mask ≡ replicate n present ++ drop (place + n) mask) (before : PlacedWords mask entries place taken old) where
  -- a run of points that are present
  pub placed_present : present ≡ true → taken + n ≤ length entries → new ≡ old ++ take n (drop taken (map word_for entries)) → PlacedWords mask entries (place + n) (taken + n) new
  placed_present is within is_new =
      let rest = drop taken entries in
      let part = take n rest in
      let long : length part ≡ n = length-take-le n rest (omega (arith, length-drop taken entries)) in
      let split : rest ≡ part ++ drop (taken + n) entries =
      sym (take-append-drop n rest) ∙ ap (λ (ps : List Point). part ++ ps) (drop-drop n taken entries) in
      record {
        points = before.points ++ part;
        are =
            is_new ∙ ap₂ (λ (a b : List ℕ). a ++ b) before.are (ap (take n) (drop-map word_for taken entries) ∙ take-map word_for n rest)
            ∙ sym (map-append word_for before.points part);
        whole = run_of_points mask entries place taken n present before.points (before.points ++ part) same before.whole is part long split refl;
      }

  -- and one of points that are left out
  pub placed_missing : present ≡ false → new ≡ old ++ replicate n 4294967295 → PlacedWords mask entries (place + n) taken new
  placed_missing is is_new = record {
    points = before.points ++ replicate n Missing;
    are =
        is_new ∙ ap₂ (λ (a b : List ℕ). a ++ b) before.are (sym (words-missing n))
        ∙ sym (map-append word_for before.points (replicate n Missing));
    whole = run_of_missing mask entries place taken n present before.points (before.points ++ replicate n Missing) same before.whole is refl;
  }

-- the words of all points
pub placed_whole : (mask : List Bool) (entries : List Point) (place taken : ℕ) (words : List ℕ) → length mask ≤ place → PlacedWords mask entries place taken words
    → words ≡ map word_for (points_with_mask mask entries)
placed_whole mask entries place taken words past placed =
    let none : points_with_mask (drop place mask) (drop taken entries) ≡ [] = ap (λ (bs : List Bool). points_with_mask bs (drop taken entries)) (drop_all place mask past) in
    placed.are ∙ ap (map word_for) (sym (append-nil placed.points) ∙ ap (λ (ps : List Point). placed.points ++ ps) (sym none) ∙ placed.whole)
