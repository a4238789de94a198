-- What is summed up of the points of a mask, by that of the entries of those that are present.
use Rattle.std.proofs.Common.{◌≡◌, ℕ, suc, ◌+◌, ◌≤◌, Bool, true, false, cond, Option, Some, None, unwrap_or, List, [], ◌∷◌, length, count_by, ℤ, fold, refl, sym, ap, ◌∙◌, arith}
use Rattle.std.specs.Int.{int_min, int_max}
use Rattle.grib_base.specs.Rules.{first_place}
use Rattle.grib_bitmap.specs.Mask.{present_count}
use Rattle.grib_bitmap.proofs.Runs.{present_count-cons}
use Rattle.grib_packing.specs.Column.{points_with_mask}
use Rattle.grib_packing.specs.declared.column.Point.{Point}
use Rattle.grib_packing.specs.declared.column.Point.TheVariants.{Scaled, Missing, Missing2}
use Rattle.grib_packing.specs.Misfits.{is_missing, is_missing2, scaled_numbers}
use Rattle.grib2_message.proofs.Masks.{points_of_mask}
use Rattle.grib_decimal.specs.declared.extreme.Extremes.{Extremes}
use Rattle.grib_decimal.specs.declared.extreme.Summary.{Summary}
use Rattle.grib_decimal.specs.Bounds.{AreExtremes, AreExtremesSoFar}
use Rattle.grib_decimal.specs.Summary.{is_present, has_number, place_of, extremes_among, extremes_of, summary_of, SumUp}
use Rattle.grib_decimal.proofs.Summaries.{counted, count_first, extremes_is, same_summary}
use Rattle.grib_report.specs.Placed.{place_in}
use Rattle.grib_report.proofs.Walk.{place_here, place_past}
use Rattle.grib_report.proofs.Lists.{place_first, place_later, place_passed}

-- ---- places

-- the first entry that passes a test stands where the mask has it
record StandsIn (test : Point → Bool) (mask : List Bool) (entries : List Point) : Type 0 where
  at : first_place test (points_with_mask mask entries) ≡ place_in mask (first_place test entries)
  some : 1 ≤ place_in mask (first_place test entries)

stands_in : (test : Point → Bool) (mask : List Bool) (entries : List Point) → test Missing ≡ false → length entries ≡ present_count mask → 1 ≤ first_place test entries → StandsIn test mask entries
stands_in test [] [] never long some = absurd (omega arith)
stands_in test [] (entry ∷ entries) never long some = absurd (omega arith)
stands_in test (false ∷ mask) entries never long some =
    let rest = stands_in test mask entries never (omega (arith, long, present_count-cons false mask)) some in
    record {
      at = place_later test Missing (points_with_mask mask entries) never (omega (arith, rest.at, rest.some)) ∙ ap suc rest.at;
      some = omega arith;
    }
stands_in test (true ∷ mask) [] never long some = absurd (omega arith)
stands_in test (true ∷ mask) (entry ∷ entries) never long some =
    go (test entry) refl (stands_in test mask entries never (omega (arith, long, present_count-cons true mask))) where
      go : (b : Bool) → test entry ≡ b → (1 ≤ first_place test entries → StandsIn test mask entries) → StandsIn test (true ∷ mask) (entry ∷ entries)
      go true is behind =
          let one = place_first test entry entries is in
          let here = place_here mask (first_place test (entry ∷ entries)) one in
          record {
            at = place_first test entry (points_with_mask mask entries) is ∙ sym here;
            some = omega (arith, here);
          }
      go false is behind =
          let later = place_passed test entry entries is some in
          let next = place_later test entry entries is later in
          let rest = behind later in
          let past = place_past mask (first_place test (entry ∷ entries)) (first_place test entries) later next in
          record {
            at = place_later test entry (points_with_mask mask entries) is (omega (arith, rest.at, rest.some)) ∙ ap suc rest.at ∙ sym past;
            some = omega (arith, past);
          }

-- ---- counts

behind_0 : (n : ℕ) → cond false 1 0 + n ≡ n
behind_0 n = omega arith

count_placed : (test : Point → Bool) (mask : List Bool) (entries : List Point) → test Missing ≡ false → length entries ≡ present_count mask → count_by test (points_with_mask mask entries) ≡ count_by test entries
count_placed test [] [] never long = refl
count_placed test [] (entry ∷ entries) never long = absurd (omega arith)
count_placed test (false ∷ mask) entries never long =
    count_first test Missing (points_with_mask mask entries) ∙ ap (λ (b : Bool). cond b 1 0 + count_by test (points_with_mask mask entries)) never
    ∙ behind_0 (count_by test (points_with_mask mask entries)) ∙ count_placed test mask entries never (omega (arith, long, present_count-cons false mask))
count_placed test (true ∷ mask) [] never long = absurd (omega (arith, long, present_count-cons true mask))
count_placed test (true ∷ mask) (entry ∷ entries) never long =
    count_first test entry (points_with_mask mask entries)
    ∙ ap (λ (n : ℕ). cond (test entry) 1 0 + n) (count_placed test mask entries never (omega (arith, long, present_count-cons true mask)))
    ∙ sym (count_first test entry entries)

-- ---- numbers

same_numbers : (entry : Point) (points entries : List Point) → scaled_numbers points ≡ scaled_numbers entries → scaled_numbers (entry ∷ points) ≡ scaled_numbers (entry ∷ entries)
same_numbers (Scaled x) points entries is = ap (λ (xs : List ℤ). x ∷ xs) is
same_numbers Missing points entries is = is
same_numbers Missing2 points entries is = is

numbers_placed : (mask : List Bool) (entries : List Point) → length entries ≡ present_count mask → scaled_numbers (points_with_mask mask entries) ≡ scaled_numbers entries
numbers_placed [] [] long = refl
numbers_placed [] (entry ∷ entries) long = absurd (omega arith)
numbers_placed (false ∷ mask) entries long = numbers_placed mask entries (omega (arith, long, present_count-cons false mask))
numbers_placed (true ∷ mask) [] long = absurd (omega (arith, long, present_count-cons true mask))
numbers_placed (true ∷ mask) (entry ∷ entries) long =
    same_numbers entry (points_with_mask mask entries) entries (numbers_placed mask entries (omega (arith, long, present_count-cons true mask)))

-- ---- extremes

some_is : (m n : Extremes) → Some m ≡ Some n → m ≡ n
some_is m n is = ap (λ (o : Option Extremes). unwrap_or o m) is

same_extremes : (a b : ℤ) (i j : ℕ) (c d : ℤ) (k l : ℕ) → a ≡ b → i ≡ j → c ≡ d → k ≡ l
    → ◌≡◌ {A = Extremes} (record { least = a; least_place = i; greatest = c; greatest_place = k }) (record { least = b; least_place = j; greatest = d; greatest_place = l })
same_extremes a b i j c d k l p q r s = rw (p, q, r, s) refl

module _ (mask : List Bool) (entries : List Point) (long : length entries ≡ present_count mask) where
  pub none_placed : AreExtremesSoFar entries (length entries) None → extremes_of (points_with_mask mask entries) ≡ None
  none_placed none =
      ap (extremes_among (points_with_mask mask entries)) (numbers_placed mask entries long) ∙ go (scaled_numbers entries) (extremes_is entries None none) where
        go : (numbers : List ℤ) → None ≡ extremes_among entries numbers → extremes_among (points_with_mask mask entries) numbers ≡ None
        go [] is = refl
        go (x ∷ xs) is = absurd (cc)

  place_placed : (x : ℤ) (place : ℕ) → 1 ≤ place → place ≡ place_of x entries → place_of x (points_with_mask mask entries) ≡ place_in mask place
  place_placed x place some is =
      (stands_in (has_number x) mask entries refl long (omega (arith, some, is))).at ∙ ap (place_in mask) (sym is)

  pub some_placed : (m : Extremes) → AreExtremes entries (length entries) m
      → Some (record { least = m.least; least_place = place_in mask m.least_place; greatest = m.greatest; greatest_place = place_in mask m.greatest_place }) ≡ extremes_of (points_with_mask mask entries)
  some_placed m are =
      go (scaled_numbers entries) (extremes_is entries (Some m) are) ∙ ap (extremes_among (points_with_mask mask entries)) (sym (numbers_placed mask entries long)) where
        go : (numbers : List ℤ) → Some m ≡ extremes_among entries numbers
            → Some (record { least = m.least; least_place = place_in mask m.least_place; greatest = m.greatest; greatest_place = place_in mask m.greatest_place }) ≡ extremes_among (points_with_mask mask entries) numbers
        go [] is = absurd (cc)
        go (x ∷ xs) is =
            let least = fold int_min x xs in
            let greatest = fold int_max x xs in
            let same = some_is m _ is in
            let low : m.least ≡ least = ap (λ (e : Extremes). e.least) same in
            let high : m.greatest ≡ greatest = ap (λ (e : Extremes). e.greatest) same in
            let low_place = place_placed least m.least_place are.least.counted (ap (λ (e : Extremes). e.least_place) same) in
            let high_place = place_placed greatest m.greatest_place are.greatest.counted (ap (λ (e : Extremes). e.greatest_place) same) in
            ap Some (same_extremes _ _ _ _ _ _ _ _ low (sym low_place) high (sym high_place))

-- ---- all of it

module _ (mask : List Bool) (entries : List Point) (s : Summary) (long : length entries ≡ present_count mask) (sums : SumUp entries s) where
  pub summary_placed : (missing : ℕ) (extremes : Option Extremes) → missing + present_count mask ≡ s.missing + length mask → extremes ≡ extremes_of (points_with_mask mask entries)
      → ◌≡◌ {A = Summary} (record { present = s.present; missing = missing; missing2 = s.missing2; extremes = extremes }) (summary_of (points_with_mask mask entries))
  summary_placed missing extremes is_missing' is_extremes =
      let points = points_with_mask mask entries in
      let present : s.present ≡ count_by is_present points = ap (λ (x : Summary). x.present) sums.summary_is ∙ sym (count_placed is_present mask entries refl long) in
      let missing2 : s.missing2 ≡ count_by is_missing2 points = ap (λ (x : Summary). x.missing2) sums.summary_is ∙ sym (count_placed is_missing2 mask entries refl long) in
      let old : s.missing ≡ count_by is_missing entries = ap (λ (x : Summary). x.missing) sums.summary_is in
      let present_is : s.present ≡ count_by is_present entries = ap (λ (x : Summary). x.present) sums.summary_is in
      let missing2_is : s.missing2 ≡ count_by is_missing2 entries = ap (λ (x : Summary). x.missing2) sums.summary_is in
      let missing_is : missing ≡ count_by is_missing points = omega (arith, is_missing', old, present, missing2, present_is, missing2_is, counted points, counted entries, long, points_of_mask mask entries) in
      same_summary _ _ _ _ _ present missing_is missing2 is_extremes
