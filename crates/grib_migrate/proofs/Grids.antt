-- Lemmas on the numbers of a grid.
use Rattle.std.proofs.Common.{◌≡◌, ℕ, ◌≤◌, ◌==◌, Bool, true, false, not, cond, Option, Some, None, find, option_map, List, [], ◌∷◌, ◌++◌, length, subst, refl, sym, ap, ap₂, ◌∙◌, arith, append_assoc, ne_eqb}
use Rattle.std.proofs.lemmas.List.{length-append}
use Rattle.std.specs.Prelude.{Result, Ok, Err, IsErr, IsErrAnd, MatchResult}
use Rattle.std.specs.Result.{result_unwrap_or}
use Rattle.grib1_sections.specs.Grid.{grid_type}
use Rattle.grib_bits.specs.Octets.{octets}
use Rattle.grib_reasons.specs.declared.loss.Loss.{Loss}
use Rattle.grib_reasons.specs.declared.loss.Loss.TheVariants.{GridNumber}
use Rattle.grib_migrate.specs.declared.loss.MigrateFault.{MigrateFault}
use Rattle.grib_migrate.specs.declared.loss.MigrateFault.TheVariants.{Memory}
use Rattle.grib_migrate.specs.Answered.{IsMigrateFault}
use Rattle.grib_migrate.specs.GridParts.{IsGridPart}
use Rattle.grib_bits.specs.declared.adding.Number.{Number}
use Rattle.grib_migrate.specs.declared.scaled.Scaled.{Scaled}
use Rattle.grib_migrate.specs.declared.scaled.Scaled.TheVariants.{Angle, Longitude}
use Rattle.grib_bits.specs.Encoding.{all_octets}
use Rattle.grib_migrate.specs.Grids.{fits, first_octet, scaled, loss_among, lambert_own, grid_loss, lat_lon_scaled, mercator_scaled, polar_scaled, lambert_scaled, template_numbers, lat_lon, increment, mercator, polar, lambert, angle, three, centre, true_latitude, row_octets, header, common, grid_octets}
use Rattle.grib_bits.proofs.AllOctets.{length-all_octets}

abbrev loss_or : Bool → Scaled → Option Scaled → Option Loss
loss_or b number rest = option_map (λ n. GridNumber (first_octet n)) (cond (not b) (Some number) rest)

-- numbers that fit before others
before_by : (s : List ℕ) (x : Scaled) (xs ys : List Scaled) (b : Bool) → fits s x ≡ b → loss_among s (x ∷ xs) ≡ None
    → (loss_among s xs ≡ None → loss_among s (xs ++ ys) ≡ loss_among s ys) → loss_among s (x ∷ (xs ++ ys)) ≡ loss_among s ys
before_by s x xs ys true is e rest =
    ap (λ b. loss_or b x (find (λ n. not (fits s n)) (xs ++ ys))) is
    ∙ rest (sym (ap (λ b. loss_or b x (find (λ n. not (fits s n)) xs)) is) ∙ e)
before_by s x xs ys false is e rest =
    let lost : Some (GridNumber (first_octet x)) ≡ None = sym (ap (λ b. loss_or b x (find (λ n. not (fits s n)) xs)) is) ∙ e in
    cc

pub fits_before : (s : List ℕ) (xs ys : List Scaled) → loss_among s xs ≡ None → loss_among s (xs ++ ys) ≡ loss_among s ys
fits_before s [] ys e = refl
fits_before s (x ∷ xs) ys e = before_by s x xs ys (fits s x) refl e (fits_before s xs ys)

-- ---- what is written and what is lost, by the type of grid

abbrev scaled_by : Bool → Bool → Bool → List Scaled
scaled_by one three five = cond one mercator_scaled (cond three lambert_scaled (cond five polar_scaled lat_lon_scaled))

abbrev numbers_by : List ℕ → Bool → Bool → Bool → Bool → List Number
numbers_by s one three_is four five =
    cond one (mercator s)
    (cond three_is (polar s (angle (three s 29)) ++ lambert s)
    (cond four (lat_lon s (octets s 26 27))
    (cond five (polar s (true_latitude (centre s))) (lat_lon s (increment s 26)))))

pub record OfType (s : List ℕ) (numbers : List Number) (scaled_are : List Scaled) : Type 0 where
  pub numbers_are : template_numbers s ≡ numbers
  pub loss_is : grid_loss s ≡ loss_among s scaled_are

pub of_type_3 : (s : List ℕ) → grid_type s ≡ 3 → OfType s (polar s (angle (three s 29)) ++ lambert s) lambert_scaled
of_type_3 s e = record {
  numbers_are = ap (λ t. numbers_by s (t == 1) (t == 3) (t == 4) (t == 5)) e;
  loss_is = ap (λ t. loss_among s (scaled_by (t == 1) (t == 3) (t == 5))) e;
}

pub of_other_type : (s : List ℕ) → (grid_type s ≡ 1 → ⊥) → (grid_type s ≡ 3 → ⊥) → (grid_type s ≡ 4 → ⊥) → (grid_type s ≡ 5 → ⊥) → OfType s (lat_lon s (increment s 26)) lat_lon_scaled
of_other_type s n1 n3 n4 n5 =
    let t = grid_type s in
    let e1 = ne_eqb t 1 n1 in
    let e3 = ne_eqb t 3 n3 in
    let e4 = ne_eqb t 4 n4 in
    let e5 = ne_eqb t 5 n5 in
    record {
      numbers_are = ap (λ b. numbers_by s b (t == 3) (t == 4) (t == 5)) e1 ∙ ap (λ b. numbers_by s false b (t == 4) (t == 5)) e3 ∙ ap (λ b. numbers_by s false false b (t == 5)) e4 ∙ ap (λ b. numbers_by s false false false b) e5;
      loss_is = ap (λ b. loss_among s (scaled_by b (t == 3) (t == 5))) e1 ∙ ap (λ b. loss_among s (scaled_by false b (t == 5))) e3 ∙ ap (λ b. loss_among s (scaled_by false false b)) e5;
    }

pub part_same : (result : Result (Unit {0}) MigrateFault) (l l' : Option Loss) (old new : List ℕ) (n n' : List Number) → l ≡ l' → n ≡ n'
    → IsGridPart result l old new n → IsGridPart result l' old new n'
part_same result l l' old new n n' e f part =
    subst (λ (x : Option Loss). IsGridPart result x old new n') e (subst (λ (x : List Number). IsGridPart result l old new x) f part)

pub part_memory : (result : Result (Unit {0}) MigrateFault) (loss : Option Loss) (old new : List ℕ) (numbers : List Number) → IsErr result × IsErrAnd result (λ e. e ≡ Memory)
    → IsGridPart result loss old new numbers
part_memory (Ok done) loss old new numbers is = absurd is.1
part_memory (Err fault) loss old new numbers is = subst (λ f. IsMigrateFault loss f) (sym is.1) tt

-- ---- Latin1 of a Lambert grid

pub latin1_is : (s : List ℕ) (r : Result ℕ Loss) → MatchResult r (λ value. (fits s (Angle 29) ≡ true) × (value ≡ scaled s (Angle 29))) (λ loss. (fits s (Angle 29) ≡ false) × (loss ≡ GridNumber 29))
    → loss_among s lambert_own ≡ None → result_unwrap_or r 0 ≡ angle (three s 29)
latin1_is s (Ok value) is none = is.1
latin1_is s (Err loss) is none =
    let lost : Some (GridNumber 29) ≡ None =
    sym (ap (λ b. loss_or b (Angle 29) (find (λ n. not (fits s n)) (Angle 32 ∷ Angle 35 ∷ Longitude 38 ∷ []))) is.0) ∙ none in
    cc

-- ---- the whole

few_by : (s : List ℕ) (b1 b3 b4 b5 : Bool) → length (numbers_by s b1 b3 b4 b5) ≤ 13
few_by s true b3 b4 b5 = omega arith
few_by s false true b4 b5 = omega arith
few_by s false false true b5 = omega arith
few_by s false false false true = omega arith
few_by s false false false false = omega arith

few_numbers : (s : List ℕ) → length (template_numbers s) ≤ 13
few_numbers s = let t = grid_type s in few_by s (t == 1) (t == 3) (t == 4) (t == 5)

pub few_octets : (s : List ℕ) (points : ℕ) (octets_are rows : List ℕ) → rows ≡ row_octets s → length rows ≤ 131070 → octets_are ≡ grid_octets points s → length octets_are ≤ 131500
few_octets s points octets_are rows is few e =
    let h = header points s in
    let m = common s in
    let t = template_numbers s in
    omega (
      arith,
      ap length e,
      ap length is,
      length-append (all_octets h) (all_octets m ++ (all_octets t ++ row_octets s)),
      length-append (all_octets m) (all_octets t ++ row_octets s),
      length-append (all_octets t) (row_octets s),
      length-all_octets h,
      length-all_octets m,
      length-all_octets t,
      few_numbers s,
    )

pub whole_grid : (s : List ℕ) (points : ℕ) (a b c d e : List ℕ) (rows : List ℕ) → a ≡ [] → b ≡ a ++ all_octets (header points s) → c ≡ b ++ all_octets (common s)
    → d ≡ c ++ all_octets (template_numbers s) → rows ≡ row_octets s → e ≡ d ++ rows → e ≡ grid_octets points s
whole_grid s points a b c d e rows none first second third rows_are fourth =
    let h = all_octets (header points s) in
    let m = all_octets (common s) in
    let t = all_octets (template_numbers s) in
    let b_is : b ≡ h = first ∙ ap (λ (xs : List ℕ). xs ++ h) none in
    let c_is : c ≡ h ++ m = second ∙ ap (λ (xs : List ℕ). xs ++ m) b_is in
    let d_is : d ≡ h ++ (m ++ t) = third ∙ ap (λ (xs : List ℕ). xs ++ t) c_is ∙ append_assoc h m t in
    fourth ∙ ap₂ (λ (xs : List ℕ) (ys : List ℕ). xs ++ ys) d_is rows_are ∙ append_assoc h (m ++ t) (row_octets s)
    ∙ ap (λ (xs : List ℕ). h ++ xs) (append_assoc m t (row_octets s))
