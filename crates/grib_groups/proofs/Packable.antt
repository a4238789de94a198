-- The packed numbers of a group fit its width.
use Rattle.std.proofs.Common.{◌≡◌, ℕ, ◌+◌, ◌-◌, ◌^◌, ◌<◌, ◌≤◌, Bool, true, false, not, ◌&&◌, cond, List, [], map, All, ◌==◌, sym, ap, ap₂, ◌∙◌, arith, eq-eqb, ne_eqb, eqb, refl}
use Rattle.std.specs.List.{list_any}
use Rattle.std.proofs.lemmas.Bool.{cond-true, cond-false}
use Rattle.std.proofs.lemmas.List.Elements.{All-weaker}
use Rattle.grib_base.specs.declared.code.Code.{Code}
use Rattle.grib_base.specs.declared.code.Code.TheVariants.{Present, Primary, Secondary}
use Rattle.grib_packing.specs.Groupings.{digits, width_of, greatest, smallest, present_codes, is_present, is_primary, is_secondary}
use Rattle.grib_packing.specs.Packed.{reference_of, group_fields, fields, packed_number}
use Rattle.grib_codes.specs.Span.{IsBelow}
use Rattle.grib_codes.proofs.Spans.{width_of-by, reference_of-by, small_run}
use Rattle.grib_packing.proofs.Digits.{digits-lt}
use Rattle.grib_codes.proofs.Bounds.{IsWithin, within_all}
use Rattle.grib_groups.specs.Encoding.{IsPackable}

some_width : (b : Bool) (d : ℕ) → 0 < cond b 0 d → cond b 0 d ≡ d
some_width true d some = absurd (omega arith)
some_width false d some = refl

-- the width and the reference of a group that has numbers and is not uniform
pub width-numbers : (k w : ℕ) (run : List Code) → w ≡ width_of k run → 0 < w → list_any is_present run ≡ true
    → w ≡ digits (greatest (present_codes run) - smallest (present_codes run) + k)
width-numbers k w run is some present =
    let d = digits (greatest (present_codes run) - smallest (present_codes run) + k) in
    let by : width_of k run ≡ cond ((not (list_any is_primary run) && not (list_any is_secondary run)) && (greatest (present_codes run) == smallest (present_codes run))) 0 d =
    width_of-by k run ∙ rw present refl in
    is ∙ by ∙ some_width _ d (omega (arith, some, is, by))

pub reference-numbers : (b : ℕ) (run : List Code) → list_any is_present run ≡ true → reference_of b run ≡ smallest (present_codes run)
reference-numbers b run present = reference_of-by b run ∙ rw present refl

pub packable : (k b w r : ℕ) (run : List Code) → w ≡ width_of k run → r ≡ reference_of b run → 0 < w → k ≤ 2 → All (IsBelow k) run
    → All (IsPackable w r) run
packable k b w r run is_width is_reference some few below =
    All-weaker (IsWithin lo hi p q s) (IsPackable w r) each run (within_all run)
  where
    lo : ℕ
    lo = smallest (present_codes run)

    hi : ℕ
    hi = greatest (present_codes run)

    p : Bool
    p = list_any is_present run

    q : Bool
    q = list_any is_primary run

    s : Bool
    s = list_any is_secondary run

    each : (code : Code) → IsWithin (smallest (present_codes run)) (greatest (present_codes run)) (list_any is_present run) (list_any is_primary run) (list_any is_secondary run) code → IsPackable w r code
    each (Present n) h =
        let low = smallest (present_codes run) in
        let high = greatest (present_codes run) in
        let small : high + k < 2 ^ 32 = small_run k run few below in
        let span : high - low + k < 2 ^ 32 = omega arith in
        let width = width-numbers k w run is_width some h.2 in
        let reference = reference-numbers b run h.2 in
        let power : 2 ^ w ≡ 2 ^ digits (high - low + k) = ap (λ x. 2 ^ x) width in
        let fits = digits-lt (high - low + k) span in
        (omega (arith, is_reference, reference, h.0), omega (arith, is_reference, reference, h.0, h.1, power, fits))
    each Primary h = tt
    each Secondary h = tt

pub group_fields-some : (k b w r : ℕ) (run : List Code) → w ≡ width_of k run → r ≡ reference_of b run → 0 < w
    → group_fields k b run ≡ fields w (map (packed_number w r) run)
group_fields-some k b w r run is_width is_reference some =
    cond-false (eqb (width_of k run) 0) [] (fields (width_of k run) (map (packed_number (width_of k run) (reference_of b run)) run))
    (ne_eqb (width_of k run) 0 (λ e. omega (arith, some, is_width, e)))
    ∙ ap₂ (λ (x y : ℕ). fields x (map (packed_number x y) run)) (sym is_width) (sym is_reference)

pub group_fields-none : (k b w : ℕ) (run : List Code) → w ≡ width_of k run → w < 1 → group_fields k b run ≡ []
group_fields-none k b w run is_width none =
    cond-true (eqb (width_of k run) 0) [] (fields (width_of k run) (map (packed_number (width_of k run) (reference_of b run)) run))
    (eq-eqb (width_of k run) 0 (omega arith))
