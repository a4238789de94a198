-- Lemmas on the codes of differences, one point after another.
use Rattle.std.proofs.Common.{◌≡◌, ℕ, suc, ◌+◌, ◌^◌, ◌<◌, ◌≤◌, Bool, true, false, cond, Some, None, ℤ, nat_lt, List, ◌∷◌, ◌++◌, length, drop, get_or, refl, sym, ap, ◌∙◌, arith, drop-cons, lt-ltb, le-ltb, subst}
use Rattle.std.specs.List.{list_any}
use Rattle.std.proofs.lemmas.List.{append-nil, drop_all}
use Rattle.grib_base.specs.declared.code.Code.{Code}
use Rattle.grib_base.specs.declared.code.Code.TheVariants.{Present}
use Rattle.grib_packing.specs.declared.column.Point.{Point}
use Rattle.grib_packing.specs.declared.column.Point.TheVariants.{Scaled}
use Rattle.grib_packing.specs.Differences.{code_at, difference_codes}
use Rattle.grib_packing.specs.Entries.{is_out_of_range}
use Rattle.grib_packing.specs.Misfits.{DifferenceRange, greatest_code, scaled_numbers}
use Rattle.grib_packing.specs.Packed.{placed_codes}
use Rattle.grib_codes.specs.Span.{IsTold}
use Rattle.grib_spatial.specs.Trail.{IsNear, IsTrail}
use Rattle.grib_spatial.specs.declared.trail.Trail.{Trail}
use Rattle.grib_complex.proofs.Differing.{length-codes}
use Rattle.grib_complex.proofs.PointByPoint.{Seen, seen_mark, seen_number, seen_all, number_left, code_there}
use Rattle.grib_codes.proofs.Worded.{Step, step_number, step_mark}

-- ---- codes above the greatest

module _ (m n : ℕ) (codes : List ℕ) (within : n < length codes) where
  codes_here : drop n codes ≡ get_or codes n 0 ∷ drop (n + 1) codes
  codes_here = let more : suc n ≡ n + 1 = omega arith in drop-cons codes n 0 within ∙ ap (λ (k : ℕ). get_or codes n 0 ∷ drop k codes) more

  pub any_here : m < get_or codes n 0 → list_any (λ code. nat_lt m code) (drop n codes) ≡ true
  any_here above = ap (list_any (λ code. nat_lt m code)) codes_here ∙ (rw (lt-ltb m (get_or codes n 0) above) refl)

  pub any_later : get_or codes n 0 ≤ m → list_any (λ code. nat_lt m code) (drop (n + 1) codes) ≡ list_any (λ code. nat_lt m code) (drop n codes)
  any_later below = sym (ap (list_any (λ code. nat_lt m code)) codes_here ∙ (rw (le-ltb m (get_or codes n 0) below) refl))

pub out_of_range : (k m : ℕ) (codes : List ℕ) → m ≡ greatest_code k → list_any (λ code. nat_lt m code) codes ≡ true
    → cond (list_any (λ code. nat_lt (greatest_code k) code) codes) (Some DifferenceRange) None ≡ Some DifferenceRange
out_of_range k m codes is any = ap (λ (b : Bool). cond b (Some DifferenceRange) None) (ap (λ (j : ℕ). list_any (λ code. nat_lt j code) codes) (sym is) ∙ any)

-- ---- one point more

pub record Forward (order k m : ℕ) (points : List Point) (i : ℕ) (before after : Trail) (code : Code) : Type 0 where
  pub seen : Seen points (i + 1) after.count
  pub near : IsNear after
  pub trail : IsTrail after (scaled_numbers points)
  pub step : Step points i (difference_codes order (scaled_numbers points)) before.count after.count code
  pub told : IsTold k code
  pub outside : list_any (λ code. nat_lt m code) (drop after.count (difference_codes order (scaled_numbers points)))
      ≡ list_any (λ code. nat_lt m code) (drop before.count (difference_codes order (scaled_numbers points)))

module _ (order k m : ℕ) (points : List Point) (i : ℕ) (d : Point) (inside : i < length points) (before after : Trail) (code : Code) (seen : Seen points i before.count) where
  left : before.count + length (scaled_numbers (drop i points)) ≡ length (difference_codes order (scaled_numbers points))
  left = seen.left ∙ sym (length-codes order (scaled_numbers points))

  pub forward_number : (x : ℤ) (number : ℕ) → get_or points i d ≡ Scaled x → code ≡ Present number → number ≡ code_at order (scaled_numbers points) before.count
      → after.count ≡ before.count + 1 → IsNear after → IsTrail after (scaled_numbers points) → number ≤ m → number + k < 2 ^ 32 → Forward order k m points i before after code
  forward_number x number here is_code is_number next near trail below small =
      let codes = difference_codes order (scaled_numbers points) in
      let some = number_left points i before.count d inside seen x here in
      let within : before.count < length codes = omega (arith, some, length-codes order (scaled_numbers points)) in
      let there : get_or codes before.count 0 ≡ number = code_there order (scaled_numbers points) before.count some ∙ sym is_number in
      record {
        seen = seen_number points i before.count d inside seen x here after.count next;
        near = near;
        trail = trail;
        step = step_number points i d inside codes before.count after.count code left x before.count here (is_code ∙ ap Present (sym there)) refl next;
        told = subst (IsTold k) (sym is_code) small;
        outside = ap (λ (n : ℕ). list_any (λ code. nat_lt m code) (drop n codes)) next ∙ any_later m before.count codes within (omega (arith, there, below));
      }

  pub forward_mark : (p : Point) (mark : Code) → get_or points i d ≡ p → code ≡ mark → after ≡ before → IsNear before → IsTrail before (scaled_numbers points) → IsTold k mark
      → ((ps : List Point) (ns : List ℕ) → placed_codes (p ∷ ps) ns ≡ mark ∷ placed_codes ps ns) → ((ps : List Point) → scaled_numbers (p ∷ ps) ≡ scaled_numbers ps)
      → ((ps : List Point) → list_any is_out_of_range (p ∷ ps) ≡ list_any is_out_of_range ps) → Forward order k m points i before after code
  forward_mark p mark here is_code same near trail told placed none kept =
      let count = ap (λ (t : Trail). t.count) same in
      let codes = difference_codes order (scaled_numbers points) in
      record {
        seen = seen_mark points i before.count d inside seen after.count p here count none kept;
        near = subst IsNear (sym same) near;
        trail = subst (λ (t : Trail). IsTrail t (scaled_numbers points)) (sym same) trail;
        step = step_mark points i d inside codes before.count after.count code left p mark here is_code count placed;
        told = subst (IsTold k) (sym is_code) told;
        outside = ap (λ (n : ℕ). list_any (λ code. nat_lt m code) (drop n codes)) count;
      }

-- ---- all points

module _ (order : ℕ) (points : List Point) (i n : ℕ) (past : length points ≤ i) (seen : Seen points i n) where
  pub none_outside : (m : ℕ) → list_any (λ code. nat_lt m code) (drop n (difference_codes order (scaled_numbers points))) ≡ list_any (λ code. nat_lt m code) (difference_codes order (scaled_numbers points))
      → list_any (λ code. nat_lt m code) (difference_codes order (scaled_numbers points)) ≡ false
  none_outside m same =
      let codes = difference_codes order (scaled_numbers points) in
      let all : length codes ≤ n = omega (arith, seen_all points i n past seen, length-codes order (scaled_numbers points)) in
      sym same ∙ ap (list_any (λ code. nat_lt m code)) (drop_all n codes all)

  pub placed_whole : (codes whole : List Code) (numbers : List ℕ) → codes ++ placed_codes (drop i points) numbers ≡ whole → codes ≡ whole
  placed_whole codes whole numbers is = sym (append-nil codes) ∙ ap (λ (ps : List Point). codes ++ placed_codes ps numbers) (sym (drop_all i points past)) ∙ is
