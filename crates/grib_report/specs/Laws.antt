-- Laws of the summary of points.
use Rattle.std.proofs.Common.{◌≡◌, ℕ, ◌+◌, List, [], ◌++◌, length, drop, sym, ap, ◌∙◌, arith, subst, append_assoc}
use Rattle.std.proofs.lemmas.List.{length-append, drop-drop}
use Rattle.std.proofs.Math.Seq.{drop-append_seam}
use Rattle.grib_packing.specs.declared.column.Point.{Point}
use Rattle.grib_decimal.specs.Summary.{IsTally}
use Rattle.grib_report.specs.declared.keeping.Tallying.{Tallying}
use Rattle.grib_report.specs.Kept.{TallyKept}

pub tally-none : (keeper : Tallying) → TallyKept keeper [] keeper
tally-none keeper = record {
  keeps = λ points rest n few is sums. subst (λ (k : ℕ). IsTally points k keeper.tally) (omega arith) sums;
}

-- what follows the first of two parts
after_part : (points first rest : List Point) (n : ℕ) → drop n points ≡ first ++ rest → drop (n + length first) points ≡ rest
after_part points first rest n is =
    ap (λ (k : ℕ). drop k points) (omega arith) ∙ sym (drop-drop (length first) n points) ∙ ap (drop (length first)) is ∙ drop-append_seam first rest

pub tally-more : (before between last : Tallying) (points more_points : List Point) → TallyKept before points between → TallyKept between more_points last
    → TallyKept before (points ++ more_points) last
tally-more before between last first second one two = record {
  keeps = λ points rest n few is sums.
      let parts = is ∙ append_assoc first second rest in
      let between_sums = one.keeps points (second ++ rest) n few parts sums in
      let last_sums = two.keeps points rest (n + length first) few (after_part points first (second ++ rest) n parts) between_sums in
      subst (λ (k : ℕ). IsTally points k last.tally) (omega (arith, length-append first second)) last_sums;
}
