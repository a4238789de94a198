use Rattle.std.proofs.Common.{ℕ, ◌+◌, ◌≡◌, [], ◌∷◌, ◌++◌, List, map, ap, sym, ◌∙◌, arith, subst}
use Rattle.std.specs.List.{range_with_len}
use Rattle.std.proofs.lemmas.List.FromFn.{map-range_with_len_more}
use Rattle.grib_packing.specs.declared.column.Point.{Point}
use Rattle.grib_synthetic.specs.Points.{made_point}
use Rattle.grib_synthetic.specs.Summary.{SumsUp}
use Rattle.grib_synthetic.proofs.summary.made_summary.Goals as goal

pub loop-made-preserved : goal.loop-made-preserved
loop-made-preserved c =
    let so_far = c.loop-made.invariant in
    let n = c.loop-made._made in
    let f : ℕ → Point = made_point c.args.seed c.args.ni in
    let point : c.next.result ≡ f (n + 1) =
    c.next.ensures.point c.args.seed n so_far.made ∙ ap (λ (ni : ℕ). made_point c.args.seed ni (n + 1)) so_far.columns in
    let before : List Point = map f (range_with_len 1 n) in
    let more : before ++ c.next.result ∷ [] ≡ map f (range_with_len 1 (n + 1)) =
    ap (λ (x : Point). before ++ x ∷ []) point ∙ sym (map-range_with_len_more f 1 n (n + 1) (omega arith)) in
    record {
      sums = subst (SumsUp c.with-summary.result) more (c.with-summary.ensures.sums before so_far.sums);
      made = c.next.ensures.made c.args.seed n so_far.made;
      columns = c.next.ensures.ni ∙ so_far.columns;
      few = omega (arith, so_far.few, c.with-summary.ensures.present);
      small = omega (arith, so_far.small, c.with-summary.ensures.sum);
    }
