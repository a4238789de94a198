use Rattle.std.proofs.Common.{ℕ, ◌+◌, ◌≡◌, [], ◌∷◌, ◌++◌, List, ap, ap₂, sym, ◌∙◌, arith}
use Rattle.std.proofs.lemmas.List.FromFn.{map-range_with_len_more}
use Rattle.grib_packing.specs.declared.column.Point.{Point}
use Rattle.grib_synthetic.specs.Points.{made_point}
use Rattle.grib_synthetic.proofs.points.make_points.Goals as goal

pub loop-made-preserved : goal.loop-made-preserved
loop-made-preserved c =
    let so_far = c.loop-made.invariant in
    let n = c.loop-made._made in
    let f : ℕ → Point = made_point c.args.seed c.args.ni in
    let point : c.next.result ≡ f (n + 1) =
    c.next.ensures.point c.args.seed n so_far.made ∙ ap (λ (ni : ℕ). made_point c.args.seed ni (n + 1)) so_far.columns in
    record {
      points = c.in_ok-push.ensures.items ∙ ap₂ (λ (xs : List Point) (x : Point). xs ++ x ∷ []) so_far.points point
          ∙ sym (map-range_with_len_more f 1 n (n + 1) (omega arith));
      made = c.next.ensures.made c.args.seed n so_far.made;
      columns = c.next.ensures.ni ∙ so_far.columns;
    }
