use Rattle.std.proofs.Common.{◌≡◌, ℕ, List, ◌++◌, codes, ap, ◌∙◌, append_assoc}
use Rattle.std.specs.Fmt.{decimal}
use Rattle.grib_arrays.proofs.header.points_text.Goals as goal

regroup : (a n m x s e : List ℕ) → a ++ (n ++ (m ++ (x ++ (s ++ e)))) ≡ (((a ++ n) ++ m) ++ (x ++ s)) ++ e
regroup a n m x s e = simp append_assoc

pub returns : goal.returns
returns c =
    ap (λ v. v.items) c.into_bytes.ensures.value
    ∙ c.in_ok-text.ensures.ok
    ∙ regroup (codes "{'descr': '") c.args.name.now (codes "', 'fortran_order': False, 'shape': (") (decimal c.args.count) (codes ",") (codes "), }")
