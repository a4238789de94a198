use Rattle.std.proofs.Common.{List, ℕ, [], ◌∷◌, ◌++◌, ap, ◌∙◌}
use Rattle.grib_text.specs.Columns.{cell1_of, columns_text}
use Rattle.grib_text.proofs.lining.Lining.line1.Goals as goal

pub returns : goal.returns
unfolding lib.Utf8.encode
returns c =
    let lining = c.args.self.now in
    let columns = columns_text lining.form (cell1_of c.args.before c.args.message.now) lining.columns.now in
    ap (λ v. v.items) c.into_bytes.ensures.value
    ∙ c.in_ok-push.ensures.bytes
    ∙ ap (λ (xs : List ℕ). xs ++ 10 ∷ []) (c.in_ok-write_columns1.ensures ∙ ap (λ (xs : List ℕ). xs ++ columns) c.in_ok-line.ensures)
