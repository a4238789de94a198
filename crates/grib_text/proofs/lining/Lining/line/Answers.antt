use Rattle.std.proofs.Common.{Option, option_map, List, ℕ, [], ◌∷◌, ◌++◌, ap, ◌∙◌}
use Rattle.grib_text.specs.Columns.{cell_of, columns_text, head_text, name_text}
use Rattle.grib_text.proofs.lining.Lining.line.Goals as goal

pub returns : goal.returns
unfolding lib.Utf8.encode
returns c =
    let lining = c.args.self.now in
    let message = c.args.message.now in
    let head = head_text lining.form message c.args.number c.args.field in
    let columns = columns_text lining.form (cell_of c.args.before message c.args.field) lining.columns.now in
    let name = name_text (option_map (λ given. given.now) c.name.result) in
    ap (λ v. v.items) c.into_bytes.ensures.value
    ∙ c.in_ok-push.ensures.bytes
    ∙ ap (λ (xs : List ℕ). xs ++ 10 ∷ [])
    (c.in_ok-write_name.ensures
    ∙ ap (λ (xs : List ℕ). xs ++ name) (c.in_ok-write_columns.ensures ∙ ap (λ (xs : List ℕ). xs ++ columns) c.in_ok-line.ensures)
    ∙ ap (λ (given : Option (List ℕ)). (head ++ columns) ++ name_text given) c.name.ensures)
