use Rattle.std.proofs.Common.{List, ℕ, [], ◌∷◌, ◌++◌, ap, ◌∙◌}
use Rattle.grib_text.proofs.edition1.list_line1.Goals as goal

pub returns : goal.returns
unfolding lib.Utf8.encode
returns c =
    ap (λ v. v.items) c.into_bytes.ensures.value
    ∙ c.in_ok-push.ensures.bytes
    ∙ ap (λ (xs : List ℕ). xs ++ 10 ∷ []) c.in_ok-line.ensures
