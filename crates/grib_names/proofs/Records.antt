-- A record, field by field.
use Rattle.std.proofs.Common.{◌≡◌, [], ◌∷◌, None, length, refl, arith}
use Rattle.std.specs.Option.{option_and_then}
use Rattle.csv.specs.Records.{field_at}
use Rattle.grib_params.specs.Fields.{Fields}
use Rattle.grib_params.proofs.Rows.{number_at}
use Rattle.grib_names.specs.Rows.{name_in, name_row_from, name_row_in}

-- a record of four fields is read at its places
pub of_four : (fields : Fields) → length fields ≡ 4
    → name_row_in fields ≡ name_row_from (number_at fields 0) (number_at fields 1) (number_at fields 2) (option_and_then name_in (field_at fields 3))
unfolding field_at
of_four [] e = absurd (omega arith)
of_four (a ∷ []) e = absurd (omega arith)
of_four (a ∷ b ∷ []) e = absurd (omega arith)
of_four (a ∷ b ∷ c ∷ []) e = absurd (omega arith)
of_four (a ∷ b ∷ c ∷ d ∷ []) e = refl
of_four (a ∷ b ∷ c ∷ d ∷ f ∷ more) e = absurd (omega arith)

-- a record of another length is no row
pub of_others : (fields : Fields) → (length fields ≡ 4 → ⊥) → name_row_in fields ≡ None
of_others [] e = refl
of_others (a ∷ []) e = refl
of_others (a ∷ b ∷ []) e = refl
of_others (a ∷ b ∷ c ∷ []) e = refl
of_others (a ∷ b ∷ c ∷ d ∷ []) e = absurd (e refl)
of_others (a ∷ b ∷ c ∷ d ∷ f ∷ more) e = refl
