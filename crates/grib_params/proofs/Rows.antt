-- A record, field by field.
use Rattle.std.proofs.Common.{◌≡◌, ℕ, [], ◌∷◌, Option, None, length, refl, arith}
use Rattle.std.specs.Option.{option_and_then}
use Rattle.csv.specs.Records.{field_at}
use Rattle.grib_params.specs.Fields.{Fields, centre_in, number_in, row_from, row_in}

-- the number of the field at a place
abbrev pub number_at : Fields → ℕ → Option ℕ
number_at fields place = option_and_then number_in (field_at fields place)

-- a record of eight fields is read at its places
pub of_eight : (fields : Fields) → length fields ≡ 8
    → row_in fields ≡ row_from (option_and_then centre_in (field_at fields 0)) (number_at fields 1) (number_at fields 2) (number_at fields 3) (number_at fields 4) (number_at fields 5) (number_at fields 6) (number_at fields 7)
unfolding field_at
of_eight [] e = absurd (omega arith)
of_eight (a ∷ []) e = absurd (omega arith)
of_eight (a ∷ b ∷ []) e = absurd (omega arith)
of_eight (a ∷ b ∷ c ∷ []) e = absurd (omega arith)
of_eight (a ∷ b ∷ c ∷ d ∷ []) e = absurd (omega arith)
of_eight (a ∷ b ∷ c ∷ d ∷ f ∷ []) e = absurd (omega arith)
of_eight (a ∷ b ∷ c ∷ d ∷ f ∷ g ∷ []) e = absurd (omega arith)
of_eight (a ∷ b ∷ c ∷ d ∷ f ∷ g ∷ h ∷ []) e = absurd (omega arith)
of_eight (a ∷ b ∷ c ∷ d ∷ f ∷ g ∷ h ∷ i ∷ []) e = refl
of_eight (a ∷ b ∷ c ∷ d ∷ f ∷ g ∷ h ∷ i ∷ j ∷ more) e = absurd (omega arith)

-- a record of another length is no row
pub of_others : (fields : Fields) → (length fields ≡ 8 → ⊥) → row_in fields ≡ None
of_others [] e = refl
of_others (a ∷ []) e = refl
of_others (a ∷ b ∷ []) e = refl
of_others (a ∷ b ∷ c ∷ []) e = refl
of_others (a ∷ b ∷ c ∷ d ∷ []) e = refl
of_others (a ∷ b ∷ c ∷ d ∷ f ∷ []) e = refl
of_others (a ∷ b ∷ c ∷ d ∷ f ∷ g ∷ []) e = refl
of_others (a ∷ b ∷ c ∷ d ∷ f ∷ g ∷ h ∷ []) e = refl
of_others (a ∷ b ∷ c ∷ d ∷ f ∷ g ∷ h ∷ i ∷ []) e = absurd (e refl)
of_others (a ∷ b ∷ c ∷ d ∷ f ∷ g ∷ h ∷ i ∷ j ∷ more) e = refl
