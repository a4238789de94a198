-- A record of a table of surfaces, field by field.
use Rattle.std.proofs.Common.{◌≡◌, [], ◌∷◌, None, length, refl, arith}
use Rattle.std.specs.Option.{option_and_then}
use Rattle.csv.specs.Records.{field_at}
use Rattle.grib_params.specs.Fields.{Fields, centre_in}
use Rattle.grib_params.specs.SurfaceRows.{level_in, scale_in, value_in, surface_key_from, target_from, surface_target_from, surface_row_from, surface_row_in}
use Rattle.grib_params.proofs.Rows.{number_at}

-- a record of thirteen fields is read at its places
pub of_thirteen : (fields : Fields) → length fields ≡ 13
    → surface_row_in fields ≡ surface_row_from
    (surface_key_from (option_and_then centre_in (field_at fields 0)) (number_at fields 1) (number_at fields 2) (number_at fields 3) (option_and_then level_in (field_at fields 4)))
    (surface_target_from (target_from (number_at fields 5) (number_at fields 6) (number_at fields 7) (number_at fields 8) (number_at fields 9)) (number_at fields 10)
    (option_and_then scale_in (field_at fields 11)) (option_and_then value_in (field_at fields 12)))
unfolding field_at
of_thirteen [] e = absurd (omega arith)
of_thirteen (a ∷ []) e = absurd (omega arith)
of_thirteen (a ∷ b ∷ []) e = absurd (omega arith)
of_thirteen (a ∷ b ∷ c ∷ []) e = absurd (omega arith)
of_thirteen (a ∷ b ∷ c ∷ d ∷ []) e = absurd (omega arith)
of_thirteen (a ∷ b ∷ c ∷ d ∷ f ∷ []) e = absurd (omega arith)
of_thirteen (a ∷ b ∷ c ∷ d ∷ f ∷ g ∷ []) e = absurd (omega arith)
of_thirteen (a ∷ b ∷ c ∷ d ∷ f ∷ g ∷ h ∷ []) e = absurd (omega arith)
of_thirteen (a ∷ b ∷ c ∷ d ∷ f ∷ g ∷ h ∷ i ∷ []) e = absurd (omega arith)
of_thirteen (a ∷ b ∷ c ∷ d ∷ f ∷ g ∷ h ∷ i ∷ j ∷ []) e = absurd (omega arith)
of_thirteen (a ∷ b ∷ c ∷ d ∷ f ∷ g ∷ h ∷ i ∷ j ∷ k ∷ []) e = absurd (omega arith)
of_thirteen (a ∷ b ∷ c ∷ d ∷ f ∷ g ∷ h ∷ i ∷ j ∷ k ∷ l ∷ []) e = absurd (omega arith)
of_thirteen (a ∷ b ∷ c ∷ d ∷ f ∷ g ∷ h ∷ i ∷ j ∷ k ∷ l ∷ m ∷ []) e = absurd (omega arith)
of_thirteen (a ∷ b ∷ c ∷ d ∷ f ∷ g ∷ h ∷ i ∷ j ∷ k ∷ l ∷ m ∷ n ∷ []) e = refl
of_thirteen (a ∷ b ∷ c ∷ d ∷ f ∷ g ∷ h ∷ i ∷ j ∷ k ∷ l ∷ m ∷ n ∷ o ∷ more) e = absurd (omega arith)

-- a record of another length is no row
pub of_others : (fields : Fields) → (length fields ≡ 13 → ⊥) → surface_row_in fields ≡ None
of_others [] e = refl
of_others (a ∷ []) e = refl
of_others (a ∷ b ∷ []) e = refl
of_others (a ∷ b ∷ c ∷ []) e = refl
of_others (a ∷ b ∷ c ∷ d ∷ []) e = refl
of_others (a ∷ b ∷ c ∷ d ∷ f ∷ []) e = refl
of_others (a ∷ b ∷ c ∷ d ∷ f ∷ g ∷ []) e = refl
of_others (a ∷ b ∷ c ∷ d ∷ f ∷ g ∷ h ∷ []) e = refl
of_others (a ∷ b ∷ c ∷ d ∷ f ∷ g ∷ h ∷ i ∷ []) e = refl
of_others (a ∷ b ∷ c ∷ d ∷ f ∷ g ∷ h ∷ i ∷ j ∷ []) e = refl
of_others (a ∷ b ∷ c ∷ d ∷ f ∷ g ∷ h ∷ i ∷ j ∷ k ∷ []) e = refl
of_others (a ∷ b ∷ c ∷ d ∷ f ∷ g ∷ h ∷ i ∷ j ∷ k ∷ l ∷ []) e = refl
of_others (a ∷ b ∷ c ∷ d ∷ f ∷ g ∷ h ∷ i ∷ j ∷ k ∷ l ∷ m ∷ []) e = refl
of_others (a ∷ b ∷ c ∷ d ∷ f ∷ g ∷ h ∷ i ∷ j ∷ k ∷ l ∷ m ∷ n ∷ []) e = absurd (e refl)
of_others (a ∷ b ∷ c ∷ d ∷ f ∷ g ∷ h ∷ i ∷ j ∷ k ∷ l ∷ m ∷ n ∷ o ∷ more) e = refl
