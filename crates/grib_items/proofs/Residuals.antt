-- An outcome that is passed on, and what is known of a result.
use Rattle.std.proofs.Common.{◌≡◌, Ok, Err, IfErr, IfOk, OnErr, OnOk, sym, ◌∙◌, subst}
use Rattle.std.specs.declared.result.Result.{Result}
use Rattle.std.specs.Result.{IsErrAnd}
use Rattle.grib_stream.specs.declared.outcome.Outcome.{Outcome}

-- what holds of a run that ends with an outcome holds where it is passed on
pub passed_on : {T : Type 0} (P : Result T Outcome → Type 0) (result : Result T Outcome) (outcome : Outcome) → IsErrAnd result (λ e. e ≡ outcome) → P (Err outcome) → P result
passed_on {T} P (Ok totals) outcome is held = absurd is
passed_on {T} P (Err other) outcome is held = subst (λ o. P (Err o)) (sym is) held

pub err_less : {T : Type 0} (result : Result T Outcome) (outcome : Outcome) (P : Type 0) → result ≡ Err outcome → OnErr result P → P
err_less {T} (Ok x) outcome P is held = let no : ⊥ = cc in absurd no
err_less {T} (Err o) outcome P is held = held

pub err_of : {T : Type 0} (result : Result T Outcome) (outcome : Outcome) (P : Outcome → Type 0) → result ≡ Err outcome → IfErr result P → P outcome
err_of {T} (Ok x) outcome P is held = let no : ⊥ = cc in absurd no
err_of {T} (Err o) outcome P is held = let same : o ≡ outcome = cc in subst P same held

pub ok_of : {T : Type 0} (result : Result T Outcome) (x : T) (P : T → Type 0) → result ≡ Ok x → IfOk result P → P x
ok_of {T} (Ok y) x P is held = let same : y ≡ x = cc in subst P same held
ok_of {T} (Err o) x P is held = let no : ⊥ = cc in absurd no

pub on_ok : {T : Type 0} (result : Result T Outcome) (x : T) (P : Type 0) → result ≡ Ok x → OnOk result P → P
on_ok {T} (Ok y) x P is held = held
on_ok {T} (Err o) x P is held = let no : ⊥ = cc in absurd no

pub ok_not_err : {T : Type 0} (result : Result T Outcome) (x : T) (outcome : Outcome) → result ≡ Ok x → result ≡ Err outcome → ⊥
ok_not_err {T} result x outcome is failed = let e : Ok x ≡ Err outcome = sym is ∙ failed in cc
