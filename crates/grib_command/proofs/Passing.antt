-- Texts of fields one after another, and refusals that are passed on.
use Rattle.std.proofs.Common.{◌≡◌, ℕ, ◌+◌, zero, suc, refl, Ok, Err, IfOk, IfErr, OnOk, List, [], ◌++◌, ap, sym, ◌∙◌, arith, append_assoc, append-nil, subst}
use Rattle.std.specs.declared.result.Result.{Result}
use Rattle.std.specs.Result.{IsErr, IsErrAnd}
use Rattle.grib_io.specs.declared.outside.Stop.{Stop}
use Rattle.grib_io.specs.declared.outside.Stop.TheVariants.{Failed}
use Rattle.std.proofs.lemmas.Bool.{false≢true}
use Rattle.grib_io.specs.Outside.{CountsStop, CountsStops}
use Rattle.grib_command.specs.Command.{texts_from}

-- the texts of the first fields and of the next one
pub texts_more : (text : ℕ → List ℕ) (k i : ℕ) → texts_from text (k + 1) i ≡ texts_from text k i ++ text (i + k)
texts_more text zero i =
    let e : i ≡ i + 0 = omega arith in
    let one : texts_from text (0 + 1) i ≡ text i ++ [] = refl in
    one ∙ (append-nil (text i) ∙ ap text e)
texts_more text (suc k) i =
    let e : suc k + 1 ≡ suc (k + 1) = omega arith in
    let f : (i + 1) + k ≡ i + suc k = omega arith in
    ap (λ n. texts_from text n i) e
    ∙ (ap (λ xs. text i ++ xs) (texts_more text k (i + 1) ∙ ap (λ n. texts_from text k (i + 1) ++ text n) f)
    ∙ sym (append_assoc (text i) (texts_from text k (i + 1)) (text (i + suc k))))

pub texts_join : (text : ℕ → List ℕ) (k n i : ℕ) → texts_from text (k + n) i ≡ texts_from text k i ++ texts_from text n (i + k)
texts_join text zero n i =
    let e : 0 + n ≡ n = omega arith in
    let f : i ≡ i + 0 = omega arith in
    ap (λ m. texts_from text m i) e ∙ ap (texts_from text n) f
texts_join text (suc k) n i =
    let e : suc k + n ≡ suc (k + n) = omega arith in
    let f : (i + 1) + k ≡ i + suc k = omega arith in
    ap (λ m. texts_from text m i) e
    ∙ (ap (λ xs. text i ++ xs) (texts_join text k n (i + 1) ∙ ap (λ m. texts_from text k (i + 1) ++ texts_from text n m) f)
    ∙ sym (append_assoc (text i) (texts_from text k (i + 1)) (texts_from text n (i + suc k))))

-- what holds of a result, after a refusal that is passed on
pub if_refused : {T E : Type 0} (result : Result T E) (P : T → Type 0) → IsErr result → IfOk result P
if_refused (Ok x) P is = absurd (false≢true is)
if_refused (Err e) P is = tt

pub on_refused : {T E : Type 0} (result : Result T E) (P : Type 0) → IsErr result → OnOk result P
on_refused (Ok x) P is = absurd (false≢true is)
on_refused (Err e) P is = tt

pub counts_passed : {T : Type 0} (result : Result T Stop) (stop : Stop) (before now : ℕ) → IsErrAnd result (λ e. e ≡ stop) → CountsStop stop before now
    → CountsStops result before now
counts_passed (Ok x) stop before now is counts = absurd is
counts_passed (Err e) stop before now is counts = subst (λ s. CountsStop s before now) (sym is) counts

-- a stop that is passed on
pub failed_passed : {T : Type 0} (result : Result T Stop) (stop : Stop) → IsErrAnd result (λ e. e ≡ stop) → stop ≡ Failed → IfErr result (λ e. e ≡ Failed)
failed_passed (Ok x) stop is failed = tt
failed_passed (Err e) stop is failed = is ∙ failed
