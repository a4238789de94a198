-- The fields of a message that are demoted, one after another.
use Rattle.std.proofs.Common.{◌≡◌, ℕ, ◌+◌, ◌<◌, ◌≤◌, Option, None, sym, subst, arith}
use Rattle.std.specs.Prelude.{Result, Ok, Err, IfOk, MatchResult}
use Rattle.std.specs.Result.{IsErrAnd}
use Rattle.grib_base.proofs.Firsts.{none_more, first_found}
use Rattle.grib_base.specs.Rules.{first_among}
use Rattle.grib_reasons.specs.declared.cause.Cause.{Cause}
use Rattle.grib_command.specs.declared.answered.Answered.{Answered}
use Rattle.grib_command.specs.declared.answered.Answered.TheVariants.{Whole, Kept, WriteFault, ShelfFault, Memory}
use Rattle.grib_edit.specs.Unchanged.{IsKept}

-- the first field with a cause decides
pub cause_first : (cause : ℕ → Option Cause) (k field : ℕ) → field ≡ 1 + k → first_among cause k 1 ≡ None → (n : ℕ) → k < n → (answered : Answered) → IsKept (cause field) answered → IsKept (first_among cause n 1) answered
cause_first cause k field is before n less (Whole written) kept = kept
cause_first cause k field is before n less (Kept own) kept = first_found cause 1 k n field own is less before kept
cause_first cause k field is before n less WriteFault kept = kept
cause_first cause k field is before n less ShelfFault kept = kept
cause_first cause k field is before n less Memory kept = kept

-- the last field decides, where those before it have no cause
pub last_decides : {A : Type 0} (P : A → Type 0) (cause : ℕ → Option Cause) (k n : ℕ) (result : Result A Answered) → n ≡ 1 + k → first_among cause k 1 ≡ None
    → MatchResult result (λ x. (cause n ≡ None) × P x) (IsKept (cause n)) → MatchResult result (λ x. (first_among cause n 1 ≡ None) × P x) (IsKept (first_among cause n 1))
last_decides P cause k n (Ok x) is before h =
    let count : k + 1 ≡ n = omega arith in (subst (λ m. first_among cause m 1 ≡ None) count (none_more cause 1 k n is before h.0), h.1)
last_decides P cause k n (Err answered) is before h = cause_first cause k n is before n (omega arith) answered h

-- what comes of the message is handed on
pub kept_carried : {A : Type 0} (P : A → Type 0) (cause : Option Cause) (result : Result A Answered) (answered : Answered) → IsErrAnd result (λ e. e ≡ answered)
    → IsKept cause answered → MatchResult result P (IsKept cause)
kept_carried P cause (Ok x) answered is kept = absurd is
kept_carried P cause (Err e) answered is kept = subst (IsKept cause) (sym is) kept

-- what is counted is no more than this
pub few_counted : {E : Type 0} (result : Result ℕ E) (most l : ℕ) → l ≤ most → IfOk result (λ count. count ≡ l) → IfOk result (λ count. count ≤ most)
few_counted (Ok count) most l few is = omega (arith, few, is)
few_counted (Err e) most l few is = tt
