-- The first element that passes a test, by its place.
use Rattle.std.proofs.Common.{◌≡◌, ℕ, ◌<◌, ◌≤◌, Bool, true, false, not, cond, nat_lt, Some, None, List, length, get_or, refl, ap, arith, lt-ltb, le-ltb, ltb-false, position}
use Rattle.std.specs.List.{position_or_len}
use Rattle.std.proofs.lemmas.List.Sums.{position_or_len_is, prefix_len_passes}
use Rattle.std.proofs.lemmas.Bool.{not-true}

pub position_is : {X : Type 0} (test : X → Bool) (xs : List X) (i : ℕ) (d : X) → i < length xs → ((k : ℕ) → k < i → test (get_or xs k d) ≡ false) → test (get_or xs i d) ≡ true → position test xs ≡ Some i
position_is test xs i d within before here =
    let is : position_or_len test xs ≡ i = position_or_len_is test xs i d (omega arith) before (λ _. here) in
    rw (lt-ltb (position_or_len test xs) (length xs) (omega arith)) (ap Some is)

pub position_none : {X : Type 0} (test : X → Bool) (xs : List X) (d : X) → ((k : ℕ) → k < length xs → test (get_or xs k d) ≡ false) → position test xs ≡ None
position_none test xs d none =
    let is : position_or_len test xs ≡ length xs = position_or_len_is test xs (length xs) d (omega arith) none (λ h. absurd (omega arith)) in
    rw (le-ltb (position_or_len test xs) (length xs) (omega arith)) refl

none_below : (b : Bool) (place : ℕ) → cond b (Some place) None ≡ None → b ≡ false
none_below true place none = let no : ⊥ = cc in absurd no
none_below false place none = refl

-- where there is no first element that passes, none does
pub none_at : {X : Type 0} (test : X → Bool) (xs : List X) (k : ℕ) (d : X) → k < length xs → position test xs ≡ None → test (get_or xs k d) ≡ false
none_at test xs k d within none =
    let past : length xs ≤ position_or_len test xs =
    ltb-false (position_or_len test xs) (length xs) (none_below (nat_lt (position_or_len test xs) (length xs)) (position_or_len test xs) none) in
    not-true (test (get_or xs k d)) (prefix_len_passes (λ x. not (test x)) xs k d (omega arith))
