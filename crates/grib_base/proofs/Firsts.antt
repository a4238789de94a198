-- What is found first: of two, and of some numbers.
use Rattle.std.proofs.Common.{◌≡◌, ◌≢◌, ℕ, zero, suc, ◌+◌, ◌-◌, ◌<◌, ◌≤◌, Option, Some, None, is_some, true, refl, sym, ap, ◌∙◌, arith, ⊎_elim}
use Rattle.std.proofs.lemmas.Bool.{cases_eq}
use Rattle.grib_base.specs.Rules.{or_later, first_among}

-- ---- of two

-- where nothing is found, neither is there
pub none_later : {A : Type 0} (first : Option A) (later : Unit {0} → Option A) → or_later first later ≡ None → (first ≡ None) × (later tt ≡ None)
none_later (Some x) later none = let no : ⊥ = cc in absurd no
none_later None later none = (refl, none)

pub none_after : {A : Type 0} (first : Option A) (later : Unit {0} → Option A) → first ≡ None → later tt ≡ None → or_later first later ≡ None
none_after first later none next = rw none next

pub some_first : {A : Type 0} (first : Option A) (later : Unit {0} → Option A) (x : A) → first ≡ Some x → or_later first later ≡ Some x
some_first first later x is = rw is

pub some_later : {A : Type 0} (first : Option A) (later : Unit {0} → Option A) (x : A) → first ≡ None → later tt ≡ Some x → or_later first later ≡ Some x
some_later first later x none next = rw none next

-- what is there is found
pub or_here : {A : Type 0} (first : Option A) (later : Unit {0} → Option A) → is_some first ≡ true → or_later first later ≡ first
or_here None later some = let no : ⊥ = cc in absurd no
or_here (Some x) later some = refl

-- ---- of some numbers

-- where nothing is found, no number gives anything
pub none_each : {A : Type 0} (each : ℕ → Option A) (i n j : ℕ) → first_among each n i ≡ None → i ≤ j → j < i + n → each j ≡ None
none_each each i zero j none low high = absurd (omega arith)
none_each each i (suc n) j none low high =
    let both = none_later (each i) (λ _. first_among each n (i + 1)) none in
    ⊎_elim
    (λ (here : i ≡ j). sym (ap each here) ∙ both.0)
    (λ (other : i ≢ j). none_each each (i + 1) n j both.1 (omega (arith, other)) (omega arith))
    (cases_eq i j)

pub none_from_each : {A : Type 0} (each : ℕ → Option A) (i n : ℕ) → ((j : ℕ) → j < n → each (i + j) ≡ None) → first_among each n i ≡ None
none_from_each each i zero none = refl
none_from_each each i (suc n) none =
    let here : i ≡ i + 0 = omega arith in
    none_after (each i) (λ _. first_among each n (i + 1)) (ap each here ∙ none 0 (omega arith))
    (none_from_each each (i + 1) n (λ j low. let e : i + 1 + j ≡ i + suc j = omega arith in ap each e ∙ none (suc j) (omega arith)))

-- numbers that give nothing leave the answer to those after them
pub first_join : {A : Type 0} (each : ℕ → Option A) (i k n : ℕ) → first_among each k i ≡ None → first_among each (k + n) i ≡ first_among each n (i + k)
first_join each i zero n none =
    let count : 0 + n ≡ n = omega arith in
    let place : i + 0 ≡ i = omega arith in
    rw (count, place) refl
first_join each i (suc k) n none =
    let both = none_later (each i) (λ _. first_among each k (i + 1)) none in
    let count : suc k + n ≡ suc (k + n) = omega arith in
    let place : i + 1 + k ≡ i + suc k = omega arith in
    ap (λ m. first_among each m i) count
    ∙ ap (λ x. or_later x (λ _. first_among each (k + n) (i + 1))) both.0
    ∙ first_join each (i + 1) k n both.1
    ∙ ap (first_among each n) place

-- after k numbers that give nothing, number j decides, or those after it
pub first_split : {A : Type 0} (each : ℕ → Option A) (i k n j : ℕ) → j ≡ i + k → k < n → first_among each k i ≡ None
    → first_among each n i ≡ or_later (each j) (λ _. first_among each (n - k - 1) (j + 1))
first_split each i k n j place low none =
    let count : k + suc (n - k - 1) ≡ n = omega arith in
    ap (λ m. first_among each m i) (sym count) ∙ first_join each i k (suc (n - k - 1)) none
    ∙ ap (first_among each (suc (n - k - 1))) (sym place)

-- one number more that gives nothing
pub none_more : {A : Type 0} (each : ℕ → Option A) (i k j : ℕ) → j ≡ i + k → first_among each k i ≡ None → each j ≡ None → first_among each (k + 1) i ≡ None
none_more each i k j place before none =
    first_join each i k 1 before ∙ none_after (each (i + k)) (λ _. None) (ap each (sym place) ∙ none) refl

-- what the next one gives is found
pub first_found : {A : Type 0} (each : ℕ → Option A) (i k n j : ℕ) (x : A) → j ≡ i + k → k < n → first_among each k i ≡ None → each j ≡ Some x → first_among each n i ≡ Some x
first_found each i k n j x place low none is =
    first_split each i k n j place low none ∙ some_first (each j) (λ _. first_among each (n - k - 1) (j + 1)) x is
